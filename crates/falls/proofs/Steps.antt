-- What one step does to what is known of a place.
use Rattle.std.proofs.Common.{◌≡◌, ℕ, ◌<◌, Bool, false, cond, eqb, ltb, is_ok, sym, refl, ap, subst, ⊎_elim}
use Rattle.std.proofs.lemmas.Bool.{cases_Bool, cases_eq, cond_both}
use Rattle.station.specs.Meaning.{Meaning}
use Rattle.station.specs.Rules.{Rules, Kept, Does, with_stop}
use Rattle.station.specs.declared.call.Call.{Call}
use Rattle.station.specs.declared.call.Call.TheVariants.{Read, Write, Wire, Volts, Acknowledge, Preload, Arm, Kick}
use Rattle.station.specs.declared.facts.Facts.{Facts}

kept_same : (old new : Facts) → new ≡ old → Kept old new
kept_same old new e = record {
  held = ap (λ (f : Facts). f.held) e;
  passes = ap (λ (f : Facts). f.passes) e;
  line = ap (λ (f : Facts). f.line) e;
  ready = ap (λ (f : Facts). f.ready) e;
  due = ap (λ (f : Facts). f.due) e;
}

kept_stop : (old new : Facts) (b level : Bool) → new ≡ cond b (with_stop old level) old → Kept old new
kept_stop old new b level e =
    subst (Kept old) (sym e) (cond_both b (with_stop old level) old (Kept old)
    (λ _. record { held = refl; passes = refl; line = refl; ready = refl; due = refl })
    (λ _. kept_same old old refl))

-- an accepted call that is no guard call keeps all but the stop, rest and pending of its place
does_keep : (c : Call) (wire : ℕ) (old new : Facts) → Does c false wire old new → Kept old new
does_keep (Read register) wire old new d = kept_same old new d
does_keep (Write register value) wire old new d = d.else_kept refl
does_keep (Wire w level) wire old new d = kept_stop old new (eqb w wire) (ltb 0 level) d
does_keep (Volts channel) wire old new d = kept_same old new d
does_keep (Acknowledge bits) wire old new d = d.else_kept refl
does_keep (Preload ticks) wire old new d = d.else_kept refl
does_keep Arm wire old new d = d.else_kept refl
does_keep Kick wire old new d = d.else_kept refl

module _ {S : Type 0} (m : Meaning S) (R : Rules m) where
  -- so does any call that is no guard call, at every place
  pub call_keeps : (s : S) (p : ℕ) (c : Call) (k : ℕ) → p < m.size s → k < m.size s → m.guards s p c ≡ false → Kept (m.fact s k) (m.fact (m.called s p c) k)
  call_keeps s p c k hp hk free =
      ⊎_elim
      (λ (here : k ≡ p). subst (λ x. Kept (m.fact s x) (m.fact (m.called s p c) x)) (sym here)
      (⊎_elim
      (λ ok. does_keep c (m.stop_wire s p) _ _ (subst (λ g. Does c g (m.stop_wire s p) (m.fact s p) (m.fact (m.called s p c) p)) free (R.call_here s p c hp ok)))
      (λ bad. kept_same _ _ (ap (λ t. m.fact t p) (R.refused s p c bad)))
      (cases_Bool (is_ok (m.answer s p c)))))
      (λ other. kept_same _ _ (R.call_elsewhere s p c k hp hk other))
      (cases_eq k p)
