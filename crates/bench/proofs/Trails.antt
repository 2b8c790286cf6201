-- The trail of a list of requests leads where the requests lead.
use Rattle.std.proofs.Common.{◌≡◌, ℕ, zero, suc, ◌+◌, ◌<◌, Bool, true, false, cond, ltb, List, [], ◌∷◌, ◌++◌, replicate, is_ok, Ok, Err, Result, sym, refl, ap, ◌∙◌, subst, append_assoc, zero-add, arith}
use Rattle.std.proofs.lemmas.Bool.{ltb-true}
use Rattle.station.specs.Meaning.{Meaning, Value}
use Rattle.station.specs.Rules.{Rules}
use Rattle.station.specs.declared.call.Call.{Call}
use Rattle.station.specs.declared.call.Call.TheVariants as call
use Rattle.station.specs.declared.refusal.Refusal.{Refusal as Turned}
use Rattle.falls.specs.Histories.{tick, call as call_at, History, play, ticks as ticks_in, NoGuard}
use Rattle.falls.proofs.Falls.{played_size}
use Rattle.bench.specs.declared.Bench.{Bench}
use Rattle.bench.specs.declared.refusal.Refusal.{Refusal}
use Rattle.bench.specs.declared.refusal.Refusal.TheVariants.{NoPlace, TooMany}
use Rattle.bench.specs.declared.request.Request.{Request}
use Rattle.bench.specs.declared.request.Request.TheVariants.{Read, Write, Wire, Run, Until, Take, Acknowledge, Volts, Preload, Arm, Kick}
use Rattle.bench.specs.Calls.{told, with_chain, places, taken, after_take, acknowledged, after_acknowledge, reply, performed}
use Rattle.bench.specs.Ticks.{ticks, ticks_until}
use Rattle.bench.specs.Trails.{afterwards, ticks_of, ticks_told, ticks_returned, called_at, steps, trail, Unguarded}

-- histories one after the other
pub ticks_both : (g h : History) → ticks_in (g ++ h) ≡ ticks_in g + ticks_in h
ticks_both [] h = sym (zero-add _)
ticks_both (tick level ∷ g) h = let e = ticks_both g h in omega arith
ticks_both (call_at p c ∷ g) h = ticks_both g h

ticks_same : (level : Bool) (n : ℕ) → ticks_in (replicate n (tick level)) ≡ n
ticks_same level zero = refl
ticks_same level (suc n) = ap suc (ticks_same level n)

ticks_none : {A : Type 0} (p : ℕ) (c : Call) (r : Result A Refusal) → ticks_in (called_at p c r) ≡ 0
ticks_none p c (Ok value) = refl
ticks_none p c (Err why) = refl

-- its calls are made at places below n
abbrev pub Within : ℕ → History → Type 0
Within n [] = Unit {0}
Within n (tick level ∷ h) = Within n h
Within n (call_at p c ∷ h) = (p < n) × Within n h

within_both : (n : ℕ) (g h : History) → Within n g → Within n h → Within n (g ++ h)
within_both n [] h wg wh = wh
within_both n (tick level ∷ g) h wg wh = within_both n g h wg wh
within_both n (call_at p c ∷ g) h wg wh = (wg.0, within_both n g h wg.1 wh)

pub within_parts : (n : ℕ) (g h : History) → Within n (g ++ h) → Within n g × Within n h
within_parts n [] h w = (tt, w)
within_parts n (tick level ∷ g) h w = within_parts n g h w
within_parts n (call_at p c ∷ g) h w = let r = within_parts n g h w.1 in ((w.0, r.0), r.1)

within_ticks : (n : ℕ) (level : Bool) (k : ℕ) → Within n (replicate k (tick level))
within_ticks n level zero = tt
within_ticks n level (suc k) = within_ticks n level k

module _ {S : Type 0} (m : Meaning S) where
  pub play_both : (g h : History) (s : S) → play m s (g ++ h) ≡ play m (play m s g) h
  play_both [] h s = refl
  play_both (tick level ∷ g) h s = play_both g h (m.ticked s level)
  play_both (call_at p c ∷ g) h s = play_both g h (m.called s p c)

  play_ticks : (level : Bool) (n : ℕ) (s : S) → play m s (replicate n (tick level)) ≡ ticks m s level n
  unfolding ticks
  play_ticks level zero s = refl
  play_ticks level (suc n) s = play_ticks level n (m.ticked s level)

  pub trail_both : (first rest : List Request) (b : Bench S) → trail m b (first ++ rest) ≡ trail m b first ++ trail m (afterwards m b first) rest
  trail_both [] rest b = refl
  trail_both (q ∷ first) rest b = ap (λ h. steps m b q ++ h) (trail_both first rest (performed m b q)) ∙ sym (append_assoc (steps m b q) _ _)

module _ {S : Type 0} (m : Meaning S) (R : Rules m) where
  -- a call at a place makes the step that it says
  told_chain : (s : S) (p : ℕ) (c : Call) (r : Result (Value c) Turned) → m.answer s p c ≡ r → m.called s p c ≡ play m s (called_at p c (told p r))
  told_chain s p c (Ok value) e = refl
  told_chain s p c (Err why) e = R.refused s p c (ap is_ok e)

  at_chain : (b : Bench S) (p : ℕ) (c : Call) (in_chain : Bool) →
      (cond in_chain (with_chain b (m.called b.chain p c)) b).chain ≡ play m b.chain (called_at p c (cond in_chain (told p (m.answer b.chain p c)) (Err (NoPlace p))))
  at_chain b p c true = told_chain b.chain p c _ refl
  at_chain b p c false = refl

  run_chain : (b : Bench S) (level : Bool) (n : ℕ) (over : Bool) →
      (cond over b (with_chain b (ticks m b.chain level n))).chain ≡ play m b.chain (replicate (ticks_of (cond over (Err TooMany) (Ok n))) (tick level))
  run_chain b level n true = refl
  run_chain b level n false = sym (play_ticks m level n b.chain)

  take_chain : (b : Bench S) (p : ℕ) (r : Result ℕ Refusal) → (after_take b p r).chain ≡ b.chain
  take_chain b p (Ok bits) = refl
  take_chain b p (Err why) = refl

  acknowledge_chain : (b : Bench S) (p bits : ℕ) (r : Result (Unit {0}) Refusal) → (after_acknowledge m b p bits r).chain ≡ play m b.chain (called_at p (call.Acknowledge bits) r)
  acknowledge_chain b p bits (Ok done) = refl
  acknowledge_chain b p bits (Err why) = refl

  volts_chain : (s : S) (p n : ℕ) {A : Type 0} (r : Result A Refusal) → s ≡ play m s (called_at p (call.Volts n) r)
  volts_chain s p n (Ok value) = sym (R.volts_look s p n)
  volts_chain s p n (Err why) = refl

  pub moves : (b : Bench S) (q : Request) → (performed m b q).chain ≡ play m b.chain (steps m b q)
  moves b (Read place register) = at_chain b place (call.Read register) (ltb place (places m b))
  moves b (Write place register value) = at_chain b place (call.Write register value) (ltb place (places m b))
  moves b (Wire place wire level) = at_chain b place (call.Wire wire level) (ltb place (places m b))
  moves b (Run level count) = run_chain b level count (ltb 1000000 count)
  moves b (Until level count) = run_chain b level (ticks_until m b.chain level count) (ltb 1000000 count)
  moves b (Take place) = take_chain b place (taken m b place)
  moves b (Acknowledge place bits) = acknowledge_chain b place bits (acknowledged m b place bits)
  moves b (Volts place channel) = volts_chain b.chain place channel (reply m b (Volts place channel))
  moves b (Preload place ticks) = at_chain b place (call.Preload ticks) (ltb place (places m b))
  moves b (Arm place) = at_chain b place call.Arm (ltb place (places m b))
  moves b (Kick place) = at_chain b place call.Kick (ltb place (places m b))

  pub leads : (qs : List Request) (b : Bench S) → play m b.chain (trail m b qs) ≡ (afterwards m b qs).chain
  leads [] b = refl
  leads (q ∷ qs) b =
      play_both m (steps m b q) (trail m (performed m b q) qs) b.chain
      ∙ ap (λ s. play m s (trail m (performed m b q) qs)) (sym (moves b q)) ∙ leads qs (performed m b q)

  -- it has the ticks that run and until return
  request_ticks : (b : Bench S) (q : Request) → ticks_in (steps m b q) ≡ ticks_told q (reply m b q)
  request_ticks b (Read place register) = ticks_none _ _ (reply m b (Read place register))
  request_ticks b (Write place register value) = ticks_none _ _ (reply m b (Write place register value))
  request_ticks b (Wire place wire level) = ticks_none _ _ (reply m b (Wire place wire level))
  request_ticks b (Run level count) = ticks_same level _
  request_ticks b (Until level count) = ticks_same level _
  request_ticks b (Take place) = refl
  request_ticks b (Acknowledge place bits) = ticks_none _ _ (reply m b (Acknowledge place bits))
  request_ticks b (Volts place channel) = ticks_none _ _ (reply m b (Volts place channel))
  request_ticks b (Preload place ticks) = ticks_none _ _ (reply m b (Preload place ticks))
  request_ticks b (Arm place) = ticks_none _ _ (reply m b (Arm place))
  request_ticks b (Kick place) = ticks_none _ _ (reply m b (Kick place))

  pub counts : (qs : List Request) (b : Bench S) → ticks_in (trail m b qs) ≡ ticks_returned m b qs
  counts [] b = refl
  counts (q ∷ qs) b =
      ticks_both (steps m b q) (trail m (performed m b q) qs)
      ∙ ap (λ n. n + ticks_in (trail m (performed m b q) qs)) (request_ticks b q)
      ∙ ap (λ n. ticks_told q (reply m b q) + n) (counts qs (performed m b q))

  -- its calls are made at places of the chain
  at_within : {A : Type 0} (b : Bench S) (p : ℕ) (c : Call) (in_chain : Bool) (r : Result A Refusal) → ltb p (places m b) ≡ in_chain →
      Within (m.size b.chain) (called_at p c (cond in_chain r (Err (NoPlace p))))
  at_within b p c true (Ok value) e = let h = ltb-true _ _ e in (omega (arith, h), tt)
  at_within b p c true (Err why) e = tt
  at_within b p c false r e = tt

  within : (b : Bench S) (q : Request) → Within (m.size b.chain) (steps m b q)
  within b (Read place register) = at_within b place _ _ _ refl
  within b (Write place register value) = at_within b place _ _ _ refl
  within b (Wire place wire level) = at_within b place _ _ _ refl
  within b (Run level count) = within_ticks (m.size b.chain) level (ticks_of (reply m b (Run level count)))
  within b (Until level count) = within_ticks (m.size b.chain) level (ticks_of (reply m b (Until level count)))
  within b (Take place) = tt
  within b (Acknowledge place bits) = at_within b place _ _ _ refl
  within b (Volts place channel) = at_within b place _ _ _ refl
  within b (Preload place ticks) = at_within b place _ _ _ refl
  within b (Arm place) = at_within b place _ _ _ refl
  within b (Kick place) = at_within b place _ _ _ refl

  size_kept : (b : Bench S) (q : Request) → m.size (performed m b q).chain ≡ m.size b.chain
  size_kept b q = ap m.size (moves b q) ∙ played_size m R (steps m b q) b.chain

  pub trail_within : (qs : List Request) (b : Bench S) → Within (m.size b.chain) (trail m b qs)
  trail_within [] b = tt
  trail_within (q ∷ qs) b =
      let rest = trail m (performed m b q) qs in
      within_both (m.size b.chain) (steps m b q) rest (within b q) (subst (λ n. Within n rest) (size_kept b q) (trail_within qs (performed m b q)))

  pub no_guard : (h : History) (s : S) → Within (m.size s) h → Unguarded m s h → NoGuard m s h
  no_guard [] s w u = tt
  no_guard (tick level ∷ h) s w u = no_guard h (m.ticked s level) (subst (λ n. Within n h) (sym (R.tick_size s level)) w) u
  no_guard (call_at p c ∷ h) s w u = (w.0, u.0, no_guard h (m.called s p c) (subst (λ n. Within n h) (sym (R.call_size s p c)) w.1) u.1)
