-- What is foretold is what the law says of histories in which nothing more happens from outside.
use Rattle.std.proofs.Common.{◌≡◌, ℕ, zero, suc, ◌+◌, ◌-◌, ◌^◌, ◌<◌, ◌≤◌, min, Bool, true, false, cond, not, ◌||◌, ◌⊎◌, ◌↔◌, [], ◌∷◌, is_ok, Some, None, Option, sym, refl, ap, ◌∙◌, subst, inl, inr, ⊎_elim, add-one, arith}
use Rattle.std.proofs.lemmas.Bool.{cases_Bool, cases_lt, cases_eq, or_left, or_cases, and_parts, cond-true, cond-false, true≢false}
use Rattle.station.specs.Meaning.{Meaning}
use Rattle.station.specs.Rules.{Rules, Does}
use Rattle.station.specs.declared.call.Call.{Call}
use Rattle.station.specs.declared.call.Call.TheVariants.{Read, Write, Wire, Volts, Acknowledge, Preload, Arm, Kick}
use Rattle.station.specs.declared.facts.Facts.{Facts}
use Rattle.falls.specs.Bounds.{AtMost}
use Rattle.falls.specs.Forecasts.{sets_wire, Steady, settled, AllSettled, waiting, foretold, unsettled_from, unsettled, By, Foretells}
use Rattle.falls.specs.Histories.{tick, call, History, ticks, NoGuard, earlier, one_later, first_stop, first_low, own_tick}
use Rattle.falls.specs.Law.{Addressed}
use Rattle.falls.proofs.Falls.{Standing, mine, come, gone, counted_own}
use Rattle.falls.proofs.Ticks.{counted_some, outer, low_there, own_is}

-- ticks that have been reached
by_some : (o : Option ℕ) (t : ℕ) → By o t → (n : ℕ) × (o ≡ Some n) × (n ≤ t)
by_some None t b = absurd b
by_some (Some n) t b = (n, refl, b)

some_by : (o : Option ℕ) (n t : ℕ) → o ≡ Some n → n ≤ t → By o t
some_by o n t e h = subst (λ x. By x t) (sym e) h

by_earlier : (a b : Option ℕ) (t : ℕ) → By (earlier a b) t → By a t ⊎ By b t
by_earlier None b t h = inr h
by_earlier (Some a) None t h = inl h
by_earlier (Some a) (Some b) t h = ⊎_elim (λ (l : a < b). inl (omega arith)) (λ (g : b ≤ a). inr (omega arith)) (cases_lt a b)

by_left : (a b : Option ℕ) (t : ℕ) → By a t → By (earlier a b) t
by_left None b t h = absurd h
by_left (Some a) None t h = h
by_left (Some a) (Some b) t h = omega arith

by_right : (a b : Option ℕ) (t : ℕ) → By b t → By (earlier a b) t
by_right None b t h = h
by_right (Some a) None t h = absurd h
by_right (Some a) (Some b) t h = omega arith

by_later : (o : Option ℕ) (t : ℕ) → By (one_later o) t → (0 < t) × By o (t - 1)
by_later None t h = absurd h
by_later (Some n) t h = (omega arith, omega arith)

later_by : (o : Option ℕ) (t : ℕ) → 0 < t → By o (t - 1) → By (one_later o) t
later_by None t p h = absurd h
later_by (Some n) t p h = omega arith

-- the bound of the ticks that are foretold
pub most_more : (a f : Option ℕ) (k : ℕ) → AtMost a (2 ^ 64) → AtMost f (2 ^ 64 + k) → AtMost (earlier a (one_later f)) (2 ^ 64 + (k + 1))
most_more None None k ha hf = tt
most_more None (Some f) k ha hf = omega arith
most_more (Some a) None k ha hf = omega arith
most_more (Some a) (Some f) k ha hf = omega arith

pub most_less : (f : Option ℕ) (k : ℕ) → k < 16 → AtMost f (2 ^ 64 + k) → AtMost f (2 ^ 65)
most_less None k h hf = tt
most_less (Some f) k h hf = omega arith

-- tick 1, if there is one
abbrev tick_one : History → Option ℕ
tick_one [] = None
tick_one (tick level ∷ h) = Some 1
tick_one (call p c ∷ h) = tick_one h

one_by : (h : History) (t : ℕ) → 0 < t → t ≤ ticks h → tick_one h ≡ Some 1
one_by [] t p q = absurd (omega arith)
one_by (tick level ∷ h) t p q = refl
one_by (call pl c ∷ h) t p q = one_by h t p q

steady_low : (level : Bool) (h : History) → Steady level h → first_low h ≡ cond level None (tick_one h)
steady_low true [] e = refl
steady_low false [] e = refl
steady_low level (tick told ∷ h) e = told_low level told e.0 (steady_low level h e.1)
  where
    told_low : (level told : Bool) → told ≡ level → first_low h ≡ cond level None (tick_one h) → cond told (one_later (first_low h)) (Some 1) ≡ cond level None (Some 1)
    told_low true told e r = cond-true _ _ _ e ∙ ap one_later r
    told_low false told e r = cond-false _ _ _ e
steady_low level (call p c ∷ h) e = steady_low level h e.1

module _ {S : Type 0} (m : Meaning S) (R : Rules m) where
  -- the places that are not settled
  pub unsettled_here : (s : S) (n k : ℕ) → k < n → settled (m.fact s k) ≡ false → unsettled_from m s k (n - k) ≡ Some k
  unfolding unsettled_from
  unsettled_here s n k h e = let left : n - k ≡ suc (n - (k + 1)) = omega arith in ap (unsettled_from m s k) left ∙ cond-false _ _ _ e

  pub unsettled_later : (s : S) (n k : ℕ) → k < n → settled (m.fact s k) ≡ true → unsettled_from m s k (n - k) ≡ unsettled_from m s (k + 1) (n - (k + 1))
  unfolding unsettled_from
  unsettled_later s n k h e = let left : n - k ≡ suc (n - (k + 1)) = omega arith in ap (unsettled_from m s k) left ∙ cond-true _ _ _ e

  pub unsettled_none : (s : S) (k n : ℕ) → n ≡ 0 → unsettled_from m s k n ≡ None
  unfolding unsettled_from
  unsettled_none s k n e = ap (unsettled_from m s k) e

  settled_from : (s : S) (n k : ℕ) → unsettled_from m s k n ≡ None → (j : ℕ) → k ≤ j → j < k + n → settled (m.fact s j) ≡ true
  unfolding unsettled_from
  settled_from s zero k e j lo hi = absurd (omega arith)
  settled_from s (suc n) k e j lo hi =
      let both = split (settled (m.fact s k)) e in
      ⊎_elim
      (λ (after : k < j). settled_from s n (k + 1) both.1 j (omega arith) (omega arith))
      (λ (here : j ≤ k). let same : k ≡ j = omega arith in subst (λ i. settled (m.fact s i) ≡ true) same both.0)
      (cases_lt k j)
    where
      split : (b : Bool) → cond b (unsettled_from m s (k + 1) n) (Some k) ≡ None → (b ≡ true) × (unsettled_from m s (k + 1) n ≡ None)
      split true e = (refl, e)
      split false e = absurd (let z : ◌≡◌ {A = ℕ} 0 1 = cc in omega arith)

  from_settled : (s : S) (n k : ℕ) → ((j : ℕ) → k ≤ j → j < k + n → settled (m.fact s j) ≡ true) → unsettled_from m s k n ≡ None
  unfolding unsettled_from
  from_settled s zero k h = refl
  from_settled s (suc n) k h = cond-true _ _ _ (h k (omega arith) (omega arith)) ∙ from_settled s n (k + 1) (λ j lo hi. h j (omega arith) (omega arith))

  settled_all : (s : S) → (unsettled m s ≡ None) ↔ AllSettled m s
  settled_all s = (
    λ e k a. settled_from s (min 16 (m.size s)) 0 e k (omega arith) (omega (arith, a.0, a.1)),
    λ all. from_settled s (min 16 (m.size s)) 0 (λ j lo hi. all j (omega (arith, hi), omega (arith, hi))),
  )

  pub foretold_next : (s : S) (level : Bool) (k : ℕ) → foretold m s level (k + 1) ≡ earlier (waiting (m.fact s (k + 1)) false) (one_later (foretold m s level k))
  unfolding foretold
  foretold_next s level k = rw add-one refl

  -- a call that sets no wire leaves every stop
  does_not_stop : (c : Call) (guard : Bool) (wire : ℕ) (old new : Facts) → sets_wire c ≡ false → Does c guard wire old new → new.stop ≡ old.stop
  does_not_stop (Read register) guard wire old new e d = ap (λ (f : Facts). f.stop) d
  does_not_stop (Write register value) guard wire old new e d = d.stop
  does_not_stop (Wire w level) guard wire old new e d = absurd (true≢false e)
  does_not_stop (Volts channel) guard wire old new e d = ap (λ (f : Facts). f.stop) d
  does_not_stop (Acknowledge bits) guard wire old new e d = d.stop
  does_not_stop (Preload ticks) guard wire old new e d = d.stop
  does_not_stop Arm guard wire old new e d = d.stop
  does_not_stop Kick guard wire old new e d = d.stop

  stop_called : (s : S) (p : ℕ) (c : Call) (k : ℕ) → p < m.size s → k < m.size s → sets_wire c ≡ false → (m.fact (m.called s p c) k).stop ≡ (m.fact s k).stop
  stop_called s p c k hp hk e =
      ⊎_elim
      (λ (here : k ≡ p). subst (λ x. (m.fact (m.called s p c) x).stop ≡ (m.fact s x).stop) (sym here)
      (⊎_elim
      (λ ok. does_not_stop c _ _ _ _ e (R.call_here s p c hp ok))
      (λ bad. ap (λ t. (m.fact t p).stop) (R.refused s p c bad))
      (cases_Bool (is_ok (m.answer s p c)))))
      (λ other. ap (λ (f : Facts). f.stop) (R.call_elsewhere s p c k hp hk other))
      (cases_eq k p)

  steady_stop : (level : Bool) (h : History) (s : S) (j : ℕ) → Steady level h → NoGuard m s h → j < m.size s → first_stop m s h j ≡ cond (m.fact s j).stop (tick_one h) None
  steady_stop level [] s j e none a = sym (cond_same (m.fact s j).stop)
    where
      cond_same : (b : Bool) → cond {A = Option ℕ} b None None ≡ None
      cond_same true = refl
      cond_same false = refl
  steady_stop level (tick told ∷ h) s j e none a =
      let next = m.ticked s told in
      let stays : (m.fact next j).stop ≡ (m.fact s j).stop = (R.tick s told j a).stop_stays in
      let later = steady_stop level h next j e.1 none (subst (λ n. j < n) (sym (R.tick_size s told)) a) in
      either (m.fact s j).stop (tick_one h) (first_stop m next h j) (later ∙ ap (λ b. cond b (tick_one h) None) stays)
    where
      either : (b : Bool) (t o : Option ℕ) → o ≡ cond b t None → cond b (Some 1) (one_later o) ≡ cond b (Some 1) None
      either true t o e = refl
      either false t o e = ap one_later e
  steady_stop level (call p c ∷ h) s j e none a =
      steady_stop level h (m.called s p c) j e.1 none.2 (subst (λ n. j < n) (sym (R.call_size s p c)) a)
      ∙ ap (λ b. cond b (tick_one h) None) (stop_called s p c j none.0 a e.0)

  -- what a place waits for
  abbrev waits : S → Bool → ℕ → Option ℕ
  waits s level j = waiting (m.fact s j) (low_there j level)

  steady_outer : (level : Bool) (h : History) (s : S) (j : ℕ) → Steady level h → NoGuard m s h → j < m.size s →
      outer m s h j ≡ cond ((m.fact s j).stop || low_there j level) (tick_one h) None
  steady_outer level h s zero e none a =
      ap (λ o. earlier o (first_low h)) (steady_stop level h s 0 e none a) ∙ ap (earlier (cond (m.fact s 0).stop (tick_one h) None)) (steady_low level h e)
      ∙ both (m.fact s 0).stop level (tick_one h)
    where
      twice : (t : Option ℕ) → earlier t t ≡ t
      twice None = refl
      twice (Some n) = ap Some (omega arith)

      alone : (t : Option ℕ) → earlier t None ≡ t
      alone None = refl
      alone (Some n) = refl

      both : (stop level : Bool) (t : Option ℕ) → earlier (cond stop t None) (cond level None t) ≡ cond (stop || not level) t None
      both true true t = alone t
      both true false t = twice t
      both false true t = refl
      both false false t = refl
  steady_outer level h s (suc j) e none a = steady_stop level h s (suc j) e none a ∙ ap (λ b. cond b (tick_one h) None) (plain (m.fact s (suc j)).stop)
    where
      plain : (b : Bool) → b ≡ (b || false)
      plain true = refl
      plain false = refl

  -- within the ticks of a steady history, a place's own tick is what it waits for
  module _ (level : Bool) (h : History) (s : S) (steady : Steady level h) (none : NoGuard m s h) where
    own_steady : (j : ℕ) → j < m.size s → own_tick m s h j ≡ earlier (m.fact s j).due (cond ((m.fact s j).stop || low_there j level) (tick_one h) None)
    own_steady j a = own_is m s h j ∙ ap (earlier (m.fact s j).due) (steady_outer level h s j steady none a)

    waits_mine : (j t : ℕ) → Addressed m s j → t ≤ ticks h → By (mine m R s h j) t → By (waits s level j) t
    waits_mine j t a h≤ by = go (m.fact s j).held by
      where
        alone : (t : ℕ) (o : Option ℕ) → By (earlier o None) t → By o t
        alone t None b = b
        alone t (Some n) b = b

        either : (b : Bool) (due one : Option ℕ) → 0 < t → By (earlier due (cond b one None)) t → By (cond b (Some 1) due) t
        either true due one p by = omega arith
        either false due one p by = alone t due by

        own : By (own_tick m s h j) t → By (cond ((m.fact s j).stop || low_there j level) (Some 1) (m.fact s j).due) t
        own by =
            let at_one = by_some _ t by in
            let some = counted_some _ _ (counted_own m R s h j a) at_one.1 in
            either ((m.fact s j).stop || low_there j level) (m.fact s j).due (tick_one h) (omega (arith, some, at_one.2)) (subst (λ o. By o t) (own_steady j a.1) by)

        go : (b : Bool) → By (cond b (Some 0) (own_tick m s h j)) t → By (cond b (Some 0) (cond ((m.fact s j).stop || low_there j level) (Some 1) (m.fact s j).due)) t
        go true by = by
        go false by = own by

    mine_waits : (j t : ℕ) → Addressed m s j → t ≤ ticks h → By (waits s level j) t → By (mine m R s h j) t
    mine_waits j t a h≤ by = go (m.fact s j).held by
      where
        either : (b : Bool) (due : Option ℕ) → By (cond b (Some 1) due) t → By (earlier due (cond b (tick_one h) None)) t
        either true due by = by_right due (tick_one h) t (some_by (tick_one h) 1 t (one_by h t (omega arith) h≤) (omega arith))
        either false due by = by_left due None t by

        go : (b : Bool) → By (cond b (Some 0) (cond ((m.fact s j).stop || low_there j level) (Some 1) (m.fact s j).due)) t → By (cond b (Some 0) (own_tick m s h j)) t
        go true by = by
        go false by = subst (λ o. By o t) (sym (own_steady j a.1)) (either ((m.fact s j).stop || low_there j level) (m.fact s j).due by)

  -- the tick that is foretold of place k: some place j, not beyond k, waits so long
  record Soon (s : S) (level : Bool) (k t : ℕ) : Type 0 where
    j : ℕ
    not_beyond : j ≤ k
    own : ℕ
    is_own : waits s level j ≡ Some own
    in_time : own + (k - j) ≤ t

  soon : (s : S) (level : Bool) (k t : ℕ) → By (foretold m s level k) t → Soon s level k t
  unfolding foretold
  soon s level zero t by =
      let w = by_some (waits s level 0) t by in
      record { j = 0; not_beyond = omega arith; own = w.0; is_own = w.1; in_time = omega (arith, w.2) }
  soon s level (suc k) t by =
      ⊎_elim
      (λ mine. let w = by_some (waits s level (suc k)) t mine in
      record { j = suc k; not_beyond = omega arith; own = w.0; is_own = w.1; in_time = omega (arith, w.2) })
      (λ passed.
      let b = by_later (foretold m s level k) t passed in
      let r = soon s level k (t - 1) b.1 in
      record { j = r.j; not_beyond = omega (arith, r.not_beyond); own = r.own; is_own = r.is_own; in_time = omega (arith, r.in_time, r.not_beyond, b.0) })
      (by_earlier (waits s level (suc k)) (one_later (foretold m s level k)) t by)

  by_soon : (s : S) (level : Bool) (k t : ℕ) → Soon s level k t → By (foretold m s level k) t
  unfolding foretold
  by_soon s level zero t r =
      let first : r.j ≡ 0 = omega (arith, r.not_beyond) in
      some_by (waits s level 0) r.own t (sym (ap (waits s level) first) ∙ r.is_own) (omega (arith, r.in_time))
  by_soon s level (suc k) t r =
      ⊎_elim
      (λ (before : r.j < suc k).
      by_right (waits s level (suc k)) (one_later (foretold m s level k)) t
      (later_by (foretold m s level k) t (omega (arith, r.in_time, before))
      (by_soon s level k (t - 1) (record { j = r.j; not_beyond = omega arith; own = r.own; is_own = r.is_own; in_time = omega (arith, r.in_time, before) }))))
      (λ (last : suc k ≤ r.j).
      let here : r.j ≡ suc k = omega (arith, r.not_beyond, last) in
      by_left (waits s level (suc k)) (one_later (foretold m s level k)) t
      (some_by (waits s level (suc k)) r.own t (sym (ap (waits s level) here) ∙ r.is_own) (omega (arith, r.in_time))))
      (cases_lt r.j (suc k))

  standing : (f : Facts) → settled f ≡ true → (f.ready ≡ true) ⊎ ((f.held ≡ true) × (f.passes ≡ true))
  standing f e = ⊎_elim inl (λ both. inr (and_parts f.held f.passes both)) (or_cases f.ready _ e)

  pub foretells : (s : S) (level : Bool) → Foretells m s level
  foretells s level = record {
    ready_settles = λ ready k a. or_left _ _ (ready k a);
    all_settled = settled_all s;
    falls = λ all h steady none k a.
        let stands : (j : ℕ) → Addressed m s j → Standing m R s j = λ j aj. standing (m.fact s j) (all j aj) in
        let spot : (j : ℕ) → j ≤ k → Addressed m s j = λ j le. (omega (arith, a.0), omega (arith, a.1)) in (
          λ held.
              let r = come m R h s stands none k a held in
              let w = by_some _ _ (waits_mine level h s steady none r.j (ticks h - (k - r.j)) (spot r.j r.not_beyond) (omega arith)
              (some_by _ r.own _ r.is_own (omega (arith, r.in_time)))) in
              by_soon s level k (ticks h) (record { j = r.j; not_beyond = r.not_beyond; own = w.0; is_own = w.1; in_time = omega (arith, w.2, r.in_time) }),
          λ by.
              let r = soon s level k (ticks h) by in
              let o = by_some _ _ (mine_waits level h s steady none r.j (ticks h - (k - r.j)) (spot r.j r.not_beyond) (omega arith)
              (some_by _ r.own _ r.is_own (omega (arith, r.in_time)))) in
              gone m R h s stands none k a (record { j = r.j; not_beyond = r.not_beyond; own = o.0; is_own = o.1; in_time = omega (arith, o.2, r.in_time) }),
        );
  }
