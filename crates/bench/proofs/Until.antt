-- Ticks until an interrupt is pending.
use Rattle.std.proofs.Common.{◌≡◌, ℕ, zero, suc, ◌+◌, ◌-◌, ◌<◌, Bool, true, false, sym, refl, ap, ◌∙◌, subst, inl, inr, ⊎_elim, zero-add, add-one, arith}
use Rattle.std.proofs.lemmas.Bool.{cases_Bool, cond-true, cond-false}
use Rattle.station.specs.Meaning.{Meaning}
use Rattle.bench.specs.Ticks.{ticks, any_pending, ticks_until, Silent, Stops}
use Rattle.bench.proofs.Pending.{silent, stands}

module _ {S : Type 0} (m : Meaning S) (level : Bool) where
  -- one tick more at the end
  pub ticks_end : (s : S) (n : ℕ) → ticks m s level (n + 1) ≡ m.ticked (ticks m s level n) level
  unfolding ticks
  ticks_end s zero = refl
  ticks_end s (suc n) = rw add-one (rw add-one at (ticks_end (m.ticked s level) n))

  -- after i of at most n ticks: none was made, none is left, something is pending, or one more is made
  pub until_begun : (s : S) (n : ℕ) → ticks_until m s level n ≡ 0 + ticks_until m s level (n - 0)
  until_begun s n = sym (zero-add _ ∙ ap (ticks_until m s level) (omega arith))

  pub until_all : (s : S) (all n i : ℕ) → n ≡ i → all ≡ i + ticks_until m s level (n - i) → n ≡ all
  unfolding ticks_until
  until_all s all n i e sofar =
      let none : n - i ≡ 0 = omega arith in
      let left : ticks_until m s level (n - i) ≡ 0 = ap (ticks_until m s level) none in
      omega arith

  pub until_here : (s : S) (all n i : ℕ) → i < n → any_pending m s ≡ true → all ≡ i + ticks_until m s level (n - i) → i ≡ all
  unfolding ticks_until
  until_here s all n i h e sofar =
      let more : n - i ≡ suc (n - (i + 1)) = omega arith in
      let left : ticks_until m s level (n - i) ≡ 0 = ap (ticks_until m s level) more ∙ cond-true _ _ _ e in
      omega arith

  pub until_more : (s t : S) (all n i : ℕ) → i < n → any_pending m s ≡ false → t ≡ m.ticked s level → all ≡ i + ticks_until m s level (n - i) → all ≡ i + 1 + ticks_until m t level (n - (i + 1))
  unfolding ticks_until
  until_more s t all n i h e is sofar =
      let more : n - i ≡ suc (n - (i + 1)) = omega arith in
      let left : ticks_until m s level (n - i) ≡ suc (ticks_until m t level (n - (i + 1))) =
      ap (ticks_until m s level) more ∙ cond-false _ _ _ e ∙ ap (λ x. suc (ticks_until m x level (n - (i + 1)))) (sym is) in
      omega arith

  stops_here : (s : S) (n : ℕ) → any_pending m s ≡ true → Stops m s level n 0
  unfolding ticks
  stops_here s n e = record { at_most = omega arith; silent_before = λ i h. absurd (omega arith); then_stops = inl (stands m s e) }

  stops_later : (s : S) (n t : ℕ) → any_pending m s ≡ false → Stops m (m.ticked s level) level n t → Stops m s level (suc n) (suc t)
  unfolding ticks
  stops_later s n t e r = record {
    at_most = omega (arith, r.at_most);
    silent_before = before;
    then_stops = ⊎_elim (λ p. inl p) (λ q. inr (ap suc q)) r.then_stops;
  }
    where
      before : (i : ℕ) → i < suc t → Silent m (ticks m s level i)
      before zero h = silent m s e
      before (suc i) h = r.silent_before i (omega arith)

  -- the count is the one that the rule names
  pub until_stops : (s : S) (n : ℕ) → Stops m s level n (ticks_until m s level n)
  unfolding ticks_until ticks
  until_stops s zero = record { at_most = omega arith; silent_before = λ i h. absurd (omega arith); then_stops = inr refl }
  until_stops s (suc n) =
      ⊎_elim
      (λ e. subst (Stops m s level (suc n)) (sym (cond-true _ _ _ e)) (stops_here s (suc n) e))
      (λ e. subst (Stops m s level (suc n)) (sym (cond-false _ _ _ e)) (stops_later s n _ e (until_stops (m.ticked s level) n)))
      (cases_Bool (any_pending m s))
