-- Whether an interrupt is pending, one place after another.
use Rattle.std.proofs.Common.{◌≡◌, ℕ, zero, suc, ◌+◌, ◌-◌, ◌<◌, ◌≤◌, min, Bool, true, false, cond, eqb, refl, ap, ◌∙◌, subst, ⊎_elim, arith}
use Rattle.std.proofs.lemmas.Bool.{cases_lt, cond-true, cond-false, eq-eqb, ne_eqb, eqb-true, eqb-false}
use Rattle.station.specs.Meaning.{Meaning}
use Rattle.bench.specs.Ticks.{pending_from, any_pending, Silent, Pending}

module _ {S : Type 0} (m : Meaning S) (s : S) where
  -- one place of those from k on, of n in all
  pub pending_here : (n k : ℕ) → k < n → ((m.fact s k).pending ≡ 0 → ⊥) → pending_from m s k (n - k) ≡ true
  unfolding pending_from
  pending_here n k h e = let left : n - k ≡ suc (n - (k + 1)) = omega arith in ap (pending_from m s k) left ∙ cond-false _ _ _ (ne_eqb _ 0 e)

  pub pending_later : (n k : ℕ) → k < n → (m.fact s k).pending ≡ 0 → pending_from m s k (n - k) ≡ pending_from m s (k + 1) (n - (k + 1))
  unfolding pending_from
  pending_later n k h e = let left : n - k ≡ suc (n - (k + 1)) = omega arith in ap (pending_from m s k) left ∙ cond-true _ _ _ (eq-eqb _ 0 e)

  pub pending_none : (k n : ℕ) → n ≡ 0 → pending_from m s k n ≡ false
  unfolding pending_from
  pending_none k n e = ap (pending_from m s k) e

  silent_from : (n k : ℕ) → pending_from m s k n ≡ false → (j : ℕ) → k ≤ j → j < k + n → (m.fact s j).pending ≡ 0
  unfolding pending_from
  silent_from zero k e j lo hi = absurd (omega arith)
  silent_from (suc n) k e j lo hi =
      let both = split (eqb (m.fact s k).pending 0) e in
      ⊎_elim
      (λ (after : k < j). silent_from n (k + 1) both.1 j (omega arith) (omega arith))
      (λ (here : j ≤ k). let same : k ≡ j = omega arith in subst (λ i. (m.fact s i).pending ≡ 0) same (eqb-true _ _ both.0))
      (cases_lt k j)
    where
      split : (b : Bool) → cond b (pending_from m s (k + 1) n) true ≡ false → (b ≡ true) × (pending_from m s (k + 1) n ≡ false)
      split true e = (refl, e)
      split false e = absurd (let z : ◌≡◌ {A = ℕ} 0 1 = cc in omega arith)

  pub silent : any_pending m s ≡ false → Silent m s
  silent e k a = silent_from (min 16 (m.size s)) 0 e k (omega arith) (omega (arith, a.0, a.1))

  stands_from : (n k : ℕ) → pending_from m s k n ≡ true → (j : ℕ) × (j < k + n) × ((m.fact s j).pending ≡ 0 → ⊥)
  unfolding pending_from
  stands_from zero k e = absurd (let z : ◌≡◌ {A = ℕ} 0 1 = cc in omega arith)
  stands_from (suc n) k e = split (eqb (m.fact s k).pending 0) refl e (stands_from n (k + 1))
    where
      split : (b : Bool) → eqb (m.fact s k).pending 0 ≡ b → cond b (pending_from m s (k + 1) n) true ≡ true →
          (pending_from m s (k + 1) n ≡ true → (j : ℕ) × (j < k + 1 + n) × ((m.fact s j).pending ≡ 0 → ⊥)) → (j : ℕ) × (j < k + suc n) × ((m.fact s j).pending ≡ 0 → ⊥)
      split true is e later = let r = later e in (r.0, omega (arith, r.1), r.2)
      split false is e later = (k, omega arith, eqb-false _ _ is)

  pub stands : any_pending m s ≡ true → Pending m s
  stands e =
      let r = stands_from (min 16 (m.size s)) 0 e in
      record { place = r.0; addressed = (omega (arith, r.1), omega (arith, r.1)); stands = r.2 }
