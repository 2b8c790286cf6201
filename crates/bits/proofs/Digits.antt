-- Digits that are shifted into a word one after another, the last first.
use Rattle.std.proofs.Common.{◌≡◌, ℕ, zero as none, suc, ◌+◌, ◌*◌, ◌/◌, ◌%◌, ◌^◌, ◌<◌, ◌≤◌, Bool, true, false, List, [], ◌∷◌, length, get_or, reverse, fold, bit_or, sym, refl, ap, ◌∙◌, arith}
use Rattle.std.specs.Int.{from_bool}
use Rattle.std.proofs.Math.Nat.{div-div-eq-div-mul, div-one, mul_comm, pow-succ', pow-zero, suc-mul}
use Rattle.std.proofs.lemmas.List.{reverse-append}
use Rattle.std.proofs.lemmas.List.Sums.{fold_push}
use Rattle.std.proofs.lemmas.Nat.{div-mul-add, mod-mul-add, mul-add-lt, or_shifted, pow-add, pow_pos, shl_whole}
use Rattle.bits.specs.Words.{digits}

module _ {X : Type 0} (step width : ℕ) (f : X → ℕ) where
  -- a digit is shifted in
  abbrev pub shifted : ℕ → X → ℕ
  shifted word x = bit_or (word * 2 ^ step % 2 ^ width) (f x)

  digits_below : ((x : X) → f x < 2 ^ step) → (xs : List X) → digits (2 ^ step) f xs < 2 ^ (length xs * step)
  digits_below small [] = pow_pos _
  digits_below small (x ∷ xs) =
      let more : 2 ^ (length xs * step + step) ≡ 2 ^ step * 2 ^ (length xs * step) = pow-add 2 (length xs * step) step ∙ mul_comm _ _ in
      let here = mul-add-lt (digits (2 ^ step) f xs) (2 ^ step) (f x) (2 ^ (length xs * step)) (digits_below small xs) (small x) in
      rw suc-mul (omega (arith, more, here, mul_comm (digits (2 ^ step) f xs) (2 ^ step)))

  pub digits_fold : ((x : X) → f x < 2 ^ step) → (xs : List X) → length xs * step ≤ width → fold shifted 0 (reverse xs) ≡ digits (2 ^ step) f xs
  digits_fold small [] h = refl
  digits_fold small (x ∷ xs) h =
      let d = digits (2 ^ step) f xs in
      let fits : length xs * step + step ≤ width = omega (arith, suc-mul (length xs) step) in
      ap (fold shifted 0) (reverse-append (x ∷ []) xs)
      ∙ fold_push shifted 0 (reverse xs) x
      ∙ ap (λ word. shifted word x) (digits_fold small xs (omega arith))
      ∙ ap (λ word. bit_or word (f x)) (shl_whole d (length xs * step) step width (digits_below small xs) fits)
      ∙ or_shifted d step (f x) (small x)
      ∙ omega (arith, mul_comm d (2 ^ step))

-- a digit of each in its place
module _ {X : Type 0} (base : ℕ) (f : X → ℕ) (small : (x : X) → f x < base) where
  pub digits_at : (xs : List X) (n : ℕ) (d : X) → n < length xs → digits base f xs / base ^ n % base ≡ f (get_or xs n d)
  digits_at [] n d h = absurd (omega arith)
  digits_at (x ∷ xs) none d h =
      let left = digits base f xs in
      let turned : f x + base * left ≡ left * base + f x = omega (arith, mul_comm base left) in
      ap (λ v. v / base ^ 0 % base) turned ∙ rw (pow-zero, div-one) (mod-mul-add left base (f x) (small x))
  digits_at (x ∷ xs) (suc n) d h =
      let left = digits base f xs in
      let turned : f x + base * left ≡ left * base + f x = omega (arith, mul_comm base left) in
      ap (λ v. v / base ^ suc n % base) turned
      ∙ ap (λ p. (left * base + f x) / p % base) (pow-succ' base n)
      ∙ ap (λ v. v % base) (sym (div-div-eq-div-mul (left * base + f x) base (base ^ n)))
      ∙ ap (λ v. v / base ^ n % base) (div-mul-add left base (f x) (small x))
      ∙ digits_at xs n d (omega arith)

-- a flag is a digit
pub flag_small : (step : ℕ) (b : Bool) → from_bool b < 2 ^ (step + 1)
flag_small step true = omega (arith, pow_pos step, pow-add 2 step 1)
flag_small step false = pow_pos _
