-- Small numbers of one value are one number.
use mathlib.Core.Path.{◌≡◌}
use mathlib.Core.HLevel.{is_prop→PathP}
use native.Mathlib.Bridge.{le_prop}
use Prim.Native.Nat.{ℕ, ◌≤◌}
use Rattle.bits.specs.declared.number.UpTo.{UpTo}

pub same_number : {most : ℕ} (a b : UpTo most) → a.value ≡ b.value → a ≡ b
same_number {most} a b p = λ i. record { value = p i; small = is_prop→PathP (λ j. p j ≤ most) (λ j. le_prop) a.small b.small i }
