-- Small numbers: 12-bit codes and 24-bit counts.
use Rattle.std.specs.Prelude.{ℕ, ◌+◌, ◌%◌, ◌≤◌}
use Rattle.std.proofs.Common.{arith}
use Rattle.bits.specs.declared.number.UpTo.{UpTo}

pub within : (most n : ℕ) → n % (most + 1) ≤ most
within most n = omega arith

-- a number modulo most + 1
unfoldable pub up_to : (most : ℕ) → ℕ → UpTo most
up_to most n = record { value = n % (most + 1); small = within most n }

-- the lowest 12 bits of a number
abbrev pub code_of : ℕ → UpTo 0xfff
code_of n = up_to 0xfff n

-- the lowest 24 bits of a number
abbrev pub count_of : ℕ → UpTo 0xffffff
count_of n = up_to 0xffffff n
