-- Hexadecimal digits, each one character.
use Rattle.std.specs.Prelude.{ℕ, ◌+◌, ◌-◌, ◌*◌, cond, ◌&&◌, List, Some, None, Option, nat_le, nat_lt, slice_index}

-- 0 to 9 and A to F: the value of a digit
abbrev pub digit : ℕ → Option ℕ
digit c = cond (nat_le 48 c && nat_le c 57) (Some (c - 48)) (cond (nat_le 65 c && nat_le c 70) (Some (c - 65 + 10)) None)

abbrev or_zero : Option ℕ → ℕ
or_zero (Some n) = n
or_zero None = 0

abbrev pub nibble : ℕ → ℕ
nibble c = or_zero (digit c)

-- the numbers that two and eight digits of a line write, counted from 0
abbrev pub byte_at : List ℕ → ℕ → ℕ
byte_at l at = 16 * nibble (slice_index l at) + nibble (slice_index l (at + 1))

abbrev pub word_at : List ℕ → ℕ → ℕ
word_at l at = ((byte_at l at * 256 + byte_at l (at + 2)) * 256 + byte_at l (at + 4)) * 256 + byte_at l (at + 6)

-- the digit that writes a value below 16
abbrev pub letter : ℕ → ℕ
letter n = cond (nat_lt n 10) (48 + n) (65 + (n - 10))
