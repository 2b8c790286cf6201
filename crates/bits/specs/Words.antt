-- The bits of a word.
use Rattle.std.specs.Prelude.{Bool, ◌&&◌, List, [], ◌∷◌, ℕ, ◌+◌, ◌*◌, ◌/◌, ◌%◌, ◌^◌, eqb, ltb}
use Rattle.std.specs.Int.{from_bool}

-- bit n of a word of 32
abbrev pub bit : ℕ → ℕ → Bool
bit word n = ltb n 32 && eqb (word / 2 ^ n % 2) 1

abbrev pub weight : Bool → ℕ
weight b = from_bool b

-- one digit of each, each place worth so many times the one before
abbrev pub digits : {X : Type 0} → ℕ → (X → ℕ) → List X → ℕ
digits base f [] = 0
digits base f (x ∷ xs) = f x + base * digits base f xs

-- the same with flags
abbrev pub gathered_by : {X : Type 0} → ℕ → (X → Bool) → List X → ℕ
gathered_by base f xs = digits base (λ x. weight (f x)) xs

-- the number that has the bits of a list, the lowest first
abbrev pub byte_of : List Bool → ℕ
byte_of bs = gathered_by 2 (λ b. b) bs
