-- The queue of a chip's samples.
use Rattle.std.specs.Prelude.{ℕ, ◌+◌, ◌/◌, ◌%◌, ◌^◌, Bool, cond, List, [], ◌∷◌, replicate, ◌==◌, count_ones, nat_lt, slice_index}

abbrev pub selected : ℕ → ℕ → Bool
selected mask channel = mask / 2 ^ channel % 2 == 1

-- the number of selected channels is the number of ones
abbrev pub number : ℕ → ℕ
number mask = count_ones (mask % 16)

abbrev pub with_first : List ℕ → ℕ → Bool → List ℕ
with_first q sample wanted = cond wanted (sample ∷ slice_index q 0 ∷ slice_index q 1 ∷ slice_index q 2 ∷ []) q

-- the samples of the selected channels, in ascending order from place 0 on
abbrev pub queue : ℕ → List ℕ → List ℕ
queue mask wires =
    with_first (with_first (with_first (with_first (replicate 4 0)
    (slice_index wires 3) (selected mask 3)) (slice_index wires 2) (selected mask 2)) (slice_index wires 1) (selected mask 1)) (slice_index wires 0) (selected mask 0)

-- 14 bits as a signed number of 16
abbrev pub extended : ℕ → ℕ
extended code = cond (nat_lt (code % 0x4000) 0x2000) (code % 0x4000) (code % 0x4000 + 0xc000)
