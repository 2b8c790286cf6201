-- The record of a line's answer: two digits of a number, eight of a word, and the end of the line.
use Rattle.std.specs.Prelude.{ℕ, ◌+◌, ◌*◌, ◌/◌, ◌%◌, List, [], ◌∷◌, ◌++◌, Ok, Err, Result}
use Rattle.lines.specs.declared.record.Coded.{Coded}
use Rattle.lines.specs.declared.record.Layer.{Layer}
use Rattle.lines.specs.declared.record.Layer.TheVariants.{Line, Bench, Station}
use Rattle.lines.specs.Digits.{letter}

abbrev pub layer_number : Layer → ℕ
layer_number Line = 1
layer_number Bench = 2
layer_number Station = 3

abbrev pub number_of : Result ℕ Coded → ℕ
number_of (Ok word) = 0
number_of (Err refusal) = refusal.number

-- a refusal's layer stands in the first two digits, its place or column in the last four
abbrev pub word_of : Result ℕ Coded → ℕ
word_of (Ok word) = word
word_of (Err refusal) = refusal.layer * 0x1000000 + refusal.at

-- the two digits of a byte, the higher one first
abbrev pub two : ℕ → List ℕ
two byte = letter (byte / 16) ∷ letter (byte % 16) ∷ []

abbrev pub written : ℕ → ℕ → List ℕ
written number word =
    two number ++ (two (word / 0x1000000) ++ (two (word / 0x10000 % 0x100) ++ (two (word / 0x100 % 0x100) ++ (two (word % 0x100) ++ (10 ∷ [])))))

abbrev pub record_of : Result ℕ Coded → List ℕ
record_of answer = written (number_of answer) (word_of answer)
