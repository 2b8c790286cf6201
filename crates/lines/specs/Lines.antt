-- What a line of a trace asks for.
use Rattle.std.specs.Prelude.{ℕ, ◌+◌, cond, not, List, [], ◌∷◌, length, is_some, Some, None, Ok, Err, Option, Result, ◌==◌, nat_lt}
use Rattle.lines.specs.declared.command.Command.{Command}
use Rattle.lines.specs.declared.command.Command.TheVariants as command
use Rattle.lines.specs.declared.malformed.Malformed.{Malformed}
use Rattle.lines.specs.declared.malformed.Malformed.TheVariants.{NotDigit, UnknownKind, WrongLength, TooLong}
use Rattle.lines.specs.declared.parse.Kind.{Kind}
use Rattle.lines.specs.declared.parse.Kind.TheVariants.{Write, Read, Wire, Run, Volts}
use Rattle.lines.specs.Digits.{digit, byte_at, word_at}

-- refusals: their numbers, and the columns that they name, counted from 1
abbrev pub number : Malformed → ℕ
number (NotDigit at) = 10
number UnknownKind = 11
number (WrongLength digits) = 12
number TooLong = 13

abbrev pub column : Malformed → ℕ
column (NotDigit at) = at
column UnknownKind = 1
column (WrongLength digits) = digits + 1
column TooLong = 81

-- the kind of a line, which its first two digits name
abbrev pub kind : ℕ → Option Kind
kind n = cond (n == 1) (Some Write) (cond (n == 2) (Some Read) (cond (n == 3) (Some Wire) (cond (n == 4) (Some Run) (cond (n == 7) (Some Volts) None))))

-- how many digits a line of a kind has
abbrev pub digits : Kind → ℕ
digits Write = 14
digits Read = 6
digits Wire = 14
digits Run = 12
digits Volts = 6

-- the fields of a line, from left to right
abbrev pub fields : Kind → List ℕ → Command
fields Write l = command.Write (byte_at l 2) (byte_at l 4) (word_at l 6)
fields Read l = command.Read (byte_at l 2) (byte_at l 4)
fields Wire l = command.Wire (byte_at l 2) (byte_at l 4) (word_at l 6)
fields Run l = command.Run (not (byte_at l 2 == 0)) (word_at l 4)
fields Volts l = command.Volts (byte_at l 2) (byte_at l 4)

-- the column of the first character that is no digit, in a line that begins at a column
unfoldable pub first_bad : ℕ → List ℕ → Option ℕ
first_bad at [] = None
first_bad at (c ∷ cs) = cond (is_some (digit c)) (first_bad (at + 1) cs) (Some at)

-- a line of digits only, by its kind
abbrev pub of_kind : List ℕ → Option Kind → Result Command Malformed
of_kind l None = Err UnknownKind
of_kind l (Some k) = cond (length l == digits k) (Ok (fields k l)) (Err (WrongLength (length l)))

abbrev pub of_digits : List ℕ → Result Command Malformed
of_digits l = cond (nat_lt (length l) 2) (Err (WrongLength (length l))) (of_kind l (kind (byte_at l 0)))

abbrev pub if_digits : List ℕ → Option ℕ → Result Command Malformed
if_digits l (Some at) = Err (NotDigit at)
if_digits l None = of_digits l

-- any line: too long, then a character that is no digit, then too short for a kind, then the kind, then its length
abbrev pub decoded : List ℕ → Result Command Malformed
decoded l = cond (nat_lt 80 (length l)) (Err TooLong) (if_digits l (first_bad 1 l))
