-- A bound on a number that there may be none of.
use Rattle.std.specs.Prelude.{ℕ, ◌≤◌, Some, None, Option}

abbrev pub AtMost : Option ℕ → ℕ → Type 0
AtMost None b = Unit {0}
AtMost (Some n) b = n ≤ b
