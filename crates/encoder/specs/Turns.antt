-- Quadrature.
use Rattle.std.specs.Prelude.{ℕ, ◌+◌, ◌-◌, ◌%◌, Bool, true, false, cond, ◌==◌}
use Rattle.encoder.specs.declared.turn.Levels.{Levels}
use Rattle.encoder.specs.declared.turn.Turn.{Turn}
use Rattle.encoder.specs.declared.turn.Turn.TheVariants.{Still, Up, Down, Lost}

-- where the levels stand in the table
abbrev pub place : Levels → ℕ
place l = cond l.a 1 0 + cond l.b 2 0

-- how far A and B have come in the cycle 00, 10, 11, 01
abbrev pub phase : Bool → Bool → ℕ
phase false false = 0
phase true false = 1
phase true true = 2
phase false true = 3

-- one place on in the cycle is up, one back is down, two are an error
abbrev pub by_steps : ℕ → Turn
by_steps n = cond (n == 0) Still (cond (n == 1) Up (cond (n == 3) Down Lost))

abbrev pub turn : Levels → Levels → Turn
turn old new = by_steps ((phase new.a new.b + 4 - phase old.a old.b) % 4)
