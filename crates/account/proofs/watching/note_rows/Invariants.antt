use Rattle.std.proofs.Common.{◌≡◌, ◌++◌, take, drop}
use Rattle.account.specs.Watches.{rows_after}
use Rattle.account.proofs.watching.note_rows.Given as goal

-- the rows that are done, then what is to come of those that are left
abbrev pub invariant-loop-place : goal.invariant-loop-place
invariant-loop-place g l =
    let m = g.S.Station.meaning in
    rows_after m l.bench l.initial.step.tick l.initial.step.hears 0 l.initial.rows ≡
    take l.place l.rows ++ rows_after m l.bench l.step.tick l.step.hears l.place (drop l.place l.rows)
