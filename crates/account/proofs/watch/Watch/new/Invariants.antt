use Rattle.std.proofs.Common.{◌≡◌, ◌-◌, ◌≤◌, ◌++◌, vec_items, vec_len}
use Rattle.bench.specs.Calls.{places}
use Rattle.account.specs.Watches.{first_rows}
use Rattle.account.proofs.watch.Watch.new.Given as goal

-- the rows so far, then those of the places that are left
abbrev pub invariant-loop-place : goal.invariant-loop-place
invariant-loop-place g l =
    let m = g.S.Station.meaning in
    let n = places m l.bench in
    (vec_len l.rows ≤ l.place) × (first_rows m l.bench 0 n ≡ vec_items l.rows ++ first_rows m l.bench l.place (n - l.place))
