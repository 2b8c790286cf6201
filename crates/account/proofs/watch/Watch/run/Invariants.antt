use Rattle.std.proofs.Common.{◌≡◌, ◌-◌}
use Rattle.account.specs.Watches.{view, run_view}
use Rattle.account.proofs.watch.Watch.run.Given as goal

-- what is left to run leads to where the whole run leads
abbrev pub invariant-loop-i : goal.invariant-loop-i
invariant-loop-i g l = let m = g.S.Station.meaning in run_view m l.level l.count (view l.initial.self) ≡ run_view m l.level (l.count - l._i) (view l.self)
