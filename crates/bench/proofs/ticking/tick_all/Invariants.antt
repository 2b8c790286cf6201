use Rattle.std.proofs.Common.{◌≡◌, ◌-◌}
use Rattle.bench.specs.Ticks.{ticks}
use Rattle.bench.proofs.ticking.tick_all.Given as goal

-- what is left to tick leads to where all the ticks lead
abbrev pub invariant-loop-i : goal.invariant-loop-i
invariant-loop-i g l = let m = g.S.Station.meaning in ticks m l.initial.chain l.level l.count ≡ ticks m l.chain l.level (l.count - l._i)
