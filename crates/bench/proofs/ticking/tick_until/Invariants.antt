use Rattle.std.proofs.Common.{◌≡◌, ◌+◌, ◌-◌}
use Rattle.bench.specs.Ticks.{ticks, ticks_until}
use Rattle.bench.proofs.ticking.tick_until.Given as goal

-- the ticks made so far and those that are still to come
abbrev pub invariant-loop-made : goal.invariant-loop-made
invariant-loop-made g l =
    let m = g.S.Station.meaning in
    (ticks_until m l.initial.chain l.level l.most ≡ l.made + ticks_until m l.chain l.level (l.most - l.made)) ×
    (l.chain ≡ ticks m l.initial.chain l.level l.made)
