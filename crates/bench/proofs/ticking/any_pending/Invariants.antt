use Rattle.std.proofs.Common.{◌≡◌, ◌-◌, min}
use Rattle.bench.specs.Ticks.{any_pending, pending_from}
use Rattle.bench.proofs.ticking.any_pending.Given as goal

-- what is left to look at tells the whole
abbrev pub invariant-loop-number : goal.invariant-loop-number
invariant-loop-number g l = let m = g.S.Station.meaning in any_pending m l.chain ≡ pending_from m l.chain l.number (min 16 (m.size l.chain) - l.number)
