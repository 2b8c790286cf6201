use Rattle.std.proofs.Common.{◌≡◌, ◌-◌, min}
use Rattle.falls.specs.Forecasts.{unsettled, unsettled_from}
use Rattle.falls.proofs.first_unsettled.Given as goal

-- what is left to look at tells the whole
abbrev pub invariant-loop-number : goal.invariant-loop-number
invariant-loop-number g l = let m = g.S.Station.meaning in unsettled m l.chain ≡ unsettled_from m l.chain l.number (min 16 (m.size l.chain) - l.number)
