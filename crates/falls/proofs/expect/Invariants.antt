use Rattle.std.proofs.Common.{◌≡◌, ◌+◌, ◌^◌}
use Rattle.falls.specs.Bounds.{AtMost}
use Rattle.falls.specs.Forecasts.{foretold}
use Rattle.falls.proofs.expect.Given as goal

abbrev pub invariant-loop-before : goal.invariant-loop-before
invariant-loop-before g l = (l.falls ≡ foretold g.S.Station.meaning l.chain l.level l.before) × AtMost l.falls (2 ^ 64 + l.before)
