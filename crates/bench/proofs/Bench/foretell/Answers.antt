use Rattle.falls.proofs.Falls.{law}
use Rattle.falls.proofs.Forecasts.{foretells}
use Rattle.bench.proofs.Bench.foretell.Goals as goal

-- the law holds of a place that is not in the chain too
pub returns-in_err-at-clause-foretells : goal.returns-in_err-at-clause-foretells
returns-in_err-at-clause-foretells g c = foretells _ g.met.S.Station.rules _ _

pub returns-in_err-at-clause-law : goal.returns-in_err-at-clause-law
returns-in_err-at-clause-law g c = law _ g.met.S.Station.rules
