use Rattle.falls.proofs.Falls.{law}
use Rattle.falls.proofs.Forecasts.{foretells}
use Rattle.falls.proofs.foretell.Goals as goal

pub returns-clause-foretells : goal.returns-clause-foretells
returns-clause-foretells g c = foretells _ g.met.S.Station.rules _ _

pub returns-clause-law : goal.returns-clause-law
returns-clause-law g c = law _ g.met.S.Station.rules
