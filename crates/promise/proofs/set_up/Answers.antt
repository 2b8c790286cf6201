use Rattle.promise.proofs.Whole.{whole}
use Rattle.promise.proofs.set_up.Goals as goal

pub returns : goal.returns
returns g c = record { value = c.new.ensures; promise = whole _ g.met.S.Station.rules _ }
