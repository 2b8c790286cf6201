use Rattle.std.proofs.Common.{◌<◌, arith}
use Rattle.bench.specs.Calls.{places}
use Rattle.account.proofs.Starts.{first_more}
use Rattle.account.proofs.watch.Watch.new.Goals as goal

pub loop-place-preserved : goal.loop-place-preserved
loop-place-preserved g c =
    let m = g.S.Station.meaning in
    let pushed = c.in_ok-begin.ensures in
    let within : c.loop-place.place < places m c.args.bench = omega (arith, c.places-place-end.ensures) in
    (omega (arith, pushed.1), first_more m _ _ _ _ _ _ _ within c.loop-place.invariant.1 c.facts.ensures pushed.0)
