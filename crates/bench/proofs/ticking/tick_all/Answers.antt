use Rattle.std.proofs.Common.{◌+◌, ◌-◌, sym, ap, ◌∙◌, arith}
use Rattle.bench.specs.Ticks.{ticks}
use Rattle.bench.proofs.Ticks.{ticks_none, ticks_more}
use Rattle.bench.proofs.ticking.tick_all.Goals as goal

pub loop-i-preserved : goal.loop-i-preserved
loop-i-preserved g c =
    let m = g.S.Station.meaning in
    c.loop-i.invariant ∙ ticks_more m _ _ _ _ c.loop-i-test.true ∙ ap (λ s. ticks m s c.args.level (c.args.count - (c.loop-i._i + 1))) (sym c.tick.ensures)

pub returns : goal.returns
returns g c = sym (c.loop-i.invariant ∙ ticks_none g.S.Station.meaning _ _ _ (omega arith))
