use Rattle.std.proofs.Common.{◌<◌, length, arith, length-set}
use Rattle.encoder.proofs.Each.{each_more, each_all}
use Rattle.encoder.proofs.eight.each.Goals as goal

pub loop-n-preserved : goal.loop-n-preserved
loop-n-preserved g c =
    let within : c.loop-n.n < length c.loop-n.encoders = omega arith in (
      simp length-set c.loop-n.invariant.0,
      λ f does. each_more f _ c.loop-n.encoders c.loop-n.n c.index-encoders-n.result _ within (c.loop-n.invariant.1 f does) (does _ _ _ c.change.ensures),
    )

pub returns : goal.returns
returns g c = λ f does. each_all f _ _ _ (omega arith) (c.loop-n.invariant.1 f does)
