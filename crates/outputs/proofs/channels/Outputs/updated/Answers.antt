use Rattle.std.proofs.Common.{rules, tests, ap, arith}
use Rattle.outputs.specs.Channels.{put_out}
use Rattle.outputs.proofs.Arrays.{mapped}
use Rattle.outputs.proofs.channels.Outputs.updated.Goals as goal

pub returns : goal.returns
returns c = ap (λ cs. record { channels = cs }) (mapped _ put_out _ (λ x y q k. search (rules, tests)) c.args.self.channels _ 8 (omega arith) c.map.ensures.items)
