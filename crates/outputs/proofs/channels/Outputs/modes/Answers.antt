use Rattle.std.proofs.Common.{rules, tests, arith}
use Rattle.outputs.specs.declared.channels.Channel.{Channel}
use Rattle.outputs.proofs.Arrays.{mapped}
use Rattle.outputs.proofs.channels.Outputs.modes.Goals as goal

pub returns : goal.returns
returns c = mapped _ (λ (x : Channel). x.mode) _ (λ x y q k. search (rules, tests)) c.args.self.channels _ 8 (omega arith) c.map.ensures.items
