use Rattle.std.proofs.Common.{ℕ, List, map, slice_index_or, ap, ◌∙◌, arith}
use Rattle.std.specs.List.{range_with_len}
use Rattle.std.proofs.lemmas.List.FromFn.{fill_by_all}
use Rattle.outputs.specs.Channels.{idle, in_mode}
use Rattle.outputs.specs.declared.channels.Channel.{Channel}
use Rattle.outputs.specs.declared.mode.Mode.{Mode}
use Rattle.outputs.specs.declared.mode.Mode.TheVariants.{Unipolar}
use Rattle.outputs.proofs.channels.Outputs.moded.Goals as goal

pub returns : goal.returns
returns c =
    let at : List Mode → ℕ → Channel = λ ms n. in_mode (slice_index_or c.args.self.channels n idle) (slice_index_or ms n Unipolar) in
    ap (λ cs. record { channels = cs }) (fill_by_all (at c.modes_of-modes.result) _ 8 idle c.loop-n.invariant.long (λ k within. c.loop-n.invariant.done k (omega arith)))
    ∙ ap (λ ms. record { channels = map (at ms) (range_with_len 0 8) }) c.modes_of-modes.ensures
