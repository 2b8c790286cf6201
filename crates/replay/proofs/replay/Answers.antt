use Rattle.std.proofs.Common.{◌++◌, vec_items, ap, ◌∙◌}
use Rattle.lines.specs.Records.{record_of}
use Rattle.replay.specs.Refusals.{answer_coded}
use Rattle.replay.proofs.Steps.{records_more, bench_more}
use Rattle.replay.proofs.replay.Goals as goal

pub loop-line-preserved : goal.loop-line-preserved
loop-line-preserved g c =
    let m = g.S.Station.meaning in
    let next = c.in-Some.ensures.steps in
    let told = c.replay_line-outcome.ensures in
    let bytes = c.recorded.ensures ∙ ap (λ o. record_of (answer_coded o)) told.value in
    let pushed = c.in_ok-extend_from_slice.ensures.items ∙ ap (λ r. vec_items c.loop-line.records ++ r) bytes in (
      records_more m _ _ _ _ _ _ _ _ c.loop-line.invariant.0 next told.after pushed,
      bench_more m _ _ _ _ _ _ c.loop-line.invariant.1 next told.after,
    )
