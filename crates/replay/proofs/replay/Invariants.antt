use Rattle.std.proofs.Common.{◌≡◌, ◌++◌, vec_items}
use Rattle.lines.specs.Cuts.{lines}
use Rattle.replay.specs.Replays.{replayed, left_by}
use Rattle.replay.proofs.replay.Given as goal

-- the records so far, then those of the lines that are left, are the records of the whole
abbrev pub invariant-loop-line : goal.invariant-loop-line
invariant-loop-line g l =
    let m = g.S.Station.meaning in
    let left = lines l.line-iterator.rest.now in
    (replayed m l.initial.bench (lines l.trace) ≡ vec_items l.records ++ replayed m l.bench left) ×
    (left_by m l.initial.bench (lines l.trace) ≡ left_by m l.bench left)
