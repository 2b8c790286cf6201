use Rattle.std.proofs.Common.{vec_items}
use Rattle.lines.specs.Cuts.{lines}
use Rattle.account.specs.Watches.{view}
use Rattle.account.proofs.Told.{Sofar}
use Rattle.account.proofs.account_of.Given as goal

abbrev pub invariant-loop-line : goal.invariant-loop-line
invariant-loop-line g l =
    Sofar g.S.Station.meaning l.initial.watch.bench (lines l.trace) (view l.initial.watch) (vec_items l.outcomes) (view l.watch) (lines l.line-iterator.rest.now)
