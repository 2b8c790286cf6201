use Rattle.std.proofs.Common.{◌≡◌, true, sym, subst}
use Rattle.board.specs.Boards.{ticked}
use Rattle.card.specs.Cards.{settled, hold_quiet}
use Rattle.card.specs.Quiet.{quiet}
use Rattle.card.proofs.Same.{same_card}
use Rattle.card.proofs.calls.CardStation.tick.Goals as goal

pub invariant_of-self : goal.invariant_of-self
invariant_of-self c = record { held_rests = subst (λ b. quiet b ≡ true) (sym c.tick_board.ensures) (hold_quiet (ticked c.args.self.now.board c.args.level)) }

pub returns : goal.returns
unfolding settled
returns c = same_card _ _ c.tick_board.ensures
