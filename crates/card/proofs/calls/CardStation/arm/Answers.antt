use Rattle.std.proofs.Common.{◌≡◌, true, sym, subst}
use Rattle.card.specs.Cards.{settled, armed_board, hold_quiet}
use Rattle.card.specs.Quiet.{quiet}
use Rattle.card.proofs.Same.{same_card}
use Rattle.card.proofs.calls.CardStation.arm.Goals as goal

pub invariant_of-self : goal.invariant_of-self
invariant_of-self c = record { held_rests = subst (λ b. quiet b ≡ true) (sym c.arm_board.ensures) (hold_quiet (armed_board c.args.self.now.board)) }

pub returns-clause-after : goal.returns-clause-after
unfolding settled
returns-clause-after c = same_card _ _ c.arm_board.ensures
