use Rattle.std.proofs.Common.{◌≡◌, true, sym, subst}
use Rattle.board.specs.Writes.{with_watchdog}
use Rattle.card.specs.Cards.{settled, hold_quiet}
use Rattle.card.specs.Quiet.{quiet}
use Rattle.card.proofs.Same.{same_card}
use Rattle.guards.specs.Watchdogs.{with_preload}
use Rattle.card.proofs.calls.CardStation.preload.Goals as goal

pub invariant_of-self : goal.invariant_of-self
invariant_of-self c = record { held_rests = subst (λ b. quiet b ≡ true) (sym c.preload_board.ensures) (hold_quiet (with_watchdog c.args.self.now.board (with_preload c.args.self.now.board.watchdog c.args.ticks))) }

pub returns-clause-after : goal.returns-clause-after
unfolding settled
returns-clause-after c = same_card _ _ c.preload_board.ensures
