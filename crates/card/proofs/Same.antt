-- Two cards with their parts in one state are one card.
use Rattle.std.proofs.Common.{◌≡◌, true}
use mathlib.Core.Bool.{Bool-set}
use mathlib.Core.HLevel.{is_prop→PathP}
use Rattle.card.specs.declared.whole.Card.{Card}
use Rattle.card.specs.Quiet.{quiet}

pub same_card : (c d : Card) → c.board ≡ d.board → c ≡ d
same_card c d p = λ i. record { board = p i; held_rests = is_prop→PathP (λ j. quiet (p j) ≡ true) (λ j. Bool-set (quiet (p j)) true) c.held_rests d.held_rests i }
