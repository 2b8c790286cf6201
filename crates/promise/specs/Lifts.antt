-- The chain of a lift machine.
use Rattle.station.specs.Meaning.{Meaning}
use Rattle.station.specs.Pair.{pair}
use Rattle.station.specs.declared.joined.Joined.{Joined}
use Rattle.card.specs.Cards.{card, fresh_card}
use Rattle.card.specs.declared.whole.Card.{Card}
use Rattle.drive.specs.Drives.{drive, fresh as fresh_drive}
use Rattle.drive.specs.declared.motor.Drive.{Drive}
use Rattle.promise.specs.Whole.{StandsAt}

abbrev pub Lift : Type 0
Lift = Joined Card (Joined Drive Card)

abbrev pub lift : Meaning Lift
lift = pair card (pair drive card)

abbrev pub fresh_lift : Lift
fresh_lift = record { first = fresh_card; second = record { first = fresh_drive; second = fresh_card } }

-- which of its parts stands at which place
pub record Placed : Type 0 where
  pub tray : StandsAt lift card (λ s. s.first) 0
  pub motor : StandsAt lift drive (λ s. s.second.first) 1
  pub doors : StandsAt lift card (λ s. s.second.second) 2
