-- What a card and a drive at rest put out.
use Rattle.std.specs.Prelude.{◌≡◌, ℕ, ◌<◌, pos, Ok}
use Rattle.station.specs.declared.call.Call.TheVariants.{Volts}
use Rattle.card.specs.Cards.{card}
use Rattle.card.specs.declared.whole.Card.{Card}
use Rattle.drive.specs.Drives.{drive}
use Rattle.drive.specs.declared.motor.Drive.{Drive}

-- zero volts on all eight channels, and every digital line an input, so that it drives none low
pub record StillCard (c : Card) : Type 0 where
  pub volts : (n : ℕ) → n < 8 → card.answer c 0 (Volts n) ≡ Ok (pos 0)
  pub direction : c.board.port.direction ≡ 0

-- zero on its one channel
pub record StillDrive (d : Drive) : Type 0 where
  pub volts : drive.answer d 0 (Volts 0) ≡ Ok (pos 0)
