-- What rest means for a drive.
use Rattle.std.specs.Prelude.{◌≡◌, ℕ, true, ◌↔◌, pos, Ok}
use Rattle.station.specs.declared.call.Call.TheVariants.{Volts}
use Rattle.drive.specs.declared.motor.Drive.{Drive}
use Rattle.drive.specs.Drives.{drive}

-- it is at rest exactly if its set point is 0; a held drive is, and answers 0 volts
pub record Rest (d : Drive) (p : ℕ) : Type 0 where
  pub exact : ((drive.fact d p).rest ≡ true) ↔ (d.state.setpoint ≡ pos 0)
  pub held_still : (drive.fact d p).held ≡ true → d.state.setpoint ≡ pos 0
  pub held_silent : (drive.fact d p).held ≡ true → drive.answer d p (Volts 0) ≡ Ok (pos 0)
