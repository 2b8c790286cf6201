-- A drive whose latch is set is at rest.
use Rattle.std.specs.Prelude.{Bool, true, cond}
use Rattle.drive.specs.declared.state.State.{State}
use Rattle.drive.specs.States.{still}

abbrev pub quiet : State → Bool
quiet s = cond s.latch (still s.setpoint) true
