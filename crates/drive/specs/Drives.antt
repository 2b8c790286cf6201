-- The drive as a station.
use Rattle.std.specs.Prelude.{◌≡◌, ℕ, Bool, true, false, cond, not, ℤ, pos, Ok, Err, Result, ◌==◌, refl}
use Rattle.station.specs.Meaning.{Meaning, Value}
use Rattle.station.specs.declared.call.Call.{Call}
use Rattle.station.specs.declared.call.Call.TheVariants.{Read, Write, Wire, Volts, Acknowledge, Preload, Arm, Kick}
use Rattle.station.specs.declared.refusal.Refusal.{Refusal}
use Rattle.station.specs.declared.refusal.Refusal.TheVariants.{NoSuch}
use Rattle.drive.specs.declared.motor.Drive.{Drive}
use Rattle.drive.specs.declared.register.Register.{Register}
use Rattle.drive.specs.declared.register.Register.TheVariants.{Listen, Fall}
use Rattle.drive.specs.declared.state.State.{State}
use Rattle.drive.specs.Quiet.{quiet}
use Rattle.drive.specs.Registers.{numbered, flag}
use Rattle.drive.specs.States.{still, line, seen, halted, passed, after, written, wired, fetched}

halts : (latch : Bool) (z : ℤ) → cond latch (still (cond latch (pos 0) z)) true ≡ true
halts true z = refl
halts false z = refl

pub halted_quiet : (s : State) → quiet (halted s) ≡ true
halted_quiet s = halts s.latch s.setpoint

unfoldable pub settled : State → Drive
settled s = record { state = halted s; rests = halted_quiet s }

-- a new drive: all 0, and the line last heard high
abbrev pub fresh : Drive
fresh = settled (record { setpoint = pos 0; listen = false; latch = false; heard = true; stopped = false; stop = false })

-- what comes of an accepted call, and of a refused one
abbrev pub became : Drive → Result State Refusal → Drive
became d (Ok s) = settled s
became d (Err e) = d

abbrev pub called : Drive → Call → Drive
called d (Write register value) = became d (written d.state (numbered register) value)
called d (Wire wire level) = became d (wired d.state wire level)
called d c = d

-- accepted, with nothing to tell
abbrev pub done : Result State Refusal → Result (Unit {0}) Refusal
done r = after (λ _. tt) r

abbrev pub answered : State → (c : Call) → Result (Value c) Refusal
answered s (Read register) = fetched s (numbered register)
answered s (Write register value) = done (written s (numbered register) value)
answered s (Wire wire level) = done (wired s wire level)
answered s (Volts channel) = cond (channel == 0) (Ok s.setpoint) (Err NoSuch)
answered s (Acknowledge bits) = Ok tt
answered s (Preload ticks) = Err NoSuch
answered s Arm = Err NoSuch
answered s Kick = Err NoSuch

-- whether an accepted flag differs from the one that stands
abbrev pub changes : Result Bool Refusal → Bool → Bool
changes (Ok b) old = cond b (not old) old
changes (Err e) old = false

-- the guard calls: a write that changes LISTEN, and one of 1 to the fall latch
abbrev pub guarding : State → Result Register Refusal → ℕ → Bool
guarding s (Ok Listen) value = changes (flag value) s.listen
guarding s (Ok Fall) value = value == 1
guarding s r value = false

abbrev pub guards : State → Call → Bool
guards s (Write register value) = guarding s (numbered register) value
guards s c = false

abbrev pub drive : Meaning Drive
drive = record {
  size = λ d. 1;
  fact = λ d k. seen d.state;
  stop_wire = λ d k. 0;
  sends = λ d. line d.state;
  ticked = λ d hears. settled (passed d.state hears);
  called = λ d p c. called d c;
  answer = λ d p c. answered d.state c;
  guards = λ d p c. guards d.state c;
}
