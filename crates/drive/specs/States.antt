-- What a drive does.
use Rattle.std.specs.Prelude.{ℕ, Bool, false, cond, not, ◌&&◌, ◌||◌, ℤ, pos, negsuc, None, Ok, Err, Result, ◌==◌}
use Rattle.station.specs.declared.facts.Facts.{Facts}
use Rattle.station.specs.declared.refusal.Refusal.{Refusal}
use Rattle.station.specs.declared.refusal.Refusal.TheVariants.{NoSuch}
use Rattle.drive.specs.declared.register.Register.{Register}
use Rattle.drive.specs.declared.register.Register.TheVariants.{Setpoint, Listen, Fall}
use Rattle.drive.specs.declared.state.State.{State}
use Rattle.drive.specs.Registers.{bit, bits16, flag, word}

-- at rest: the set point is 0
abbrev pub still : ℤ → Bool
still (pos n) = n == 0
still (negsuc n) = false

-- the level sent on: high unless the drive listens and is held
abbrev pub line : State → Bool
line s = not (s.listen && s.latch)

-- the eight facts
abbrev pub seen : State → Facts
seen s = record {
  held = s.latch;
  rest = still s.setpoint;
  passes = s.listen;
  line = line s;
  ready = s.listen && (not s.latch && s.heard);
  due = None;
  stop = s.stop;
  pending = 0;
}

-- a tick: the latch is set by the stop, or by a fall of the line where the drive listens
abbrev pub passed : State → Bool → State
passed s hears = record s {
  latch = s.latch || (s.stop || (s.listen && (s.heard && not hears)));
  heard = hears;
  stopped = s.stop;
}

abbrev pub with_setpoint : State → ℤ → State
with_setpoint s z = record s { setpoint = z }

-- a set latch puts the set point to 0
abbrev pub halted : State → State
halted s = with_setpoint s (cond s.latch (pos 0) s.setpoint)

abbrev pub with_listen : State → Bool → State
with_listen s b = record s { listen = b }

-- a 1 clears the latch, unless stop was last sampled
abbrev pub cleared : State → Bool → State
cleared s one = record s { latch = s.latch && (not one || s.stopped) }

abbrev pub with_stop : State → Bool → State
with_stop s b = record s { stop = b }

abbrev pub after : {A B : Type 0} → (A → B) → Result A Refusal → Result B Refusal
after f (Ok a) = Ok (f a)
after f (Err e) = Err e

abbrev pub written : State → Result Register Refusal → ℕ → Result State Refusal
written s (Ok Setpoint) value = after (with_setpoint s) (word value)
written s (Ok Listen) value = after (with_listen s) (flag value)
written s (Ok Fall) value = after (cleared s) (flag value)
written s (Err e) value = Err e

-- the stop wire is wire 0
abbrev pub wired : State → ℕ → ℕ → Result State Refusal
wired s wire level = cond (wire == 0) (after (with_stop s) (flag level)) (Err NoSuch)

-- what a register reads
abbrev pub fetched : State → Result Register Refusal → Result ℕ Refusal
fetched s (Ok Setpoint) = Ok (bits16 s.setpoint)
fetched s (Ok Listen) = Ok (bit s.listen)
fetched s (Ok Fall) = Ok (bit s.latch)
fetched s (Err e) = Err e
