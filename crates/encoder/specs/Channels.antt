-- One encoder.
use Rattle.std.specs.Prelude.{◌+◌, Bool, true, false, cond, not, ◌||◌, ◌==◌}
use Rattle.bits.specs.Numbers.{count_of}
use Rattle.bits.specs.declared.number.UpTo.{UpTo}
use Rattle.encoder.specs.declared.channel.Encoder.{Encoder}
use Rattle.encoder.specs.declared.turn.Levels.{Levels}
use Rattle.encoder.specs.declared.turn.Turn.{Turn}
use Rattle.encoder.specs.declared.turn.Turn.TheVariants.{Still, Up, Down, Lost}
use Rattle.encoder.specs.Turns.{turn}

abbrev pub fresh : Encoder
fresh = record {
  wires = record { a = false; b = false };
  sample = record { a = false; b = false };
  enabled = false;
  count = count_of 0;
  preset = count_of 0;
  latch = count_of 0;
  wrapped = false;
  lost = false;
}

abbrev pub preset_to : Encoder → UpTo 0xffffff → Encoder
preset_to e n = record e { preset = n }

abbrev pub wired : Encoder → Levels → Encoder
wired e levels = record e { wires = levels }

abbrev with_count : Encoder → UpTo 0xffffff → Bool → Encoder
with_count e n wraps = record e { count = n; wrapped = e.wrapped || wraps }

-- up from FFFFFF gives 0 and a carry, down from 0 gives FFFFFF and a borrow; a lost turn counts nothing
abbrev pub counted : Encoder → Turn → Encoder
counted e Still = e
counted e Up = with_count e (count_of (e.count.value + 1)) (e.count.value == 0xffffff)
counted e Down = with_count e (count_of (e.count.value + 0xffffff)) (e.count.value == 0)
counted e Lost = record e { lost = true }

abbrev sampled : Encoder → Encoder
sampled e = record e { sample = e.wires }

-- the wires have changed since the last sample
abbrev pub moved : Encoder → Bool
moved e = cond e.wires.a (not e.sample.a) e.sample.a || cond e.wires.b (not e.sample.b) e.sample.b

-- a tick: the sample is taken also while the encoder is off, when nothing counts
abbrev pub stepped : Encoder → Encoder
stepped e = counted (sampled e) (cond e.enabled (turn e.sample e.wires) Still)

abbrev pub with_latch : Encoder → Bool → Encoder
with_latch e latch = cond latch (record e { latch = e.count }) e

abbrev pub with_load : Encoder → Bool → Encoder
with_load e load = cond load (with_count e e.preset false) e

abbrev pub with_clear : Encoder → Bool → Encoder
with_clear e clear = cond clear (with_count e (count_of 0) false) e

-- a command: latch, load the preset, clear, in this order
abbrev pub commanded : Encoder → (latch load clear : Bool) → Encoder
commanded e latch load clear = with_clear (with_load (with_latch e latch) load) clear
