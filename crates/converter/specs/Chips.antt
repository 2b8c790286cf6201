-- A converter chip.
use Rattle.std.specs.Prelude.{ℕ, ◌+◌, ◌-◌, ◌%◌, Bool, true, false, cond, not, ◌&&◌, ◌||◌, List, replicate, ◌==◌, nat_lt, slice_index, slice_set}
use Rattle.converter.specs.declared.chip.Chip.{Chip}
use Rattle.converter.specs.declared.chip.Event.{Event}
use Rattle.converter.specs.declared.chip.Event.TheVariants.{Start, Tick}
use Rattle.converter.specs.declared.chip.Phase.{Phase}
use Rattle.converter.specs.declared.chip.Phase.TheVariants.{Idle, Converting}
use Rattle.converter.specs.Queues.{number, queue, extended}

abbrev pub fresh : Chip
fresh = record { phase = Idle; number = 0; samples = replicate 4 0; results = replicate 4 0; next = 0; ended = false; done = false }

abbrev with_phase : Chip → Phase → Chip
with_phase c p = record c { phase = p }

-- a start samples the selected channels and sets the read place to 0; old results stay. With none
-- selected nothing is converted, and nothing is told
abbrev pub started : Chip → ℕ → List ℕ → Chip
started c mask wires = record c {
  phase = cond (number mask == 0) Idle (Converting 0 80);
  number = number mask;
  samples = queue mask wires;
  next = 0;
}

-- a channel ends: its result goes to its place, and the next one begins, or all are done
abbrev pub ended_channel : Chip → ℕ → Chip
ended_channel c place = record c {
  phase = cond (nat_lt (place + 1) c.number) (Converting (place + 1) 80) Idle;
  results = slice_set c.results place (slice_index c.samples place);
  ended = true;
  done = c.done || not (nat_lt (place + 1) c.number);
}

-- a tick of a conversion, of which so many are left
abbrev pub advanced : Chip → ℕ → ℕ → Chip
advanced c place left = cond (nat_lt 1 left) (with_phase c (Converting place (left - 1))) (ended_channel c (place % 4))

abbrev pub ticked : Chip → Phase → Chip
ticked c Idle = c
ticked c (Converting place left) = advanced c place left

abbrev pub on : Chip → Event → Chip
on c (Start mask wires) = started c mask wires
on c Tick = ticked c c.phase

-- a read gives the result at its place, 0 where none was selected
abbrev pub read_of : Chip → ℕ
read_of c = cond (c.number == 0) 0 (extended (slice_index c.results (c.next % 4)))

-- and moves on, round the number of selected channels
abbrev pub moved_on : Chip → Chip
moved_on c = cond (c.number == 0) c (record c { next = (c.next % 4 + 1) % c.number })

abbrev pub cleared : Chip → Bool → Bool → Chip
cleared c ended done = record c { ended = c.ended && not ended; done = c.done && not done }
