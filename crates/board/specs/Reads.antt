-- What a register reads.
use Rattle.std.specs.Prelude.{ℕ, ◌+◌, ◌*◌, ◌%◌, Bool, true, false, not, Ok, Err, Result, slice_index_or}
use Rattle.bits.specs.Words.{weight}
use Rattle.converter.specs.Chips.{read_of, moved_on}
use Rattle.converter.specs.declared.chip.Phase.{Phase}
use Rattle.converter.specs.declared.chip.Phase.TheVariants.{Idle, Converting}
use Rattle.encoder.specs.Channels.{fresh}
use Rattle.encoder.specs.Each.{gathered, gathered_by}
use Rattle.guards.specs.Ports.{seen}
use Rattle.outputs.specs.Channels.{idle, modes}
use Rattle.outputs.specs.Modes.{bits_of}
use Rattle.station.specs.declared.refusal.Refusal.{Refusal}
use Rattle.station.specs.declared.refusal.Refusal.TheVariants.{WriteOnly}
use Rattle.board.specs.declared.parts.Board.{Board}
use Rattle.board.specs.declared.register.Register.{Register}
use Rattle.board.specs.declared.register.Register.TheVariants.{InterruptEnable, InterruptStatus, Control, Status, Preload, WatchdogControl, Digital, Direction, Results, Codes, Update, Modes, EncoderModes, EncoderCommand, Encoder}
use Rattle.board.specs.Boards.{held}

abbrev pub is_idle : Phase → Bool
is_idle Idle = true
is_idle (Converting place left) = false

-- an end in chip 0 and 1, all ends in chip 0 and 1
abbrev pub chip_bits : Board → ℕ
chip_bits b = weight b.low.chip.ended + 2 * weight b.high.chip.ended + 4 * weight b.low.chip.done + 8 * weight b.high.chip.done

-- IST: 0 to 7 carries and borrows, 8 to 15 errors, 16 to 19 the chips, 21 the watchdog, 22 the line, 23 the fuse
abbrev pub interrupts : Board → ℕ
interrupts b =
    gathered (λ e. e.wrapped) b.encoders + 0x100 * gathered (λ e. e.lost) b.encoders + 0x10000 * chip_bits b
    + 0x200000 * (weight b.watchdog.rose + 2 * weight b.sense.fell + 4 * weight b.fuse.blown)

-- CTL: 0 EXT_ACT, 8 to 11 and 16 to 19 the selects; the starts read 0
abbrev pub control : Board → ℕ
control b = weight b.sense.active + 0x100 * b.low.select + 0x10000 * b.high.select

-- STS: 0 and 1 a chip is idle, 4 the fuse and 5 the line as last sampled, 8 the watchdog's output, 9 held
abbrev pub status : Board → ℕ
status b =
    weight (is_idle b.low.chip.phase) + 2 * weight (is_idle b.high.chip.phase)
    + 0x10 * (weight b.fuse.sample + 2 * weight (not b.sense.high))
    + 0x100 * (weight b.watchdog.output + 2 * weight (held b))

-- CCT: 8 EN, 14 ACT, 15 SEL; LD reads 0
abbrev pub guard : Board → ℕ
guard b = 0x100 * weight b.watchdog.enabled + 0x4000 * weight b.watchdog.active + 0x8000 * weight b.watchdog.selected

-- a read of the codes gives the latches
abbrev pub codes_at : Board → ℕ → ℕ
codes_at b n = (slice_index_or b.outputs.channels n idle).latch.value + 0x10000 * (slice_index_or b.outputs.channels (4 + n) idle).latch.value

abbrev pub preset_latch : Board → ℕ → ℕ
preset_latch b n = (slice_index_or b.encoders n fresh).latch.value

-- one read gives the results of both chips
abbrev pub results : Board → ℕ × ℕ
results b = (read_of b.low.chip, read_of b.high.chip)

abbrev pub fetched : Board → Register → Result ℕ Refusal
fetched b InterruptEnable = Ok b.enabled
fetched b InterruptStatus = Ok (interrupts b)
fetched b Control = Ok (control b)
fetched b Status = Ok (status b)
fetched b Preload = Ok b.watchdog.preload
fetched b WatchdogControl = Ok (guard b)
fetched b Digital = Ok (seen b.port)
fetched b Direction = Ok b.port.direction
fetched b Results = Ok ((results b).0 + 0x10000 * (results b).1)
fetched b (Codes pair) = Ok (codes_at b (pair % 4))
fetched b Update = Err WriteOnly
fetched b Modes = Ok (bits_of (modes b.outputs))
fetched b EncoderModes = Ok (gathered_by 16 (λ e. e.enabled) b.encoders)
fetched b EncoderCommand = Err WriteOnly
fetched b (Encoder n) = Ok (preset_latch b (n % 8))

-- a read of the results moves both chips on
abbrev pub after_read : Board → Register → Board
after_read b Results = record b { low = record b.low { chip = moved_on b.low.chip }; high = record b.high { chip = moved_on b.high.chip } }
after_read b r = b
