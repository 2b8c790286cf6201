-- What a write makes of the board.
use Rattle.std.specs.Prelude.{ℕ, ◌/◌, ◌%◌, List, slice_index_or, slice_set}
use Rattle.bits.specs.Numbers.{count_of}
use Rattle.bits.specs.Words.{bit}
use Rattle.converter.specs.Chips.{cleared}
use Rattle.converter.specs.Inputs.{controlled as select}
use Rattle.encoder.specs.Channels.{fresh, preset_to}
use Rattle.encoder.specs.Each.{each, with_command, with_enable, with_cleared}
use Rattle.encoder.specs.declared.channel.Encoder.{Encoder as Channel}
use Rattle.guards.specs.Fuses.{cleared_fuse}
use Rattle.guards.specs.Ports.{with_latch, with_direction}
use Rattle.guards.specs.Senses.{with_active, cleared_fall}
use Rattle.guards.specs.Watchdogs.{with_preload, cleared_rise, controlled as set_watchdog}
use Rattle.guards.specs.declared.port.Port.{Port}
use Rattle.guards.specs.declared.watchdog.Watchdog.{Watchdog}
use Rattle.outputs.specs.Channels.{updated, latched, moded as modes_set}
use Rattle.outputs.specs.declared.channels.Outputs.{Outputs}
use Rattle.board.specs.declared.parts.Board.{Board}
use Rattle.board.specs.declared.register.Register.{Register}
use Rattle.board.specs.declared.register.Register.TheVariants.{InterruptEnable, InterruptStatus, Control, Status, Preload, WatchdogControl, Digital, Direction, Results, Codes, Update, Modes, EncoderModes, EncoderCommand, Encoder}

abbrev pub with_enabled : Board → ℕ → Board
with_enabled b value = record b { enabled = value }

abbrev pub with_watchdog : Board → Watchdog → Board
with_watchdog b w = record b { watchdog = w }

abbrev pub with_port : Board → Port → Board
with_port b p = record b { port = p }

abbrev pub with_outputs : Board → Outputs → Board
with_outputs b o = record b { outputs = o }

abbrev pub with_encoders : Board → List Channel → Board
with_encoders b es = record b { encoders = es }

-- IST: a 1 clears; 0 to 7 carries and borrows, 8 to 15 errors, 16 and 17 an end, 18 and 19 all ends of a chip,
-- 21 the watchdog, 22 the line, 23 the fuse
abbrev pub status_cleared : Board → ℕ → Board
status_cleared b value = record b {
  watchdog = cleared_rise b.watchdog (bit value 21);
  sense = cleared_fall b.sense (bit value 22);
  fuse = cleared_fuse b.fuse (bit value 23);
  low = record b.low { chip = cleared b.low.chip (bit value 16) (bit value 18) };
  high = record b.high { chip = cleared b.high.chip (bit value 17) (bit value 19) };
  encoders = each (with_cleared value) 0 b.encoders;
}

-- CTL: 0 EXT_ACT, 8 to 11 and 16 to 19 the selects, all stored before 6 and 7 start the chips
abbrev pub controlled : Board → ℕ → Board
controlled b value = record b {
  sense = with_active b.sense (bit value 0);
  low = select b.low (value / 0x100 % 16) (bit value 6);
  high = select b.high (value / 0x10000 % 16) (bit value 7);
}

-- CCT: 8 EN, 12 LD, 14 ACT, 15 SEL
abbrev pub guarded : Board → ℕ → Board
guarded b value = with_watchdog b (set_watchdog b.watchdog (record { enabled = bit value 8; load = bit value 12; active = bit value 14; selected = bit value 15 }))

abbrev pub moded : Board → ℕ → Board
moded b value = with_outputs b (modes_set b.outputs value)

abbrev pub enabled_encoders : Board → ℕ → Board
enabled_encoders b value = with_encoders b (each (with_enable value) 0 b.encoders)

abbrev pub commanded : Board → ℕ → Board
commanded b value = with_encoders b (each (with_command value) 0 b.encoders)

abbrev pub with_preset : Board → ℕ → ℕ → Board
with_preset b n value = with_encoders b (slice_set b.encoders n (preset_to (slice_index_or b.encoders n fresh) (count_of value)))

abbrev pub written : Board → Register → ℕ → Board
written b InterruptEnable value = with_enabled b value
written b InterruptStatus value = status_cleared b value
written b Control value = controlled b value
written b Status value = b
written b Preload value = with_watchdog b (with_preload b.watchdog value)
written b WatchdogControl value = guarded b value
written b Digital value = with_port b (with_latch b.port value)
written b Direction value = with_port b (with_direction b.port value)
written b Results value = b
written b (Codes pair) value = with_outputs b (latched b.outputs (pair % 4) value)
written b Update value = with_outputs b (updated b.outputs)
written b Modes value = moded b value
written b EncoderModes value = enabled_encoders b value
written b EncoderCommand value = commanded b value
written b (Encoder n) value = with_preset b (n % 8) value
