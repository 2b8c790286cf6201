-- The wires of a card.
use Rattle.std.specs.Prelude.{ℕ, ◌-◌, ◌%◌, cond, Some, None, Ok, Err, Option, Result, ◌==◌, nat_lt, slice_index_or, slice_set}
use Rattle.bits.specs.Words.{bit}
use Rattle.encoder.specs.Channels.{fresh, wired as levels_set}
use Rattle.converter.specs.Inputs.{with_wire}
use Rattle.guards.specs.Fuses.{with_wire as fuse_wired}
use Rattle.guards.specs.Ports.{with_wires}
use Rattle.guards.specs.declared.fuse.Fuse.{Fuse as FusePart}
use Rattle.station.specs.declared.refusal.Refusal.{Refusal}
use Rattle.station.specs.declared.refusal.Refusal.TheVariants.{NotAllowed}
use Rattle.board.specs.declared.parts.Board.{Board}
use Rattle.board.specs.declared.wires.Wire.{Wire}
use Rattle.board.specs.declared.wires.Wire.TheVariants.{Analog, Digital, Encoder, Fuse}
use Rattle.board.specs.Writes.{with_port, with_encoders}

-- 00 to 07 analog, 08 digital, 09 to 10 the encoders, 12 the fuse (hexadecimal)
abbrev pub wire_numbered : ℕ → Option Wire
wire_numbered n = cond (nat_lt n 8) (Some (Analog n)) (cond (n == 8) (Some Digital) (cond (nat_lt n 0x11) (Some (Encoder (n - 9))) (cond (n == 0x12) (Some Fuse) None)))

abbrev pub with_fuse : Board → FusePart → Board
with_fuse b f = record b { fuse = f }

abbrev pub with_analog : Board → ℕ → ℕ → Board
with_analog b n code = cond (nat_lt n 4)
    (record b { low = with_wire b.low n code })
    (record b { high = with_wire b.high (n - 4) code })

abbrev pub with_levels : Board → ℕ → ℕ → Board
with_levels b n level = with_encoders b (slice_set b.encoders n (levels_set (slice_index_or b.encoders n fresh) (record { a = bit level 0; b = bit level 1 })))

-- a level that is too wide for its wire is refused
abbrev pub wired : Board → Wire → ℕ → Result Board Refusal
wired b (Analog n) level = cond (nat_lt level 0x4000) (Ok (with_analog b (n % 8) level)) (Err NotAllowed)
wired b Digital level = Ok (with_port b (with_wires b.port level))
wired b (Encoder n) level = cond (nat_lt level 4) (Ok (with_levels b (n % 8) level)) (Err NotAllowed)
wired b Fuse level = cond (nat_lt level 2) (Ok (with_fuse b (fuse_wired b.fuse (level == 1)))) (Err NotAllowed)
