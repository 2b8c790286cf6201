-- All parts of a card, and one tick of them.
use Rattle.std.specs.Prelude.{Bool, ◌&&◌, ◌||◌, replicate}
use Rattle.converter.specs.Chips.{on}
use Rattle.converter.specs.Inputs.{fresh_inputs}
use Rattle.converter.specs.declared.chip.Event.TheVariants.{Tick}
use Rattle.encoder.specs.Channels.{fresh as fresh_encoder}
use Rattle.encoder.specs.Each.{each, with_step}
use Rattle.guards.specs.Fuses.{fresh_fuse, sampled}
use Rattle.guards.specs.Ports.{fresh_port}
use Rattle.guards.specs.Senses.{fresh_sense, heard}
use Rattle.guards.specs.Watchdogs.{fresh_watchdog, ran}
use Rattle.outputs.specs.Channels.{silent}
use Rattle.board.specs.declared.parts.Board.{Board}

abbrev pub fresh : Board
fresh = record {
  enabled = 0;
  watchdog = fresh_watchdog;
  sense = fresh_sense;
  fuse = fresh_fuse;
  port = fresh_port;
  outputs = silent;
  low = fresh_inputs;
  high = fresh_inputs;
  encoders = replicate 8 fresh_encoder;
}

-- a cause to hold the card: WD with ACT, EXT with EXT_ACT, or FUSE
abbrev pub held : Board → Bool
held b = (b.watchdog.rose && b.watchdog.active) || ((b.sense.fell && b.sense.active) || b.fuse.blown)

-- one tick, in its order; the parts do not touch each other
abbrev pub ticked : Board → Bool → Board
ticked b level = record b {
  sense = heard b.sense level;
  fuse = sampled b.fuse;
  watchdog = ran b.watchdog;
  low = record b.low { chip = on b.low.chip Tick };
  high = record b.high { chip = on b.high.chip Tick };
  encoders = each with_step 0 b.encoders;
}
