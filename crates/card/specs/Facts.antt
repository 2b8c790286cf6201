-- The eight facts of a card.
use Rattle.std.specs.Prelude.{Bool, cond, not, ◌&&◌, ◌||◌, ◌==◌, bit_and}
use Rattle.board.specs.Boards.{held}
use Rattle.board.specs.Reads.{interrupts}
use Rattle.board.specs.declared.parts.Board.{Board}
use Rattle.guards.specs.Watchdogs.{armed, due}
use Rattle.outputs.specs.Channels.{at_rest}
use Rattle.station.specs.declared.facts.Facts.{Facts}

-- with SEL the line is low exactly while the card is held; without, it is the watchdog's output
abbrev pub line : Board → Bool
line b = cond b.watchdog.selected (not (held b)) b.watchdog.output

abbrev pub passes : Board → Bool
passes b = b.sense.active && b.watchdog.selected

-- it passes, is not held, has last heard high, and its watchdog is off or armed
abbrev pub ready : Board → Bool
ready b = passes b && not (held b) && b.sense.high && (not (b.watchdog.enabled && b.watchdog.active) || armed b.watchdog)

-- zero volts on all eight channels, and no digital line driven
abbrev pub rest : Board → Bool
rest b = at_rest b.outputs && b.port.direction == 0

abbrev pub seen : Board → Facts
seen b = record {
  held = held b;
  rest = rest b;
  passes = passes b;
  line = line b;
  ready = ready b;
  due = due b.watchdog;
  stop = b.fuse.wire;
  pending = bit_and b.enabled (interrupts b);
}
