-- The hold.
use Rattle.std.specs.Prelude.{Bool, true, cond, ◌&&◌, ◌==◌}
use Rattle.board.specs.Boards.{held}
use Rattle.board.specs.declared.parts.Board.{Board}
use Rattle.guards.specs.Ports.{with_direction}
use Rattle.outputs.specs.Channels.{silent, hushed}

-- a card that is held has codes, latches, modes and direction 0
abbrev pub quiet : Board → Bool
quiet b = cond (held b) (hushed b.outputs && b.port.direction == 0) true

-- a standing cause puts them to 0; the digital latch stays
abbrev pub hold : Board → Board
hold b = record b { port = cond (held b) (with_direction b.port 0) b.port; outputs = cond (held b) silent b.outputs }
