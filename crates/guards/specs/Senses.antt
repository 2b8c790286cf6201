-- What a card hears of the stop line.
use Rattle.std.specs.Prelude.{Bool, true, false, not, ◌&&◌, ◌||◌}
use Rattle.guards.specs.declared.sense.Sense.{Sense}

abbrev pub fresh_sense : Sense
fresh_sense = record { high = true; fell = false; active = false }

-- a fall is an edge: high at the tick before, low now
abbrev pub heard : Sense → Bool → Sense
heard s level = record s { high = level; fell = s.fell || (s.high && not level) }

abbrev pub with_active : Sense → Bool → Sense
with_active s active = record s { active = active }

abbrev pub cleared_fall : Sense → Bool → Sense
cleared_fall s clear = record s { fell = s.fell && not clear }
