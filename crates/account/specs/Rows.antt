-- What is noted of a place. `hears` is the level that it hears in a tick, and none at a call.
use Rattle.std.specs.Prelude.{ℕ, Bool, true, false, cond, not, ◌&&◌, ◌||◌, Some, None, Ok, Err, Option, Result}
use Rattle.bench.specs.declared.refusal.Refusal.{Refusal}
use Rattle.station.specs.Rules.{due_now}
use Rattle.station.specs.declared.facts.Facts.{Facts}
use Rattle.account.specs.declared.row.Rest.{Rest}
use Rattle.account.specs.declared.row.Row.{Row}

-- the first row of a place: the line is taken to have been high
abbrev pub begun_row : Facts → Row
begun_row facts = record { facts = facts; heard = true; rest = cond facts.held (Some (record { tick = 0; due = false; stop = false; line = false })) None }

-- what a place could see of why it comes to rest at a tick: its due, its stop, and a fall of the line if it
-- passes or sees nothing else
abbrev pub caused : Row → ℕ → Option Bool → Rest
caused row tick (Some level) = record {
  tick = tick;
  due = due_now row.facts.due;
  stop = row.facts.stop;
  line = (row.heard && not level) && (row.facts.passes || not (due_now row.facts.due || row.facts.stop));
}
caused row tick None = record { tick = tick; due = false; stop = false; line = false }

abbrev or_else : Option Bool → Bool → Bool
or_else (Some b) old = b
or_else None old = old

-- a place that is held has been at rest since it was first seen so
abbrev pub noted : Row → ℕ → Option Bool → Facts → Row
noted row tick hears facts = record {
  facts = facts;
  heard = or_else hears row.heard;
  rest = cond facts.held (cond row.facts.held row.rest (Some (caused row tick hears))) None;
}

abbrev pub seen : Row → ℕ → Option Bool → Result Facts Refusal → Row
seen row tick hears (Ok facts) = noted row tick hears facts
seen row tick hears (Err e) = row

-- what the next place hears
abbrev pub passed_on : Row → Option Bool → Option Bool
passed_on row (Some level) = Some row.facts.line
passed_on row None = None
