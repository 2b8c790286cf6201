-- A bench that is watched: when each of its places came to rest.
use Rattle.std.specs.Prelude.{ℕ, zero, suc, ◌+◌, min, Bool, cond, List, [], ◌∷◌, ◌++◌, Some, None, Ok, Err, vec_items, Option, Result, nat_lt}
use Rattle.station.specs.Meaning.{Meaning}
use Rattle.lines.specs.declared.command.Command.{Command}
use Rattle.lines.specs.declared.malformed.Malformed.{Malformed}
use Rattle.replay.specs.Replays.{request}
use Rattle.bench.specs.Calls.{looked, performed, places}
use Rattle.bench.specs.declared.request.Request.{Request}
use Rattle.bench.specs.Ticks.{ticks_until}
use Rattle.bench.specs.declared.request.Request.TheVariants.{Read, Write, Wire, Run, Until, Take, Acknowledge, Volts, Preload, Arm, Kick}
use Rattle.station.specs.declared.facts.Facts.{Facts}
use Rattle.bench.specs.declared.refusal.Refusal.{Refusal}
use Rattle.bench.specs.declared.Bench.{Bench}
use Rattle.account.specs.declared.row.Row.{Row}
use Rattle.account.specs.declared.watch.Watch.{Watch}
use Rattle.account.specs.Rows.{begun_row, seen, passed_on}

-- the rows of the places from k on, the first of which hears a level or nothing
unfoldable pub rows_after : {S : Type 0} → Meaning S → Bench S → ℕ → Option Bool → ℕ → List Row → List Row
rows_after m b tick hears k [] = []
rows_after m b tick hears k (row ∷ rows) = seen row tick hears (looked m b k) ∷ rows_after m b tick (passed_on row hears) (k + 1) rows

-- what a watch holds
pub record View (S : Type 0) : Type 0 where
  pub bench : Bench S
  pub ticks : ℕ
  pub rows : List Row

abbrev pub view : {S : Type 0} → Watch S → View S
view w = record { bench = w.bench; ticks = w.ticks; rows = vec_items w.rows }

-- the first rows of n places from k on
abbrev pub first_row : Result Facts Refusal → List Row
first_row (Ok facts) = begun_row facts ∷ []
first_row (Err e) = []

unfoldable pub first_rows : {S : Type 0} → Meaning S → Bench S → ℕ → ℕ → List Row
first_rows m b k zero = []
first_rows m b k (suc n) = first_row (looked m b k) ++ first_rows m b (k + 1) n

abbrev pub begun : {S : Type 0} → Meaning S → Bench S → View S
begun m b = record { bench = b; ticks = 0; rows = first_rows m b 0 (places m b) }

-- the count of ticks, which stops at the largest number of 64 bits
abbrev pub next_tick : ℕ → ℕ
next_tick n = min (n + 1) 0xffff_ffff_ffff_ffff

-- what is seen once the bench has become b, after a tick at a level or after a call
abbrev pub seeing : {S : Type 0} → Meaning S → Bench S → ℕ → Option Bool → View S → View S
seeing m b ticks told v = record { bench = b; ticks = ticks; rows = rows_after m b ticks told 0 v.rows }

abbrev pub tick_view : {S : Type 0} → Meaning S → Bool → View S → View S
tick_view m level v = seeing m (performed m v.bench (Run level 1)) (next_tick v.ticks) (Some level) v

unfoldable pub run_view : {S : Type 0} → Meaning S → Bool → ℕ → View S → View S
run_view m level zero v = v
run_view m level (suc n) v = run_view m level n (tick_view m level v)

-- a request: ticks are seen one by one, any other call once it is done
abbrev pub call_view : {S : Type 0} → Meaning S → Request → View S → View S
call_view m q v = seeing m (performed m v.bench q) v.ticks None v

abbrev pub request_view : {S : Type 0} → Meaning S → Request → View S → View S
request_view m (Read place register) v = call_view m (Read place register) v
request_view m (Write place register value) v = call_view m (Write place register value) v
request_view m (Wire place wire level) v = call_view m (Wire place wire level) v
request_view m (Run level count) v = cond (nat_lt 1000000 count) (call_view m (Run level count) v) (run_view m level count v)
request_view m (Until level count) v = cond (nat_lt 1000000 count) (call_view m (Until level count) v) (run_view m level (ticks_until m v.bench.chain level count) v)
request_view m (Take place) v = call_view m (Take place) v
request_view m (Acknowledge place bits) v = call_view m (Acknowledge place bits) v
request_view m (Volts place channel) v = call_view m (Volts place channel) v
request_view m (Preload place ticks) v = call_view m (Preload place ticks) v
request_view m (Arm place) v = call_view m (Arm place) v
request_view m (Kick place) v = call_view m (Kick place) v

abbrev pub line_view : {S : Type 0} → Meaning S → Result Command Malformed → View S → View S
line_view m (Ok c) v = request_view m (request c) v
line_view m (Err e) v = v
