-- The account of a trace.
use Rattle.std.specs.Prelude.{◌≡◌, ℕ, List, [], ◌∷◌, length, vec_items}
use Rattle.station.specs.Meaning.{Meaning}
use Rattle.bench.specs.Calls.{places}
use Rattle.bench.specs.Trails.{trail}
use Rattle.bench.specs.declared.Bench.{Bench}
use Rattle.lines.specs.Lines.{decoded}
use Rattle.replay.specs.Replays.{Outcome, line_told, after_line, asked, left_by}
use Rattle.account.specs.declared.Account.{Account}
use Rattle.account.specs.Sinces.{AllTell}
use Rattle.account.specs.Watches.{View, view, begun, line_view}

-- what came of each line
unfoldable pub told : {S : Type 0} → Meaning S → Bench S → List (List ℕ) → List Outcome
told m b [] = []
told m b (l ∷ ls) = line_told m b (decoded l) ∷ told m (after_line m b (decoded l)) ls

-- what was seen in all the lines
unfoldable pub lines_view : {S : Type 0} → Meaning S → List (List ℕ) → View S → View S
lines_view m [] v = v
lines_view m (l ∷ ls) v = lines_view m ls (line_view m (decoded l) v)

-- the account tells what came of each line and what was seen, of the bench that the same lines lead to unwatched; there
-- is a row for each place that has an address, which tells since when the place is held, without a break
pub record Accounts {S : Type 0} (m : Meaning S) (b : Bench S) (ls : List (List ℕ)) (a : Account S) : Type 0 where
  pub outcomes : vec_items a.outcomes ≡ told m b ls
  pub seen : view a.watch ≡ lines_view m ls (begun m b)
  pub bench : a.watch.bench ≡ left_by m b ls
  pub every_place : length (vec_items a.watch.rows) ≡ places m b
  pub since : AllTell m b.chain (trail m b (asked ls)) 0 (vec_items a.watch.rows)
