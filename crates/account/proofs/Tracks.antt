-- A watched bench follows the trail of its requests.
use Rattle.std.proofs.Common.{◌≡◌, ℕ, zero, suc, ◌+◌, ◌≤◌, min, Bool, true, false, cond, ltb, ◌⊎◌, List, [], ◌∷◌, ◌++◌, length, replicate, Some, None, Ok, Err, Option, Result, sym, refl, ap, ◌∙◌, subst, inl, inr, ⊎_elim, append_assoc, append-nil, arith}
use Rattle.std.proofs.lemmas.Bool.{cond-true, lt-ltb}
use Rattle.station.specs.Meaning.{Meaning}
use Rattle.station.specs.Rules.{Rules}
use Rattle.station.specs.declared.call.Call.{Call}
use Rattle.falls.specs.Histories.{tick, call, History, play, ticks}
use Rattle.falls.proofs.Falls.{played_size}
use Rattle.bench.specs.Calls.{looked, places, reply, performed}
use Rattle.bench.specs.Ticks.{ticks as ticked_by, ticks_until}
use Rattle.bench.specs.Trails.{ticks_of, called_at, steps, trail}
use Rattle.bench.specs.declared.Bench.{Bench}
use Rattle.bench.specs.declared.refusal.Refusal.{Refusal}
use Rattle.bench.specs.declared.refusal.Refusal.TheVariants.{TooMany}
use Rattle.bench.specs.declared.request.Request.{Request}
use Rattle.bench.specs.declared.request.Request.TheVariants.{Read, Write, Wire, Run, Until, Take, Acknowledge, Volts, Preload, Arm, Kick}
use Rattle.bench.proofs.Trails.{ticks_both, play_both, trail_both, moves}
use Rattle.lines.specs.Lines.{decoded}
use Rattle.lines.specs.declared.command.Command.{Command}
use Rattle.lines.specs.declared.malformed.Malformed.{Malformed}
use Rattle.replay.proofs.Asked.{line_asked}
use Rattle.replay.specs.Replays.{request, line_requests, asked}
use Rattle.account.specs.declared.row.Row.{Row}
use Rattle.account.specs.Accounts.{lines_view}
use Rattle.account.specs.Sinces.{capped, AllTell}
use Rattle.account.specs.Watches.{View, first_row, first_rows, begun, rows_after, next_tick, seeing, tick_view, run_view, call_view, request_view, line_view}
use Rattle.account.proofs.Sinces.{Next, all_next, tells_start}
use Rattle.account.proofs.Told.{line_bench}

-- a trail of one call at most
abbrev Brief : History → Type 0
Brief h = (h ≡ []) ⊎ ((p : ℕ) × (c : Call) × (h ≡ call p c ∷ []))

brief_at : {A : Type 0} (p : ℕ) (c : Call) (r : Result A Refusal) → Brief (called_at p c r)
brief_at p c (Ok value) = inr (p, c, refl)
brief_at p c (Err why) = inl refl

module _ {S : Type 0} (m : Meaning S) (R : Rules m) (s : S) where
  -- the bench is where the trail h leads, the ticks are counted, and each row tells
  pub record Tracks (h : History) (v : View S) : Type 0 where
    pub chain : v.bench.chain ≡ play m s h
    pub made : v.ticks ≡ capped (ticks h)
    pub places : length v.rows ≡ min 16 (m.size s)
    pub rows : AllTell m s h 0 v.rows

  rows_length : (b : Bench S) (t : ℕ) (rows : List Row) (hears : Option Bool) (k : ℕ) → length (rows_after m b t hears k rows) ≡ length rows
  unfolding rows_after
  rows_length b t [] hears k = refl
  rows_length b t (row ∷ rows) hears k = ap suc (rows_length b t rows _ (k + 1))

  track_next : (h h' : History) (v : View S) (b : Bench S) (t : ℕ) (told : Option Bool) → Tracks h v → Next m s h h' →
      b.chain ≡ play m s h' → t ≡ capped (ticks h') → Tracks h' (seeing m b t told v)
  track_next h h' v b t told at next there made =
      let size : m.size b.chain ≡ m.size s = ap m.size there ∙ played_size m R h' s in
      record {
        chain = there;
        made = made;
        places = rows_length b t v.rows told 0 ∙ at.places;
        rows = all_next m s h h' b t next there made v.rows 0 told (omega (arith, at.places, size)) at.rows;
      }

  track_tick : (h : History) (v : View S) (level : Bool) → Tracks h v → Tracks (h ++ (tick level ∷ [])) (tick_view m level v)
  unfolding ticked_by
  track_tick h v level at =
      let one = ticks_both h (tick level ∷ []) in
      track_next h (h ++ (tick level ∷ [])) v (performed m v.bench (Run level 1)) (next_tick v.ticks) (Some level) at (inr (tick level, refl))
      (ap (λ x. m.ticked x level) at.chain ∙ sym (play_both m h (tick level ∷ []) s)) (omega (arith, at.made, one))

  track_run : (n : ℕ) (h : History) (v : View S) (level : Bool) → Tracks h v → Tracks (h ++ replicate n (tick level)) (run_view m level n v)
  unfolding run_view
  track_run zero h v level at = subst (λ x. Tracks x v) (sym (append-nil h)) at
  track_run (suc n) h v level at =
      subst (λ x. Tracks x (run_view m level n (tick_view m level v))) (append_assoc h (tick level ∷ []) (replicate n (tick level)))
      (track_run n (h ++ (tick level ∷ [])) (tick_view m level v) level (track_tick h v level at))

  -- a call that makes one step at most is seen once it is done
  track_call : (h : History) (v : View S) (q : Request) → Tracks h v → Brief (steps m v.bench q) → Tracks (h ++ steps m v.bench q) (call_view m q v)
  track_call h v q at brief =
      track_next h (h ++ made) v (performed m v.bench q) v.ticks None at
      (⊎_elim (λ e. inl (ap (λ x. h ++ x) e ∙ append-nil h)) (λ r. inr (call r.0 r.1, ap (λ x. h ++ x) r.2)) brief)
      (moves m R v.bench q ∙ ap (λ x. play m x made) at.chain ∙ sym (play_both m h made s))
      (at.made ∙ ap capped (sym (ticks_both h made ∙ none)))
    where
      made : History
      made = steps m v.bench q

      none : ticks h + ticks made ≡ ticks h
      none =
          let zeroth : ticks made ≡ 0 = ⊎_elim (λ e. ap ticks e) (λ r. ap ticks r.2) brief in
          omega arith

  -- a run or until: its ticks one by one, or a refusal
  track_either : (h : History) (v : View S) (q : Request) (level : Bool) (n : ℕ) (over : Bool) → Tracks h v →
      steps m v.bench q ≡ cond over [] (replicate n (tick level)) → Tracks (h ++ steps m v.bench q) (cond over (call_view m q v) (run_view m level n v))
  track_either h v q level n true at is = track_call h v q at (inl is)
  track_either h v q level n false at is = subst (λ x. Tracks (h ++ x) (run_view m level n v)) (sym is) (track_run n h v level at)

  ticks_or_none : (level : Bool) (n : ℕ) (over : Bool) → replicate (ticks_of (cond over (Err TooMany) (Ok n))) (tick level) ≡ cond over [] (replicate n (tick level))
  ticks_or_none level n true = refl
  ticks_or_none level n false = refl

  track_request : (h : History) (v : View S) (q : Request) → Tracks h v → Tracks (h ++ steps m v.bench q) (request_view m q v)
  track_request h v (Read place register) at = track_call h v (Read place register) at (brief_at place _ (reply m v.bench (Read place register)))
  track_request h v (Write place register value) at = track_call h v (Write place register value) at (brief_at place _ (reply m v.bench (Write place register value)))
  track_request h v (Wire place wire level) at = track_call h v (Wire place wire level) at (brief_at place _ (reply m v.bench (Wire place wire level)))
  track_request h v (Run level count) at = track_either h v (Run level count) level count (ltb 1000000 count) at (ticks_or_none level count (ltb 1000000 count))
  track_request h v (Until level count) at =
      let n = ticks_until m v.bench.chain level count in track_either h v (Until level count) level n (ltb 1000000 count) at (ticks_or_none level n (ltb 1000000 count))
  track_request h v (Take place) at = track_call h v (Take place) at (inl refl)
  track_request h v (Acknowledge place bits) at = track_call h v (Acknowledge place bits) at (brief_at place _ (reply m v.bench (Acknowledge place bits)))
  track_request h v (Volts place channel) at = track_call h v (Volts place channel) at (brief_at place _ (reply m v.bench (Volts place channel)))
  track_request h v (Preload place ticks) at = track_call h v (Preload place ticks) at (brief_at place _ (reply m v.bench (Preload place ticks)))
  track_request h v (Arm place) at = track_call h v (Arm place) at (brief_at place _ (reply m v.bench (Arm place)))
  track_request h v (Kick place) at = track_call h v (Kick place) at (brief_at place _ (reply m v.bench (Kick place)))

  track_line : (h : History) (v : View S) (r : Result Command Malformed) → Tracks h v → Tracks (h ++ trail m v.bench (line_requests r)) (line_view m r v)
  track_line h v (Ok c) at = subst (λ x. Tracks (h ++ x) (request_view m (request c) v)) (sym (append-nil (steps m v.bench (request c)))) (track_request h v (request c) at)
  track_line h v (Err e) at = subst (λ x. Tracks x v) (sym (append-nil h)) at

  track_lines : (ls : List (List ℕ)) (h : History) (v : View S) → Tracks h v → Tracks (h ++ trail m v.bench (asked ls)) (lines_view m ls v)
  unfolding lines_view asked
  track_lines [] h v at = subst (λ x. Tracks x v) (sym (append-nil h)) at
  track_lines (l ∷ ls) h v at =
      let now = line_requests (decoded l) in
      let next = line_view m (decoded l) v in
      subst (λ x. Tracks x (lines_view m ls next))
      (append_assoc h (trail m v.bench now) _
      ∙ ap (λ b. h ++ (trail m v.bench now ++ trail m b (asked ls))) (line_bench m (decoded l) v ∙ sym (line_asked m (decoded l) v.bench))
      ∙ ap (λ x. h ++ x) (sym (trail_both m now (asked ls) v.bench)))
      (track_lines ls (h ++ trail m v.bench now) next (track_line h v (decoded l) at))

  -- a watch that begins
  first_tell : (b : Bench S) (n k : ℕ) → b.chain ≡ s → k + n ≤ places m b → AllTell m s [] k (first_rows m b k n) × (length (first_rows m b k n) ≡ n)
  unfolding first_rows
  first_tell b zero k is few = (tt, refl)
  first_tell b (suc n) k is few =
      let look : looked m b k ≡ Ok (m.fact s k) = cond-true _ _ _ (lt-ltb k (places m b) (omega arith)) ∙ ap (λ x. Ok (m.fact x k)) is in
      let rest = first_tell b n (k + 1) is (omega arith) in
      subst (λ r. AllTell m s [] k (first_row r ++ first_rows m b (k + 1) n) × (length (first_row r ++ first_rows m b (k + 1) n) ≡ suc n)) (sym look)
      ((tells_start m s k, rest.0), ap suc rest.1)

  pub track_all : (b : Bench S) (ls : List (List ℕ)) → b.chain ≡ s → Tracks (trail m b (asked ls)) (lines_view m ls (begun m b))
  track_all b ls is =
      let first = first_tell b (places m b) 0 is (omega arith) in
      track_lines ls [] (begun m b) (record { chain = is; made = refl; places = first.1 ∙ ap (λ x. min 16 (m.size x)) is; rows = first.0 })
