-- An account line by line.
use Rattle.std.proofs.Common.{◌≡◌, ℕ, zero, suc, Bool, true, false, cond, ltb, List, [], ◌∷◌, ◌++◌, Ok, Err, Result, sym, refl, ap, ◌∙◌, append_assoc}
use Rattle.station.specs.Meaning.{Meaning}
use Rattle.bench.specs.Calls.{with_chain, performed}
use Rattle.bench.specs.Ticks.{ticks, ticks_until}
use Rattle.bench.specs.declared.Bench.{Bench}
use Rattle.bench.specs.declared.request.Request.{Request}
use Rattle.bench.specs.declared.request.Request.TheVariants.{Read, Write, Wire, Run, Until, Take, Acknowledge, Volts, Preload, Arm, Kick}
use Rattle.lines.specs.Lines.{decoded}
use Rattle.lines.specs.declared.command.Command.{Command}
use Rattle.lines.specs.declared.malformed.Malformed.{Malformed}
use Rattle.replay.proofs.Steps.{bench_more}
use Rattle.replay.specs.Replays.{Outcome, request, line_told, after_line, left_by}
use Rattle.account.specs.Watches.{View, call_view, tick_view, run_view, request_view, line_view}
use Rattle.account.specs.Accounts.{told, lines_view}

module _ {S : Type 0} (m : Meaning S) where
  -- watched or not, the bench comes to the same
  run_bench : (level : Bool) (n : ℕ) (v : View S) → (run_view m level n v).bench ≡ with_chain v.bench (ticks m v.bench.chain level n)
  unfolding run_view ticks
  run_bench level zero v = refl
  run_bench level (suc n) v = run_bench level n (tick_view m level v)

  run_either : (q : Request) (level : Bool) (count : ℕ) (v : View S) (over : Bool) → performed m v.bench q ≡ cond over v.bench (with_chain v.bench (ticks m v.bench.chain level count)) →
      (cond over (call_view m q v) (run_view m level count v)).bench ≡ cond over v.bench (with_chain v.bench (ticks m v.bench.chain level count))
  run_either q level count v true e = e
  run_either q level count v false e = run_bench level count v

  pub request_bench : (q : Request) (v : View S) → (request_view m q v).bench ≡ performed m v.bench q
  request_bench (Read place register) v = refl
  request_bench (Write place register value) v = refl
  request_bench (Wire place wire level) v = refl
  request_bench (Run level count) v = run_either (Run level count) level count v (ltb 1000000 count) refl
  request_bench (Until level count) v = run_either (Until level count) level (ticks_until m v.bench.chain level count) v (ltb 1000000 count) refl
  request_bench (Take place) v = refl
  request_bench (Acknowledge place bits) v = refl
  request_bench (Volts place channel) v = refl
  request_bench (Preload place ticks) v = refl
  request_bench (Arm place) v = refl
  request_bench (Kick place) v = refl

  pub line_bench : (r : Result Command Malformed) (v : View S) → (line_view m r v).bench ≡ after_line m v.bench r
  line_bench (Ok c) v = request_bench (request c) v
  line_bench (Err e) v = refl

  -- what stands once some lines are done, and ls are left
  pub record Sofar (b : Bench S) (all : List (List ℕ)) (start : View S) (out : List Outcome) (v : View S) (ls : List (List ℕ)) : Type 0 where
    pub outcomes : told m b all ≡ out ++ told m v.bench ls
    pub seen : lines_view m all start ≡ lines_view m ls v
    pub bench : left_by m b all ≡ left_by m v.bench ls

  pub sofar_more : (b : Bench S) (all : List (List ℕ)) (start : View S) (out out' : List Outcome) (v v' : View S) (left : List (List ℕ)) (l : List ℕ) (rest : List (List ℕ)) →
      Sofar b all start out v left → left ≡ l ∷ rest → v' ≡ line_view m (decoded l) v →
      out' ≡ out ++ (line_told m v.bench (decoded l) ∷ []) → Sofar b all start out' v' rest
  unfolding told lines_view
  sofar_more b all start out out' v v' left l rest sofar next seen pushed =
      let carried : v'.bench ≡ after_line m v.bench (decoded l) = ap (λ (x : View S). x.bench) seen ∙ line_bench (decoded l) v in
      record {
        outcomes = sofar.outcomes ∙ ap (λ ls. out ++ told m v.bench ls) next ∙ sym (append_assoc out (line_told m v.bench (decoded l) ∷ []) _)
            ∙ ap (λ o. o ++ told m (after_line m v.bench (decoded l)) rest) (sym pushed) ∙ ap (λ x. out' ++ told m x rest) (sym carried);
        seen = sofar.seen ∙ ap (λ ls. lines_view m ls v) next ∙ ap (lines_view m rest) (sym seen);
        bench = bench_more m _ _ _ _ _ _ sofar.bench next carried;
      }

  pub sofar_begun : (v : View S) (all : List (List ℕ)) (out : List Outcome) → out ≡ [] → Sofar v.bench all v out v all
  sofar_begun v all out none = record { outcomes = ap (λ o. o ++ told m v.bench all) (sym none); seen = refl; bench = refl }
