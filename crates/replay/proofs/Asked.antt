-- A trace leaves the bench to which its requests lead.
use Rattle.std.proofs.Common.{◌≡◌, ℕ, List, [], ◌∷◌, ◌++◌, Ok, Err, Result, sym, refl, ap, ◌∙◌}
use Rattle.station.specs.Meaning.{Meaning}
use Rattle.bench.specs.Calls.{performed}
use Rattle.bench.specs.Trails.{afterwards}
use Rattle.bench.specs.declared.Bench.{Bench}
use Rattle.bench.specs.declared.request.Request.{Request}
use Rattle.lines.specs.Lines.{decoded}
use Rattle.lines.specs.declared.command.Command.{Command}
use Rattle.lines.specs.declared.malformed.Malformed.{Malformed}
use Rattle.replay.specs.Replays.{after_line, left_by, line_requests, asked}

module _ {S : Type 0} (m : Meaning S) where
  afterwards_both : (first rest : List Request) (b : Bench S) → afterwards m b (first ++ rest) ≡ afterwards m (afterwards m b first) rest
  afterwards_both [] rest b = refl
  afterwards_both (q ∷ first) rest b = afterwards_both first rest (performed m b q)

  pub line_asked : (r : Result Command Malformed) (b : Bench S) → afterwards m b (line_requests r) ≡ after_line m b r
  line_asked (Ok c) b = refl
  line_asked (Err e) b = refl

  pub left_asked : (ls : List (List ℕ)) (b : Bench S) → left_by m b ls ≡ afterwards m b (asked ls)
  unfolding left_by asked
  left_asked [] b = refl
  left_asked (l ∷ ls) b =
      left_asked ls (after_line m b (decoded l)) ∙ ap (λ x. afterwards m x (asked ls)) (sym (line_asked (decoded l) b))
      ∙ sym (afterwards_both (line_requests (decoded l)) (asked ls) b)
