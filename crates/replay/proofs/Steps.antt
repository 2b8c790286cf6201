-- A trace replayed line by line.
use Rattle.std.proofs.Common.{◌≡◌, ℕ, List, ◌∷◌, ◌++◌, sym, ap, ◌∙◌, append_assoc}
use Rattle.station.specs.Meaning.{Meaning}
use Rattle.bench.specs.declared.Bench.{Bench}
use Rattle.lines.specs.Lines.{decoded}
use Rattle.lines.specs.Records.{record_of}
use Rattle.replay.specs.Refusals.{answer_coded}
use Rattle.replay.specs.Replays.{line_told, after_line, replayed, left_by}

module _ {S : Type 0} (m : Meaning S) where
  -- one line more: its record comes behind those before it, and it is carried out on the bench
  pub records_more : (b : Bench S) (all out : List ℕ) (left : List (List ℕ)) (l : List ℕ) (rest : List (List ℕ)) (b' : Bench S) (out' : List ℕ) →
      all ≡ out ++ replayed m b left → left ≡ l ∷ rest →
      b' ≡ after_line m b (decoded l) → out' ≡ out ++ record_of (answer_coded (line_told m b (decoded l))) →
      all ≡ out' ++ replayed m b' rest
  unfolding replayed
  records_more b all out left l rest b' out' sofar next carried pushed =
      let told = record_of (answer_coded (line_told m b (decoded l))) in
      sofar ∙ ap (λ ls. out ++ replayed m b ls) next ∙ sym (append_assoc out told _)
      ∙ ap (λ o. o ++ replayed m (after_line m b (decoded l)) rest) (sym pushed)
      ∙ ap (λ x. out' ++ replayed m x rest) (sym carried)

  pub bench_more : (b end : Bench S) (left : List (List ℕ)) (l : List ℕ) (rest : List (List ℕ)) (b' : Bench S) →
      end ≡ left_by m b left → left ≡ l ∷ rest → b' ≡ after_line m b (decoded l) → end ≡ left_by m b' rest
  unfolding left_by
  bench_more b end left l rest b' sofar next carried =
      sofar ∙ ap (left_by m b) next ∙ ap (λ x. left_by m x rest) (sym carried)
