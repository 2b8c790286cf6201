-- The rows noted one after another.
use Rattle.std.proofs.Common.{◌≡◌, ℕ, ◌+◌, ◌<◌, List, [], ◌∷◌, ◌++◌, length, get_or, take, drop, set, Result, sym, ap, ◌∙◌, append_assoc, arith}
use Rattle.std.proofs.lemmas.List.{take_more_set, at_drop_more, drop-set-lt}
use Rattle.station.specs.declared.facts.Facts.{Facts}
use Rattle.bench.specs.declared.refusal.Refusal.{Refusal}
use Rattle.station.specs.Meaning.{Meaning}
use Rattle.bench.specs.Calls.{looked}
use Rattle.bench.specs.declared.Bench.{Bench}
use Rattle.account.specs.declared.row.Row.{Row}
use Rattle.account.specs.declared.row.Step.{Step}
use Rattle.account.specs.Rows.{seen, passed_on}
use Rattle.account.specs.Watches.{rows_after}

module _ {S : Type 0} (m : Meaning S) (b : Bench S) where
  -- the row at i is done, and what is left goes on from the next
  pub rows_more : (all rows : List Row) (i k : ℕ) (step : Step) (d row : Row) (look : Result Facts Refusal) (step' : Step) → i < length rows →
      all ≡ take i rows ++ rows_after m b step.tick step.hears k (drop i rows) →
      look ≡ looked m b k → row ≡ seen (get_or rows i d) step.tick step.hears look →
      step' ≡ record { tick = step.tick; hears = passed_on (get_or rows i d) step.hears } →
      all ≡ take (i + 1) (set rows i row) ++ rows_after m b step'.tick step'.hears (k + 1) (drop (i + 1) (set rows i row))
  unfolding rows_after
  rows_more all rows i k step d row look step' h sofar looks is next =
      let rest : Step → List Row → List Row = λ t rs. rows_after m b t.tick t.hears (k + 1) rs in
      let behind : Step = record { tick = step.tick; hears = passed_on (get_or rows i d) step.hears } in
      sofar ∙ ap (λ rs. take i rows ++ rs) (at_drop_more (rows_after m b step.tick step.hears k) rows i d h)
      ∙ ap (λ r. take i rows ++ (r ∷ rest behind (drop (i + 1) rows))) (sym (is ∙ ap (seen (get_or rows i d) step.tick step.hears) looks))
      ∙ sym (append_assoc (take i rows) (row ∷ []) _)
      ∙ ap (λ rs. rs ++ rest behind (drop (i + 1) rows)) (sym (take_more_set rows i row h))
      ∙ ap (λ t. take (i + 1) (set rows i row) ++ rest t (drop (i + 1) rows)) (sym next)
      ∙ ap (λ rs. take (i + 1) (set rows i row) ++ rest step' rs) (sym (drop-set-lt (i + 1) rows i row (omega arith)))
