-- The first rows, one place after another.
use Rattle.std.proofs.Common.{◌≡◌, ℕ, suc, ◌+◌, ◌-◌, ◌<◌, List, ◌++◌, Result, sym, ap, ◌∙◌, append_assoc, arith}
use Rattle.station.specs.Meaning.{Meaning}
use Rattle.station.specs.declared.facts.Facts.{Facts}
use Rattle.bench.specs.Calls.{looked}
use Rattle.bench.specs.declared.Bench.{Bench}
use Rattle.bench.specs.declared.refusal.Refusal.{Refusal}
use Rattle.account.specs.declared.row.Row.{Row}
use Rattle.account.specs.Watches.{first_row, first_rows}

module _ {S : Type 0} (m : Meaning S) (b : Bench S) where
  pub first_more : (all rows rows' : List Row) (look : Result Facts Refusal) (n k : ℕ) → k < n → all ≡ rows ++ first_rows m b k (n - k) →
      look ≡ looked m b k → rows' ≡ rows ++ first_row look → all ≡ rows' ++ first_rows m b (k + 1) (n - (k + 1))
  unfolding first_rows
  first_more all rows rows' look n k h sofar looks pushed =
      let left : n - k ≡ suc (n - (k + 1)) = omega arith in
      sofar ∙ ap (λ i. rows ++ first_rows m b k i) left ∙ sym (append_assoc rows _ _)
      ∙ ap (λ r. (rows ++ first_row r) ++ first_rows m b (k + 1) (n - (k + 1))) (sym looks)
      ∙ ap (λ rs. rs ++ first_rows m b (k + 1) (n - (k + 1))) (sym pushed)
