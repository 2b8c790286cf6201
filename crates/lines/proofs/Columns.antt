-- The column of the first character that is no digit, by its place in the line.
use Rattle.std.proofs.Common.{◌≡◌, ℕ, ◌+◌, Bool, true, false, cond, not, List, [], ◌∷◌, is_some, Some, None, Option, refl, ap, ◌∙◌, sym}
use Rattle.std.proofs.lemmas.Iterator.Adapters.{position_from-zero}
use Rattle.std.specs.List.{position, position_from}
use Rattle.lines.specs.Digits.{digit}
use Rattle.lines.specs.Lines.{first_bad}

abbrev pub bad : ℕ → Bool
bad c = not (is_some (digit c))

abbrev pub next_column : Option ℕ → Option ℕ
next_column (Some i) = Some (i + 1)
next_column None = None

same_place : (good : Bool) (i : ℕ) (later : Option ℕ) → cond good (next_column later) (Some (i + 1)) ≡ next_column (cond (not good) (Some i) later)
same_place true i later = refl
same_place false i later = refl

from : (i : ℕ) (l : List ℕ) → first_bad (i + 1) l ≡ next_column (position_from bad i l)
unfolding first_bad
from i [] = refl
from i (c ∷ cs) = ap (λ later. cond (is_some (digit c)) later (Some (i + 1))) (from (i + 1) cs) ∙ same_place (is_some (digit c)) i (position_from bad (i + 1) cs)

pub column_of_place : (l : List ℕ) → first_bad 1 l ≡ next_column (position bad l)
column_of_place l = from 0 l ∙ ap next_column (sym (position_from-zero bad l))
