-- A trace cut at the first end of a line.
use Rattle.std.proofs.Common.{◌≡◌, ℕ, suc, ◌+◌, ◌-◌, ◌<◌, ◌≤◌, Bool, true, false, cond, not, eqb, List, [], ◌∷◌, ◌++◌, length, take, drop, position, Some, None, sym, refl, ap, ◌∙◌, subst, append_assoc, append-nil, arith, length-append, length-drop}
use Rattle.std.proofs.lemmas.List.{take_all, drop_all}
use Rattle.std.proofs.lemmas.Bool.{ltb-false}
use Rattle.std.proofs.lemmas.List.Quantifiers.{position-Some}
use Rattle.std.proofs.lemmas.Slice.{between_to_end}
use Rattle.std.specs.List.{position_or_len}
use Rattle.lines.specs.Cuts.{lines_from, lines}

abbrev pub is_end : ℕ → Bool
is_end c = eqb c 10

-- one character of a line that has begun, before what is left
one_more : (end : Bool) (begun : List ℕ) (c : ℕ) (cs : List ℕ) (n : ℕ) → lines_from (begun ++ c ∷ []) cs ≡ ((begun ++ c ∷ []) ++ take n cs) ∷ lines (drop (n + 1) cs) →
    cond end (begun ∷ lines cs) (lines_from (begun ++ c ∷ []) cs) ≡ (begun ++ take (cond (not end) (1 + n) 0) (c ∷ cs)) ∷ lines (drop (cond (not end) (1 + n) 0 + 1) (c ∷ cs))
one_more true begun c cs n later = ap (λ l. l ∷ lines cs) (sym (append-nil begun))
one_more false begun c cs n later =
    let first : 1 + n ≡ suc n = omega arith in
    let second : 1 + n + 1 ≡ suc (n + 1) = omega arith in
    later ∙ ap (λ l. l ∷ lines (drop (n + 1) cs)) (append_assoc begun (c ∷ []) (take n cs))
    ∙ ap (λ k. (begun ++ take k (c ∷ cs)) ∷ lines (drop (n + 1) cs)) (sym first)
    ∙ ap (λ k. (begun ++ take (1 + n) (c ∷ cs)) ∷ lines (drop k (c ∷ cs))) (sym second)

from_begun : (begun l : List ℕ) → 0 < length begun + length l →
    lines_from begun l ≡ (begun ++ take (position_or_len is_end l) l) ∷ lines (drop (position_or_len is_end l + 1) l)
unfolding lines_from lines
from_begun [] [] some = absurd (omega arith)
from_begun (b ∷ bs) [] some = ap (λ l. l ∷ []) (sym (append-nil (b ∷ bs)))
from_begun begun (c ∷ cs) some =
    one_more (is_end c) begun c cs (position_or_len is_end cs) (from_begun (begun ++ c ∷ []) cs (omega (arith, length-append begun (c ∷ []))))

first_line : (l : List ℕ) → 0 < length l → lines l ≡ take (position_or_len is_end l) l ∷ lines (drop (position_or_len is_end l + 1) l)
unfolding lines
first_line l some = from_begun [] l (omega arith)

placed : (found : Bool) (n : ℕ) (end : ℕ) → cond found (Some n) None ≡ Some end → n ≡ end
placed true n end e = cc
placed false n end e = cc

not_placed : (found : Bool) (n : ℕ) → cond found (Some n) None ≡ None → found ≡ false
not_placed true n e = cc
not_placed false n e = refl

-- a cut as the code makes it: the line up to its end, and what follows
pub cut_at : (l : List ℕ) (end : ℕ) → 0 < length l → position is_end l ≡ Some end →
    let rest : List ℕ = take (length l - (end + 1)) (drop (end + 1) l) in (lines l ≡ take end l ∷ lines rest) × (length rest < length l)
cut_at l end some found =
    let here : position_or_len is_end l ≡ end = placed _ _ _ found in
    let within : end < length l = (position-Some is_end l end 0 found).0 in
    let rest : take (length l - (end + 1)) (drop (end + 1) l) ≡ drop (end + 1) l = between_to_end l (end + 1) (length l) (omega arith) in (
      first_line l some ∙ ap (λ n. take n l ∷ lines (drop (n + 1) l)) here ∙ ap (λ r. take end l ∷ lines r) (sym rest),
      subst (λ r. length r < length l) (sym rest) (omega (arith, length-drop (end + 1) l)),
    )

pub last_cut : (l : List ℕ) → 0 < length l → position is_end l ≡ None →
    let rest : List ℕ = take (length l - length l) (drop (length l) l) in (lines l ≡ l ∷ lines rest) × (length rest < length l)
last_cut l some none =
    let n = position_or_len is_end l in
    let beyond : length l ≤ n = ltb-false _ _ (not_placed _ _ none) in
    let rest : take (length l - length l) (drop (length l) l) ≡ [] = between_to_end l (length l) (length l) (omega arith) ∙ drop_all (length l) l (omega arith) in (
      first_line l some ∙ ap (λ first. first ∷ lines (drop (n + 1) l)) (take_all n l beyond) ∙ ap (λ r. l ∷ lines r) (drop_all (n + 1) l (omega arith) ∙ sym rest),
      subst (λ r. length r < length l) (sym rest) some,
    )
