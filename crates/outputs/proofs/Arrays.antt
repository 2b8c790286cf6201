-- What `map` by a closure that changes nothing makes of an array.
use Rattle.std.proofs.Common.{◌≡◌, ℕ, zero as none, suc, ◌+◌, ◌<◌, List, length, map, get_or, sym, ap, ◌∙◌, subst, arith}
use Rattle.std.specs.Array.{IsMapOf, MapsFrom}
use Rattle.std.specs.Fn.{Called, Mut}
use Rattle.std.proofs.Math.Nat.{add-zero}
use Rattle.std.proofs.lemmas.List.{same_lists, length-map, get_or-map}

module _ {F A B : Type 0} (g : Mut F (A × Unit {0}) B) (h : A → B) (f : F) (same : (x : A) (y : B) (q : F) → Called g f (x, tt) y q → (q ≡ f) × (y ≡ h x)) where
  mapped_at : (xs : List A) (ys : List B) (i n : ℕ) → MapsFrom g f xs ys i n → (j k : ℕ) (d : B) → k < n → i + k ≡ j → j < length xs → get_or ys j d ≡ get_or (map h xs) j d
  mapped_at xs ys i none calls j k d in_range at within = absurd (omega arith)
  mapped_at xs ys i (suc n) (q, x, y, there, is, call, rest) j none d in_range at within =
      let here : i ≡ j = sym (add-zero i) ∙ at in
      subst (λ k. get_or ys k d ≡ h (get_or xs k x)) here (is.1 d ∙ (same x y q call).1 ∙ ap h (sym (there.1 x))) ∙ sym (get_or-map h xs j x d within)
  mapped_at xs ys i (suc n) (q, x, y, there, is, call, rest) j (suc k) d in_range at within =
      mapped_at xs ys (i + 1) n (subst (λ p. MapsFrom g p xs ys (i + 1) n) (same x y q call).0 rest) j k d (omega arith) (omega arith) within

  pub mapped : (xs : List A) (ys : List B) (n : ℕ) → length xs ≡ n → IsMapOf g f xs ys n → ys ≡ map h xs
  mapped xs ys n long calls =
      same_lists ys (map h xs) (simp length-map (calls.long ∙ sym long)) (λ k d in_range. mapped_at xs ys 0 n calls.each k k d (omega (arith, calls.long)) (omega arith) (omega (arith, calls.long)))
