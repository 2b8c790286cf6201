-- The encoders changed one after another.
use Rattle.std.proofs.Common.{◌≡◌, ℕ, ◌+◌, ◌<◌, ◌≤◌, List, [], ◌∷◌, ◌++◌, length, get_or, take, drop, set, sym, ap, ◌∙◌, append_assoc, append-nil, arith}
use Rattle.std.proofs.lemmas.List.{take_more_set, take_all, at_drop_more, at_drop_all, drop-set-lt}
use Rattle.encoder.specs.declared.channel.Encoder.{Encoder}
use Rattle.encoder.specs.Each.{each}

module _ (f : ℕ → Encoder → Encoder) where
  -- the encoders below i are done, and all are done once those that are left are
  abbrev pub Sofar : List Encoder → ℕ → List Encoder → Type 0
  Sofar all i es = all ≡ take i es ++ each f i (drop i es)

  -- the encoder at i is done, and what is left goes on from the next
  pub each_more : (all es : List Encoder) (i : ℕ) (d e : Encoder) → i < length es → Sofar all i es → e ≡ f i (get_or es i d) → Sofar all (i + 1) (set es i e)
  unfolding each
  each_more all es i d e h sofar is =
      sofar ∙ ap (λ xs. take i es ++ xs) (at_drop_more (each f i) es i d h)
      ∙ ap (λ x. take i es ++ (x ∷ each f (i + 1) (drop (i + 1) es))) (sym is)
      ∙ sym (append_assoc (take i es) (e ∷ []) _)
      ∙ ap (λ xs. xs ++ each f (i + 1) (drop (i + 1) es)) (sym (take_more_set es i e h))
      ∙ ap (λ xs. take (i + 1) (set es i e) ++ each f (i + 1) xs) (sym (drop-set-lt (i + 1) es i e (omega arith)))

  pub each_all : (all es : List Encoder) (i : ℕ) → length es ≤ i → Sofar all i es → es ≡ all
  unfolding each
  each_all all es i h sofar = sym (sofar ∙ ap (λ xs. take i es ++ xs) (at_drop_all (each f i) es i h) ∙ append-nil _ ∙ take_all i es h)
