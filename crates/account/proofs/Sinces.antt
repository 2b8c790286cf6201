-- What the rows tell stays true, step by step.
use Rattle.std.proofs.Common.{◌≡◌, ℕ, ◌+◌, ◌≤◌, Bool, true, false, ◌⊎◌, List, [], ◌∷◌, ◌++◌, length, Some, None, Ok, Option, sym, refl, ap, ◌∙◌, subst, inl, inr, ⊎_elim, append_assoc, append-nil, arith}
use Rattle.std.proofs.lemmas.Bool.{cases_Bool, cond-true, cond-false, lt-ltb}
use Rattle.station.specs.Meaning.{Meaning}
use Rattle.station.specs.declared.facts.Facts.{Facts}
use Rattle.falls.specs.Histories.{Step, tick, call, History, play, ticks}
use Rattle.bench.specs.Calls.{looked, places}
use Rattle.bench.specs.declared.Bench.{Bench}
use Rattle.bench.proofs.Trails.{play_both}
use Rattle.account.specs.declared.row.Rest.{Rest}
use Rattle.account.specs.declared.row.Row.{Row}
use Rattle.account.specs.Rows.{begun_row, caused, noted, seen, passed_on}
use Rattle.account.specs.Sinces.{capped, Stays, Since, Tells, AllTell}
use Rattle.account.specs.Watches.{rows_after}

module _ {S : Type 0} (m : Meaning S) where
  stays_more : (h : History) (s : S) (st : Step) (k : ℕ) → Stays m s h k → (m.fact (play m s (h ++ (st ∷ []))) k).held ≡ true → Stays m s (h ++ (st ∷ [])) k
  stays_more [] s (tick level) k here held = (here, held)
  stays_more [] s (call p c) k here held = (here, held)
  stays_more (tick level ∷ h) s st k stays held = (stays.0, stays_more h (m.ticked s level) st k stays.1 held)
  stays_more (call p c ∷ h) s st k stays held = (stays.0, stays_more h (m.called s p c) st k stays.1 held)

  module _ (s : S) where
    since_start : (k : ℕ) → (m.fact s k).held ≡ true → Since m s [] k 0
    since_start k held = record { before = []; after = []; whole = refl; made = refl; held = held; begins = inl refl }

    since_more : (h : History) (st : Step) (k t : ℕ) → Since m s h k t → (m.fact (play m s (h ++ (st ∷ []))) k).held ≡ true → Since m s (h ++ (st ∷ [])) k t
    since_more h st k t r held =
        let longer : r.before ++ (r.after ++ (st ∷ [])) ≡ h ++ (st ∷ []) = sym (append_assoc r.before r.after (st ∷ [])) ∙ ap (λ x. x ++ (st ∷ [])) r.whole in
        record {
          before = r.before;
          after = r.after ++ (st ∷ []);
          whole = longer;
          made = r.made;
          held = stays_more r.after (play m s r.before) st k r.held
              (subst (λ x. (m.fact x k).held ≡ true) (ap (play m s) (sym longer) ∙ play_both m r.before (r.after ++ (st ∷ [])) s) held);
          begins = r.begins;
        }

    since_now : (h : History) (st : Step) (k t : ℕ) → t ≡ capped (ticks (h ++ (st ∷ []))) → (m.fact (play m s h) k).held ≡ false →
        (m.fact (play m s (h ++ (st ∷ []))) k).held ≡ true → Since m s (h ++ (st ∷ [])) k t
    since_now h st k t made was held = record {
      before = h ++ (st ∷ []);
      after = [];
      whole = append-nil (h ++ (st ∷ []));
      made = made;
      held = held;
      begins = inr (h, st, refl, was);
    }

    -- the first row
    pub tells_start : (k : ℕ) → Tells m s [] k (begun_row (m.fact s k))
    tells_start k = record {
      facts = refl;
      since = λ held. (record { tick = 0; due = false; stop = false; line = false }, cond-true _ _ _ held, since_start k held);
      free = λ loose. cond-false _ _ _ loose;
    }

    caused_tick : (row : Row) (t : ℕ) (hears : Option Bool) → (caused row t hears).tick ≡ t
    caused_tick row t (Some level) = refl
    caused_tick row t None = refl

    -- the row after a look with no step before it, and after one step
    tells_same : (h : History) (k t : ℕ) (hears : Option Bool) (row : Row) → Tells m s h k row → Tells m s h k (noted row t hears (m.fact (play m s h) k))
    tells_same h k t hears row tells = record {
      facts = refl;
      since = λ held.
          let r = tells.since held in
          (r.0, cond-true _ _ _ held ∙ cond-true _ _ _ (ap (λ (f : Facts). f.held) tells.facts ∙ held) ∙ r.1, r.2);
      free = λ loose. cond-false _ _ _ loose;
    }

    tells_step : (h : History) (st : Step) (k t : ℕ) (hears : Option Bool) (row : Row) → t ≡ capped (ticks (h ++ (st ∷ []))) → Tells m s h k row →
        Tells m s (h ++ (st ∷ [])) k (noted row t hears (m.fact (play m s (h ++ (st ∷ []))) k))
    tells_step h st k t hears row made tells = record {
      facts = refl;
      since = λ held. ⊎_elim (before held) (now held) (cases_Bool (m.fact (play m s h) k).held);
      free = λ loose. cond-false _ _ _ loose;
    }
      where
        next : S
        next = play m s (h ++ (st ∷ []))

        same : row.facts.held ≡ (m.fact (play m s h) k).held
        same = ap (λ (f : Facts). f.held) tells.facts

        before : (m.fact next k).held ≡ true → (m.fact (play m s h) k).held ≡ true →
            (r : Rest) × ((noted row t hears (m.fact next k)).rest ≡ Some r) × Since m s (h ++ (st ∷ [])) k r.tick
        before held was =
            let r = tells.since was in
            (r.0, cond-true _ _ _ held ∙ cond-true _ _ _ (same ∙ was) ∙ r.1, since_more h st k r.0.tick r.2 held)

        now : (m.fact next k).held ≡ true → (m.fact (play m s h) k).held ≡ false →
            (r : Rest) × ((noted row t hears (m.fact next k)).rest ≡ Some r) × Since m s (h ++ (st ∷ [])) k r.tick
        now held was =
            (caused row t hears, cond-true _ _ _ held ∙ cond-false _ _ _ (same ∙ was), since_now h st k _ (caused_tick row t hears ∙ made) was held)

    -- from one look to the next at most one step is made
    abbrev pub Next : History → History → Type 0
    Next h h' = (h' ≡ h) ⊎ ((st : Step) × (h' ≡ h ++ (st ∷ [])))

    tells_next : (h h' : History) (k t : ℕ) (hears : Option Bool) (row : Row) → Next h h' → t ≡ capped (ticks h') → Tells m s h k row →
        Tells m s h' k (noted row t hears (m.fact (play m s h') k))
    tells_next h h' k t hears row next made tells =
        ⊎_elim
        (λ e. subst (λ x. Tells m s x k (noted row t hears (m.fact (play m s x) k))) (sym e) (tells_same h k t hears row tells))
        (λ r. subst (λ x. Tells m s x k (noted row t hears (m.fact (play m s x) k))) (sym r.1)
        (tells_step h r.0 k t hears row (made ∙ ap (λ x. capped (ticks x)) r.1) tells))
        next

    pub all_next : (h h' : History) (b : Bench S) (t : ℕ) → Next h h' → b.chain ≡ play m s h' → t ≡ capped (ticks h') →
        (rows : List Row) (k : ℕ) (hears : Option Bool) → k + length rows ≤ places m b → AllTell m s h k rows → AllTell m s h' k (rows_after m b t hears k rows)
    unfolding rows_after
    all_next h h' b t next there made [] k hears few tells = tt
    all_next h h' b t next there made (row ∷ rows) k hears few tells = (
      subst (λ r. Tells m s h' k (seen row t hears r)) (sym look) (tells_next h h' k t hears row next made tells.0),
      all_next h h' b t next there made rows (k + 1) (passed_on row hears) (omega arith) tells.1,
    )
      where
        look : looked m b k ≡ Ok (m.fact (play m s h') k)
        look = cond-true _ _ _ (lt-ltb k (places m b) (omega arith)) ∙ ap (λ x. Ok (m.fact x k)) there
