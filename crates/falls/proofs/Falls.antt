-- The law of falls, by induction on the history. Between the steps each place is ready, or is held and
-- passes: the law is proved from every such state, where a place that is held has the own tick 0.
use Rattle.std.proofs.Common.{◌≡◌, ℕ, zero, suc, ◌+◌, ◌-◌, ◌<◌, ◌≤◌, Bool, true, false, cond, not, ◌||◌, ◌⊎◌, [], ◌∷◌, Some, Option, sym, refl, ap, ◌∙◌, subst, inl, inr, ⊎_elim, arith}
use Rattle.std.proofs.lemmas.Bool.{cases_Bool, cases_lt, cond-true, cond-false, or_right, or_cases, or_parts, true≢false}
use Rattle.station.specs.Meaning.{Meaning}
use Rattle.station.specs.Rules.{Rules, Ticks, Kept, heard, falls, due_now}
use Rattle.station.specs.declared.call.Call.{Call}
use Rattle.falls.specs.Histories.{tick, call, History, play, ticks, NoGuard, earlier, one_later, own_tick}
use Rattle.falls.specs.Law.{Addressed, AllReady, Reached, Law}
use Rattle.falls.proofs.Ticks.{Counted, counted_some, counted_due, counted_earlier, earlier_later, first_earlier, earlier_first, later_some, due_later, due_one, outer, low_there, counted_outer, own_is, outer_now, outer_later}
use Rattle.falls.proofs.Steps.{call_keeps}

clash : {X : Type 0} {b : Bool} → b ≡ true → b ≡ false → X
clash p q = absurd (true≢false (sym p ∙ q))

some_same : {a b : ℕ} {o : Option ℕ} → o ≡ Some a → o ≡ Some b → a ≡ b
some_same p q = cc

module _ {S : Type 0} (m : Meaning S) (R : Rules m) where
  -- a place between steps
  abbrev pub Standing : S → ℕ → Type 0
  Standing s k = ((m.fact s k).ready ≡ true) ⊎ (((m.fact s k).held ≡ true) × ((m.fact s k).passes ≡ true))

  abbrev pub Settled : S → Type 0
  Settled s = (k : ℕ) → Addressed m s k → Standing s k

  -- the own tick, 0 where the place is held already
  abbrev pub mine : S → History → ℕ → Option ℕ
  mine s h j = cond (m.fact s j).held (Some 0) (own_tick m s h j)

  pub record Come (s : S) (h : History) (k : ℕ) : Type 0 where
    pub j : ℕ
    pub not_beyond : j ≤ k
    pub own : ℕ
    pub is_own : mine s h j ≡ Some own
    pub in_time : own + (k - j) ≤ ticks h

  mine_held : (s : S) (h : History) (j : ℕ) → (m.fact s j).held ≡ true → mine s h j ≡ Some 0
  mine_held s h j e = cond-true _ _ _ e

  mine_free : (s : S) (h : History) (j : ℕ) → (m.fact s j).held ≡ false → mine s h j ≡ own_tick m s h j
  mine_free s h j e = cond-false _ _ _ e

  at : (s : S) (j k : ℕ) → j ≤ k → Addressed m s k → Addressed m s j
  at s j k h a = (omega (arith, a.0), omega (arith, a.1))

  free : (s : S) (j : ℕ) → Addressed m s j → (m.fact s j).ready ≡ true → (m.fact s j).held ≡ false
  free s j a r = (R.sound s j a.1).ready_free r

  pub counted_own : (s : S) (h : History) (j : ℕ) → Addressed m s j → Counted (own_tick m s h j)
  counted_own s h j a = subst Counted (sym (own_is m s h j)) (counted_earlier _ _ (counted_due _ (R.sound s j a.1).due_from_one) (counted_outer m s h j))

  -- the tick step
  module _ (s : S) (level : Bool) where
    abbrev next : S
    next = m.ticked s level

    there : (j : ℕ) → Addressed m s j → Addressed m next j
    there j a = (a.0, subst (λ n. j < n) (sym (R.tick_size s level)) a.1)

    step : (j : ℕ) → Addressed m s j → Ticks (m.fact s j) (heard m s level j) (m.fact next j)
    step j a = R.tick s level j a.1

    -- what place j itself brings about in this tick
    abbrev own_cause : ℕ → Bool
    own_cause j = due_now (m.fact s j).due || ((m.fact s j).stop || low_there j level)

    own_now : (h : History) (j : ℕ) → Addressed m s j → own_cause j ≡ true → own_tick m s (tick level ∷ h) j ≡ Some 1
    own_now h j a e =
        own_is m s (tick level ∷ h) j ∙
        ⊎_elim
        (λ due. ap (λ d. earlier d (outer m s (tick level ∷ h) j)) (due_one _ due) ∙ first_earlier _ (counted_outer m s (tick level ∷ h) j))
        (λ out. ap (earlier (m.fact s j).due) (outer_now m s level h j out) ∙ earlier_first _ (counted_due _ (R.sound s j a.1).due_from_one))
        (or_cases _ _ e)

    -- a place that falls has a cause of its own, or is behind one that is held
    fall_from : (j : ℕ) → Addressed m s j → Settled s → falls (m.fact s j) (heard m s level j) ≡ true →
        (own_cause j ≡ true) ⊎ ((i : ℕ) × (suc i ≡ j) × ((m.fact s i).held ≡ true))
    fall_from zero a settled e = inl e
    fall_from (suc i) a settled e =
        ⊎_elim
        (λ due. inl (or_left_of due))
        (λ rest. ⊎_elim
        (λ stop. inl (or_right _ _ (ap (λ b. b || false) stop)))
        (λ low. inr (
          i,
          refl,
          ⊎_elim
              (λ ready. let f = R.sound s i a_i.1 in clash (f.line_tells (f.ready_passes ready) ∙ ap not (f.ready_free ready)) (not_true_of low))
              (λ h. h.0)
              (settled i a_i),
        ))
        (or_cases _ _ rest))
        (or_cases _ _ e)
      where
        a_i : Addressed m s i
        a_i = (omega (arith, a.0), omega (arith, a.1))

        or_left_of : due_now (m.fact s (suc i)).due ≡ true → (due_now (m.fact s (suc i)).due || ((m.fact s (suc i)).stop || false)) ≡ true
        or_left_of e = ap (λ b. b || ((m.fact s (suc i)).stop || false)) e

        not_true_of : not (m.fact s i).line ≡ true → (m.fact s i).line ≡ false
        not_true_of e = grind arith

    -- a place without a cause of its own that does not fall: its own tick comes one tick nearer
    own_later : (h : History) (j : ℕ) → Addressed m s j → (m.fact s j).ready ≡ true → falls (m.fact s j) (heard m s level j) ≡ false →
        own_tick m s (tick level ∷ h) j ≡ one_later (own_tick m next h j)
    own_later h j a ready e =
        let none = or_parts _ _ e in
        let still = (step j a).else_sooner ready e in
        let counted = counted_due _ (R.sound s j a.1).due_from_one in
        own_is m s (tick level ∷ h) j
        ∙ ap (λ d. earlier d (outer m s (tick level ∷ h) j)) (due_later _ counted none.0 ∙ ap one_later (sym still))
        ∙ ap (earlier (one_later (m.fact next j).due)) (outer_later m s level h j (quiet j none.1))
        ∙ earlier_later (m.fact next j).due (outer m next h j) ∙ ap one_later (sym (own_is m next h j))
      where
        quiet : (j : ℕ) → ((m.fact s j).stop || not (heard m s level j)) ≡ false → ((m.fact s j).stop || low_there j level) ≡ false
        quiet zero e = e
        quiet (suc i) e = let off = or_parts _ _ e in ap (λ b. b || false) off.0

    settles : Settled s → Settled next
    settles settled j a' =
        let a : Addressed m s j = (a'.0, subst (λ n. j < n) (R.tick_size s level) a'.1) in
        ⊎_elim
        (λ ready. ⊎_elim
        (λ falls-now. inr ((step j a).falls_exactly ready ∙ falls-now, (step j a).passes_stays ∙ (R.sound s j a.1).ready_passes ready))
        (λ stays. inl ((step j a).else_ready ready stays))
        (cases_Bool (falls (m.fact s j) (heard m s level j))))
        (λ held. inr ((step j a).held_stays held.0, (step j a).passes_stays ∙ held.1))
        (settled j a)

    -- what has come to place k after the tick had come to it before, one tick earlier in the count
    come_back : (h : History) (k : ℕ) → Settled s → Addressed m s k → Come next h k → Come s (tick level ∷ h) k
    come_back h k settled ak r = ⊎_elim held_after free_after (cases_Bool (m.fact next r.j).held)
      where
        a : Addressed m s r.j
        a = at s r.j k r.not_beyond ak

        held_after : (m.fact next r.j).held ≡ true → Come s (tick level ∷ h) k
        held_after held =
            let zeroth : r.own ≡ 0 = some_same r.is_own (mine_held next h r.j held) in
            ⊎_elim
            (λ ready. ⊎_elim
            (λ own. record {
              j = r.j;
              not_beyond = r.not_beyond;
              own = 1;
              is_own = mine_free s (tick level ∷ h) r.j (free s r.j a ready) ∙ own_now h r.j a own;
              in_time = omega (arith, r.in_time);
            })
            (λ behind. record {
              j = behind.0;
              not_beyond = omega (arith, r.not_beyond, behind.1);
              own = 0;
              is_own = mine_held s (tick level ∷ h) behind.0 behind.2;
              in_time = omega (arith, r.in_time, r.not_beyond, behind.1);
            })
            (fall_from r.j a settled (sym ((step r.j a).falls_exactly ready) ∙ held)))
            (λ was. record {
              j = r.j;
              not_beyond = r.not_beyond;
              own = 0;
              is_own = mine_held s (tick level ∷ h) r.j was.0;
              in_time = omega (arith, r.in_time);
            })
            (settled r.j a)

        free_after : (m.fact next r.j).held ≡ false → Come s (tick level ∷ h) k
        free_after loose =
            ⊎_elim
            (λ ready. record {
              j = r.j;
              not_beyond = r.not_beyond;
              own = suc r.own;
              is_own = mine_free s (tick level ∷ h) r.j (free s r.j a ready)
                  ∙ own_later h r.j a ready (sym ((step r.j a).falls_exactly ready) ∙ loose)
                  ∙ ap one_later (sym (mine_free next h r.j loose) ∙ r.is_own);
              in_time = omega (arith, r.in_time);
            })
            (λ was. clash ((step r.j a).held_stays was.0) loose)
            (settled r.j a)

    -- a place right behind one that is held is held after the tick
    passed_on : (j : ℕ) → Settled s → Addressed m s (suc j) → (m.fact s j).held ≡ true → (m.fact next (suc j)).held ≡ true
    passed_on j settled a held =
        let a-j : Addressed m s j = (omega (arith, a.0), omega (arith, a.1)) in
        let f = R.sound s j a-j.1 in
        let low : (m.fact s j).line ≡ false =
        ⊎_elim (λ ready. clash held (f.ready_free ready)) (λ h. f.line_tells h.1 ∙ ap not held) (settled j a-j) in
        ⊎_elim
        (λ ready. (step (suc j) a).falls_exactly ready ∙ or_right (due_now (m.fact s (suc j)).due) _ (or_right (m.fact s (suc j)).stop _ (ap not low)))
        (λ h. (step (suc j) a).held_stays h.0)
        (settled (suc j) a)

    come_on : (h : History) (k : ℕ) → Settled s → Addressed m s k → Come s (tick level ∷ h) k → Come next h k
    come_on h k settled ak r = ⊎_elim ready_before held_before (settled r.j a)
      where
        a : Addressed m s r.j
        a = at s r.j k r.not_beyond ak

        held_before : ((m.fact s r.j).held ≡ true) × ((m.fact s r.j).passes ≡ true) → Come next h k
        held_before was =
            ⊎_elim
            (λ (behind : r.j < k). record {
              j = suc r.j;
              not_beyond = omega arith;
              own = 0;
              is_own = mine_held next h (suc r.j) (passed_on r.j settled (at s (suc r.j) k (omega arith) ak) was.0);
              in_time = omega (arith, r.in_time, behind);
            })
            (λ (last : k ≤ r.j). record {
              j = r.j;
              not_beyond = r.not_beyond;
              own = 0;
              is_own = mine_held next h r.j ((step r.j a).held_stays was.0);
              in_time = omega (arith, last);
            })
            (cases_lt r.j k)

        ready_before : (m.fact s r.j).ready ≡ true → Come next h k
        ready_before ready =
            let own = sym (mine_free s (tick level ∷ h) r.j (free s r.j a ready)) ∙ r.is_own in
            let counted = counted_some _ _ (counted_own s (tick level ∷ h) r.j a) own in
            ⊎_elim
            (λ falls-now. record {
              j = r.j;
              not_beyond = r.not_beyond;
              own = 0;
              is_own = mine_held next h r.j ((step r.j a).falls_exactly ready ∙ falls-now);
              in_time = omega (arith, r.in_time, counted);
            })
            (λ stays. record {
              j = r.j;
              not_beyond = r.not_beyond;
              own = r.own - 1;
              is_own = mine_free next h r.j ((step r.j a).falls_exactly ready ∙ stays)
                  ∙ later_some _ _ (sym (own_later h r.j a ready stays) ∙ own);
              in_time = omega (arith, r.in_time, counted);
            })
            (cases_Bool (falls (m.fact s r.j) (heard m s level r.j)))

  -- the call step: nothing of what the law speaks of changes, but where a stop is set
  module _ (s : S) (p : ℕ) (c : Call) (hp : p < m.size s) (plain : m.guards s p c ≡ false) where
    abbrev then : S
    then = m.called s p c

    here : (j : ℕ) → Addressed m then j → Addressed m s j
    here j a = (a.0, subst (λ n. j < n) (R.call_size s p c) a.1)

    keeps : (j : ℕ) → Addressed m s j → Kept (m.fact s j) (m.fact then j)
    keeps j a = call_keeps m R s p c j hp a.1 plain

    own_kept : (h : History) (j : ℕ) → (m.fact then j).due ≡ (m.fact s j).due → own_tick m then h j ≡ own_tick m s (call p c ∷ h) j
    own_kept h zero e = ap (λ d. earlier d (outer m then h 0)) e
    own_kept h (suc j) e = ap (λ d. earlier d (outer m then h (suc j))) e

    mine_kept : (h : History) (j : ℕ) → Addressed m s j → mine then h j ≡ mine s (call p c ∷ h) j
    mine_kept h j a =
        ap (λ b. cond b (Some 0) (own_tick m then h j)) (keeps j a).held ∙ ap (cond (m.fact s j).held (Some 0)) (own_kept h j (keeps j a).due)

    settles_call : Settled s → Settled then
    settles_call settled j a =
        ⊎_elim
        (λ ready. inl ((keeps j (here j a)).ready ∙ ready))
        (λ held. inr ((keeps j (here j a)).held ∙ held.0, (keeps j (here j a)).passes ∙ held.1))
        (settled j (here j a))

    call_back : (h : History) (k : ℕ) → Addressed m s k → Come then h k → Come s (call p c ∷ h) k
    call_back h k ak r = record {
      j = r.j;
      not_beyond = r.not_beyond;
      own = r.own;
      is_own = sym (mine_kept h r.j (at s r.j k r.not_beyond ak)) ∙ r.is_own;
      in_time = r.in_time;
    }

    call_on : (h : History) (k : ℕ) → Addressed m s k → Come s (call p c ∷ h) k → Come then h k
    call_on h k ak r = record {
      j = r.j;
      not_beyond = r.not_beyond;
      own = r.own;
      is_own = mine_kept h r.j (at s r.j k r.not_beyond ak) ∙ r.is_own;
      in_time = r.in_time;
    }

  called_there : (s : S) (p : ℕ) (c : Call) (k : ℕ) → Addressed m s k → Addressed m (m.called s p c) k
  called_there s p c k a = (a.0, subst (λ n. k < n) (sym (R.call_size s p c)) a.1)

  -- held after a history exactly if something has come
  pub come : (h : History) (s : S) → Settled s → NoGuard m s h → (k : ℕ) → Addressed m s k → (m.fact (play m s h) k).held ≡ true → Come s h k
  come [] s settled none k a held = record { j = k; not_beyond = omega arith; own = 0; is_own = mine_held s [] k held; in_time = omega arith }
  come (tick level ∷ h) s settled none k a held =
      come_back s level h k settled a (come h (m.ticked s level) (settles s level settled) none k (there s level k a) held)
  come (call p c ∷ h) s settled none k a held =
      call_back s p c none.0 none.1 h k a
      (come h (m.called s p c) (settles_call s p c none.0 none.1 settled) none.2 k (called_there s p c k a) held)

  pub gone : (h : History) (s : S) → Settled s → NoGuard m s h → (k : ℕ) → Addressed m s k → Come s h k → (m.fact (play m s h) k).held ≡ true
  gone [] s settled none k a r =
      let here : r.j ≡ k = omega (arith, r.in_time, r.not_beyond) in
      let b : Addressed m s r.j = at s r.j k r.not_beyond a in
      subst (λ i. (m.fact s i).held ≡ true) here
      (⊎_elim
      (λ ready.
      let own = sym (mine_free s [] r.j (free s r.j b ready)) ∙ r.is_own in
      let counted = counted_some _ _ (counted_own s [] r.j b) own in
      absurd (omega (arith, counted, r.in_time)))
      (λ held. held.0)
      (settled r.j b))
  gone (tick level ∷ h) s settled none k a r =
      gone h (m.ticked s level) (settles s level settled) none k (there s level k a) (come_on s level h k settled a r)
  gone (call p c ∷ h) s settled none k a r =
      gone h (m.called s p c) (settles_call s p c none.0 none.1 settled) none.2 k (called_there s p c k a)
      (call_on s p c none.0 none.1 h k a r)

  all_ready : (s : S) → AllReady m s → Settled s
  all_ready s ready k a = inl (ready k a)

  reached_come : (s : S) (h : History) (k : ℕ) → AllReady m s → Addressed m s k → Come s h k → Reached m s h k
  reached_come s h k ready a r =
      let b = at s r.j k r.not_beyond a in
      record {
        j = r.j;
        not_beyond = r.not_beyond;
        own = r.own;
        is_own = sym (mine_free s h r.j (free s r.j b (ready r.j b))) ∙ r.is_own;
        in_time = r.in_time;
      }

  come_reached : (s : S) (h : History) (k : ℕ) → AllReady m s → Addressed m s k → Reached m s h k → Come s h k
  come_reached s h k ready a r =
      let b = at s r.j k r.not_beyond a in
      record {
        j = r.j;
        not_beyond = r.not_beyond;
        own = r.own;
        is_own = mine_free s h r.j (free s r.j b (ready r.j b)) ∙ r.is_own;
        in_time = r.in_time;
      }

  pub played_size : (h : History) (s : S) → m.size (play m s h) ≡ m.size s
  played_size [] s = refl
  played_size (tick level ∷ h) s = played_size h (m.ticked s level) ∙ R.tick_size s level
  played_size (call p c ∷ h) s = played_size h (m.called s p c) ∙ R.call_size s p c

  pub law : Law m
  law = record {
    falls = λ s h ready none k a. (
      λ held. reached_come s h k ready a (come h s (all_ready s ready) none k a held),
      λ r. gone h s (all_ready s ready) none k a (come_reached s h k ready a r),
    );
    rests = λ s h k a. (R.sound (play m s h) k (subst (λ n. k < n) (sym (played_size h s)) a)).held_rests;
  }
