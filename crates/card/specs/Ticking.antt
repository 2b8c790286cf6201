-- A card keeps the rules of a station: at any time, and in a tick.
use Rattle.std.specs.Prelude.{◌≡◌, ℕ, ◌+◌, ◌-◌, Bool, true, false, cond, not, ◌&&◌, ◌||◌, Some, None, ◌==◌, ◌≢◌, refl}
use Rattle.std.proofs.Math.Path.{sym, ap}
use Rattle.std.proofs.Common.{◌∙◌, ⊎_elim, arith}
use Rattle.std.proofs.lemmas.Bool.{and_parts, and_from, cases_Bool, cond-true, cond-false, eqb-false, ne_eqb, or_parts, true≢false}
use Rattle.std.proofs.lemmas.Bool.Decides.{nat_tests}
use Rattle.board.specs.Boards.{held, ticked}
use Rattle.board.specs.declared.parts.Board.{Board}
use Rattle.guards.specs.Watchdogs.{ran, armed, due}
use Rattle.guards.specs.declared.watchdog.Watchdog.{Watchdog}
use Rattle.outputs.specs.Channels.{hushed}
use Rattle.outputs.proofs.Hushed.{hushed_rests}
use Rattle.station.specs.Rules.{Sound, Ticks, due_now, sooner, falls}
use Rattle.card.specs.declared.whole.Card.{Card}
use Rattle.card.specs.Cards.{card, settled}
use Rattle.card.specs.Facts.{passes, ready, rest, seen}
use Rattle.card.specs.Quiet.{quiet}
use Rattle.card.specs.Bools.{ready_by, held_by, stands, fall_exactly, fall_else_ready, held_stays_by}

-- a quiet board that is held is at rest
pub quiet_rests : (b : Board) → quiet b ≡ true → held b ≡ true → rest b ≡ true
quiet_rests b q h =
    let both = and_parts (hushed b.outputs) _ (sym (cond-true _ _ _ h) ∙ q) in
    and_from _ _ (hushed_rests b.outputs both.0) both.1

due_counted : (yes : Bool) (n : ℕ) → cond yes (Some (n + 1)) None ≢ Some 0
due_counted true n e = let z : n + 1 ≡ 0 = cc in omega arith
due_counted false n e = let z : ◌≡◌ {A = ℕ} 0 1 = cc in omega arith

selected_line : (act selected : Bool) (x y : Bool) → (act && selected) ≡ true → cond selected x y ≡ x
selected_line act selected x y e = cond-true _ _ _ (and_parts act selected e).1

pub card_sound : (c : Card) → Sound (seen c.board)
card_sound c =
    let b = c.board in
    record {
      ready_passes = λ r. let s = stands b.watchdog.rose b.watchdog.active b.watchdog.enabled b.watchdog.selected b.watchdog.output b.sense.high b.sense.fell b.sense.active b.fuse.blown r in and_from _ _ s.acts s.selects;
      ready_free = λ r. free (passes b) (held b) b.sense.high _ r;
      due_from_one = due_counted (armed b.watchdog) b.watchdog.count;
      held_rests = quiet_rests b c.held_rests;
      line_tells = selected_line b.sense.active b.watchdog.selected _ _;
    }
  where
    free : (p h k w : Bool) → (p && not h && k && w) ≡ true → h ≡ false
    free p h k w e = grind arith

-- the watchdog after a tick, flag by flag: e where it is enabled, z where its count is 0
abbrev ran_by : Bool → Bool → Watchdog → Watchdog
ran_by e z w = cond e
    (cond z
    (record w { count = w.preload; output = not w.output; rose = w.rose || not w.output })
    (record w { count = w.count - 1 }))
    w

or_none : (a : Bool) → a ≡ (a || false)
or_none true = refl
or_none false = refl

by_rose : (e z : Bool) (w : Watchdog) → (ran_by e z w).rose ≡ (w.rose || (e && z && not w.output))
by_rose true true w = refl
by_rose true false w = or_none w.rose
by_rose false z w = or_none w.rose

by_output : (e z : Bool) (w : Watchdog) → (ran_by e z w).output ≡ cond (e && z) (not w.output) w.output
by_output true true w = refl
by_output true false w = refl
by_output false z w = refl

by_enabled : (e z : Bool) (w : Watchdog) → (ran_by e z w).enabled ≡ w.enabled
by_enabled true true w = refl
by_enabled true false w = refl
by_enabled false z w = refl

by_active : (e z : Bool) (w : Watchdog) → (ran_by e z w).active ≡ w.active
by_active true true w = refl
by_active true false w = refl
by_active false z w = refl

by_selected : (e z : Bool) (w : Watchdog) → (ran_by e z w).selected ≡ w.selected
by_selected true true w = refl
by_selected true false w = refl
by_selected false z w = refl

-- an armed watchdog is due now exactly if its count is 0
now_due : (yes : Bool) (n : ℕ) → due_now (cond yes (Some (n + 1)) None) ≡ (yes && n == 0)
now_due true n = grind (arith, nat_tests)
now_due false n = refl

-- a watchdog that does not rise is due one tick sooner
due_sooner : (w : Watchdog) → (not (w.enabled && w.active) || armed w) ≡ true → (armed w && w.count == 0) ≡ false → due (ran w) ≡ sooner (due w)
due_sooner w watch stays = ⊎_elim goes_down stays_off (cases_Bool (armed w))
  where
    goes_down : armed w ≡ true → due (ran w) ≡ sooner (due w)
    goes_down a =
        let on = (and_parts w.enabled _ (and_parts _ _ (and_parts _ _ a).0).0).0 in
        let some = eqb-false w.count 0 (sym (ap (λ x. x && w.count == 0) a) ∙ stays) in
        let down : ran w ≡ record w { count = w.count - 1 } =
        cond-true _ _ _ on ∙ cond-false _ _ _ (ne_eqb w.count 0 some) in
        let same : w.count - 1 + 1 ≡ w.count + 1 - 1 = omega (arith, some) in
        ap due down ∙ cond-true _ _ _ a ∙ ap Some same ∙ sym (ap sooner (cond-true _ _ _ a))

    stays_off : armed w ≡ false → due (ran w) ≡ sooner (due w)
    stays_off a =
        let never = off (w.enabled && w.active) (sym (ap (λ x. not (w.enabled && w.active) || x) a) ∙ watch) in
        let both = ap (λ x. x && (ran w).active) (by_enabled w.enabled (w.count == 0) w) ∙ ap (λ x. w.enabled && x) (by_active w.enabled (w.count == 0) w) ∙ never in
        cond-false _ _ _ (ap (λ x. x && not (ran w).output && not (ran w).rose) both) ∙ sym (ap sooner (cond-false _ _ _ a))
      where
        off : (b : Bool) → (not b || false) ≡ true → b ≡ false
        off true e = absurd (true≢false (sym e))
        off false e = refl

module _ (c : Card) (level : Bool) where
  abbrev b : Board
  b = c.board

  abbrev w : Watchdog
  w = b.watchdog

  abbrev ends : Bool
  ends = w.count == 0

  -- held and ready after the tick, by the flags before it
  held_after : held (ticked b level) ≡ held_by (w.rose || (w.enabled && ends && not w.output)) w.active (b.sense.fell || (b.sense.high && not level)) b.sense.active (b.fuse.blown || b.fuse.wire)
  held_after =
      let others = ((b.sense.fell || (b.sense.high && not level)) && b.sense.active) || (b.fuse.blown || b.fuse.wire) in
      ap (λ x. (x && (ran w).active) || others) (by_rose w.enabled ends w)
      ∙ ap (λ x. ((w.rose || (w.enabled && ends && not w.output)) && x) || others) (by_active w.enabled ends w)

  falls_flags : falls (seen b) level ≡ ((armed w && ends) || (b.fuse.wire || not level))
  falls_flags = ap (λ x. x || (b.fuse.wire || not level)) (now_due (armed w) w.count)

  ready_after : ready (ticked b level) ≡ ready_by (w.rose || (w.enabled && ends && not w.output)) w.active w.enabled w.selected (cond (w.enabled && ends) (not w.output) w.output) level (b.sense.fell || (b.sense.high && not level)) b.sense.active (b.fuse.blown || b.fuse.wire)
  ready_after =
      let f = b.sense.fell || (b.sense.high && not level) in
      let x = b.fuse.blown || b.fuse.wire in
      let up = w.rose || (w.enabled && ends && not w.output) in
      let r : Bool → Bool → Bool → Bool → Bool → Bool = λ rose active enabled selected output. ready_by rose active enabled selected output level f b.sense.active x in
      ap (λ y. r y (ran w).active (ran w).enabled (ran w).selected (ran w).output) (by_rose w.enabled ends w)
      ∙ ap (λ y. r up y (ran w).enabled (ran w).selected (ran w).output) (by_active w.enabled ends w)
      ∙ ap (λ y. r up w.active y (ran w).selected (ran w).output) (by_enabled w.enabled ends w)
      ∙ ap (λ y. r up w.active w.enabled y (ran w).output) (by_selected w.enabled ends w)
      ∙ ap (λ y. r up w.active w.enabled w.selected y) (by_output w.enabled ends w)

  pub card_ticks : Ticks (seen b) level (seen (card.ticked c level).board)
  unfolding settled
  card_ticks = record {
    falls_exactly = λ r. held_after ∙ fall_exactly w.rose w.active w.enabled w.selected w.output ends b.sense.high b.sense.fell b.sense.active b.fuse.blown b.fuse.wire level r ∙ sym falls_flags;
    else_ready = λ r n. ready_after ∙ fall_else_ready w.rose w.active w.enabled w.selected w.output ends b.sense.high b.sense.fell b.sense.active b.fuse.blown b.fuse.wire level r (sym falls_flags ∙ n);
    else_sooner = λ r n.
        let s = stands w.rose w.active w.enabled w.selected w.output b.sense.high b.sense.fell b.sense.active b.fuse.blown r in
        due_sooner w s.watch (or_parts (armed w && ends) _ (sym falls_flags ∙ n)).0;
    held_stays = λ h. held_after ∙ held_stays_by w.rose w.active b.sense.fell b.sense.active b.fuse.blown _ _ b.fuse.wire h;
    passes_stays = ap (λ x. b.sense.active && x) (by_selected w.enabled ends w);
    stop_stays = refl;
  }
