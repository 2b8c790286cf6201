-- The tick of a card, as a matter of flags only.
use Rattle.std.specs.Prelude.{◌≡◌, Bool, true, false, cond, not, ◌&&◌, ◌||◌, refl}
use Rattle.std.proofs.Common.{sym, ap, ◌∙◌, arith}
use Rattle.std.proofs.lemmas.Bool.{and_parts, and_from, or_parts, not-true, not-false, not_from_false, true≢false}

-- what the flags of a card say: held, ready, armed
abbrev pub held_by : (rose active fell act blown : Bool) → Bool
held_by rose active fell act blown = (rose && active) || ((fell && act) || blown)

abbrev pub armed_by : (enabled active output rose : Bool) → Bool
armed_by enabled active output rose = enabled && active && not output && not rose

abbrev pub ready_by : (rose active enabled selected output high fell act blown : Bool) → Bool
ready_by rose active enabled selected output high fell act blown =
    (act && selected) && not (held_by rose active fell act blown) && high && (not (enabled && active) || armed_by enabled active output rose)

-- what readiness says of each flag
pub record Stands (rose active enabled selected output high fell act blown : Bool) : Type 0 where
  pub acts : act ≡ true
  pub selects : selected ≡ true
  pub no_rise : (rose && active) ≡ false
  pub no_fall : fell ≡ false
  pub no_fuse : blown ≡ false
  pub hears : high ≡ true
  pub watch : (not (enabled && active) || armed_by enabled active output rose) ≡ true

pub stands : (rose active enabled selected output high fell act blown : Bool) →
    ready_by rose active enabled selected output high fell act blown ≡ true → Stands rose active enabled selected output high fell act blown
stands rose active enabled selected output high fell act blown r =
    let a = and_parts _ _ r in
    let b = and_parts _ _ a.0 in
    let c = and_parts _ _ b.0 in
    let d = and_parts _ _ c.0 in
    let loose = not-true (held_by rose active fell act blown) c.1 in
    let causes = or_parts (rose && active) _ loose in
    let outer = or_parts (fell && act) _ causes.1 in
    record { acts = d.0; selects = d.1; no_rise = causes.0; no_fall = unacted fell act d.0 outer.0; no_fuse = outer.1; hears = b.1; watch = a.1 }
  where
    unacted : (fell act : Bool) → act ≡ true → (fell && act) ≡ false → fell ≡ false
    unacted true act on off = absurd (true≢false (sym on ∙ off))
    unacted false act on off = refl

-- the watchdog in a tick, where it is off or armed
watch_falls : (rose active enabled output ends : Bool) → (rose && active) ≡ false → (not (enabled && active) || armed_by enabled active output rose) ≡ true →
    ((rose || (enabled && ends && not output)) && active) ≡ (armed_by enabled active output rose && ends)
watch_falls rose active enabled output ends p q = grind arith

watch_stays : (rose active enabled output ends : Bool) → (rose && active) ≡ false → (not (enabled && active) || armed_by enabled active output rose) ≡ true →
    (armed_by enabled active output rose && ends) ≡ false →
    (not (enabled && active) || armed_by enabled active (cond (enabled && ends) (not output) output) (rose || (enabled && ends && not output))) ≡ true
watch_stays rose active enabled output ends p q n = grind arith

joined : (a wire level : Bool) → (a || (((false || (true && not level)) && true) || (false || wire))) ≡ (a || (wire || not level))
joined true wire level = refl
joined false true true = refl
joined false true false = refl
joined false false true = refl
joined false false false = refl

module _ (rose active enabled selected output ends high fell act blown wire level : Bool) (r : ready_by rose active enabled selected output high fell act blown ≡ true) where
  abbrev pub rose' : Bool
  rose' = rose || (enabled && ends && not output)

  abbrev pub output' : Bool
  output' = cond (enabled && ends) (not output) output

  abbrev pub held' : Bool
  held' = held_by rose' active (fell || (high && not level)) act (blown || wire)

  abbrev pub falls_by : Bool
  falls_by = (armed_by enabled active output rose && ends) || (wire || not level)

  pub fall_exactly : held' ≡ falls_by
  fall_exactly =
      let s = stands rose active enabled selected output high fell act blown r in
      ap (λ f. held_by rose' active (f || (high && not level)) act (blown || wire)) s.no_fall
      ∙ ap (λ h. held_by rose' active (false || (h && not level)) act (blown || wire)) s.hears
      ∙ ap (λ a. held_by rose' active (false || (true && not level)) a (blown || wire)) s.acts
      ∙ ap (λ b. held_by rose' active (false || (true && not level)) true (b || wire)) s.no_fuse
      ∙ ap (λ w. w || (((false || (true && not level)) && true) || (false || wire))) (watch_falls rose active enabled output ends s.no_rise s.watch)
      ∙ joined (armed_by enabled active output rose && ends) wire level

  pub fall_else_ready : falls_by ≡ false →
      ready_by rose' active enabled selected output' level (fell || (high && not level)) act (blown || wire) ≡ true
  fall_else_ready n =
      let s = stands rose active enabled selected output high fell act blown r in
      let parts = or_parts (armed_by enabled active output rose && ends) _ n in
      let low = or_parts wire _ parts.1 in
      and_from _ _ (and_from _ _ (and_from _ _ (and_from _ _ s.acts s.selects) (not_from_false held' (fall_exactly ∙ n))) (not-false level low.1))
      (watch_stays rose active enabled output ends s.no_rise s.watch parts.0)

-- a held card stays held
pub held_stays_by : (rose active fell act blown a b c : Bool) → held_by rose active fell act blown ≡ true → held_by (rose || a) active (fell || b) act (blown || c) ≡ true
held_stays_by rose active fell act blown a b c h = grind arith
