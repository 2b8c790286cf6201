use Rattle.std.proofs.Common.{◌≡◌, ℕ, Bool, sym, refl, ap, ◌∙◌, subst, arith}
use Rattle.station.specs.Meaning.{Meaning}
use Rattle.bench.specs.Ticks.{ticks, ticks_until, Stops}
use Rattle.bench.proofs.Until.{ticks_end, until_begun, until_all, until_here, until_more, until_stops}
use Rattle.bench.proofs.ticking.tick_until.Goals as goal

pub loop-made-init : goal.loop-made-init
unfolding ticks
loop-made-init g c = (until_begun g.S.Station.meaning _ _ _, refl)

-- the count that the loop ends with is the one that the rule names
stopped : {S : Type 0} (m : Meaning S) (s : S) (level : Bool) (most made : ℕ) → made ≡ ticks_until m s level most → Stops m s level most made
stopped m s level most made is = subst (Stops m s level most) (sym is) (until_stops m level s most)

pub returns-then-any_pending : goal.returns-then-any_pending
returns-then-any_pending g c =
    let m = g.S.Station.meaning in
    let seen = sym c.any_pending.ensures ∙ c.if-any_pending.true in
    let is = until_here m _ _ _ _ _ c.loop-made-test.true seen c.loop-made.invariant.0 in
    record { value = is; after = c.loop-made.invariant.1; stops = stopped m _ _ _ _ is }

pub loop-made-preserved : goal.loop-made-preserved
loop-made-preserved g c =
    let m = g.S.Station.meaning in
    let seen = sym c.any_pending.ensures ∙ c.if-any_pending.false in (
      until_more m _ _ _ _ _ _ c.loop-made-test.true seen c.tick.ensures c.loop-made.invariant.0,
      c.tick.ensures ∙ ap (λ s. m.ticked s c.args.level) c.loop-made.invariant.1 ∙ sym (ticks_end m _ _ _),
    )

pub returns : goal.returns
returns g c =
    let m = g.S.Station.meaning in
    let all : c.args.most ≡ c.loop-made.made = omega arith in
    let is = until_all m _ _ _ _ _ all c.loop-made.invariant.0 in
    record { value = is; after = c.loop-made.invariant.1 ∙ ap (ticks m _ _) (sym all); stops = stopped m _ _ _ _ is }
