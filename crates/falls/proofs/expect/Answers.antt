use Rattle.std.proofs.Common.{◌+◌, ◌^◌, false, not, sym, ap, ◌∙◌, subst, arith}
use Rattle.falls.specs.Bounds.{AtMost}
use Rattle.falls.specs.Forecasts.{waiting, foretold}
use Rattle.falls.specs.Histories.{earlier, one_later}
use Rattle.falls.proofs.Forecasts.{foretold_next, most_more, most_less}
use Rattle.falls.proofs.expect.Goals as goal

pub loop-before-init : goal.loop-before-init
unfolding foretold
loop-before-init g c =
    (c.waiting-falls.ensures.value ∙ ap (λ f. waiting f (not c.args.level)) c.facts.ensures, c.waiting-falls.ensures.bound)

pub one_later-requires : goal.one_later-requires
one_later-requires g c = most_less _ c.loop-before.before (omega (arith, c.loop-before-test.true, c.args.place.addressed)) c.loop-before.invariant.1

pub loop-before-preserved : goal.loop-before-preserved
loop-before-preserved g c =
    let m = g.S.Station.meaning in
    let own = c.waiting-own.ensures.value ∙ ap (λ f. waiting f false) c.facts-in-loop-before.ensures in
    let passed = c.one_later.ensures ∙ ap one_later c.loop-before.invariant.0 in
    let made = c.earlier-falls.ensures ∙ ap (earlier c.waiting-own.result) c.one_later.ensures in (
      c.earlier-falls.ensures ∙ ap (λ a. earlier a c.one_later.result) own ∙ ap (earlier _) passed
          ∙ sym (foretold_next m g.met.S.Station.rules c.args.chain.now c.args.level c.loop-before.before),
      subst (λ o. AtMost o (2 ^ 64 + (c.loop-before.before + 1))) (sym made)
          (most_more c.waiting-own.result c.loop-before.falls c.loop-before.before c.waiting-own.ensures.bound c.loop-before.invariant.1),
    )
