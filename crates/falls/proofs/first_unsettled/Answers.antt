use Rattle.std.proofs.Common.{sym, ap, ◌∙◌, arith}
use Rattle.falls.specs.Forecasts.{settled}
use Rattle.falls.proofs.Forecasts.{unsettled_here, unsettled_later, unsettled_none}
use Rattle.falls.proofs.first_unsettled.Goals as goal

pub returns-then-not-settled : goal.returns-then-not-settled
returns-then-not-settled g c =
    let m = g.S.Station.meaning in
    let seen = sym (c.settled.ensures ∙ ap settled c.facts.ensures) ∙ c.if-not-settled.true in
    sym (c.loop-number.invariant ∙ unsettled_here m g.met.S.Station.rules _ _ _ (omega (arith, c.loop-number-test.true, c.places-number-end.ensures)) seen)

pub loop-number-preserved : goal.loop-number-preserved
loop-number-preserved g c =
    let m = g.S.Station.meaning in
    let seen = sym (c.settled.ensures ∙ ap settled c.facts.ensures) ∙ c.if-not-settled.false in
    c.loop-number.invariant ∙ unsettled_later m g.met.S.Station.rules _ _ _ (omega (arith, c.loop-number-test.true, c.places-number-end.ensures)) seen

pub returns : goal.returns
returns g c =
    let m = g.S.Station.meaning in
    sym (c.loop-number.invariant ∙ unsettled_none m g.met.S.Station.rules _ _ _ (omega (arith, c.loop-number-test.false, c.places-number-end.ensures)))
