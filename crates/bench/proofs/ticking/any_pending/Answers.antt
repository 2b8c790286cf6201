use Rattle.std.proofs.Common.{sym, ap, ◌∙◌, arith}
use Rattle.station.specs.declared.facts.Facts.{Facts}
use Rattle.bench.proofs.Pending.{pending_here, pending_later, pending_none}
use Rattle.bench.proofs.ticking.any_pending.Goals as goal

pub returns-then-facts-ne0 : goal.returns-then-facts-ne0
returns-then-facts-ne0 g c =
    let seen = ap (λ (f : Facts). f.pending) c.facts.ensures in
    sym (c.loop-number.invariant ∙ pending_here g.S.Station.meaning _ _ _ (omega (arith, c.loop-number-test.true, c.places-number-end.ensures)) (λ none. c.if-facts-ne0.true (seen ∙ none)))

pub loop-number-preserved : goal.loop-number-preserved
loop-number-preserved g c =
    let seen = ap (λ (f : Facts). f.pending) c.facts.ensures in
    c.loop-number.invariant ∙ pending_later g.S.Station.meaning _ _ _ (omega (arith, c.loop-number-test.true, c.places-number-end.ensures)) (sym seen ∙ c.if-facts-ne0.false)

pub returns : goal.returns
returns g c = sym (c.loop-number.invariant ∙ pending_none g.S.Station.meaning _ _ _ (omega (arith, c.loop-number-test.false, c.places-number-end.ensures)))
