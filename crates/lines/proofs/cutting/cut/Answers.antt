use Rattle.std.proofs.Common.{◌<◌, length, sym, ◌∙◌, arith}
use Rattle.std.proofs.lemmas.Bool.{eqb-false}
use Rattle.lines.proofs.Cuts.{cut_at, last_cut}
use Rattle.lines.proofs.cutting.cut.Goals as goal

pub returns-in-Some : goal.returns-in-Some
returns-in-Some c =
    let other = eqb-false _ _ (sym c.if-is_empty.ensures) in
    let some : 0 < length c.args.trace.now = omega (arith, other) in
    cut_at _ _ some (sym c.line_end.ensures ∙ c.in-Some.is)

pub returns-in-None : goal.returns-in-None
returns-in-None c =
    let other = eqb-false _ _ (sym c.if-is_empty.ensures) in
    let some : 0 < length c.args.trace.now = omega (arith, other) in
    last_cut _ some (sym c.line_end.ensures ∙ c.in-None.is)
