use Rattle.std.proofs.Common.{◌+◌, ◌*◌, get_or, ap, ◌∙◌}
use Rattle.encoder.specs.Turns.{place}
use Rattle.encoder.specs.declared.turn.Turn.TheVariants.{Still}
use Rattle.encoder.proofs.Turns.{table, rows}
use Rattle.encoder.proofs.turn.turned.Goals as goal

pub returns : goal.returns
returns c =
    let old = c.args.old in
    let new = c.args.new in
    ap (λ n. get_or table (4 * n + c.place-2.result) Still) c.place.ensures
    ∙ ap (λ n. get_or table (4 * place old + n) Still) c.place-2.ensures
    ∙ rows old.a old.b new.a new.b Still
