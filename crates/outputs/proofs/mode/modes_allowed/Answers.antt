use Rattle.std.proofs.Common.{is_ok, ◌&&◌, rules, tests, sym, ap, ◌∙◌}
use Rattle.std.specs.List.{list_all}
use Rattle.std.proofs.lemmas.Bool.{lt-ltb}
use Rattle.std.proofs.lemmas.Iterator.Search.{all_from_yields_List}
use Rattle.std.proofs.lemmas.Iterator.{YieldsList-from_slice}
use Rattle.outputs.specs.Modes.{named, pairs}
use Rattle.outputs.proofs.mode.modes_allowed.Goals as goal

pub returns-then-value-lt65536 : goal.returns-then-value-lt65536
returns-then-value-lt65536 c =
    let known = pairs c.args.value in
    all_from_yields_List (λ bits. is_ok (named bits)) _ _ _ c.all.ensures.ran (YieldsList-from_slice known cc) (λ x b q k. search (rules, tests))
    ∙ ap (λ narrow. narrow && list_all (λ bits. is_ok (named bits)) known) (sym (lt-ltb _ _ c.if-value-lt65536.true))
