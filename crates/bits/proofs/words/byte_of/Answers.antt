use Rattle.std.proofs.Common.{rules, tests, ◌∙◌, arith}
use Rattle.std.proofs.lemmas.Iterator.Consumers.{fold_from_yields_List}
use Rattle.std.proofs.lemmas.Iterator.Adapters.{YieldsList-from_rev_slice}
use Rattle.std.specs.Int.{from_bool}
use Rattle.bits.proofs.Digits.{shifted, digits_fold, flag_small}
use Rattle.bits.proofs.words.byte_of.Goals as goal

pub returns : goal.returns
returns c =
    fold_from_yields_List _ (shifted 1 8 from_bool) 0 _ c.fold.ensures.ran (YieldsList-from_rev_slice c.args.bits cc) (λ a x b q k. search (rules, tests))
    ∙ digits_fold 1 8 from_bool (flag_small 0) c.args.bits (omega arith)
