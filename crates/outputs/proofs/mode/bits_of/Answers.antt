use Rattle.std.proofs.Common.{◌<◌, ◌^◌, rules, tests, ◌∙◌, arith}
use Rattle.std.proofs.lemmas.Iterator.Consumers.{fold_from_yields_List}
use Rattle.std.proofs.lemmas.Iterator.Adapters.{YieldsList-from_rev_slice}
use Rattle.bits.proofs.Digits.{shifted, digits_fold}
use Rattle.outputs.specs.Modes.{mode_bits}
use Rattle.outputs.specs.declared.mode.Mode.{Mode}
use Rattle.outputs.specs.declared.mode.Mode.TheVariants.{Unipolar, FiveVolts, TenVolts}
use Rattle.outputs.proofs.mode.bits_of.Goals as goal

mode_small : (m : Mode) → mode_bits m < 2 ^ 2
mode_small Unipolar = omega arith
mode_small FiveVolts = omega arith
mode_small TenVolts = omega arith

pub returns : goal.returns
returns c =
    fold_from_yields_List _ (shifted 2 32 mode_bits) 0 _ c.fold.ensures.ran (YieldsList-from_rev_slice c.args.modes cc) (λ a x b q k. search (rules, tests))
    ∙ digits_fold 2 32 mode_bits mode_small c.args.modes (omega arith)
