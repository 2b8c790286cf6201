use Rattle.std.proofs.Common.{ℕ, rules, tests, ◌∙◌, arith}
use Rattle.std.proofs.lemmas.Iterator.Adapters.{YieldsList-from_rev_slice}
use Rattle.std.proofs.lemmas.Iterator.Consumers.{fold_from_yields_List}
use Rattle.bits.proofs.Digits.{shifted, digits_fold, flag_small}
use Rattle.bits.specs.Words.{weight}
use Rattle.encoder.specs.declared.channel.Encoder.{Encoder}
use Rattle.encoder.proofs.eight.enables.Goals as goal

pub returns : goal.returns
returns c =
    let es = c.args.encoders.now in
    let told : Encoder → ℕ = λ e. weight e.enabled in
    fold_from_yields_List _ (shifted 4 32 told) 0 _ c.fold.ensures.ran (YieldsList-from_rev_slice es cc) (λ a x b q k. search (rules, tests))
    ∙ digits_fold 4 32 told (λ e. flag_small 3 e.enabled) es (omega arith)
