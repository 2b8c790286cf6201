use Rattle.std.proofs.Common.{◌≡◌, ℕ, zero, suc, ◌+◌, ◌-◌, ◌<◌, Some, None, sym, refl, ap, ◌∙◌, arith}
use Rattle.std.proofs.lemmas.List.{get_or_past}
use Rattle.board.specs.Registers.{registers, numbered, named}
use Rattle.board.specs.declared.register.Register.TheVariants.{Encoder}
use Rattle.board.proofs.register.RegisterTryFromU8.try_from.Goals as goal

-- the last eight of the table
encoder_at : (k : ℕ) → k < 8 → numbered (21 + k) ≡ Some (Encoder k)
unfolding numbered
encoder_at zero h = refl
encoder_at (suc zero) h = refl
encoder_at (suc (suc zero)) h = refl
encoder_at (suc (suc (suc zero))) h = refl
encoder_at (suc (suc (suc (suc zero)))) h = refl
encoder_at (suc (suc (suc (suc (suc zero))))) h = refl
encoder_at (suc (suc (suc (suc (suc (suc zero)))))) h = refl
encoder_at (suc (suc (suc (suc (suc (suc (suc zero))))))) h = refl
encoder_at (suc (suc (suc (suc (suc (suc (suc (suc k)))))))) h = absurd (omega arith)

pub returns-in-21-to-28 : goal.returns-in-21-to-28
returns-in-21-to-28 c =
    let n = c.args.number in
    let there : n ≡ 21 + (n - 21) = omega arith in
    ap named (sym (ap numbered there ∙ encoder_at (n - 21) (omega arith)))

pub returns-in_default-3 : goal.returns-in_default-3
unfolding numbered
returns-in_default-3 c = ap named (sym (get_or_past registers c.args.number None (omega arith)))
