use Rattle.std.proofs.Common.{◌+◌, ◌%◌, ap₂}
use Rattle.bits.specs.Numbers.{up_to}
use Rattle.bits.proofs.Same.{same_number}
use Rattle.bits.proofs.number.UpTo.of.Goals as goal

pub returns : goal.returns
unfolding up_to
returns g c = same_number _ _ (ap₂ (λ a b. a % (b + 1)) c.from.ensures c.from-size.ensures)
