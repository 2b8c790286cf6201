-- Two tables of the same services are one table.
use Rattle.std.proofs.Common.{◌≡◌, length}
use mathlib.Core.HLevel.{is_prop→PathP}
use native.Mathlib.Nat.{ℕ_set}
use Rattle.bench.specs.declared.services.Services.{Services}

pub same_services : (a b : Services) → a.each ≡ b.each → a ≡ b
same_services a b p = λ i. record { each = p i; sixteen = is_prop→PathP (λ j. length (p j) ≡ 16) (λ j. ℕ_set (length (p j)) 16) a.sixteen b.sixteen i }
