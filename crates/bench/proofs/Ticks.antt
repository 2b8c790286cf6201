-- Ticks one after another.
use Rattle.std.proofs.Common.{◌≡◌, ℕ, suc, ◌+◌, ◌-◌, ◌<◌, Bool, ap, arith}
use Rattle.station.specs.Meaning.{Meaning}
use Rattle.bench.specs.Ticks.{ticks}

module _ {S : Type 0} (m : Meaning S) (level : Bool) where
  pub ticks_none : (s : S) (left : ℕ) → left ≡ 0 → ticks m s level left ≡ s
  unfolding ticks
  ticks_none s left e = ap (ticks m s level) e

  -- one tick of those that are left after i of n
  pub ticks_more : (s : S) (n i : ℕ) → i < n → ticks m s level (n - i) ≡ ticks m (m.ticked s level) level (n - (i + 1))
  unfolding ticks
  ticks_more s n i h = let e : n - i ≡ suc (n - (i + 1)) = omega arith in ap (ticks m s level) e
