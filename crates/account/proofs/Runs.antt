-- A watched run, tick by tick.
use Rattle.std.proofs.Common.{◌≡◌, ℕ, suc, ◌+◌, ◌-◌, ◌<◌, Bool, ap, arith}
use Rattle.station.specs.Meaning.{Meaning}
use Rattle.account.specs.Watches.{View, tick_view, run_view}

module _ {S : Type 0} (m : Meaning S) (level : Bool) where
  -- one tick of those that are left after i of n
  pub run_more : (n i : ℕ) (v : View S) → i < n → run_view m level (n - i) v ≡ run_view m level (n - (i + 1)) (tick_view m level v)
  unfolding run_view
  run_more n i v h =
      let left : n - i ≡ suc (n - (i + 1)) = omega arith in ap (λ k. run_view m level k v) left
