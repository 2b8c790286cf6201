-- Ticks one after another, and ticks until an interrupt is pending.
use Rattle.std.specs.Prelude.{◌≡◌, ℕ, zero, suc, ◌+◌, ◌<◌, ◌≤◌, min, Bool, true, false, cond, ◌⊎◌, ◌==◌}
use Rattle.station.specs.Meaning.{Meaning}
use Rattle.falls.specs.Law.{Addressed}

-- a chain after n ticks, in all of which the outside line is at one level
unfoldable pub ticks : {S : Type 0} → Meaning S → S → Bool → ℕ → S
ticks m s level zero = s
ticks m s level (suc n) = ticks m (m.ticked s level) level n

-- one of n places from k on has an interrupt pending
unfoldable pub pending_from : {S : Type 0} → Meaning S → S → ℕ → ℕ → Bool
pending_from m s k zero = false
pending_from m s k (suc n) = cond ((m.fact s k).pending == 0) (pending_from m s (k + 1) n) true

-- an addressed place has
abbrev pub any_pending : {S : Type 0} → Meaning S → S → Bool
any_pending m s = pending_from m s 0 (min 16 (m.size s))

-- how many ticks are made while none has, at most n
unfoldable pub ticks_until : {S : Type 0} → Meaning S → S → Bool → ℕ → ℕ
ticks_until m s level zero = 0
ticks_until m s level (suc n) = cond (any_pending m s) 0 (suc (ticks_until m (m.ticked s level) level n))

-- the same without counting: t ticks are made of at most n, nothing was pending before any of them, and then something
-- is pending or n is reached
abbrev pub Silent : {S : Type 0} → Meaning S → S → Type 0
Silent m s = (k : ℕ) → Addressed m s k → (m.fact s k).pending ≡ 0

pub record Pending {S : Type 0} (m : Meaning S) (s : S) : Type 0 where
  pub place : ℕ
  pub addressed : Addressed m s place
  pub stands : (m.fact s place).pending ≡ 0 → ⊥

pub record Stops {S : Type 0} (m : Meaning S) (s : S) (level : Bool) (n t : ℕ) : Type 0 where
  pub at_most : t ≤ n
  pub silent_before : (i : ℕ) → i < t → Silent m (ticks m s level i)
  pub then_stops : Pending m (ticks m s level t) ⊎ (t ≡ n)
