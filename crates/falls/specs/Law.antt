-- The law of falls, and rest.
use Rattle.std.specs.Prelude.{◌≡◌, ℕ, ◌+◌, ◌-◌, ◌<◌, ◌≤◌, true, ◌↔◌, Some}
use Rattle.station.specs.Meaning.{Meaning}
use Rattle.falls.specs.Histories.{History, play, ticks, NoGuard, own_tick}

-- a place that has an address
abbrev pub Addressed : {S : Type 0} → Meaning S → S → ℕ → Type 0
Addressed m s k = (k < 16) × (k < m.size s)

abbrev pub AllReady : {S : Type 0} → Meaning S → S → Type 0
AllReady m s = (k : ℕ) → Addressed m s k → (m.fact s k).ready ≡ true

-- some place j, not beyond k, has an own tick of at most t - (k - j), where t ticks were made
pub record Reached {S : Type 0} (m : Meaning S) (s : S) (h : History) (k : ℕ) : Type 0 where
  pub j : ℕ
  pub not_beyond : j ≤ k
  pub own : ℕ
  pub is_own : own_tick m s h j ≡ Some own
  pub in_time : own + (k - j) ≤ ticks h

-- from any state in which every addressed place is ready, as long as no guard call follows, an
-- addressed place is held exactly if it has been reached
abbrev pub Falls : {S : Type 0} → Meaning S → Type 0
Falls {S} m = (s : S) (h : History) → AllReady m s → NoGuard m s h →
    (k : ℕ) → Addressed m s k → ((m.fact (play m s h) k).held ≡ true) ↔ Reached m s h k

-- a held place is at rest, whatever happened before
abbrev pub Rests : {S : Type 0} → Meaning S → Type 0
Rests {S} m = (s : S) (h : History) (k : ℕ) → k < m.size s → (m.fact (play m s h) k).held ≡ true → (m.fact (play m s h) k).rest ≡ true

pub record Law {S : Type 0} (m : Meaning S) : Type 0 where
  pub falls : Falls m
  pub rests : Rests m
