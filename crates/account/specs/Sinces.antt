-- Since when a place has been held, told of the trail of the chain.
use Rattle.std.specs.Prelude.{◌≡◌, ℕ, ◌+◌, min, true, false, ◌⊎◌, List, [], ◌∷◌, ◌++◌, Some, None}
use Rattle.station.specs.Meaning.{Meaning}
use Rattle.falls.specs.Histories.{Step, tick, call, History, play, ticks}
use Rattle.account.specs.declared.row.Rest.{Rest}
use Rattle.account.specs.declared.row.Row.{Row}

-- the count of ticks stops at the largest number of 64 bits
abbrev pub capped : ℕ → ℕ
capped n = min n 0xffff_ffff_ffff_ffff

-- place k is held at every moment of a trail, its beginning and its end among them
abbrev pub Stays : {S : Type 0} → Meaning S → S → History → ℕ → Type 0
Stays m s [] k = (m.fact s k).held ≡ true
Stays m s (tick level ∷ h) k = ((m.fact s k).held ≡ true) × Stays m (m.ticked s level) h k
Stays m s (call p c ∷ h) k = ((m.fact s k).held ≡ true) × Stays m (m.called s p c) h k

-- place k is held at every moment of the trail h from the one after t ticks on, and that moment is the first of the
-- trail, or it was not held one step earlier
pub record Since {S : Type 0} (m : Meaning S) (s : S) (h : History) (k t : ℕ) : Type 0 where
  pub before : History
  pub after : History
  pub whole : before ++ after ≡ h
  pub made : t ≡ capped (ticks before)
  pub held : Stays m (play m s before) after k
  pub begins : (before ≡ []) ⊎ ((earlier : History) × (step : Step) × (earlier ++ (step ∷ []) ≡ before) × ((m.fact (play m s earlier) k).held ≡ false))

-- a row tells what is to be seen of place k at the end of the trail, and since when it is held, if it is
pub record Tells {S : Type 0} (m : Meaning S) (s : S) (h : History) (k : ℕ) (row : Row) : Type 0 where
  pub facts : row.facts ≡ m.fact (play m s h) k
  pub since : (m.fact (play m s h) k).held ≡ true → (r : Rest) × (row.rest ≡ Some r) × Since m s h k r.tick
  pub free : (m.fact (play m s h) k).held ≡ false → row.rest ≡ None

-- so does each of the rows from place k on
abbrev pub AllTell : {S : Type 0} → Meaning S → S → History → ℕ → List Row → Type 0
AllTell m s h k [] = Unit {0}
AllTell m s h k (row ∷ rows) = Tells m s h k row × AllTell m s h (k + 1) rows
