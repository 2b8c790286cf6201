-- Histories: what happens to a chain, step by step, and when a place falls of its own accord.
use Rattle.std.specs.Prelude.{◌≡◌, ℕ, zero, suc, ◌<◌, min, Bool, false, cond, List, [], ◌∷◌, Some, None, Option}
use Rattle.station.specs.Meaning.{Meaning}
use Rattle.station.specs.declared.call.Call.{Call}

-- a tick that is told a level, or a call at a place, carried out or refused
pub data Step : Type 0 where
  tick : Bool → Step
  call : ℕ → Call → Step

abbrev pub History : Type 0
History = List Step

-- where a history leads
abbrev pub play : {S : Type 0} → Meaning S → S → History → S
play m s [] = s
play m s (tick level ∷ h) = play m (m.ticked s level) h
play m s (call p c ∷ h) = play m (m.called s p c) h

-- how many ticks it makes
abbrev pub ticks : History → ℕ
ticks [] = 0
ticks (tick level ∷ h) = suc (ticks h)
ticks (call p c ∷ h) = ticks h

-- its calls are made at places that there are, and none is a guard call in the state in which it is made
abbrev pub NoGuard : {S : Type 0} → Meaning S → S → History → Type 0
NoGuard m s [] = Unit {0}
NoGuard m s (tick level ∷ h) = NoGuard m (m.ticked s level) h
NoGuard m s (call p c ∷ h) = (p < m.size s) × (m.guards s p c ≡ false) × NoGuard m (m.called s p c) h

-- the earlier of two ticks, each of which there may be none of
abbrev pub earlier : Option ℕ → Option ℕ → Option ℕ
earlier None b = b
earlier (Some a) None = Some a
earlier (Some a) (Some b) = Some (min a b)

abbrev pub one_later : Option ℕ → Option ℕ
one_later None = None
one_later (Some n) = Some (suc n)

-- the first tick, counted from 1, at which the stop of place j stands
abbrev pub first_stop : {S : Type 0} → Meaning S → S → History → ℕ → Option ℕ
first_stop m s [] j = None
first_stop m s (tick level ∷ h) j = cond (m.fact s j).stop (Some 1) (one_later (first_stop m (m.ticked s level) h j))
first_stop m s (call p c ∷ h) j = first_stop m (m.called s p c) h j

-- the first tick that is told a low line
abbrev pub first_low : History → Option ℕ
first_low [] = None
first_low (tick level ∷ h) = cond level (one_later (first_low h)) (Some 1)
first_low (call p c ∷ h) = first_low h

-- the own tick of a place: the earliest of its due, the first tick at which its stop stands, and for
-- place 0 the first tick that is told a low line
abbrev pub own_tick : {S : Type 0} → Meaning S → S → History → ℕ → Option ℕ
own_tick m s h zero = earlier (m.fact s 0).due (earlier (first_stop m s h 0) (first_low h))
own_tick m s h (suc j) = earlier (m.fact s (suc j)).due (first_stop m s h (suc j))
