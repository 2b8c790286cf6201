-- What the law foretells where nothing more happens from outside.
use Rattle.std.specs.Prelude.{◌≡◌, ℕ, zero, suc, ◌+◌, ◌≤◌, min, Bool, true, false, cond, not, ◌&&◌, ◌||◌, ◌↔◌, [], ◌∷◌, Some, None, Option}
use Rattle.station.specs.Meaning.{Meaning}
use Rattle.station.specs.declared.call.Call.{Call}
use Rattle.station.specs.declared.call.Call.TheVariants.{Wire}
use Rattle.station.specs.declared.facts.Facts.{Facts}
use Rattle.falls.specs.declared.forecast.Forecast.{Forecast}
use Rattle.falls.specs.declared.forecast.Forecast.TheVariants.{Unsettled, Never, At}
use Rattle.falls.specs.Histories.{tick, call, History, play, ticks, NoGuard, earlier, one_later}
use Rattle.falls.specs.Law.{Addressed, AllReady}

-- a history in which every tick is told one level, and no wire is set
abbrev pub sets_wire : Call → Bool
sets_wire (Wire wire level) = true
sets_wire c = false

abbrev pub Steady : Bool → History → Type 0
Steady level [] = Unit {0}
Steady level (tick told ∷ h) = (told ≡ level) × Steady level h
Steady level (call p c ∷ h) = (sets_wire c ≡ false) × Steady level h

-- a place of which the future can be told: it is ready, or held and passes
abbrev pub settled : Facts → Bool
settled f = f.ready || (f.held && f.passes)

-- when a place falls of its own accord: it has fallen, or falls at the next tick where its stop stands
-- or, at place 0, the outside line is low; else when it is due
abbrev pub waiting : Facts → Bool → Option ℕ
waiting f low = cond f.held (Some 0) (cond (f.stop || low) (Some 1) f.due)

-- when place k falls: of its own accord, or one tick after the place before it
unfoldable pub foretold : {S : Type 0} → Meaning S → S → Bool → ℕ → Option ℕ
foretold m s level zero = waiting (m.fact s 0) (not level)
foretold m s level (suc k) = earlier (waiting (m.fact s (suc k)) false) (one_later (foretold m s level k))

-- the first of n places from k on that is not settled
unfoldable pub unsettled_from : {S : Type 0} → Meaning S → S → ℕ → ℕ → Option ℕ
unsettled_from m s k zero = None
unsettled_from m s k (suc n) = cond (settled (m.fact s k)) (unsettled_from m s (k + 1) n) (Some k)

abbrev pub unsettled : {S : Type 0} → Meaning S → S → Option ℕ
unsettled m s = unsettled_from m s 0 (min 16 (m.size s))

abbrev pub expected : Option ℕ → Forecast
expected None = Never
expected (Some n) = At n

abbrev pub told : Option ℕ → Option ℕ → Forecast
told (Some j) falls = Unsettled j
told None falls = expected falls

-- a tick that there may be none of has been reached
abbrev pub By : Option ℕ → ℕ → Type 0
By None t = ⊥
By (Some n) t = n ≤ t

abbrev pub AllSettled : {S : Type 0} → Meaning S → S → Type 0
AllSettled m s = (k : ℕ) → Addressed m s k → settled (m.fact s k) ≡ true

-- from a state in which every addressed place is settled, as long as the history is steady and has no
-- guard call, an addressed place is held exactly if the tick that is foretold has been reached
pub record Foretells {S : Type 0} (m : Meaning S) (s : S) (level : Bool) : Type 0 where
  pub ready_settles : AllReady m s → AllSettled m s
  pub all_settled : (unsettled m s ≡ None) ↔ AllSettled m s
  pub falls : AllSettled m s → (h : History) → Steady level h → NoGuard m s h →
      (k : ℕ) → Addressed m s k → ((m.fact (play m s h) k).held ≡ true) ↔ By (foretold m s level k) (ticks h)
