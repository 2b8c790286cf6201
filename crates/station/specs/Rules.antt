-- The rules that every kind of station keeps.
use Rattle.std.specs.Prelude.{◌≡◌, ℕ, zero, suc, ◌-◌, ◌<◌, Bool, true, false, cond, not, ◌||◌, is_ok, Some, None, Ok, Option, ◌==◌, ◌≢◌, nat_lt}
use Rattle.station.specs.declared.call.Call.{Call}
use Rattle.station.specs.declared.call.Call.TheVariants.{Read, Wire, Volts, Acknowledge}
use Rattle.station.specs.declared.facts.Facts.{Facts}
use Rattle.station.specs.Meaning.{Meaning}

-- what place k hears in a tick: place 0 what is told from outside, each later place the line of the
-- place before it, as that stood before the tick
abbrev pub heard : {S : Type 0} → Meaning S → S → Bool → ℕ → Bool
heard m s told zero = told
heard m s told (suc k) = (m.fact s k).line

abbrev pub due_now : Option ℕ → Bool
due_now None = false
due_now (Some n) = n == 1

abbrev pub sooner : Option ℕ → Option ℕ
sooner None = None
sooner (Some n) = Some (n - 1)

-- whether a ready place falls in a tick: it is due, its stop stands, or it hears low
abbrev pub falls : Facts → Bool → Bool
falls f hears = due_now f.due || (f.stop || not hears)

-- what holds of the facts of a place at any time
pub record Sound (f : Facts) : Type 0 where
  pub ready_passes : f.ready ≡ true → f.passes ≡ true
  pub ready_free : f.ready ≡ true → f.held ≡ false
  pub due_from_one : f.due ≡ Some 0 → ⊥
  pub held_rests : f.held ≡ true → f.rest ≡ true
  pub line_tells : f.passes ≡ true → f.line ≡ not f.held

-- what a tick does to the facts of a place that hears a level in it
pub record Ticks (old : Facts) (hears : Bool) (new : Facts) : Type 0 where
  pub falls_exactly : old.ready ≡ true → new.held ≡ falls old hears
  pub else_ready : old.ready ≡ true → falls old hears ≡ false → new.ready ≡ true
  pub else_sooner : old.ready ≡ true → falls old hears ≡ false → new.due ≡ sooner old.due
  pub held_stays : old.held ≡ true → new.held ≡ true
  pub passes_stays : new.passes ≡ old.passes
  pub stop_stays : new.stop ≡ old.stop

-- the facts that are as they were: all but rest and pending
pub record Kept (old new : Facts) : Type 0 where
  pub held : new.held ≡ old.held
  pub passes : new.passes ≡ old.passes
  pub line : new.line ≡ old.line
  pub ready : new.ready ≡ old.ready
  pub due : new.due ≡ old.due

-- a call that may be a guard call leaves the stop, and more where it is none
pub record Touches (guard : Bool) (old new : Facts) : Type 0 where
  pub stop : new.stop ≡ old.stop
  pub else_kept : guard ≡ false → Kept old new

abbrev pub with_stop : Facts → Bool → Facts
with_stop f level = record f { stop = level }

-- what an accepted call does to the facts of its own place, which has a stop wire
abbrev pub Does : Call → (guard : Bool) → (stop_wire : ℕ) → (old new : Facts) → Type 0
Does (Read register) guard stop_wire old new = new ≡ old
Does (Volts channel) guard stop_wire old new = new ≡ old
Does (Wire wire level) guard stop_wire old new = new ≡ cond (wire == stop_wire) (with_stop old (nat_lt 0 level)) old
Does c guard stop_wire old new = Touches guard old new

pub record Rules {S : Type 0} (m : Meaning S) : Type 0 where
  -- there are one or more places, always as many
  pub some_place : (s : S) → 0 < m.size s
  pub tick_size : (s : S) (told : Bool) → m.size (m.ticked s told) ≡ m.size s
  pub call_size : (s : S) (p : ℕ) (c : Call) → m.size (m.called s p c) ≡ m.size s
  pub sends_last : (s : S) → m.sends s ≡ (m.fact s (m.size s - 1)).line
  pub sound : (s : S) (k : ℕ) → k < m.size s → Sound (m.fact s k)
  pub tick : (s : S) (told : Bool) (k : ℕ) → k < m.size s → Ticks (m.fact s k) (heard m s told k) (m.fact (m.ticked s told) k)
  -- a call changes facts at its own place only
  pub call_elsewhere : (s : S) (p : ℕ) (c : Call) (k : ℕ) → p < m.size s → k < m.size s → (k ≢ p) → m.fact (m.called s p c) k ≡ m.fact s k
  pub call_here : (s : S) (p : ℕ) (c : Call) → p < m.size s → is_ok (m.answer s p c) ≡ true → Does c (m.guards s p c) (m.stop_wire s p) (m.fact s p) (m.fact (m.called s p c) p)
  -- a refused call changes nothing, and no acknowledgement is refused
  pub refused : (s : S) (p : ℕ) (c : Call) → is_ok (m.answer s p c) ≡ false → m.called s p c ≡ s
  pub acknowledged : (s : S) (p bits : ℕ) → m.answer s p (Acknowledge bits) ≡ Ok tt
  -- to ask for volts is only to look
  pub volts_look : (s : S) (p channel : ℕ) → m.called s p (Volts channel) ≡ s
