-- What a station means: its places, what is told of each, and what a tick or a call makes of it.
use Rattle.std.specs.Prelude.{ℕ, Bool, ℤ, Result}
use Rattle.station.specs.declared.call.Call.{Call}
use Rattle.station.specs.declared.call.Call.TheVariants.{Read, Volts}
use Rattle.station.specs.declared.facts.Facts.{Facts}
use Rattle.station.specs.declared.refusal.Refusal.{Refusal}

-- what an accepted call answers
abbrev pub Value : Call → Type 0
Value (Read register) = ℕ
Value (Volts channel) = ℤ
Value c = Unit {0}

pub record Meaning (S : Type 0) : Type 0 where
  -- how many places it stands at
  pub size : S → ℕ
  -- what it tells of a place
  pub fact : S → ℕ → Facts
  -- which wire of a place is its stop wire
  pub stop_wire : S → ℕ → ℕ
  -- the level that its last place sends on
  pub sends : S → Bool
  -- the station after a tick in which place 0 hears a level
  pub ticked : S → Bool → S
  -- the station after a call at a place, and what the call answers
  pub called : S → ℕ → Call → S
  pub answer : S → ℕ → (c : Call) → Result (Value c) Refusal
  -- whether a call at a place is one of the guard calls that its kind names
  pub guards : S → ℕ → Call → Bool
