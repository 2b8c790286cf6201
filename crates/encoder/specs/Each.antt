-- All encoders of a card.
use Rattle.std.specs.Prelude.{ℕ, ◌+◌, ◌*◌, Bool, not, ◌&&◌, List, [], ◌∷◌, ◌≡◌}
use Rattle.std.specs.Borrow.{MutBor}
pub use Rattle.bits.specs.Words.{gathered_by}
use Rattle.bits.specs.Words.{bit}
use Rattle.encoder.specs.declared.channel.Encoder.{Encoder}
use Rattle.encoder.specs.Channels.{stepped, commanded}

-- each encoder changed by its number, from n on
unfoldable pub each : (ℕ → Encoder → Encoder) → ℕ → List Encoder → List Encoder
each f n [] = []
each f n (e ∷ es) = f n e ∷ each f (n + 1) es

-- each call changes an encoder, by its number, as f does
abbrev pub Does : (MutBor Encoder → ℕ → Unit {0} → MutBor Encoder → Type 0) → (ℕ → Encoder → Encoder) → Type 0
Does post f = (n : ℕ) (e after : MutBor Encoder) → post e n tt after → after.now ≡ f n e.now

-- a tick
abbrev pub with_step : ℕ → Encoder → Encoder
with_step n e = stepped e

-- bit n latches, 8 + n loads the preset, 16 + n clears
abbrev pub with_command : ℕ → ℕ → Encoder → Encoder
with_command value n e = commanded e (bit value n) (bit value (8 + n)) (bit value (16 + n))

-- bit 4n: encoder n counts
abbrev pub with_enable : ℕ → ℕ → Encoder → Encoder
with_enable value n e = record e { enabled = bit value (4 * n) }

-- bit n clears the carry or borrow of encoder n, 8 + n its error
abbrev pub with_cleared : ℕ → ℕ → Encoder → Encoder
with_cleared value n e = record e { wrapped = e.wrapped && not (bit value n); lost = e.lost && not (bit value (8 + n)) }

-- the flag of encoder n in bit n
abbrev pub gathered : (Encoder → Bool) → List Encoder → ℕ
gathered f es = gathered_by 2 f es
