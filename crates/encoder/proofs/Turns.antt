-- The table of turns, entry by entry.
use Rattle.std.proofs.Common.{◌≡◌, ◌+◌, ◌*◌, Bool, true, false, List, [], ◌∷◌, get_or, refl, arith}
use Rattle.encoder.specs.declared.channel.Encoder.{Encoder}
use Rattle.encoder.specs.declared.turn.Turn.{Turn}
use Rattle.encoder.specs.declared.turn.Turn.TheVariants.{Still, Up, Down, Lost}
use Rattle.encoder.specs.Channels.{moved, stepped}
use Rattle.encoder.specs.Turns.{place, turn}

abbrev pub table : List Turn
table = Still ∷ Up ∷ Down ∷ Lost ∷ Down ∷ Still ∷ Lost ∷ Up ∷ Up ∷ Lost ∷ Still ∷ Down ∷ Lost ∷ Down ∷ Up ∷ Still ∷ []

pub rows : (oa ob na nb : Bool) (d : Turn) →
    get_or table (4 * place (record { a = oa; b = ob }) + place (record { a = na; b = nb })) d ≡ turn (record { a = oa; b = ob }) (record { a = na; b = nb })
rows false false false false d = refl
rows false false false true d = refl
rows false false true false d = refl
rows false false true true d = refl
rows false true false false d = refl
rows false true false true d = refl
rows false true true false d = refl
rows false true true true d = refl
rows true false false false d = refl
rows true false false true d = refl
rows true false true false d = refl
rows true false true true d = refl
rows true true false false d = refl
rows true true false true d = refl
rows true true true false d = refl
rows true true true true d = refl

-- the tick of an encoder that has not turned
pub unmoved : (e : Encoder) → moved e ≡ false → e ≡ stepped e
unmoved e still = grind arith
