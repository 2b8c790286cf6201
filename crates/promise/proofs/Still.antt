-- Cards and drives that are at rest put out nothing.
use Rattle.std.proofs.Common.{◌≡◌, ℕ, zero as none, suc, true, List, [], ◌∷◌, get_or, ℤ, pos, negsuc, Ok, sym, refl, ap, ◌∙◌}
use Rattle.std.proofs.lemmas.Bool.{and_parts, eqb-true, cond-true, lt-ltb, true≢false}
use Rattle.std.specs.List.{list_all}
use Rattle.bits.specs.Numbers.{up_to}
use Rattle.outputs.specs.Channels.{idle, output, zero}
use Rattle.outputs.specs.declared.channels.Channel.{Channel}
use Rattle.card.specs.Cards.{card}
use Rattle.card.specs.declared.whole.Card.{Card}
use Rattle.drive.specs.Drives.{drive}
use Rattle.drive.specs.States.{still}
use Rattle.drive.specs.declared.motor.Drive.{Drive}
use Rattle.promise.specs.Still.{StillCard, StillDrive}

is_zero : (z : ℤ) → zero z ≡ true → z ≡ pos 0
is_zero (pos n) e = ap pos (eqb-true n 0 e)
is_zero (negsuc n) e = absurd (true≢false (sym e))

-- each channel of outputs at rest puts out nothing, and so does one that is not there
each_zero : (cs : List Channel) (n : ℕ) → list_all (λ c. zero (output c)) cs ≡ true → zero (output (get_or cs n idle)) ≡ true
unfolding up_to
each_zero [] n e = refl
each_zero (c ∷ cs) none e = (and_parts (zero (output c)) _ e).0
each_zero (c ∷ cs) (suc n) e = each_zero cs n (and_parts (zero (output c)) _ e).1

pub card_still : (c : Card) → (card.fact c 0).rest ≡ true → StillCard c
card_still c e =
    let parts = and_parts _ _ e in
    record {
      volts = λ n h. cond-true _ _ _ (lt-ltb n 8 h) ∙ ap Ok (is_zero _ (each_zero c.board.outputs.channels n parts.0));
      direction = eqb-true _ _ parts.1;
    }

still_zero : (z : ℤ) → still z ≡ true → z ≡ pos 0
still_zero (pos n) e = ap pos (eqb-true n 0 e)
still_zero (negsuc n) e = absurd (true≢false (sym e))

pub drive_still : (d : Drive) → (drive.fact d 0).rest ≡ true → StillDrive d
drive_still d e = record { volts = ap Ok (still_zero d.state.setpoint e) }
