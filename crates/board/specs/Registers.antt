-- The registers of a card: their numbers, and what may be written to them.
use Rattle.std.specs.Prelude.{ℕ, cond, List, [], ◌∷◌, Some, None, Ok, Err, Option, Result, ◌==◌, bit_and, slice_index_or}
use Rattle.outputs.specs.Modes.{modes_allowed}
use Rattle.station.specs.declared.refusal.Refusal.{Refusal}
use Rattle.station.specs.declared.refusal.Refusal.TheVariants.{NoSuch, ReadOnly, NotAllowed}
use Rattle.board.specs.declared.register.Register.{Register}
use Rattle.board.specs.declared.register.Register.TheVariants.{InterruptEnable, InterruptStatus, Control, Status, Preload, WatchdogControl, Digital, Direction, Results, Codes, Update, Modes, EncoderModes, EncoderCommand, Encoder}

-- from 00 to 1C; there is none at 04, 05, 07 and 12
abbrev pub registers : List (Option Register)
registers =
    Some InterruptEnable ∷ Some InterruptStatus ∷ Some Control ∷ Some Status ∷ None ∷ None ∷ Some Preload ∷ None ∷
    Some WatchdogControl ∷ Some Digital ∷ Some Direction ∷ Some Results ∷ Some (Codes 0) ∷ Some (Codes 1) ∷ Some (Codes 2) ∷ Some (Codes 3) ∷
    Some Update ∷ Some Modes ∷ None ∷ Some EncoderModes ∷ Some EncoderCommand ∷ Some (Encoder 0) ∷ Some (Encoder 1) ∷ Some (Encoder 2) ∷
    Some (Encoder 3) ∷ Some (Encoder 4) ∷ Some (Encoder 5) ∷ Some (Encoder 6) ∷ Some (Encoder 7) ∷ []

unfoldable pub numbered : ℕ → Option Register
numbered n = slice_index_or registers n None

-- a number that names none is refused
abbrev pub named : {A : Type 0} → Option A → Result A Refusal
named None = Err NoSuch
named (Some a) = Ok a

-- the bits that may not be written 1
abbrev pub forbidden : Register → ℕ
forbidden InterruptEnable = 0xff100000
forbidden InterruptStatus = 0xff100000
forbidden Control = 0xfff0f03e
forbidden WatchdogControl = 0xffff2eff
forbidden (Codes pair) = 0xf000f000
forbidden EncoderModes = 0xeeeeeeee
forbidden EncoderCommand = 0xff000000
forbidden (Encoder n) = 0xff000000
forbidden r = 0

-- first what can only be read, then reserved bits and mode 3
abbrev pub allowed : Register → ℕ → Result (Unit {0}) Refusal
allowed Status value = Err ReadOnly
allowed Results value = Err ReadOnly
allowed Modes value = cond (modes_allowed value) (Ok tt) (Err NotAllowed)
allowed r value = cond (bit_and value (forbidden r) == 0) (Ok tt) (Err NotAllowed)
