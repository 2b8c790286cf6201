-- The number of each refusal of a station.
use Rattle.std.specs.Prelude.{ℕ}
use Rattle.station.specs.declared.refusal.Refusal.{Refusal}
use Rattle.station.specs.declared.refusal.Refusal.TheVariants.{NoSuch, WriteOnly, ReadOnly, NotAllowed}

abbrev pub number : Refusal → ℕ
number NoSuch = 2
number WriteOnly = 3
number ReadOnly = 4
number NotAllowed = 5
