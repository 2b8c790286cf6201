-- The number of each refusal of the bench, and the place that it names.
use Rattle.std.specs.Prelude.{ℕ}
use Rattle.station.specs.Numbers.{number as turned_number}
use Rattle.bench.specs.declared.refusal.Refusal.{Refusal}
use Rattle.bench.specs.declared.refusal.Refusal.TheVariants.{NoPlace, Station, TooMany, NothingPending, ServiceOpen, NoService}

abbrev pub number : Refusal → ℕ
number (NoPlace place) = 1
number (Station place why) = turned_number why
number TooMany = 6
number (NothingPending place) = 7
number (ServiceOpen place) = 8
number (NoService place) = 9

abbrev pub detail : Refusal → ℕ
detail (NoPlace place) = place
detail (Station place why) = place
detail TooMany = 0
detail (NothingPending place) = place
detail (ServiceOpen place) = place
detail (NoService place) = place
