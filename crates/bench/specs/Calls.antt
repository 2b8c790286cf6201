-- What each call of the bench answers, and what it makes of the bench.
use Rattle.std.specs.Prelude.{ℕ, min, Bool, cond, ℤ, is_some, Some, None, Ok, Err, Option, Result, ◌==◌, nat_lt}
use Rattle.station.specs.Meaning.{Meaning, Value}
use Rattle.station.specs.declared.call.Call.{Call}
use Rattle.station.specs.declared.call.Call.TheVariants as call
use Rattle.station.specs.declared.facts.Facts.{Facts}
use Rattle.station.specs.declared.refusal.Refusal.{Refusal as Turned}
use Rattle.falls.specs.Forecasts.{foretold, unsettled, told as forecast}
use Rattle.falls.specs.declared.forecast.Forecast.{Forecast}
use Rattle.bench.specs.declared.Bench.{Bench}
use Rattle.bench.specs.declared.arming.Arming.{Arming}
use Rattle.bench.specs.declared.refusal.Back.{Back}
use Rattle.bench.specs.declared.refusal.Refusal.{Refusal}
use Rattle.bench.specs.declared.refusal.Refusal.TheVariants.{NoPlace, Station, TooMany, NothingPending, ServiceOpen, NoService}
use Rattle.bench.specs.declared.request.Request.{Request}
use Rattle.bench.specs.declared.request.Request.TheVariants.{Read, Write, Wire, Run, Until, Take, Acknowledge, Volts, Preload, Arm, Kick}
use Rattle.bench.specs.declared.ticket.Ticket.{Ticket}
use Rattle.bench.specs.Services.{no_service, service, same_service, with_service}
use Rattle.bench.specs.Ticks.{ticks, ticks_until}

-- a new bench takes its stations as they stand, and has no service open
abbrev pub fresh : {S : Type 0} → S → Bench S
fresh s = record { chain = s; services = no_service }

abbrev pub with_chain : {S : Type 0} → Bench S → S → Bench S
with_chain b s = record b { chain = s }

abbrev pub serving : {S : Type 0} → Bench S → ℕ → Option ℕ → Bench S
serving b place o = record b { services = with_service b.services place o }

-- the number of places that have an address
abbrev pub places : {S : Type 0} → Meaning S → Bench S → ℕ
places m b = min 16 (m.size b.chain)

-- what there is to see of a place
abbrev pub looked : {S : Type 0} → Meaning S → Bench S → ℕ → Result Facts Refusal
looked m b place = cond (nat_lt place (places m b)) (Ok (m.fact b.chain place)) (Err (NoPlace place))

-- what is to become of a place, if the outside line stays at a level and nothing more happens
abbrev pub foreseen : {S : Type 0} → Meaning S → Bench S → Bool → ℕ → Result Forecast Refusal
foreseen m b level place = cond (nat_lt place (places m b)) (Ok (forecast (unsettled m b.chain) (foretold m b.chain level place))) (Err (NoPlace place))

-- a station's answer, as the bench gives it on
abbrev pub told : {A : Type 0} → ℕ → Result A Turned → Result A Refusal
told place (Ok value) = Ok value
told place (Err why) = Err (Station place why)

-- a call at a place: what it answers, and the bench after it
abbrev pub answer_at : {S : Type 0} → Meaning S → Bench S → ℕ → (c : Call) → Result (Value c) Refusal
answer_at m b place c = cond (nat_lt place (places m b)) (told place (m.answer b.chain place c)) (Err (NoPlace place))

abbrev pub after_at : {S : Type 0} → Meaning S → Bench S → ℕ → Call → Bench S
after_at m b place c = cond (nat_lt place (places m b)) (with_chain b (m.called b.chain place c)) b

-- take: no service may be open at the place, and something must be pending
abbrev pub taken : {S : Type 0} → Meaning S → Bench S → ℕ → Result ℕ Refusal
taken m b place = cond (nat_lt place (places m b))
    (cond (is_some (service b.services place)) (Err (ServiceOpen place))
    (cond ((m.fact b.chain place).pending == 0) (Err (NothingPending place)) (Ok (m.fact b.chain place).pending)))
    (Err (NoPlace place))

abbrev pub after_take : {S : Type 0} → Bench S → ℕ → Result ℕ Refusal → Bench S
after_take b place (Ok bits) = serving b place (Some bits)
after_take b place (Err why) = b

-- acknowledge: the service must be open with just these bits
abbrev pub acknowledged : {S : Type 0} → Meaning S → Bench S → ℕ → ℕ → Result (Unit {0}) Refusal
acknowledged m b place bits = cond (nat_lt place (places m b)) (cond (same_service (service b.services place) bits) (Ok tt) (Err (NoService place))) (Err (NoPlace place))

abbrev pub after_acknowledge : {S : Type 0} → Meaning S → Bench S → ℕ → ℕ → Result (Unit {0}) Refusal → Bench S
after_acknowledge m b place bits (Ok done) = serving (with_chain b (m.called b.chain place (call.Acknowledge bits))) place None
after_acknowledge m b place bits (Err why) = b

-- what an accepted request answers
abbrev pub Answer : Request → Type 0
Answer (Read place register) = ℕ
Answer (Run level count) = ℕ
Answer (Until level count) = ℕ
Answer (Take place) = ℕ
Answer (Volts place channel) = ℤ
Answer q = Unit {0}

abbrev pub reply : {S : Type 0} → Meaning S → Bench S → (q : Request) → Result (Answer q) Refusal
reply m b (Read place register) = answer_at m b place (call.Read register)
reply m b (Write place register value) = answer_at m b place (call.Write register value)
reply m b (Wire place wire level) = answer_at m b place (call.Wire wire level)
reply m b (Run level count) = cond (nat_lt 1000000 count) (Err TooMany) (Ok count)
reply m b (Until level count) = cond (nat_lt 1000000 count) (Err TooMany) (Ok (ticks_until m b.chain level count))
reply m b (Take place) = taken m b place
reply m b (Acknowledge place bits) = acknowledged m b place bits
reply m b (Volts place channel) = answer_at m b place (call.Volts channel)
reply m b (Preload place ticks) = answer_at m b place (call.Preload ticks)
reply m b (Arm place) = answer_at m b place call.Arm
reply m b (Kick place) = answer_at m b place call.Kick

abbrev pub performed : {S : Type 0} → Meaning S → Bench S → Request → Bench S
performed m b (Read place register) = after_at m b place (call.Read register)
performed m b (Write place register value) = after_at m b place (call.Write register value)
performed m b (Wire place wire level) = after_at m b place (call.Wire wire level)
performed m b (Run level count) = cond (nat_lt 1000000 count) b (with_chain b (ticks m b.chain level count))
performed m b (Until level count) = cond (nat_lt 1000000 count) b (with_chain b (ticks m b.chain level (ticks_until m b.chain level count)))
performed m b (Take place) = after_take b place (taken m b place)
performed m b (Acknowledge place bits) = after_acknowledge m b place bits (acknowledged m b place bits)
performed m b (Volts place channel) = b
performed m b (Preload place ticks) = after_at m b place (call.Preload ticks)
performed m b (Arm place) = after_at m b place call.Arm
performed m b (Kick place) = after_at m b place call.Kick

-- what a taker gets
abbrev pub ticketed : ℕ → Result ℕ Refusal → Result Ticket Refusal
ticketed place (Ok bits) = Ok (record { place = place; bits = bits })
ticketed place (Err why) = Err why

-- the next stage of an arming
abbrev pub advanced : {A B : Type 0} → Arming A → Arming B
advanced a = record { place = a.place; stage = record {} }

-- what comes of something that is handed in: the next thing, or the refusal with what was given
abbrev pub handed : {T U : Type 0} → T → U → Result (Unit {0}) Refusal → Result U (Back T)
handed given next (Ok done) = Ok next
handed given next (Err why) = Err (record { why = why; given = given })
