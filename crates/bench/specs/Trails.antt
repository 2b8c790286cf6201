-- Lists of requests, and the trail of single steps of the chain that they leave.
use Rattle.std.specs.Prelude.{◌≡◌, ℕ, ◌+◌, false, List, [], ◌∷◌, ◌++◌, replicate, Ok, Err, Result}
use Rattle.station.specs.Meaning.{Meaning}
use Rattle.station.specs.declared.call.Call.{Call}
use Rattle.station.specs.declared.call.Call.TheVariants as call
use Rattle.falls.specs.Histories.{tick, call as call_at, History}
use Rattle.bench.specs.declared.Bench.{Bench}
use Rattle.bench.specs.declared.refusal.Refusal.{Refusal}
use Rattle.bench.specs.declared.request.Request.{Request}
use Rattle.bench.specs.declared.request.Request.TheVariants.{Read, Write, Wire, Run, Until, Take, Acknowledge, Volts, Preload, Arm, Kick}
use Rattle.bench.specs.Calls.{Answer, reply, performed}

-- the bench after a list of requests, each carried out or refused on the bench as the one before left it
abbrev pub afterwards : {S : Type 0} → Meaning S → Bench S → List Request → Bench S
afterwards m b [] = b
afterwards m b (q ∷ qs) = afterwards m (performed m b q) qs

-- the ticks that a request returns: those of run and until
abbrev pub ticks_of : Result ℕ Refusal → ℕ
ticks_of (Ok n) = n
ticks_of (Err why) = 0

abbrev pub ticks_told : (q : Request) → Result (Answer q) Refusal → ℕ
ticks_told (Run level count) r = ticks_of r
ticks_told (Until level count) r = ticks_of r
ticks_told q r = 0

-- those that a list of requests returns
abbrev pub ticks_returned : {S : Type 0} → Meaning S → Bench S → List Request → ℕ
ticks_returned m b [] = 0
ticks_returned m b (q ∷ qs) = ticks_told q (reply m b q) + ticks_returned m (performed m b q) qs

-- the single steps that a request makes: a call of the chain if it is accepted, and for run and until the ticks
-- that they return; a take only looks
abbrev pub called_at : {A : Type 0} → ℕ → Call → Result A Refusal → History
called_at place c (Ok value) = call_at place c ∷ []
called_at place c (Err why) = []

abbrev pub steps : {S : Type 0} → Meaning S → Bench S → Request → History
steps m b (Read place register) = called_at place (call.Read register) (reply m b (Read place register))
steps m b (Write place register value) = called_at place (call.Write register value) (reply m b (Write place register value))
steps m b (Wire place wire level) = called_at place (call.Wire wire level) (reply m b (Wire place wire level))
steps m b (Run level count) = replicate (ticks_of (reply m b (Run level count))) (tick level)
steps m b (Until level count) = replicate (ticks_of (reply m b (Until level count))) (tick level)
steps m b (Take place) = []
steps m b (Acknowledge place bits) = called_at place (call.Acknowledge bits) (reply m b (Acknowledge place bits))
steps m b (Volts place channel) = called_at place (call.Volts channel) (reply m b (Volts place channel))
steps m b (Preload place ticks) = called_at place (call.Preload ticks) (reply m b (Preload place ticks))
steps m b (Arm place) = called_at place call.Arm (reply m b (Arm place))
steps m b (Kick place) = called_at place call.Kick (reply m b (Kick place))

-- the trail of a list of requests. The moments are the ends of its beginnings: the new bench, the end of a call, the
-- end of each single tick
abbrev pub trail : {S : Type 0} → Meaning S → Bench S → List Request → History
trail m b [] = []
trail m b (q ∷ qs) = steps m b q ++ trail m (performed m b q) qs

-- no call of a trail is a guard call in the state in which it is made
abbrev pub Unguarded : {S : Type 0} → Meaning S → S → History → Type 0
Unguarded m s [] = Unit {0}
Unguarded m s (tick level ∷ h) = Unguarded m (m.ticked s level) h
Unguarded m s (call_at p c ∷ h) = (m.guards s p c ≡ false) × Unguarded m (m.called s p c) h
