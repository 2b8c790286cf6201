-- A trace on a bench: what each line answers, and what it makes of the bench.
use Rattle.std.specs.Prelude.{ℕ, ◌-◌, List, [], ◌∷◌, ◌++◌, ℤ, pos, negsuc, Ok, Err, Result}
use Rattle.station.specs.Meaning.{Meaning}
use Rattle.bench.specs.declared.Bench.{Bench}
use Rattle.bench.specs.declared.refusal.Refusal.{Refusal as Turned}
use Rattle.bench.specs.declared.request.Request.{Request}
use Rattle.bench.specs.declared.request.Request.TheVariants.{Read, Write, Wire, Run, Until, Take, Acknowledge, Volts, Preload, Arm, Kick}
use Rattle.bench.specs.Calls.{Answer, reply, performed}
use Rattle.lines.specs.declared.command.Command.{Command}
use Rattle.lines.specs.declared.command.Command.TheVariants as command
use Rattle.lines.specs.declared.malformed.Malformed.{Malformed}
use Rattle.lines.specs.Lines.{decoded}
use Rattle.lines.specs.Records.{record_of}
use Rattle.replay.specs.declared.refusal.Refusal.{Refusal}
use Rattle.replay.specs.declared.refusal.Refusal.TheVariants as refusal
use Rattle.replay.specs.Refusals.{answer_coded}

-- the call of the bench that a command is
abbrev pub request : Command → Request
request (command.Write place register value) = Write place register value
request (command.Read place register) = Read place register
request (command.Wire place wire level) = Wire place wire level
request (command.Run high count) = Run high count
request (command.Volts place channel) = Volts place channel

-- 32 bits in two's complement
abbrev pub bits32 : ℤ → ℕ
bits32 (pos n) = n
bits32 (negsuc n) = 0xffff_ffff - n

-- what comes of a line: a word, or the refusal
abbrev pub Outcome : Type 0
Outcome = Result ℕ Refusal

abbrev pub refused : Turned → Outcome
refused e = Err (refusal.Bench e)

abbrev pub malformed : Malformed → Outcome
malformed e = Err (refusal.Line e)

-- an answer as the outcome of a line: 0 where there is no value
abbrev pub worded : Result ℕ Turned → Outcome
worded (Ok n) = Ok n
worded (Err e) = refused e

abbrev pub blank : Result (Unit {0}) Turned → Outcome
blank (Ok done) = Ok 0
blank (Err e) = refused e

abbrev pub stepped : Result ℤ Turned → Outcome
stepped (Ok z) = Ok (bits32 z)
stepped (Err e) = refused e

abbrev pub outcome : (q : Request) → Result (Answer q) Turned → Outcome
outcome (Read place register) r = worded r
outcome (Write place register value) r = blank r
outcome (Wire place wire level) r = blank r
outcome (Run level count) r = worded r
outcome (Until level count) r = worded r
outcome (Take place) r = worded r
outcome (Acknowledge place bits) r = blank r
outcome (Volts place channel) r = stepped r
outcome (Preload place ticks) r = blank r
outcome (Arm place) r = blank r
outcome (Kick place) r = blank r

-- what a line answers, and the bench after it
abbrev pub line_told : {S : Type 0} → Meaning S → Bench S → Result Command Malformed → Outcome
line_told m b (Ok c) = outcome (request c) (reply m b (request c))
line_told m b (Err e) = malformed e

abbrev pub after_line : {S : Type 0} → Meaning S → Bench S → Result Command Malformed → Bench S
after_line m b (Ok c) = performed m b (request c)
after_line m b (Err e) = b

-- the records of a trace's lines, and the bench after them
unfoldable pub replayed : {S : Type 0} → Meaning S → Bench S → List (List ℕ) → List ℕ
replayed m b [] = []
replayed m b (l ∷ ls) = record_of (answer_coded (line_told m b (decoded l))) ++ replayed m (after_line m b (decoded l)) ls

unfoldable pub left_by : {S : Type 0} → Meaning S → Bench S → List (List ℕ) → Bench S
left_by m b [] = b
left_by m b (l ∷ ls) = left_by m (after_line m b (decoded l)) ls

-- the requests that a trace's lines make, one each but for a line that is no command
abbrev pub line_requests : Result Command Malformed → List Request
line_requests (Ok c) = request c ∷ []
line_requests (Err e) = []

unfoldable pub asked : List (List ℕ) → List Request
asked [] = []
asked (l ∷ ls) = line_requests (decoded l) ++ asked ls
