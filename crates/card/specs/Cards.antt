-- The card as a station.
use Rattle.std.specs.Prelude.{◌≡◌, ℕ, Bool, true, false, cond, not, ◌&&◌, ◌||◌, is_ok, Some, None, Ok, Err, Option, Result, ◌==◌, nat_lt, refl}
use Rattle.std.proofs.Common.{ap}
use Rattle.bits.specs.Words.{bit}
use Rattle.station.specs.Meaning.{Meaning, Value}
use Rattle.station.specs.declared.call.Call.{Call}
use Rattle.station.specs.declared.call.Call.TheVariants as call
use Rattle.station.specs.declared.refusal.Refusal.{Refusal}
use Rattle.station.specs.declared.refusal.Refusal.TheVariants.{NoSuch}
use Rattle.board.specs.Boards.{held, fresh, ticked}
use Rattle.board.specs.Reads.{fetched, after_read}
use Rattle.board.specs.Registers.{numbered, allowed}
use Rattle.board.specs.Wires.{wire_numbered, wired}
use Rattle.board.specs.Writes.{written, status_cleared, with_watchdog}
use Rattle.board.specs.declared.parts.Board.{Board}
use Rattle.board.specs.declared.register.Register.{Register}
use Rattle.board.specs.declared.register.Register.TheVariants.{InterruptStatus, Control, WatchdogControl}
use Rattle.board.specs.declared.wires.Wire.{Wire}
use Rattle.guards.specs.Ports.{with_direction}
use Rattle.guards.specs.Watchdogs.{with_preload, controlled as set_watchdog}
use Rattle.outputs.specs.Channels.{hushed, silent, silent_hushed, volts}
use Rattle.card.specs.declared.whole.Card.{Card}
use Rattle.card.specs.Facts.{line, seen}
use Rattle.card.specs.Quiet.{quiet, hold}

settles : (cause : Bool) (b : Board) →
    cond cause (hushed (cond cause silent b.outputs) && (cond cause (with_direction b.port 0) b.port).direction == 0) true ≡ true
settles true b = ap (λ h. h && true) silent_hushed
settles false b = refl

pub hold_quiet : (b : Board) → quiet (hold b) ≡ true
hold_quiet b = settles (held b) b

unfoldable pub settled : Board → Card
settled b = record { board = hold b; held_rests = hold_quiet b }

abbrev pub fresh_card : Card
fresh_card = settled fresh

-- what comes of an accepted call, and of a refused one
abbrev pub after : {A B : Type 0} → (A → B) → Result A Refusal → Result B Refusal
after f (Ok a) = Ok (f a)
after f (Err e) = Err e

abbrev pub became : Card → Result Board Refusal → Card
became c (Ok b) = settled b
became c (Err e) = c

-- reads, writes and wires by number
abbrev pub read_answer : Board → Option Register → Result ℕ Refusal
read_answer b None = Err NoSuch
read_answer b (Some r) = fetched b r

abbrev pub read_board : Board → Option Register → Result Board Refusal
read_board b None = Err NoSuch
read_board b (Some r) = after (λ _. after_read b r) (fetched b r)

abbrev pub write_board : Board → Option Register → ℕ → Result Board Refusal
write_board b None value = Err NoSuch
write_board b (Some r) value = after (λ _. written b r value) (allowed r value)

abbrev pub wire_board : Board → Option Wire → ℕ → Result Board Refusal
wire_board b None level = Err NoSuch
wire_board b (Some w) level = wired b w level

-- arming writes EN, LD, ACT and SEL as 1
abbrev pub armed_board : Board → Board
armed_board b = with_watchdog b (set_watchdog b.watchdog (record { enabled = true; load = true; active = true; selected = true }))

abbrev pub called : Card → Call → Card
called c (call.Read register) = became c (read_board c.board (numbered register))
called c (call.Write register value) = became c (write_board c.board (numbered register) value)
called c (call.Wire wire level) = became c (wire_board c.board (wire_numbered wire) level)
called c (call.Volts channel) = c
called c (call.Acknowledge bits) = settled (status_cleared c.board bits)
called c (call.Preload ticks) = settled (with_watchdog c.board (with_preload c.board.watchdog ticks))
called c call.Arm = settled (armed_board c.board)
called c call.Kick = settled (armed_board c.board)

abbrev pub done : Result Board Refusal → Result (Unit {0}) Refusal
done r = after (λ _. tt) r

abbrev pub answered : Board → (c : Call) → Result (Value c) Refusal
answered b (call.Read register) = read_answer b (numbered register)
answered b (call.Write register value) = done (write_board b (numbered register) value)
answered b (call.Wire wire level) = done (wire_board b (wire_numbered wire) level)
answered b (call.Volts channel) = cond (nat_lt channel 8) (Ok (volts b.outputs channel)) (Err NoSuch)
answered b (call.Acknowledge bits) = Ok tt
answered b (call.Preload ticks) = Ok tt
answered b call.Arm = Ok tt
answered b call.Kick = Ok tt

-- bits 21, 22 and 23 of IST clear a cause
abbrev pub clears_cause : ℕ → Bool
clears_cause bits = bit bits 21 || (bit bits 22 || bit bits 23)

abbrev differs : Bool → Bool → Bool
differs a b = cond a (not b) b

-- the guard calls: an accepted CTL write that changes bit 0, an IST write or acknowledgement with bit 21, 22 or 23,
-- a CCT write that changes its bits or has bit 12, and every arming call
abbrev pub guarding : Board → Option Register → ℕ → Bool
guarding b (Some InterruptStatus) value = is_ok (allowed InterruptStatus value) && clears_cause value
guarding b (Some Control) value = is_ok (allowed Control value) && differs (bit value 0) b.sense.active
guarding b (Some WatchdogControl) value = is_ok (allowed WatchdogControl value) &&
    (bit value 12 || (differs (bit value 8) b.watchdog.enabled || (differs (bit value 14) b.watchdog.active || differs (bit value 15) b.watchdog.selected)))
guarding b r value = false

abbrev pub guards : Board → Call → Bool
guards b (call.Write register value) = guarding b (numbered register) value
guards b (call.Acknowledge bits) = clears_cause bits
guards b (call.Preload ticks) = true
guards b call.Arm = true
guards b call.Kick = true
guards b c = false

abbrev pub card : Meaning Card
card = record {
  size = λ c. 1;
  fact = λ c k. seen c.board;
  stop_wire = λ c k. 0x12;
  sends = λ c. line c.board;
  ticked = λ c level. settled (ticked c.board level);
  called = λ c p q. called c q;
  answer = λ c p q. answered c.board q;
  guards = λ c p q. guards c.board q;
}
