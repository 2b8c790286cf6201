-- A card keeps the rules of a station in a call.
use Rattle.std.specs.Prelude.{◌≡◌, ℕ, zero, suc, ◌+◌, ◌-◌, ◌*◌, ◌%◌, ◌<◌, Bool, true, false, cond, not, ◌&&◌, ◌||◌, List, [], ◌∷◌, is_ok, Some, None, Ok, Err, Option, Result, ◌==◌, ◌≢◌, bit_and, nat_lt, slice_index_or, slice_set}
use Rattle.std.proofs.Math.Path.{refl}
use Rattle.std.proofs.Common.{sym, ap, subst, ◌∙◌, arith}
use Rattle.std.proofs.lemmas.Bool.{or_parts, cond-false, cond_both, ltb-true, eqb-true, true≢false}
use Rattle.std.proofs.lemmas.Bool.Decides.{nat_tests}
use Rattle.bits.specs.Words.{bit, weight}
use Rattle.converter.specs.Chips.{moved_on}
use Rattle.converter.specs.declared.chip.Chip.{Chip}
use Rattle.encoder.specs.Channels.{fresh, wired as levels_set}
use Rattle.encoder.specs.Each.{gathered_by}
use Rattle.encoder.specs.declared.channel.Encoder.{Encoder as Channel}
use Rattle.board.specs.Boards.{held}
use Rattle.board.specs.Reads.{fetched, after_read, interrupts}
use Rattle.board.specs.Registers.{numbered, allowed}
use Rattle.board.specs.Wires.{with_fuse, with_analog, with_levels}
use Rattle.board.specs.Writes.{written, status_cleared, with_port, with_watchdog}
use Rattle.board.specs.declared.parts.Board.{Board}
use Rattle.board.specs.declared.register.Register.{Register}
use Rattle.board.specs.declared.register.Register.TheVariants.{InterruptStatus, Control, Preload, WatchdogControl, Results}
use Rattle.board.specs.declared.wires.Wire.{Wire}
use Rattle.board.specs.declared.wires.Wire.TheVariants.{Analog, Digital as Digital-wire, Encoder as Encoder-wire, Fuse as Fuse-wire}
use Rattle.guards.specs.Fuses.{cleared_fuse, with_wire}
use Rattle.guards.specs.Ports.{with_direction, with_wires}
use Rattle.guards.specs.Senses.{with_active, cleared_fall}
use Rattle.guards.specs.Watchdogs.{cleared_rise, controlled, due, with_preload}
use Rattle.guards.specs.declared.fuse.Fuse.{Fuse}
use Rattle.guards.specs.declared.sense.Sense.{Sense}
use Rattle.guards.specs.declared.watchdog.Control.{Control as ControlWrite}
use Rattle.guards.specs.declared.watchdog.Watchdog.{Watchdog}
use Rattle.guards.specs.declared.port.Port.{Port}
use Rattle.outputs.specs.Channels.{at_rest}
use Rattle.station.specs.Rules.{Rules, Ticks, Kept, Touches, Does, heard, with_stop}
use Rattle.station.specs.declared.call.Call.{Call}
use Rattle.station.specs.declared.call.Call.TheVariants as call
use Rattle.station.specs.declared.facts.Facts.{Facts}
use Rattle.station.specs.declared.refusal.Refusal.{Refusal}
use Rattle.station.specs.declared.refusal.Refusal.TheVariants.{NotAllowed}
use Rattle.card.specs.declared.whole.Card.{Card}
use Rattle.card.specs.Cards.{card, armed_board, hold_quiet, settled, after, became, read_answer, read_board, write_board, wire_board, clears_cause, guarding, guards, answered, called}
use Rattle.card.specs.Facts.{line, passes, ready, rest, seen}
use Rattle.card.specs.Quiet.{quiet, hold}
use Rattle.card.specs.Ticking.{quiet_rests, card_sound, card_ticks}

-- to settle a quiet board changes no fact
rest_held : (h : Bool) (b : Board) → held b ≡ h → quiet b ≡ true → rest (hold b) ≡ rest b
rest_held true b h q = quiet_rests (hold b) (hold_quiet b) h ∙ sym (quiet_rests b q h)
rest_held false b h q =
    ap (λ o. at_rest o && (cond (held b) (with_direction b.port 0) b.port).direction == 0) (cond-false _ _ _ h)
    ∙ ap (λ (p : Port). at_rest b.outputs && p.direction == 0) (cond-false _ _ _ h)

pub settle_seen : (b : Board) → quiet b ≡ true → seen (hold b) ≡ seen b
settle_seen b q =
    let f = seen b in
    ap (λ (r : Bool). record f { rest = r }) (rest_held (held b) b refl q)

-- boards with the same guards have the same facts but for rest, stop and pending
kept_parts : (b b' : Board) → b'.watchdog ≡ b.watchdog → b'.sense ≡ b.sense → b'.fuse ≡ b.fuse → Kept (seen b) (seen (hold b'))
kept_parts b b' w s f = record { held = cc; passes = cc; line = cc; ready = cc; due = cc }

and_one : (a : Bool) → (a && true) ≡ a
and_one true = refl
and_one false = refl

-- nothing is cleared where no bit says so
rise_stays : (w : Watchdog) (x : Bool) → x ≡ false → cleared_rise w x ≡ w
rise_stays w x e =
    ap (cleared_rise w) e
    ∙ ap (λ (r : Bool). record w { rose = r }) (and_one w.rose)

fall_stays : (s : Sense) (x : Bool) → x ≡ false → cleared_fall s x ≡ s
fall_stays s x e = ap (cleared_fall s) e ∙ ap (λ (f : Bool). record s { fell = f }) (and_one s.fell)

fuse_stays : (f : Fuse) (x : Bool) → x ≡ false → cleared_fuse f x ≡ f
fuse_stays f x e = ap (cleared_fuse f) e ∙ ap (λ (b : Bool). record f { blown = b }) (and_one f.blown)

same_flag : (a b : Bool) → cond a (not b) b ≡ false → a ≡ b
same_flag true true e = refl
same_flag true false e = absurd (true≢false e)
same_flag false true e = absurd (true≢false e)
same_flag false false e = refl

status_touches : (b : Board) (value : ℕ) → Touches (clears_cause value) (seen b) (seen (hold (status_cleared b value)))
status_touches b value = record {
  stop = refl;
  else_kept = λ none.
      let one = or_parts (bit value 21) _ none in
      let two = or_parts (bit value 22) _ one.1 in
      kept_parts b (status_cleared b value) (rise_stays b.watchdog _ one.0) (fall_stays b.sense _ two.0) (fuse_stays b.fuse _ two.1);
}

-- a watchdog that keeps its control bits and is not loaded stays as it is
control_stays : (w : Watchdog) (c : ControlWrite) → c.load ≡ false → c.enabled ≡ w.enabled → c.active ≡ w.active → c.selected ≡ w.selected → controlled w c ≡ w
control_stays w c l e a s =
    ap (λ x. controlled w (record c { load = x })) l ∙ ap (λ x. controlled w (record c { load = false; enabled = x })) e
    ∙ ap (λ x. controlled w (record c { load = false; enabled = w.enabled; active = x })) a
    ∙ ap (λ x. controlled w (record c { load = false; enabled = w.enabled; active = w.active; selected = x })) s

-- an allowed write, by its register
same_touches : (guard : Bool) (f : Facts) → Touches guard f f
same_touches guard f = record { stop = refl; else_kept = λ _. record { held = refl; passes = refl; line = refl; ready = refl; due = refl } }

plain : (guard : Bool) (b b' : Board) → b'.watchdog ≡ b.watchdog → b'.sense ≡ b.sense → b'.fuse ≡ b.fuse → Touches guard (seen b) (seen (hold b'))
plain guard b b' w s f = record { stop = ap (λ (x : Fuse). x.wire) f; else_kept = λ _. kept_parts b b' w s f }

written_touches : (b : Board) (r : Register) (value : ℕ) → is_ok (allowed r value) ≡ true → Touches (guarding b (Some r) value) (seen b) (seen (hold (written b r value)))
written_touches b InterruptStatus value ok =
    subst (λ g. Touches (g && clears_cause value) (seen b) (seen (hold (written b InterruptStatus value)))) (sym ok) (status_touches b value)
written_touches b Control value ok = record {
  stop = refl;
  else_kept = λ none.
      let same = same_flag (bit value 0) b.sense.active (sym (ap (λ g. g && cond (bit value 0) (not b.sense.active) b.sense.active) ok) ∙ none) in
      kept_parts b (written b Control value) refl (ap (with_active b.sense) same) refl;
}
written_touches b Preload value ok = record { stop = refl; else_kept = λ _. record { held = refl; passes = refl; line = refl; ready = refl; due = refl } }
written_touches b WatchdogControl value ok = record {
  stop = refl;
  else_kept = λ none.
      let w = b.watchdog in
      let changes : Bool = bit value 12 || (cond (bit value 8) (not w.enabled) w.enabled || (cond (bit value 14) (not w.active) w.active || cond (bit value 15) (not w.selected) w.selected)) in
      let one = or_parts (bit value 12) _ (sym (ap (λ g. g && changes) ok) ∙ none) in
      let two = or_parts (cond (bit value 8) (not w.enabled) w.enabled) _ one.1 in
      let three = or_parts (cond (bit value 14) (not w.active) w.active) _ two.1 in
      kept_parts b (written b WatchdogControl value)
      (control_stays w _ one.0 (same_flag (bit value 8) w.enabled two.0) (same_flag (bit value 14) w.active three.0) (same_flag (bit value 15) w.selected three.1)) refl refl;
}
written_touches b r value ok = plain _ b (written b r value) refl refl refl

-- any write
write_touches : (c : Card) (r : Option Register) (value : ℕ) → is_ok (after {B = Unit {0}} (λ _. tt) (write_board c.board r value)) ≡ true →
    Touches (guarding c.board r value) (seen c.board) (seen (became c (write_board c.board r value)).board)
unfolding settled
write_touches c None value ok = same_touches _ _
write_touches c (Some r) value ok = by_allowed (allowed r value) refl ok
  where
    by_allowed : (a : Result (Unit {0}) Refusal) → allowed r value ≡ a → is_ok (after {B = Unit {0}} (λ _. tt) (after (λ _. written c.board r value) a)) ≡ true →
        Touches (guarding c.board (Some r) value) (seen c.board) (seen (became c (after (λ _. written c.board r value) a)).board)
    by_allowed (Ok u) e ok = written_touches c.board r value (ap is_ok e)
    by_allowed (Err x) e ok = absurd (true≢false (sym ok))

-- a read moves the chips on and changes no fact
moved_ended : (c : Chip) → (moved_on c).ended ≡ c.ended
moved_ended c = cond_both (c.number == 0) c _ (λ (x : Chip). x.ended ≡ c.ended) (λ _. refl) (λ _. refl)

moved_done : (c : Chip) → (moved_on c).done ≡ c.done
moved_done c = cond_both (c.number == 0) c _ (λ (x : Chip). x.done ≡ c.done) (λ _. refl) (λ _. refl)

pending_as : (b : Board) (n : ℕ) → interrupts b ≡ n → seen b ≡ record { held = held b; rest = rest b; passes = passes b; line = line b; ready = ready b; due = due b.watchdog; stop = b.fuse.wire; pending = bit_and b.enabled n }
pending_as b n e = ap (λ (x : ℕ). record { held = held b; rest = rest b; passes = passes b; line = line b; ready = ready b; due = due b.watchdog; stop = b.fuse.wire; pending = bit_and b.enabled x }) e

results_told : (b : Board) → interrupts (after_read b Results) ≡ interrupts b
results_told b =
    let a = moved_ended b.low.chip in
    let d = moved_ended b.high.chip in
    let e = moved_done b.low.chip in
    let f = moved_done b.high.chip in
    cc

read_seen : (b : Board) (r : Register) → quiet b ≡ true → seen (hold (after_read b r)) ≡ seen b
read_seen b Results q = settle_seen (after_read b Results) q ∙ pending_as (after_read b Results) (interrupts b) (results_told b)
read_seen b r q = settle_seen b q

read_looks : (c : Card) (r : Option Register) → seen (became c (read_board c.board r)).board ≡ seen c.board
unfolding settled
read_looks c None = refl
read_looks c (Some r) = by_fetched (fetched c.board r)
  where
    by_fetched : (a : Result ℕ Refusal) → seen (became c (after (λ _. after_read c.board r) a)).board ≡ seen c.board
    by_fetched (Ok v) = read_seen c.board r c.held_rests
    by_fetched (Err e) = refl

-- a wire that is no stop wire changes no fact
gathered_set : (base : ℕ) (f : Channel → Bool) (es : List Channel) (n : ℕ) (e : Channel) → f e ≡ f (slice_index_or es n fresh) → gathered_by base f (slice_set es n e) ≡ gathered_by base f es
gathered_set base f [] n e same = refl
gathered_set base f (x ∷ xs) zero e same = ap (λ v. weight v + base * gathered_by base f xs) same
gathered_set base f (x ∷ xs) (suc n) e same = ap (λ v. weight (f x) + base * v) (gathered_set base f xs n e same)

levels_told : (b : Board) (n level : ℕ) → interrupts (with_levels b n level) ≡ interrupts b
levels_told b n level =
    let wraps = gathered_set 2 (λ (e : Channel). e.wrapped) b.encoders n (levels_set (slice_index_or b.encoders n fresh) (record { a = bit level 0; b = bit level 1 })) refl in
    let losts = gathered_set 2 (λ (e : Channel). e.lost) b.encoders n (levels_set (slice_index_or b.encoders n fresh) (record { a = bit level 0; b = bit level 1 })) refl in
    omega (arith, wraps, losts)

analog_seen : (b : Board) (n code : ℕ) → quiet b ≡ true → seen (hold (with_analog b n code)) ≡ seen b
analog_seen b n code q = cond_both (nat_lt n 4) _ _ (λ (x : Board). seen (hold x) ≡ seen b) (λ _. settle_seen b q) (λ _. settle_seen b q)

levels_seen : (b : Board) (n level : ℕ) → quiet b ≡ true → seen (hold (with_levels b n level)) ≡ seen b
levels_seen b n level q = settle_seen (with_levels b n level) q ∙ pending_as (with_levels b n level) (interrupts b) (levels_told b n level)

-- a level that is refused leaves the card
if_narrow : (c : Card) (narrow : Bool) (b : Board) (f : Facts) → is_ok (after {B = Unit {0}} (λ _. tt) (cond narrow (Ok b) (Err NotAllowed))) ≡ true → seen (hold b) ≡ f →
    seen (became c (cond narrow (Ok b) (Err NotAllowed))).board ≡ f
unfolding settled
if_narrow c true b f ok e = e
if_narrow c false b f ok e = absurd (true≢false (sym ok))

bit_level : (level : ℕ) → nat_lt level 2 ≡ true → (level == 1) ≡ nat_lt 0 level
bit_level level h = grind (arith, nat_tests)

narrow_of : (narrow : Bool) (b : Board) → is_ok (after {B = Unit {0}} (λ _. tt) (cond narrow (Ok b) (Err NotAllowed))) ≡ true → narrow ≡ true
narrow_of true b ok = refl
narrow_of false b ok = absurd (true≢false (sym ok))

-- each wire by its number
module _ (c : Card) (level : ℕ) where
  stays : (w : Option Wire) → Type 0
  stays w = is_ok (after {B = Unit {0}} (λ _. tt) (wire_board c.board w level)) ≡ true → seen (became c (wire_board c.board w level)).board ≡ seen c.board

  analog_stays : (n : ℕ) → stays (Some (Analog n))
  unfolding stays
  analog_stays n ok = if_narrow c (nat_lt level 0x4000) _ _ ok (analog_seen c.board (n % 8) level c.held_rests)

  digital_stays : stays (Some Digital-wire)
  unfolding stays settled
  digital_stays ok = settle_seen (with_port c.board (with_wires c.board.port level)) c.held_rests

  encoder_stays : (n : ℕ) → stays (Some (Encoder-wire n))
  unfolding stays
  encoder_stays n ok = if_narrow c (nat_lt level 4) _ _ ok (levels_seen c.board (n % 8) level c.held_rests)

  fuse_sets : is_ok (after {B = Unit {0}} (λ _. tt) (wire_board c.board (Some Fuse-wire) level)) ≡ true → seen (became c (wire_board c.board (Some Fuse-wire) level)).board ≡ with_stop (seen c.board) (nat_lt 0 level)
  fuse_sets ok =
      if_narrow c (nat_lt level 2) _ _ ok (settle_seen (with_fuse c.board (with_wire c.board.fuse (level == 1))) c.held_rests)
      ∙ ap (with_stop (seen c.board)) (bit_level level (narrow_of (nat_lt level 2) _ ok))

  wire_there : (wire : ℕ) (p q r s : Bool) → nat_lt wire 8 ≡ p → (wire == 8) ≡ q → nat_lt wire 0x11 ≡ r → (wire == 0x12) ≡ s →
      is_ok (after {B = Unit {0}} (λ _. tt) (wire_board c.board (cond p (Some (Analog wire)) (cond q (Some Digital-wire) (cond r (Some (Encoder-wire (wire - 9))) (cond s (Some Fuse-wire) None)))) level)) ≡ true →
      seen (became c (wire_board c.board (cond p (Some (Analog wire)) (cond q (Some Digital-wire) (cond r (Some (Encoder-wire (wire - 9))) (cond s (Some Fuse-wire) None)))) level)).board
      ≡ cond s (with_stop (seen c.board) (nat_lt 0 level)) (seen c.board)
  unfolding stays
  wire_there wire true q r false ep eq er es ok = analog_stays wire ok
  wire_there wire true q r true ep eq er es ok = absurd (apart wire ep es)
    where
      apart : (n : ℕ) → nat_lt n 8 ≡ true → (n == 0x12) ≢ true
      apart n p s = let lt = ltb-true n 8 p in let is = eqb-true n 0x12 s in omega (arith, lt, is)
  wire_there wire false true r false ep eq er es ok = digital_stays ok
  wire_there wire false true r true ep eq er es ok = absurd (let a = eqb-true wire 8 eq in let d = eqb-true wire 0x12 es in omega (arith, a, d))
  wire_there wire false false true false ep eq er es ok = encoder_stays (wire - 9) ok
  wire_there wire false false true true ep eq er es ok = absurd (let a = ltb-true wire 0x11 er in let d = eqb-true wire 0x12 es in omega (arith, a, d))
  wire_there wire false false false true ep eq er es ok = fuse_sets ok
  wire_there wire false false false false ep eq er es ok = refl

-- a call that may be a guard call, and is one
arming_touches : (b b' : Board) → b'.fuse ≡ b.fuse → Touches true (seen b) (seen (hold b'))
arming_touches b b' f = record { stop = ap (λ (x : Fuse). x.wire) f; else_kept = λ no_guard. absurd (true≢false no_guard) }

pub card_here : (c : Card) (q : Call) → is_ok (answered c.board q) ≡ true → Does q (guards c.board q) 0x12 (seen c.board) (seen (called c q).board)
unfolding settled
card_here c (call.Read register) ok = read_looks c (numbered register)
card_here c (call.Write register value) ok = write_touches c (numbered register) value ok
card_here c (call.Wire wire level) ok = wire_there c level wire (nat_lt wire 8) (wire == 8) (nat_lt wire 0x11) (wire == 0x12) refl refl refl refl ok
card_here c (call.Volts channel) ok = refl
card_here c (call.Acknowledge bits) ok = status_touches c.board bits
card_here c (call.Preload ticks) ok = arming_touches c.board (with_watchdog c.board (with_preload c.board.watchdog ticks)) refl
card_here c call.Arm ok = arming_touches c.board (armed_board c.board) refl
card_here c call.Kick ok = arming_touches c.board (armed_board c.board) refl

became_refused : (c : Card) (r : Result Board Refusal) → is_ok (after {B = Unit {0}} (λ _. tt) r) ≡ false → became c r ≡ c
became_refused c (Ok b) bad = absurd (true≢false bad)
became_refused c (Err e) bad = refl

read_refused : (c : Card) (r : Option Register) → is_ok (read_answer c.board r) ≡ false → became c (read_board c.board r) ≡ c
read_refused c None bad = refl
read_refused c (Some r) bad = by_fetched (fetched c.board r) bad
  where
    by_fetched : (a : Result ℕ Refusal) → is_ok a ≡ false → became c (after (λ _. after_read c.board r) a) ≡ c
    by_fetched (Ok v) bad = absurd (true≢false bad)
    by_fetched (Err e) bad = refl

pub card_refused : (c : Card) (q : Call) → is_ok (answered c.board q) ≡ false → called c q ≡ c
card_refused c (call.Read register) bad = read_refused c (numbered register) bad
card_refused c (call.Write register value) bad = became_refused c _ bad
card_refused c (call.Wire wire level) bad = became_refused c _ bad
card_refused c (call.Volts channel) bad = refl
card_refused c q bad = absurd (true≢false bad)

-- the card's one place hears what it is told
heard_there : (c : Card) (told : Bool) (k : ℕ) → k < 1 → heard card c told k ≡ told
heard_there c told zero h = refl
heard_there c told (suc k) h = absurd (omega arith)

pub card_rules : Rules card
card_rules = record {
  some_place = λ c. omega arith;
  tick_size = λ c told. refl;
  call_size = λ c p q. refl;
  sends_last = λ c. refl;
  sound = λ c k h. card_sound c;
  tick = λ c told k h. subst (λ x. Ticks (seen c.board) x (seen (card.ticked c told).board)) (sym (heard_there c told k h)) (card_ticks c told);
  call_elsewhere = λ c p q k hp hk other. absurd (other (omega arith));
  call_here = λ c p q h ok. card_here c q ok;
  refused = λ c p q bad. card_refused c q bad;
  acknowledged = λ c p bits. refl;
  volts_look = λ c p channel. refl;
}
