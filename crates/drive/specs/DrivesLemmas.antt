-- Two drives in one state are one drive, and a drive keeps the rules of a station.
use Rattle.std.specs.Prelude.{◌≡◌, ℕ, zero, suc, ◌<◌, Bool, true, false, cond, ℤ, pos, negsuc, is_ok, Ok, Err, Result, ◌==◌, nat_lt, refl}
use Rattle.std.proofs.Common.{sym, ap, subst, ◌∙◌, arith}
use Rattle.std.proofs.Math.Bool.{Bool-set}
use mathlib.Core.HLevel.{is_prop→PathP}
use Rattle.std.proofs.lemmas.Bool.{cond_both, true≢false, eqb-true}
use Rattle.std.proofs.lemmas.Bool.Decides.{nat_tests}
use Rattle.station.specs.declared.call.Call.{Call}
use Rattle.station.specs.declared.call.Call.TheVariants.{Read, Write, Wire, Volts}
use Rattle.station.specs.declared.facts.Facts.{Facts}
use Rattle.station.specs.declared.refusal.Refusal.{Refusal}
use Rattle.station.specs.declared.refusal.Refusal.TheVariants.{NoSuch, NotAllowed}
use Rattle.station.specs.Rules.{Rules, Sound, Ticks, Touches, Does, heard, with_stop as with_stop_fact}
use Rattle.drive.specs.declared.motor.Drive.{Drive}
use Rattle.drive.specs.declared.state.State.{State}
use Rattle.drive.specs.declared.register.Register.{Register}
use Rattle.drive.specs.declared.register.Register.TheVariants.{Setpoint, Listen, Fall}
use Rattle.drive.specs.Drives.{drive, settled, became, called, answered, changes, guarding, guards}
use Rattle.drive.specs.Quiet.{quiet}
use Rattle.drive.specs.Rest.{Rest}
use Rattle.drive.specs.Registers.{numbered, flag, word}
use Rattle.drive.specs.States.{seen, still, after, with_setpoint, with_listen, with_stop, cleared, written}

pub same_drive : (d e : Drive) → d.state ≡ e.state → d ≡ e
same_drive d e p = λ i. record { state = p i; rests = is_prop→PathP (λ j. quiet (p j) ≡ true) (λ j. Bool-set (quiet (p j)) true) d.rests e.rests i }

drive_sound : (d : Drive) → Sound (seen d.state)
drive_sound d = record {
  ready_passes = grind arith;
  ready_free = grind arith;
  due_from_one = grind arith;
  held_rests = grind arith;
  line_tells = grind arith;
}

drive_tick : (d : Drive) (hears : Bool) → Ticks (seen d.state) hears (seen (drive.ticked d hears).state)
unfolding settled
drive_tick d hears = record {
  falls_exactly = grind arith;
  else_ready = grind arith;
  else_sooner = λ _ _. refl;
  held_stays = grind arith;
  passes_stays = refl;
  stop_stays = refl;
}

unchanged : (guard : Bool) (f : Facts) → Touches guard f f
unchanged guard f = record { stop = refl; else_kept = λ _. record { held = refl; passes = refl; line = refl; ready = refl; due = refl } }

-- a write, by what its register and its value are
setpoint_here : (d : Drive) (w : Result ℤ Refusal) → Touches false (seen d.state) (seen (became d (after (with_setpoint d.state) w)).state)
unfolding settled
setpoint_here d (Ok z) = record { stop = refl; else_kept = λ _. record { held = refl; passes = refl; line = refl; ready = refl; due = refl } }
setpoint_here d (Err e) = unchanged false _

listen_here : (d : Drive) (w : Result Bool Refusal) → Touches (changes w d.state.listen) (seen d.state) (seen (became d (after (with_listen d.state) w)).state)
unfolding settled
listen_here d (Ok b) = record { stop = refl; else_kept = λ same. record { held = refl; passes = grind arith; line = grind arith; ready = grind arith; due = refl } }
listen_here d (Err e) = unchanged false _

-- a write of 0 to the fall latch
fall_here : (d : Drive) (one guard : Bool) → (guard ≡ false → one ≡ false) → Touches guard (seen d.state) (seen (settled (cleared d.state one)).state)
unfolding settled
fall_here d one guard only = record {
  stop = refl;
  else_kept = λ off. let zero = only off in record { held = grind arith; passes = refl; line = grind arith; ready = grind arith; due = refl };
}

fall_flag : (d : Drive) (value : ℕ) → Touches (value == 1) (seen d.state) (seen (became d (after (cleared d.state) (flag value))).state)
fall_flag d value =
    cond_both (nat_lt value 2) _ _ (λ (w : Result Bool Refusal). Touches (value == 1) (seen d.state) (seen (became d (after (cleared d.state) w)).state))
    (λ _. fall_here d (value == 1) (value == 1) (λ e. e))
    (λ _. unchanged (value == 1) _)

write_here : (d : Drive) (r : Result Register Refusal) (value : ℕ) → Touches (guarding d.state r value) (seen d.state) (seen (became d (written d.state r value)).state)
write_here d (Ok Setpoint) value = setpoint_here d (word value)
write_here d (Ok Listen) value = listen_here d (flag value)
write_here d (Ok Fall) value = fall_flag d value
write_here d (Err e) value = unchanged false _

-- to set the stop changes no other fact: the set point is 0 already where the latch is set
still_rests : (latch : Bool) (z : ℤ) → cond latch (still z) true ≡ true → still (cond latch (pos 0) z) ≡ still z
still_rests true z rests = sym rests
still_rests false z rests = refl

stop_set : (d : Drive) (level : Bool) → seen (settled (with_stop d.state level)).state ≡ with_stop_fact (seen d.state) level
unfolding settled
stop_set d level =
    ap (λ (r : Bool). let f = seen d.state in record { held = f.held; rest = r; passes = f.passes; line = f.line; ready = f.ready; due = f.due; stop = level; pending = f.pending })
    (still_rests d.state.latch d.state.setpoint d.rests)

bit_level : (level : ℕ) → nat_lt level 2 ≡ true → (level == 1) ≡ nat_lt 0 level
bit_level level h = grind (arith, nat_tests)

flag_here : (d : Drive) (level : ℕ) (small : Bool) → nat_lt level 2 ≡ small → is_ok (after {B = Unit {0}} (λ _. tt) (after (with_stop d.state) (cond small (Ok (level == 1)) (Err NotAllowed)))) ≡ true →
    seen (became d (after (with_stop d.state) (cond small (Ok (level == 1)) (Err NotAllowed)))).state ≡ with_stop_fact (seen d.state) (nat_lt 0 level)
flag_here d level true e ok = stop_set d (level == 1) ∙ ap (with_stop_fact (seen d.state)) (bit_level level e)
flag_here d level false e ok = absurd (true≢false (sym ok))

-- an accepted wire call sets the stop by wire 0 alone
wire_here : (d : Drive) (there : Bool) (level : ℕ) → is_ok (after {B = Unit {0}} (λ _. tt) (cond there (after (with_stop d.state) (flag level)) (Err NoSuch))) ≡ true →
    seen (became d (cond there (after (with_stop d.state) (flag level)) (Err NoSuch))).state ≡ cond there (with_stop_fact (seen d.state) (nat_lt 0 level)) (seen d.state)
wire_here d true level ok = flag_here d level (nat_lt level 2) refl ok
wire_here d false level ok = refl

drive_here : (d : Drive) (c : Call) → is_ok (answered d.state c) ≡ true → Does c (guards d.state c) 0 (seen d.state) (seen (called d c).state)
drive_here d (Read register) ok = refl
drive_here d (Write register value) ok = write_here d (numbered register) value
drive_here d (Wire wire level) ok = wire_here d (wire == 0) level ok
drive_here d (Volts channel) ok = refl
drive_here d c ok = unchanged _ _

refused_state : (d : Drive) (r : Result State Refusal) → is_ok (after {B = Unit {0}} (λ _. tt) r) ≡ false → became d r ≡ d
refused_state d (Ok s) bad = absurd (true≢false bad)
refused_state d (Err e) bad = refl

drive_refused : (d : Drive) (c : Call) → is_ok (answered d.state c) ≡ false → called d c ≡ d
drive_refused d (Write register value) bad = refused_state d _ bad
drive_refused d (Wire wire level) bad = refused_state d _ bad
drive_refused d c bad = refl

-- the drive's one place hears what it is told
heard_there : (d : Drive) (told : Bool) (k : ℕ) → k < 1 → heard drive d told k ≡ told
heard_there d told zero h = refl
heard_there d told (suc k) h = absurd (omega arith)

pub drive_rules : Rules drive
drive_rules = record {
  some_place = λ d. omega arith;
  tick_size = λ d told. refl;
  call_size = λ d p c. refl;
  sends_last = λ d. refl;
  sound = λ d k h. drive_sound d;
  tick = λ d told k h. subst (λ x. Ticks (seen d.state) x (seen (drive.ticked d told).state)) (sym (heard_there d told k h)) (drive_tick d told);
  call_elsewhere = λ d p c k hp hk other. absurd (other (omega arith));
  call_here = λ d p c h ok. drive_here d c ok;
  refused = λ d p c bad. drive_refused d c bad;
  acknowledged = λ d p bits. refl;
  volts_look = λ d p channel. refl;
}

-- a set point is 0 exactly if the drive is still
zero_still : (z : ℤ) → still z ≡ true → z ≡ pos 0
zero_still (pos n) e = ap pos (eqb-true n 0 e)
zero_still (negsuc n) e = absurd (true≢false (sym e))

held_zero : (latch : Bool) (z : ℤ) → cond latch (still z) true ≡ true → latch ≡ true → z ≡ pos 0
held_zero true z rests e = zero_still z rests
held_zero false z rests e = absurd (true≢false (sym e))

pub drive_rest : (d : Drive) (p : ℕ) → Rest d p
drive_rest d p =
    let zero = held_zero d.state.latch d.state.setpoint d.rests in
    record {
      exact = (zero_still d.state.setpoint, λ e. ap still e);
      held_still = zero;
      held_silent = λ held. ap Ok (zero held);
    }
