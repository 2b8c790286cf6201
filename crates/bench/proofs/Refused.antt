-- A refused request changes nothing.
use Rattle.std.proofs.Common.{◌≡◌, ℕ, Bool, true, false, cond, ltb, is_ok, Ok, Err, Result, refl, ap, arith}
use Rattle.station.specs.Meaning.{Meaning, Value}
use Rattle.station.specs.Rules.{Rules}
use Rattle.station.specs.declared.call.Call.{Call}
use Rattle.station.specs.declared.call.Call.TheVariants as call
use Rattle.station.specs.declared.refusal.Refusal.{Refusal as Turned}
use Rattle.bench.specs.declared.Bench.{Bench}
use Rattle.bench.specs.declared.refusal.Refusal.{Refusal}
use Rattle.bench.specs.declared.refusal.Refusal.TheVariants.{NoPlace, TooMany}
use Rattle.bench.specs.declared.request.Request.{Request}
use Rattle.bench.specs.declared.request.Request.TheVariants.{Read, Write, Wire, Run, Until, Take, Acknowledge, Volts, Preload, Arm, Kick}
use Rattle.bench.specs.Calls.{told, with_chain, places, taken, after_take, acknowledged, after_acknowledge, reply, performed}
use Rattle.bench.specs.Ticks.{ticks_until}

clash : {X : Type 0} → true ≡ false → X
clash e = absurd (let z : ◌≡◌ {A = ℕ} 0 1 = cc in omega arith)

module _ {S : Type 0} (m : Meaning S) (R : Rules m) where
  told_same : (b : Bench S) (p : ℕ) (c : Call) (r : Result (Value c) Turned) → m.answer b.chain p c ≡ r → is_ok (told p r) ≡ false → with_chain b (m.called b.chain p c) ≡ b
  told_same b p c (Ok value) e fails = clash fails
  told_same b p c (Err why) e fails = ap (with_chain b) (R.refused b.chain p c (ap is_ok e))

  at_same : (b : Bench S) (p : ℕ) (c : Call) (in_chain : Bool) → is_ok (cond in_chain (told p (m.answer b.chain p c)) (Err (NoPlace p))) ≡ false →
      cond in_chain (with_chain b (m.called b.chain p c)) b ≡ b
  at_same b p c true fails = told_same b p c _ refl fails
  at_same b p c false fails = refl

  run_same : (b after : Bench S) (n : ℕ) (over : Bool) → is_ok {T = ℕ} {E = Refusal} (cond over (Err TooMany) (Ok n)) ≡ false → cond over b after ≡ b
  run_same b after n true fails = refl
  run_same b after n false fails = clash fails

  take_same : (b : Bench S) (p : ℕ) (r : Result ℕ Refusal) → is_ok r ≡ false → after_take b p r ≡ b
  take_same b p (Ok bits) fails = clash fails
  take_same b p (Err why) fails = refl

  acknowledge_same : (b : Bench S) (p bits : ℕ) (r : Result (Unit {0}) Refusal) → is_ok r ≡ false → after_acknowledge m b p bits r ≡ b
  acknowledge_same b p bits (Ok done) fails = clash fails
  acknowledge_same b p bits (Err why) fails = refl

  pub refused_same : (b : Bench S) (q : Request) → is_ok (reply m b q) ≡ false → performed m b q ≡ b
  refused_same b (Read place register) fails = at_same b place (call.Read register) (ltb place (places m b)) fails
  refused_same b (Write place register value) fails = at_same b place (call.Write register value) (ltb place (places m b)) fails
  refused_same b (Wire place wire level) fails = at_same b place (call.Wire wire level) (ltb place (places m b)) fails
  refused_same b (Run level count) fails = run_same b _ count (ltb 1000000 count) fails
  refused_same b (Until level count) fails = run_same b _ (ticks_until m b.chain level count) (ltb 1000000 count) fails
  refused_same b (Take place) fails = take_same b place (taken m b place) fails
  refused_same b (Acknowledge place bits) fails = acknowledge_same b place bits (acknowledged m b place bits) fails
  refused_same b (Volts place channel) fails = refl
  refused_same b (Preload place ticks) fails = at_same b place (call.Preload ticks) (ltb place (places m b)) fails
  refused_same b (Arm place) fails = at_same b place call.Arm (ltb place (places m b)) fails
  refused_same b (Kick place) fails = at_same b place call.Kick (ltb place (places m b)) fails
