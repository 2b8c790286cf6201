-- The pair of two members keeps the rules where both members keep theirs.
use Rattle.std.specs.Prelude.{◌≡◌, ℕ, zero, suc, ◌+◌, ◌-◌, ◌<◌, ◌≤◌, Bool, true, false, cond, is_ok, Ok, ◌≢◌, nat_lt}
use Rattle.std.proofs.Math.Path.{refl, sym, ap}
use Rattle.std.proofs.Common.{subst, ◌∙◌, arith}
use Rattle.std.proofs.Math.Logic.{⊎_elim}
use Rattle.std.proofs.lemmas.Bool.{cases_lt, lt-ltb, le-ltb, cond-true, cond-false, cond_both}
use Rattle.station.specs.declared.call.Call.{Call}
use Rattle.station.specs.declared.call.Call.TheVariants.{Volts}
use Rattle.station.specs.declared.facts.Facts.{Facts}
use Rattle.station.specs.declared.joined.Joined.{Joined}
use Rattle.station.specs.Meaning.{Meaning}
use Rattle.station.specs.Pair.{pair}
use Rattle.station.specs.Rules.{Rules, Sound, Ticks, Does, heard}

-- facts and levels that are equal tick alike
ticks_alike : {o o' n n' : Facts} {h h' : Bool} → o ≡ o' → h ≡ h' → n ≡ n' → Ticks o' h' n' → Ticks o h n
ticks_alike {o} {o'} {n} {n'} {h} {h'} p q r t =
    subst (λ x. Ticks x h n) (sym p) (subst (λ x. Ticks o' x n) (sym q) (subst (λ x. Ticks o' h' x) (sym r) t))

-- a call does alike where the answers to what it is and what is seen are equal
does_alike : (c : Call) {g g' : Bool} {w w' : ℕ} {o o' n n' : Facts} → g ≡ g' → w ≡ w' → o ≡ o' → n ≡ n' → Does c g' w' o' n' → Does c g w o n
does_alike c {g} {g'} {w} {w'} {o} {o'} {n} {n'} p q r t d =
    subst (λ x. Does c x w o n) (sym p) (subst (λ x. Does c g' x o n) (sym q) (subst (λ x. Does c g' w' x n) (sym r) (subst (λ x. Does c g' w' o' x) (sym t) d)))

-- what is seen at a place k of the first member, which has n, and of the second
in_first : {X : Type 0} (k n : ℕ) (x y : X) → k < n → cond (nat_lt k n) x y ≡ x
in_first k n x y h = cond-true (nat_lt k n) x y (lt-ltb k n h)

in_second : {X : Type 0} (k n : ℕ) (x y : X) → n ≤ k → cond (nat_lt k n) x y ≡ y
in_second k n x y h = cond-false (nat_lt k n) x y (le-ltb k n h)

module _ {A B : Type 0} (a : Meaning A) (b : Meaning B) (ra : Rules a) (rb : Rules b) where
  -- the facts at a place k where the first member has n places, whatever term says so
  fact_first : (s : Joined A B) (n k : ℕ) → a.size s.first ≡ n → k < n → (pair a b).fact s k ≡ a.fact s.first k
  fact_first s n k e h = in_first k (a.size s.first) _ _ (omega arith)

  fact_second : (s : Joined A B) (n k : ℕ) → a.size s.first ≡ n → n ≤ k → (pair a b).fact s k ≡ b.fact s.second (k - n)
  fact_second s n k e h = in_second k (a.size s.first) _ _ (omega arith) ∙ ap (λ x. b.fact s.second (k - x)) e

  pair_sends : (s : Joined A B) → b.sends s.second ≡ ((pair a b).fact s ((pair a b).size s - 1)).line
  pair_sends s =
      let n = a.size s.first in
      let m = b.size s.second in
      let some = rb.some_place s.second in
      let last : (n + m) - 1 - n ≡ m - 1 = omega arith in
      rb.sends_last s.second ∙ sym (ap (λ (f : Facts). f.line) (fact_second s n ((n + m) - 1) refl (omega arith) ∙ ap (b.fact s.second) last))

  pair_sound : (s : Joined A B) (k : ℕ) → k < (pair a b).size s → Sound ((pair a b).fact s k)
  pair_sound s k h =
      let n = a.size s.first in
      ⊎_elim
      (λ below. subst Sound (sym (fact_first s n k refl below)) (ra.sound s.first k below))
      (λ above. subst Sound (sym (fact_second s n k refl above)) (rb.sound s.second (k - n) (omega arith)))
      (cases_lt k n)

  heard_first : (s : Joined A B) (told : Bool) (k : ℕ) → k < a.size s.first → heard (pair a b) s told k ≡ heard a s.first told k
  heard_first s told zero h = refl
  heard_first s told (suc k) h = ap (λ (f : Facts). f.line) (fact_first s (a.size s.first) k refl (omega arith))

  -- the seam: the second member's first place hears the last place of the first member
  heard_second : (s : Joined A B) (told : Bool) (k : ℕ) → a.size s.first ≤ k → heard (pair a b) s told k ≡ heard b s.second (a.sends s.first) (k - a.size s.first)
  heard_second s told zero h = absurd (omega (arith, ra.some_place s.first))
  heard_second s told (suc k) h =
      let n = a.size s.first in
      ⊎_elim
      (λ (below : k < n).
      let last : k ≡ n - 1 = omega arith in
      let begins : suc k - n ≡ 0 = omega arith in
      ap (λ (f : Facts). f.line) (fact_first s n k refl below ∙ ap (a.fact s.first) last) ∙ sym (ra.sends_last s.first)
      ∙ ap (heard b s.second (a.sends s.first)) (sym begins))
      (λ (above : n ≤ k).
      let later : suc (k - n) ≡ suc k - n = omega arith in
      ap (λ (f : Facts). f.line) (fact_second s n k refl above) ∙ ap (heard b s.second (a.sends s.first)) later)
      (cases_lt k n)

  pair_tick : (s : Joined A B) (told : Bool) (k : ℕ) → k < (pair a b).size s →
      Ticks ((pair a b).fact s k) (heard (pair a b) s told k) ((pair a b).fact ((pair a b).ticked s told) k)
  pair_tick s told k h =
      let n = a.size s.first in
      let after = (pair a b).ticked s told in
      let same = ra.tick_size s.first told in
      ⊎_elim
      (λ below. ticks_alike (fact_first s n k refl below) (heard_first s told k below) (fact_first after n k same below) (ra.tick s.first told k below))
      (λ above. ticks_alike (fact_second s n k refl above) (heard_second s told k above) (fact_second after n k same above) (rb.tick s.second (a.sends s.first) (k - n) (omega arith)))
      (cases_lt k n)

  -- a call goes to the one member or to the other
  on_first : Joined A B → ℕ → Call → Joined A B
  on_first s p c = record { first = a.called s.first p c; second = s.second }

  on_second : Joined A B → ℕ → Call → Joined A B
  on_second s p c = record { first = s.first; second = b.called s.second (p - a.size s.first) c }

  called_first : (s : Joined A B) (p : ℕ) (c : Call) → p < a.size s.first → (pair a b).called s p c ≡ on_first s p c
  unfolding on_first
  called_first s p c h = in_first p (a.size s.first) _ _ h

  called_second : (s : Joined A B) (p : ℕ) (c : Call) → a.size s.first ≤ p → (pair a b).called s p c ≡ on_second s p c
  unfolding on_second
  called_second s p c h = in_second p (a.size s.first) _ _ h

  pair_call_size : (s : Joined A B) (p : ℕ) (c : Call) → (pair a b).size ((pair a b).called s p c) ≡ (pair a b).size s
  unfolding on_first on_second
  pair_call_size s p c =
      ⊎_elim
      (λ below. ap (pair a b).size (called_first s p c below) ∙ ap (λ x. x + b.size s.second) (ra.call_size s.first p c))
      (λ above. ap (pair a b).size (called_second s p c above) ∙ ap (λ x. a.size s.first + x) (rb.call_size s.second _ c))
      (cases_lt p (a.size s.first))

  pair_elsewhere : (s : Joined A B) (p : ℕ) (c : Call) (k : ℕ) → p < (pair a b).size s → k < (pair a b).size s → (k ≢ p) → (pair a b).fact ((pair a b).called s p c) k ≡ (pair a b).fact s k
  unfolding on_first on_second
  pair_elsewhere s p c k hp hk other =
      let n = a.size s.first in
      let see : Joined A B → Facts = λ t. (pair a b).fact t k in
      ⊎_elim
      (λ (below : p < n).
      let same = ra.call_size s.first p c in
      ap see (called_first s p c below) ∙
      ⊎_elim
      (λ (k-below : k < n). fact_first (on_first s p c) n k same k-below ∙ ra.call_elsewhere s.first p c k below k-below other ∙ sym (fact_first s n k refl k-below))
      (λ (k-above : n ≤ k). fact_second (on_first s p c) n k same k-above ∙ sym (fact_second s n k refl k-above))
      (cases_lt k n))
      (λ (above : n ≤ p).
      ap see (called_second s p c above) ∙
      ⊎_elim
      (λ (k-below : k < n). fact_first (on_second s p c) n k refl k-below ∙ sym (fact_first s n k refl k-below))
      (λ (k-above : n ≤ k). fact_second (on_second s p c) n k refl k-above ∙ rb.call_elsewhere s.second (p - n) c (k - n) (omega arith) (omega arith) (λ e. other (omega arith)) ∙ sym (fact_second s n k refl k-above))
      (cases_lt k n))
      (cases_lt p n)

  pair_here : (s : Joined A B) (p : ℕ) (c : Call) → p < (pair a b).size s → is_ok ((pair a b).answer s p c) ≡ true →
      Does c ((pair a b).guards s p c) ((pair a b).stop_wire s p) ((pair a b).fact s p) ((pair a b).fact ((pair a b).called s p c) p)
  unfolding on_first on_second
  pair_here s p c h ok =
      let n = a.size s.first in
      let see : Joined A B → Facts = λ t. (pair a b).fact t p in
      ⊎_elim
      (λ (below : p < n).
      does_alike c (in_first p n _ _ below) (in_first p n _ _ below) (fact_first s n p refl below)
      (ap see (called_first s p c below) ∙ fact_first (on_first s p c) n p (ra.call_size s.first p c) below)
      (ra.call_here s.first p c below (sym (ap is_ok (in_first p n _ _ below)) ∙ ok)))
      (λ (above : n ≤ p).
      does_alike c (in_second p n _ _ above) (in_second p n _ _ above) (fact_second s n p refl above)
      (ap see (called_second s p c above) ∙ fact_second (on_second s p c) n p refl above)
      (rb.call_here s.second (p - n) c (omega arith) (sym (ap is_ok (in_second p n _ _ above)) ∙ ok)))
      (cases_lt p n)

  pair_refused : (s : Joined A B) (p : ℕ) (c : Call) → is_ok ((pair a b).answer s p c) ≡ false → (pair a b).called s p c ≡ s
  unfolding on_first on_second
  pair_refused s p c err =
      let n = a.size s.first in
      ⊎_elim
      (λ (below : p < n). called_first s p c below ∙ ap (λ x. record { first = x; second = s.second }) (ra.refused s.first p c (sym (ap is_ok (in_first p n _ _ below)) ∙ err)))
      (λ (above : n ≤ p). called_second s p c above ∙ ap (λ x. record { first = s.first; second = x }) (rb.refused s.second (p - n) c (sym (ap is_ok (in_second p n _ _ above)) ∙ err)))
      (cases_lt p n)

  pair_look : (s : Joined A B) (p channel : ℕ) → (pair a b).called s p (Volts channel) ≡ s
  pair_look s p channel =
      cond_both _ _ _ (λ x. x ≡ s)
      (λ _. ap (λ x. record { first = x; second = s.second }) (ra.volts_look s.first p channel))
      (λ _. ap (λ x. record { first = s.first; second = x }) (rb.volts_look s.second _ channel))

  pub pair_rules : Rules (pair a b)
  pair_rules = record {
    some_place = λ s. omega (arith, ra.some_place s.first);
    tick_size = λ s told. omega (arith, ra.tick_size s.first told, rb.tick_size s.second (a.sends s.first));
    call_size = pair_call_size;
    sends_last = pair_sends;
    sound = pair_sound;
    tick = pair_tick;
    call_elsewhere = pair_elsewhere;
    call_here = pair_here;
    refused = pair_refused;
    acknowledged = λ s p bits. cond_both _ _ _ (λ x. x ≡ Ok tt) (λ _. ra.acknowledged s.first p bits) (λ _. rb.acknowledged s.second _ bits);
    volts_look = pair_look;
  }
