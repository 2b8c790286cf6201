-- Ticks that there may be none of.
use Rattle.std.proofs.Common.{◌≡◌, ℕ, zero, suc, ◌-◌, ◌<◌, Bool, true, false, cond, not, ◌||◌, [], ◌∷◌, Some, None, Option, refl, ap, subst, arith}
use Rattle.std.proofs.lemmas.Bool.{eqb-true, eqb-false}
use Rattle.station.specs.Meaning.{Meaning}
use Rattle.station.specs.Rules.{due_now, sooner}
use Rattle.falls.specs.Histories.{tick, call, History, earlier, one_later, first_stop, first_low, own_tick}

-- it is no tick 0
abbrev pub Counted : Option ℕ → Type 0
Counted None = Unit {0}
Counted (Some n) = 0 < n

pub counted_some : (o : Option ℕ) (n : ℕ) → Counted o → o ≡ Some n → 0 < n
counted_some o n h e = subst Counted e h

pub counted_due : (o : Option ℕ) → (o ≡ Some 0 → ⊥) → Counted o
counted_due None h = tt
counted_due (Some zero) h = absurd (h refl)
counted_due (Some (suc n)) h = omega arith

counted_later : (o : Option ℕ) → Counted (one_later o)
counted_later None = tt
counted_later (Some n) = omega arith

pub counted_earlier : (a b : Option ℕ) → Counted a → Counted b → Counted (earlier a b)
counted_earlier None b ha hb = hb
counted_earlier (Some a) None ha hb = ha
counted_earlier (Some a) (Some b) ha hb = omega arith

pub earlier_later : (a b : Option ℕ) → earlier (one_later a) (one_later b) ≡ one_later (earlier a b)
earlier_later None None = refl
earlier_later None (Some b) = refl
earlier_later (Some a) None = refl
earlier_later (Some a) (Some b) = ap Some (omega arith)

-- nothing comes before tick 1
pub first_earlier : (b : Option ℕ) → Counted b → earlier (Some 1) b ≡ Some 1
first_earlier None h = refl
first_earlier (Some b) h = ap Some (omega arith)

pub earlier_first : (a : Option ℕ) → Counted a → earlier a (Some 1) ≡ Some 1
earlier_first None h = refl
earlier_first (Some a) h = ap Some (omega arith)

pub later_some : (o : Option ℕ) (n : ℕ) → one_later o ≡ Some n → o ≡ Some (n - 1)
later_some None n e = absurd (let z : ◌≡◌ {A = ℕ} 0 1 = cc in omega arith)
later_some (Some k) n e = let same : suc k ≡ n = cc in ap Some (omega arith)

-- a due that is not now, nor 0, is one later than what it will be after the tick
pub due_later : (d : Option ℕ) → Counted d → due_now d ≡ false → d ≡ one_later (sooner d)
due_later None h e = refl
due_later (Some n) h e = let ne = eqb-false n 1 e in ap Some (omega (arith, ne))

pub due_one : (d : Option ℕ) → due_now d ≡ true → d ≡ Some 1
due_one None e = absurd (let z : ◌≡◌ {A = ℕ} 0 1 = cc in omega arith)
due_one (Some n) e = ap Some (eqb-true n 1 e)

-- what comes to a place from its stop wire and, at place 0, from outside
abbrev pub outer : {S : Type 0} → Meaning S → S → History → ℕ → Option ℕ
outer m s h zero = earlier (first_stop m s h 0) (first_low h)
outer m s h (suc j) = first_stop m s h (suc j)

abbrev pub low_there : ℕ → Bool → Bool
low_there zero level = not level
low_there (suc j) level = false

counted_stop : {S : Type 0} (m : Meaning S) (s : S) (h : History) (j : ℕ) → Counted (first_stop m s h j)
counted_stop m s [] j = tt
counted_stop m s (tick level ∷ h) j = chosen (m.fact s j).stop _
  where
    chosen : (b : Bool) (o : Option ℕ) → Counted (cond b (Some 1) (one_later o))
    chosen true o = omega arith
    chosen false o = counted_later o
counted_stop m s (call p c ∷ h) j = counted_stop m (m.called s p c) h j

counted_low : (h : History) → Counted (first_low h)
counted_low [] = tt
counted_low (tick true ∷ h) = counted_later (first_low h)
counted_low (tick false ∷ h) = omega arith
counted_low (call p c ∷ h) = counted_low h

module _ {S : Type 0} (m : Meaning S) where
  pub counted_outer : (s : S) (h : History) (j : ℕ) → Counted (outer m s h j)
  counted_outer s h zero = counted_earlier _ _ (counted_stop m s h 0) (counted_low h)
  counted_outer s h (suc j) = counted_stop m s h (suc j)

  pub own_is : (s : S) (h : History) (j : ℕ) → own_tick m s h j ≡ earlier (m.fact s j).due (outer m s h j)
  own_is s h zero = refl
  own_is s h (suc j) = refl

  -- the stop stands, or the outside line is low at place 0: tick 1
  pub outer_now : (s : S) (level : Bool) (h : History) (j : ℕ) → ((m.fact s j).stop || low_there j level) ≡ true → outer m s (tick level ∷ h) j ≡ Some 1
  outer_now s level h zero e = now (m.fact s 0).stop level _ _ (counted_low h) e
    where
      now : (stop level : Bool) (a b : Option ℕ) → Counted b → (stop || not level) ≡ true → earlier (cond stop (Some 1) (one_later a)) (cond level (one_later b) (Some 1)) ≡ Some 1
      now true true a b h e = first_earlier (one_later b) (counted_later b)
      now true false a b h e = refl
      now false true a b h e = absurd (let z : ◌≡◌ {A = ℕ} 0 1 = cc in omega arith)
      now false false a b h e = earlier_first (one_later a) (counted_later a)
  outer_now s level h (suc j) e = now (m.fact s (suc j)).stop _ e
    where
      now : (stop : Bool) (a : Option ℕ) → (stop || false) ≡ true → cond stop (Some 1) (one_later a) ≡ Some 1
      now true a e = refl
      now false a e = absurd (let z : ◌≡◌ {A = ℕ} 0 1 = cc in omega arith)

  -- otherwise all that comes is one tick later than it will be after the tick
  pub outer_later : (s : S) (level : Bool) (h : History) (j : ℕ) → ((m.fact s j).stop || low_there j level) ≡ false → outer m s (tick level ∷ h) j ≡ one_later (outer m (m.ticked s level) h j)
  outer_later s level h zero e = later (m.fact s 0).stop level _ _ e
    where
      later : (stop level : Bool) (a b : Option ℕ) → (stop || not level) ≡ false → earlier (cond stop (Some 1) (one_later a)) (cond level (one_later b) (Some 1)) ≡ one_later (earlier a b)
      later true level a b e = absurd (let z : ◌≡◌ {A = ℕ} 0 1 = cc in omega arith)
      later false true a b e = earlier_later a b
      later false false a b e = absurd (let z : ◌≡◌ {A = ℕ} 0 1 = cc in omega arith)
  outer_later s level h (suc j) e = later (m.fact s (suc j)).stop _ e
    where
      later : (stop : Bool) (a : Option ℕ) → (stop || false) ≡ false → cond stop (Some 1) (one_later a) ≡ one_later a
      later true a e = absurd (let z : ◌≡◌ {A = ℕ} 0 1 = cc in omega arith)
      later false a e = refl
