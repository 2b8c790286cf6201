-- What has been taken can be acknowledged.
use Rattle.std.proofs.Common.{◌≡◌, ℕ, ◌<◌, Bool, true, false, cond, ltb, length, Some, None, Ok, Err, Option, Result, sym, refl, ap, ◌∙◌, arith, get_or-set_same}
use Rattle.std.proofs.lemmas.Bool.{cond-true, eq-eqb, ltb-true}
use Rattle.station.specs.Meaning.{Meaning}
use Rattle.bench.specs.declared.Bench.{Bench}
use Rattle.bench.specs.declared.refusal.Back.{Back}
use Rattle.bench.specs.declared.refusal.Refusal.{Refusal}
use Rattle.bench.specs.declared.refusal.Refusal.TheVariants.{NoPlace, NoService}
use Rattle.bench.specs.declared.services.Services.{Services}
use Rattle.bench.specs.declared.ticket.Ticket.{Ticket}
use Rattle.bench.specs.Calls.{places, taken, after_take, acknowledged, ticketed, handed}
use Rattle.bench.specs.Services.{service, same_service, with_service}

service_put : (t : Services) (p : ℕ) (o : Option ℕ) → p < 16 → service (with_service t p o) p ≡ o
unfolding service with_service
service_put t p o h = let in_table : p < length t.each = omega (arith, t.sixteen) in get_or-set_same t.each p o None in_table

in_chain : (there : Bool) (p bits : ℕ) (r : Result ℕ Refusal) → cond there r (Err (NoPlace p)) ≡ Ok bits → there ≡ true
in_chain true p bits r e = refl
in_chain false p bits r e = absurd (let z : ◌≡◌ {A = ℕ} 0 1 = cc in omega arith)

module _ {S : Type 0} (m : Meaning S) where
  -- a ticket that was just given is accepted
  pub take_acknowledge : (b after : Bench S) (p bits : ℕ) → taken m b p ≡ Ok bits → after ≡ after_take b p (taken m b p) → acknowledged m after p bits ≡ Ok tt
  take_acknowledge b after p bits took is =
      let there = in_chain (ltb p (places m b)) p bits _ took in
      let h = ltb-true _ _ there in
      let now = is ∙ ap (after_take b p) took in
      ap (λ (x : Bench S). acknowledged m x p bits) now
      ∙ cond-true _ _ _ there
      ∙ cond-true _ _ (Err (NoService p)) (ap (λ o. same_service o bits) (service_put b.services p (Some bits) (omega (arith, h))) ∙ eq-eqb bits bits refl)

  ticket_of : (p : ℕ) (ticket : Ticket) (r : Result ℕ Refusal) → Ok ticket ≡ ticketed p r → (ticket.place ≡ p) × (r ≡ Ok ticket.bits)
  ticket_of p ticket (Ok bits) e =
      let same : ticket ≡ record { place = p; bits = bits } = cc in
      (ap (λ (t : Ticket). t.place) same, ap (λ (t : Ticket). Ok t.bits) (sym same))
  ticket_of p ticket (Err why) e = absurd (let z : ◌≡◌ {A = ℕ} 0 1 = cc in omega arith)

  -- so that the bench never hands it back
  pub never_back : (b after : Bench S) (p : ℕ) (ticket : Ticket) (back : Back Ticket) → Ok ticket ≡ ticketed p (taken m b p) → after ≡ after_take b p (taken m b p) →
      Err back ≡ handed ticket (tt {0}) (acknowledged m after ticket.place ticket.bits) → ⊥
  never_back b after p ticket back took is refused =
      let t = ticket_of p ticket (taken m b p) took in
      let accepted = take_acknowledge b after p ticket.bits t.1 is in
      let spent = refused ∙ ap (handed ticket (tt {0})) (ap (λ k. acknowledged m after k ticket.bits) t.0 ∙ accepted) in
      not_both back spent
    where
      not_both : (x : Back Ticket) → ◌≡◌ {A = Result (Unit {0}) (Back Ticket)} (Err x) (Ok tt) → ⊥
      not_both x e = let z : ◌≡◌ {A = ℕ} 0 1 = cc in omega arith
