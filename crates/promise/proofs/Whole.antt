-- The promise holds of every chain that keeps the rules of a station.
use Rattle.std.proofs.Common.{◌≡◌, ℕ, ◌<◌, true, ◌↔◌, List, ◌++◌, sym, refl, ap, ◌∙◌, subst}
use Rattle.station.specs.Meaning.{Meaning}
use Rattle.station.specs.Rules.{Rules}
use Rattle.station.specs.declared.facts.Facts.{Facts}
use Rattle.falls.specs.Histories.{History, play}
use Rattle.falls.specs.Law.{Addressed, AllReady, Reached}
use Rattle.falls.proofs.Falls.{law, played_size}
use Rattle.bench.specs.Calls.{fresh}
use Rattle.bench.specs.Trails.{afterwards, trail, Unguarded}
use Rattle.bench.specs.declared.request.Request.{Request}
use Rattle.bench.proofs.Refused.{refused_same}
use Rattle.bench.proofs.Served.{take_acknowledge}
use Rattle.bench.proofs.Trails.{Within, within_parts, play_both, trail_both, leads, counts, trail_within, no_guard}
use Rattle.promise.specs.Whole.{Moment, Whole}
use Rattle.promise.proofs.Still.{card_still, drive_still}

module _ {S : Type 0} (m : Meaning S) (R : Rules m) (s : S) (requests : List Request) where
  -- what follows a moment is made at places of the chain
  during_within : (before during : History) → Moment m s requests (before ++ during) → Within (m.size (play m s before)) during
  during_within before during at =
      let whole = subst (Within (m.size s)) (sym at.1) (trail_within m R requests (fresh s)) in
      let both = within_parts (m.size s) (before ++ during) at.0 whole in
      subst (λ n. Within n during) (sym (played_size m R before s)) (within_parts (m.size s) before during both.0).1

  falls_at : (before during : History) → Moment m s requests (before ++ during) → AllReady m (play m s before) → Unguarded m (play m s before) during →
      (k : ℕ) → Addressed m s k → ((m.fact (play m s (before ++ during)) k).held ≡ true) ↔ Reached m (play m s before) during k
  falls_at before during at ready free k a =
      let start = play m s before in
      let there : Addressed m start k = (a.0, subst (λ n. k < n) (sym (played_size m R before s)) a.1) in
      subst (λ t. ((m.fact t k).held ≡ true) ↔ Reached m start during k) (sym (play_both m before during s))
      ((law m R).falls start during ready (no_guard m R during start (during_within before during at) free) k there)

  pub whole : Whole m s requests
  whole = record {
    leads = leads m R requests (fresh s);
    counts = counts m R requests (fresh s);
    ends = λ first rest is. (trail m (afterwards m (fresh s) first) rest, sym (trail_both m first rest (fresh s)) ∙ ap (trail m (fresh s)) is);
    falls = falls_at;
    rests = λ before at k h. (law m R).rests s before k h;
    cards = λ before at part k h stands held.
        card_still (part (play m s before)) (sym (ap (λ (f : Facts). f.rest) (stands (play m s before))) ∙ (law m R).rests s before k h held);
    drives = λ before at part k h stands held.
        drive_still (part (play m s before)) (sym (ap (λ (f : Facts). f.rest) (stands (play m s before))) ∙ (law m R).rests s before k h held);
    refuses = refused_same m R;
    serves = λ b place bits took. take_acknowledge m b _ place bits took refl;
  }
