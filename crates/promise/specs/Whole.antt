-- The promise of the bench, whole.
use Rattle.std.specs.Prelude.{◌≡◌, ℕ, ◌<◌, true, false, ◌↔◌, List, ◌++◌, is_ok, Ok}
use Rattle.station.specs.Meaning.{Meaning}
use Rattle.falls.specs.Histories.{History, play, ticks}
use Rattle.falls.specs.Law.{Addressed, AllReady, Reached}
use Rattle.bench.specs.Calls.{fresh, reply, performed}
use Rattle.bench.specs.Trails.{afterwards, ticks_returned, trail, Unguarded}
use Rattle.bench.specs.declared.Bench.{Bench}
use Rattle.bench.specs.declared.request.Request.{Request}
use Rattle.bench.specs.declared.request.Request.TheVariants.{Take, Acknowledge}
use Rattle.card.specs.Cards.{card}
use Rattle.card.specs.declared.whole.Card.{Card}
use Rattle.drive.specs.Drives.{drive}
use Rattle.drive.specs.declared.motor.Drive.{Drive}
use Rattle.promise.specs.Still.{StillCard, StillDrive}

-- a part of the chain stands at place k: what is told of the place is what the part tells
abbrev pub StandsAt : {S P : Type 0} → Meaning S → Meaning P → (S → P) → ℕ → Type 0
StandsAt {S} m p part k = (s : S) → m.fact s k ≡ p.fact (part s) 0

-- a moment of a list of requests on a new bench: the end of a beginning of its trail
abbrev pub Moment : {S : Type 0} → Meaning S → S → List Request → (before : History) → Type 0
Moment m s requests before = (after : History) × (before ++ after ≡ trail m (fresh s) requests)

-- of a new bench over a chain s, and any list of requests, each carried out or refused on the bench as the one
-- before left it
pub record Whole {S : Type 0} (m : Meaning S) (s : S) (requests : List Request) : Type 0 where
  -- the trail leads where the requests lead, and has the ticks that run and until return
  pub leads : play m s (trail m (fresh s) requests) ≡ (afterwards m (fresh s) requests).chain
  pub counts : ticks (trail m (fresh s) requests) ≡ ticks_returned m (fresh s) requests
  -- the end of each request is a moment
  pub ends : (first rest : List Request) → first ++ rest ≡ requests → Moment m s requests (trail m (fresh s) first)
  -- from any moment at which every addressed place is ready, as long as no guard call follows: place k is held
  -- exactly if some place j, not beyond k, has an own tick of at most t - (k - j), where t ticks were made
  pub falls : (before during : History) → Moment m s requests (before ++ during) →
      AllReady m (play m s before) → Unguarded m (play m s before) during →
      (k : ℕ) → Addressed m s k → ((m.fact (play m s (before ++ during)) k).held ≡ true) ↔ Reached m (play m s before) during k
  -- at every moment a held place is at rest
  pub rests : (before : History) → Moment m s requests before → (k : ℕ) → k < m.size s →
      (m.fact (play m s before) k).held ≡ true → (m.fact (play m s before) k).rest ≡ true
  -- so that a held card and a held drive, wherever they stand, put out nothing
  pub cards : (before : History) → Moment m s requests before → (part : S → Card) (k : ℕ) → k < m.size s → StandsAt m card part k →
      (m.fact (play m s before) k).held ≡ true → StillCard (part (play m s before))
  pub drives : (before : History) → Moment m s requests before → (part : S → Drive) (k : ℕ) → k < m.size s → StandsAt m drive part k →
      (m.fact (play m s before) k).held ≡ true → StillDrive (part (play m s before))
  -- a refused request changes nothing, and what was just taken can be acknowledged
  pub refuses : (b : Bench S) (q : Request) → is_ok (reply m b q) ≡ false → performed m b q ≡ b
  pub serves : (b : Bench S) (place bits : ℕ) → reply m b (Take place) ≡ Ok bits → reply m (performed m b (Take place)) (Acknowledge place bits) ≡ Ok tt
