-- The account of a whole trace.
use Rattle.std.proofs.Common.{◌≡◌, ℕ, List, [], ◌++◌, vec_items, Vec, sym, refl, ap, ◌∙◌, subst, append-nil}
use Rattle.std.specs.declared.alloc.Global.{Global}
use Rattle.station.specs.Meaning.{Meaning}
use Rattle.station.specs.Rules.{Rules}
use Rattle.bench.specs.Trails.{trail}
use Rattle.bench.specs.declared.Bench.{Bench}
use Rattle.replay.specs.Replays.{Outcome, asked, left_by}
use Rattle.account.specs.Accounts.{Accounts, told, lines_view}
use Rattle.account.specs.Watches.{View, view, begun}
use Rattle.account.specs.declared.watch.Watch.{Watch}
use Rattle.account.proofs.Told.{Sofar}
use Rattle.account.proofs.Tracks.{Tracks, track_all}

module _ {S : Type 0} (m : Meaning S) (R : Rules m) where
  pub sofar_all : (b : Bench S) (w : Watch S) (all : List (List ℕ)) (start : View S) (os : Vec Outcome Global) (left : List (List ℕ)) →
      Sofar m start.bench all start (vec_items os) (view w) left → left ≡ [] → start ≡ begun m b → Accounts m b all (record { watch = w; outcomes = os })
  unfolding told lines_view left_by asked
  sofar_all b w all start os left sofar none begins =
      let from : start.bench ≡ b = ap (λ (x : View S). x.bench) begins in
      let seen : view w ≡ lines_view m all (begun m b) =
      sym (ap (lines_view m all) (sym begins) ∙ sofar.seen ∙ ap (λ ls. lines_view m ls (view w)) none) in
      let tracks = subst (Tracks m R b.chain (trail m b (asked all))) (sym seen) (track_all m R b.chain b all refl) in
      record {
        outcomes = sym (ap (λ x. told m x all) (sym from) ∙ sofar.outcomes ∙ ap (λ ls. vec_items os ++ told m w.bench ls) none ∙ append-nil (vec_items os));
        seen = seen;
        bench = sym (ap (λ x. left_by m x all) (sym from) ∙ sofar.bench ∙ ap (left_by m w.bench) none);
        every_place = tracks.places;
        since = tracks.rows;
      }
