use Rattle.std.proofs.Common.{[], ◌∷◌, ◌++◌, vec_items, ap, ◌∙◌}
use Rattle.account.specs.Watches.{view}
use Rattle.account.proofs.Accounted.{sofar_all}
use Rattle.account.proofs.Told.{sofar_more}
use Rattle.account.proofs.account_of.Goals as goal

pub loop-line-preserved : goal.loop-line-preserved
loop-line-preserved g c =
    let told = c.replay_line.ensures in
    let pushed = c.in_ok-push.ensures.items ∙ ap (λ o. vec_items c.loop-line.outcomes ++ (o ∷ [])) told.value in
    sofar_more g.S.Station.meaning _ _ _ _ _ _ _ _ _ _ c.loop-line.invariant c.in-Some.ensures.steps told.after pushed

pub returns : goal.returns
returns g c =
    sofar_all g.S.Station.meaning g.met.S.Station.rules _ _ _ (view c.in_ok-watch.watch) _ _ c.loop-line.invariant c.in-None.ensures.steps.0 c.in_ok-watch.ensures
