-- One more aggregate was fed, if it is over the table.
use Rattle.std.proofs.Common.{take, sym, subst, ◌+◌, ◌==◌}
use Rattle.engine_state.specs.Lists.{Each}
use Rattle.engine_state.specs.Steps.{FedAt, TakesIf}
use Rattle.engine_state.proofs.TakenLaws.{each_is, each_taken}
use Rattle.engine_state.proofs.cuts.feed_all.Goals as goal

pub feed_if-requires : goal.feed_if-requires
feed_if-requires c = each_is (λ view. TakesIf (view.table == c.args.number) c.args.table.now view) c.args.views.now c.loop-view.view-index c.view-item.result c.requires c.loop-view-test.true c.view-item.is

pub loop-view-preserved : goal.loop-view-preserved
loop-view-preserved c =
    let fed = FedAt c.args.number c.args.table.now in
    subst (Each fed (take (c.loop-view.view-index + 1) c.args.views.now)) (sym c.in_ok-push.ensures.pushed) (each_taken fed c.args.views.now c.loop-view.after c.loop-view.view-index c.view-item.result c.in_ok-feed_if.field-0 c.loop-view-test.true c.view-item.is c.loop-view.invariant c.in_ok-feed_if.ensures.fed)
