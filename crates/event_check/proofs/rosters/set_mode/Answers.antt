use Rattle.std.proofs.Common.{◌≤◌, length, sym, ap, ◌∙◌, arith}
use Rattle.ts_model.specs.Roster.{set_only}
use Rattle.event_check.proofs.RosterSteps.{changed_at, changed_past}
use Rattle.event_check.proofs.rosters.set_mode.Goals as goal

pub returns-in_ok-def : goal.returns-in_ok-def
returns-in_ok-def c =
    c.set.ensures.set ∙ sym (changed_at c.args.views.now c.args.view (set_only c.args.only) c.get.result.now _ (omega arith) c.get.ensures.item (ap (set_only c.args.only) c.in_ok-def.ensures.same))

pub returns-else-view-len : goal.returns-else-view-len
returns-else-view-len c = sym (changed_past c.args.views.now c.args.view (set_only c.args.only) (let past : length c.args.views.now ≤ c.args.view = omega arith in past))
