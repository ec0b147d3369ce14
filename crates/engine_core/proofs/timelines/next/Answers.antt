use Rattle.std.proofs.Common.{sym, subst}
use Rattle.ts_model.specs.History.{◌▸◌}
use Rattle.ts_model.proofs.AllowedLaws.{consistent_next}
use Rattle.engine_core.specs.Timelines.{IsMomentOf}
use Rattle.engine_core.proofs.TimelineLaws.{next_moment}
use Rattle.engine_core.proofs.timelines.next.Goals as goal

pub returns : goal.returns
returns g c = record {
  next = λ h stands ok.
      let job = c.in_ok-job.ensures.job h stands ok in
      let consistent = consistent_next h c.args.event.now ok in
      subst (IsMomentOf (h ▸ c.args.event.now)) (sym c.in_ok-moment.ensures.moment)
      (next_moment h c.args.event.now (record { state = c.in_ok-after.after.made; inserted = c.in_ok-after.after.inserted; removed = c.in_ok-after.after.removed }) (c.in_ok-after.ensures.stands h stands consistent job) (c.in_ok-after.ensures.counts h stands consistent));
}
