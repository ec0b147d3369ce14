use Rattle.std.proofs.Common.{◌∙◌, ap, subst, sym}
use Rattle.ts_model.specs.Pending.{is_waiting}
use Rattle.engine_state.specs.Stands.{StandsFor}
use Rattle.engine_state.proofs.states.State.start_job.Goals as goal

pub start_job-requires-clause-waits : goal.start_job-requires-clause-waits
start_job-requires-clause-waits g c κs within =
    let own = c.self.invariant in
    ap is_waiting (own.stands.refreshes.pending c.args.cut) ∙ c.requires.waits own.history (subst (StandsFor own.history) c.self.view_is own.stands)

pub returns-clause-job : goal.returns-clause-job
returns-clause-job g c h st = c.start_job.ensures.job h (subst (StandsFor h) (sym c.self.view_is) st)

pub returns-clause-read : goal.returns-clause-read
returns-clause-read g c h st = c.start_job.ensures.read h (subst (StandsFor h) (sym c.self.view_is) st)
