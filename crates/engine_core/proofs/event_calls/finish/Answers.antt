use Rattle.std.proofs.Common.{refl, sym, subst}
use Rattle.ts_model.specs.declared.events.Event.TheVariants.{Built}
use Rattle.ts_model.specs.Calls.{act_of_finish}
use Rattle.refresh_build.proofs.FittingLaws.{job_sound}
use Rattle.engine_core.specs.Acts.{making_event}
use Rattle.engine_core.specs.Histories.{history_of}
use Rattle.engine_core.specs.Stores.{EngineDoes}
use Rattle.engine_core.proofs.ActLaws.{answered_finish}
use Rattle.engine_core.proofs.StoreLaws.{does_as}
use Rattle.engine_core.proofs.event_calls.finish.Goals as goal

pub returns : goal.returns
returns c =
    let old = c.args.engine.now.past in
    subst (λ o. EngineDoes (act_of_finish c.args.job.cut c.args.job.snap) c.args.engine.now.past o c.make.new.engine.past) (sym c.number_only.ensures)
    (does_as (λ r. r.pos) (making_event (Built c.args.job.cut c.args.job.snap)) (act_of_finish c.args.job.cut c.args.job.snap) old c.make.result c.make.new.engine.past (answered_finish c.args.job.cut c.args.job.snap (history_of old)) c.make.ensures)

pub make-requires-clause-sound : goal.make-requires-clause-sound
make-requires-clause-sound c = job_sound c.args.job (history_of c.args.engine.now.past) c.requires

pub make-requires-clause-job : goal.make-requires-clause-job
make-requires-clause-job c = (refl, refl, c.requires)
