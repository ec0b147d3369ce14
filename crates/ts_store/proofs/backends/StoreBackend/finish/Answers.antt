use Rattle.std.proofs.Common.{refl, sym, subst}
use Rattle.ts_model.specs.declared.events.Event.TheVariants.{Built}
use Rattle.ts_model.specs.Calls.{act_of_finish}
use Rattle.refresh_build.proofs.FittingLaws.{job_sound}
use Rattle.engine_core.specs.Acts.{making_event}
use Rattle.engine_core.proofs.ActLaws.{answered_finish}
use Rattle.engine_core.proofs.StoreLaws.{called_as}
use Rattle.ts_store.specs.Stores.{StoreDoes, history_seen, state_of}
use Rattle.ts_store.proofs.backends.StoreBackend.finish.Goals as goal

pub returns-clause-called : goal.returns-clause-called
returns-clause-called g c =
    subst (λ o. StoreDoes g.D.Disk.faults g.D.Disk.moment (act_of_finish c.args.job.cut c.args.job.snap) c.args.self.now o c.make.new.self) (sym c.number_only.ensures)
    (called_as (λ r. r.pos) (making_event (Built c.args.job.cut c.args.job.snap)) (act_of_finish c.args.job.cut c.args.job.snap) (state_of g.D.Disk.faults g.D.Disk.moment c.args.self.now) c.make.result (state_of g.D.Disk.faults g.D.Disk.moment c.make.new.self)
    (answered_finish c.args.job.cut c.args.job.snap (history_seen c.args.self.now)) c.make.ensures.does)

pub make-requires-clause-sound : goal.make-requires-clause-sound
make-requires-clause-sound g c = job_sound c.args.job (history_seen c.args.self.now) c.requires

pub make-requires-clause-job : goal.make-requires-clause-job
make-requires-clause-job g c = (refl, refl, c.requires)
