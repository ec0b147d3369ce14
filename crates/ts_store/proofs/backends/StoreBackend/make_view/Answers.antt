use Rattle.std.proofs.Common.{sym, subst}
use Rattle.ts_model.specs.declared.events.Event.TheVariants.{View}
use Rattle.ts_model.specs.Calls.{making_view}
use Rattle.engine_core.specs.Acts.{making_event}
use Rattle.engine_core.proofs.ActLaws.{answered_view}
use Rattle.engine_core.proofs.StoreLaws.{called_as}
use Rattle.ts_store.specs.Stores.{StoreDoes, history_seen, state_of}
use Rattle.ts_store.proofs.backends.StoreBackend.make_view.Goals as goal

pub returns-clause-called : goal.returns-clause-called
returns-clause-called g c =
    subst (λ o. StoreDoes g.D.Disk.faults g.D.Disk.moment (making_view c.args.def) c.args.self.now o c.make.new.self) (sym c.number_only.ensures)
    (called_as (λ r. r.pos) (making_event (View c.args.def)) (making_view c.args.def) (state_of g.D.Disk.faults g.D.Disk.moment c.args.self.now) c.make.result (state_of g.D.Disk.faults g.D.Disk.moment c.make.new.self)
    (answered_view c.args.def (history_seen c.args.self.now)) c.make.ensures.does)
