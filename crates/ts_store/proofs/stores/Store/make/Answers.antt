use Rattle.std.proofs.Common.{sym, ap, subst}
use Rattle.std.specs.Prelude.{IsTrue}
use Rattle.ts_model.specs.Sound.{sound}
use Rattle.refresh_build.specs.Fitting.{JobIsFor}
use Rattle.engine_core.specs.Acts.{making_event}
use Rattle.ts_store.specs.Recorders.{store_of}
use Rattle.ts_store.specs.Safe.{IsSafe}
use Rattle.ts_store.specs.Stores.{StoreValue, StoreDoes, known_of, history_seen}
use Rattle.ts_store.proofs.stores.Store.make.Goals as goal

pub make-requires-clause-history : goal.make-requires-clause-history
make-requires-clause-history g c = c.self.invariant.sound

pub make-requires-clause-sound : goal.make-requires-clause-sound
make-requires-clause-sound g c = subst (λ (s : StoreValue g.row.D.Denot). IsTrue (sound (history_seen s) c.args.event)) (sym c.self.view_is) c.requires.sound

pub make-requires-clause-job : goal.make-requires-clause-job
make-requires-clause-job g c = subst (λ (s : StoreValue g.row.D.Denot). JobIsFor (history_seen s) c.args.event c.args.job) (sym c.self.view_is) c.requires.job

pub returns-clause-does : goal.returns-clause-does
returns-clause-does g c =
    subst (λ (s : StoreValue g.row.D.Denot). StoreDoes g.D.Disk.faults g.D.Disk.moment (making_event c.args.event) s c.make.result (store_of c.make.new.self c.self.inside.begun c.self.inside.opened c.self.inside.armed)) c.self.view_is
    (c.make.ensures.does c.self.inside.begun c.self.inside.opened c.self.inside.armed c.self.invariant)

pub returns-clause-known : goal.returns-clause-known
returns-clause-known g c = ap (λ (s : StoreValue g.row.D.Denot). known_of s) c.self.view_is

pub returns-clause-safe : goal.returns-clause-safe
returns-clause-safe g c =
    subst (λ (s : StoreValue g.row.D.Denot). IsSafe g.D.Disk.bytes g.D.Disk.may_leave g.D.Disk.moment g.D.Disk.left_since s (store_of c.make.new.self c.self.inside.begun c.self.inside.opened c.self.inside.armed)) c.self.view_is
    (c.make.ensures.safe c.self.inside.begun c.self.inside.opened c.self.inside.armed)

pub invariant_of-self : goal.invariant_of-self
invariant_of-self g c = c.make.ensures.kept c.self.inside.begun c.self.inside.opened c.self.inside.armed c.self.invariant
