use Rattle.std.proofs.Common.{refl, ap}
use Rattle.std.specs.Prelude.{is_some}
use Rattle.ts_store.specs.Recorders.{store_of}
use Rattle.ts_store.proofs.CallLaws.{does_stopped}
use Rattle.ts_store.proofs.KeptLaws.{safe_same}
use Rattle.ts_store.proofs.recorders.Recorder.make_checked.Goals as goal

pub returns-in-Some-clause-does : goal.returns-in-Some-clause-does
returns-in-Some-clause-does g c = λ begun opened armed kept.
    does_stopped g.D.Disk.bytes g.D.Disk.may_leave g.D.Disk.moment g.D.Disk.left_since g.D.Disk.faults (store_of c.args.self.now begun opened armed) (store_of c.args.self.now begun opened armed)
    c.args.event c.stop_refusal.result kept c.requires.allowed (ap is_some c.in-Some.is) c.stop_refusal.ensures
    (record { past = refl; failed = refl; counted = refl; begun = refl; opened = refl })

pub returns-in-Some-clause-safe : goal.returns-in-Some-clause-safe
returns-in-Some-clause-safe g c = λ begun opened armed.
    safe_same g.D.Disk.bytes g.D.Disk.may_leave g.D.Disk.moment g.D.Disk.left_since g.D.Disk.faults g.met.D.Disk.only_now
    (store_of c.args.self.now begun opened armed) (store_of c.args.self.now begun opened armed) c.requires.history refl refl refl
