use Rattle.std.proofs.Common.{refl}
use Rattle.ts_store.specs.Recorders.{store_of}
use Rattle.ts_store.proofs.CallLaws.{does_refused}
use Rattle.ts_store.proofs.KeptLaws.{safe_same}
use Rattle.ts_store.proofs.recorders.Recorder.make.Goals as goal

pub returns-in-Err-clause-does : goal.returns-in-Err-clause-does
returns-in-Err-clause-does g c = λ begun opened armed kept.
    does_refused g.D.Disk.bytes g.D.Disk.may_leave g.D.Disk.moment g.D.Disk.left_since g.D.Disk.faults (store_of c.args.self.now begun opened armed) (store_of c.args.self.now begun opened armed)
    c.args.event c.in-Err.refusal kept c.in-Err.ensures.refused
    (record { past = refl; failed = refl; counted = refl; begun = refl; opened = refl })

pub returns-in-Err-clause-safe : goal.returns-in-Err-clause-safe
returns-in-Err-clause-safe g c = λ begun opened armed.
    safe_same g.D.Disk.bytes g.D.Disk.may_leave g.D.Disk.moment g.D.Disk.left_since g.D.Disk.faults g.met.D.Disk.only_now
    (store_of c.args.self.now begun opened armed) (store_of c.args.self.now begun opened armed) c.requires.history refl refl refl
