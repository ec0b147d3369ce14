use Rattle.std.proofs.Common.{Some, refl, ap}
use Rattle.engine_core.specs.Histories.{history_of}
use Rattle.ts_store.specs.declared.recorders.Recorder.{Recorder}
use Rattle.ts_store.proofs.KeptLaws.{safe_same}
use Rattle.ts_store.proofs.RecordLaws.{does_done, does_fail, kept_done, kept_failed, safe_done, safe_failed, stopped_apart}
use Rattle.ts_store.proofs.recorders.Recorder.put.Goals as goal

-- ---- the event is on the disk

pub returns-in-Done-clause-does : goal.returns-in-Done-clause-does
returns-in-Done-clause-does g c =
    let new : Recorder g.row.D.Denot = record { engine = c.install.new.self; journal = c.append_armed.new.journal; failed = c.args.self.now.failed } in
    does_done g.D.Disk.bytes g.D.Disk.may_leave g.D.Disk.moment g.D.Disk.left_since g.D.Disk.faults c.args.self.now new
    c.args.draft.prepared.event c.args.draft.frame c.requires.history c.requires.draft.fits c.requires.draft.formed c.requires.draft.framed c.requires.goes_on c.append_armed.ensures.any_moment
    c.install.ensures.past c.requires.goes_on (c.in-Done.ensures.ends).1 c.in-Done.ensures.counted c.in-Done.ensures.done
    c.effect-effect.result (c.effect-effect.ensures.effect (history_of c.args.self.now.engine.past) c.requires.draft.prepared)

pub returns-in-Done-clause-kept : goal.returns-in-Done-clause-kept
returns-in-Done-clause-kept g c =
    let new : Recorder g.row.D.Denot = record { engine = c.install.new.self; journal = c.append_armed.new.journal; failed = c.args.self.now.failed } in
    kept_done g.D.Disk.bytes g.D.Disk.may_leave g.D.Disk.moment g.D.Disk.left_since g.D.Disk.faults c.args.self.now new
    c.args.draft.prepared.event c.args.draft.frame c.requires.history c.requires.draft.fits c.requires.draft.formed c.requires.draft.framed c.requires.goes_on c.append_armed.ensures.any_moment
    c.install.ensures.past c.requires.goes_on (c.in-Done.ensures.ends).1 c.in-Done.ensures.counted c.in-Done.ensures.done

pub returns-in-Done-clause-safe : goal.returns-in-Done-clause-safe
returns-in-Done-clause-safe g c =
    let new : Recorder g.row.D.Denot = record { engine = c.install.new.self; journal = c.append_armed.new.journal; failed = c.args.self.now.failed } in
    safe_done g.D.Disk.bytes g.D.Disk.may_leave g.D.Disk.moment g.D.Disk.left_since g.D.Disk.faults c.args.self.now new
    c.args.draft.prepared.event c.args.draft.frame c.requires.history c.requires.draft.fits c.requires.draft.formed c.requires.draft.framed c.requires.goes_on c.append_armed.ensures.any_moment
    c.install.ensures.past c.requires.goes_on (c.in-Done.ensures.ends).1 c.in-Done.ensures.counted c.in-Done.ensures.done

-- ---- the disk failed

pub returns-in-DiskFault-clause-does : goal.returns-in-DiskFault-clause-does
returns-in-DiskFault-clause-does g c =
    let new : Recorder g.row.D.Denot = record { engine = c.args.self.now.engine; journal = c.append_armed.new.journal; failed = Some c.into_event.result } in
    does_fail g.D.Disk.bytes g.D.Disk.may_leave g.D.Disk.moment g.D.Disk.left_since g.D.Disk.faults c.args.self.now new
    c.args.draft.prepared.event c.args.draft.frame c.requires.history c.requires.draft.fits c.requires.draft.formed c.requires.draft.framed c.requires.goes_on c.append_armed.ensures.any_moment
    refl (ap Some c.into_event.ensures.event) (c.in-DiskFault.ensures.ends).1 c.in-DiskFault.ensures.counted c.append_armed.ensures.shown

pub returns-in-DiskFault-clause-kept : goal.returns-in-DiskFault-clause-kept
returns-in-DiskFault-clause-kept g c =
    let new : Recorder g.row.D.Denot = record { engine = c.args.self.now.engine; journal = c.append_armed.new.journal; failed = Some c.into_event.result } in
    kept_failed g.D.Disk.bytes g.D.Disk.may_leave g.D.Disk.moment g.D.Disk.left_since g.D.Disk.faults c.args.self.now new
    c.args.draft.prepared.event c.args.draft.frame c.requires.history c.requires.draft.fits c.requires.draft.formed c.requires.draft.framed c.requires.goes_on c.append_armed.ensures.any_moment
    refl (ap Some c.into_event.ensures.event) (c.in-DiskFault.ensures.ends).1 c.in-DiskFault.ensures.counted c.append_armed.ensures.shown

pub returns-in-DiskFault-clause-safe : goal.returns-in-DiskFault-clause-safe
returns-in-DiskFault-clause-safe g c =
    let new : Recorder g.row.D.Denot = record { engine = c.args.self.now.engine; journal = c.append_armed.new.journal; failed = Some c.into_event.result } in
    safe_failed g.D.Disk.bytes g.D.Disk.may_leave g.D.Disk.moment g.D.Disk.left_since g.D.Disk.faults c.args.self.now new
    c.args.draft.prepared.event c.args.draft.frame c.requires.history c.requires.draft.fits c.requires.draft.formed c.requires.draft.framed c.requires.goes_on c.append_armed.ensures.any_moment
    refl (ap Some c.into_event.ensures.event) (c.in-DiskFault.ensures.ends).1 c.in-DiskFault.ensures.counted c.append_armed.ensures.shown

-- ---- the journal had stopped, which is impossible for a store whose disk didn't fail

pub returns-in-Stopped-clause-does : goal.returns-in-Stopped-clause-does
returns-in-Stopped-clause-does g c = λ begun opened armed kept.
    absurd (stopped_apart g.D.Disk.bytes g.D.Disk.may_leave g.D.Disk.moment g.D.Disk.left_since g.D.Disk.faults c.args.self.now begun opened armed kept c.requires.goes_on (c.in-Stopped.ensures.ends).0)

pub returns-in-Stopped-clause-kept : goal.returns-in-Stopped-clause-kept
returns-in-Stopped-clause-kept g c = λ begun opened armed kept.
    absurd (stopped_apart g.D.Disk.bytes g.D.Disk.may_leave g.D.Disk.moment g.D.Disk.left_since g.D.Disk.faults c.args.self.now begun opened armed kept c.requires.goes_on (c.in-Stopped.ensures.ends).0)

pub returns-in-Stopped-clause-safe : goal.returns-in-Stopped-clause-safe
returns-in-Stopped-clause-safe g c = λ begun opened armed.
    safe_same g.D.Disk.bytes g.D.Disk.may_leave g.D.Disk.moment g.D.Disk.left_since g.D.Disk.faults g.met.D.Disk.only_now
    (record { engine = c.args.self.now.engine; journal = c.args.self.now.journal; failed = c.args.self.now.failed; begun = begun; opened = opened; armed = armed })
    (record { engine = c.args.self.now.engine; journal = c.append_armed.new.journal; failed = c.args.self.now.failed; begun = begun; opened = opened; armed = armed })
    c.requires.history refl c.in-Stopped.ensures.stopped refl
