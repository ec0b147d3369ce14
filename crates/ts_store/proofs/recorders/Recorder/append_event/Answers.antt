use Rattle.std.proofs.Common.{refl, sym, ap, subst}
use Rattle.engine_core.specs.Acts.{making_event}
use Rattle.engine_core.specs.Histories.{history_of}
use Rattle.ts_store.specs.Drafts.{IsDraft}
use Rattle.ts_store.specs.Recorders.{store_of}
use Rattle.ts_store.specs.Stands.{IsSound}
use Rattle.ts_store.specs.declared.recorders.Recorder.{Recorder}
use Rattle.ts_store.proofs.CallLaws.{does_without_memory}
use Rattle.ts_store.proofs.KeptLaws.{kept_room, safe_same}
use Rattle.ts_store.proofs.RecordLaws.{does_room, own_draft, safe_room}
use Rattle.ts_store.proofs.recorders.Recorder.append_event.Goals as goal

pub put-requires-clause-history : goal.put-requires-clause-history
put-requires-clause-history g c = subst (λ es. IsSound (history_of es)) (sym c.draft_of.ensures.past) c.requires.history

pub put-requires-clause-draft : goal.put-requires-clause-draft
put-requires-clause-draft g c = subst (λ es. IsDraft (history_of es) c.in-Ok.draft.prepared.event c.in-Ok.draft) (sym c.draft_of.ensures.past) (own_draft (history_of c.args.self.now.engine.past) c.args.event c.in-Ok.draft c.in-Ok.ensures.draft)

pub returns-in-Ok-clause-does : goal.returns-in-Ok-clause-does
returns-in-Ok-clause-does g c = λ begun opened armed kept.
    does_room g.D.Disk.bytes g.D.Disk.may_leave g.D.Disk.moment g.D.Disk.left_since g.D.Disk.faults (making_event c.in-Ok.draft.prepared.event) (making_event c.args.event) c.args.self.now c.put.new.self c.draft_of.new.engine c.put.result begun opened armed
    c.draft_of.ensures.past (ap making_event c.in-Ok.ensures.draft.event)
    (c.put.ensures.does begun opened armed (kept_room g.D.Disk.bytes g.D.Disk.may_leave g.D.Disk.moment g.D.Disk.left_since g.D.Disk.faults (store_of c.args.self.now begun opened armed) c.draft_of.new.engine c.draft_of.ensures.past kept))

pub returns-in-Ok-clause-kept : goal.returns-in-Ok-clause-kept
returns-in-Ok-clause-kept g c = λ begun opened armed kept.
    c.put.ensures.kept begun opened armed (kept_room g.D.Disk.bytes g.D.Disk.may_leave g.D.Disk.moment g.D.Disk.left_since g.D.Disk.faults (store_of c.args.self.now begun opened armed) c.draft_of.new.engine c.draft_of.ensures.past kept)

pub returns-in-Ok-clause-safe : goal.returns-in-Ok-clause-safe
returns-in-Ok-clause-safe g c = safe_room g.D.Disk.bytes g.D.Disk.may_leave g.D.Disk.moment g.D.Disk.left_since g.D.Disk.faults c.args.self.now c.put.new.self c.draft_of.new.engine c.draft_of.ensures.past c.put.ensures.safe

pub returns-in-Err-clause-does : goal.returns-in-Err-clause-does
returns-in-Err-clause-does g c = λ begun opened armed kept.
    let new : Recorder g.row.D.Denot = record { engine = c.draft_of.new.engine; journal = c.args.self.now.journal; failed = c.args.self.now.failed } in
    does_without_memory g.D.Disk.bytes g.D.Disk.may_leave g.D.Disk.moment g.D.Disk.left_since g.D.Disk.faults (making_event c.args.event) (store_of c.args.self.now begun opened armed) (store_of new begun opened armed) kept
    (record { past = c.draft_of.ensures.past; failed = refl; counted = refl; begun = refl; opened = refl })

pub returns-in-Err-clause-kept : goal.returns-in-Err-clause-kept
returns-in-Err-clause-kept g c = λ begun opened armed kept.
    kept_room g.D.Disk.bytes g.D.Disk.may_leave g.D.Disk.moment g.D.Disk.left_since g.D.Disk.faults (store_of c.args.self.now begun opened armed) c.draft_of.new.engine c.draft_of.ensures.past kept

pub returns-in-Err-clause-safe : goal.returns-in-Err-clause-safe
returns-in-Err-clause-safe g c = λ begun opened armed.
    let new : Recorder g.row.D.Denot = record { engine = c.draft_of.new.engine; journal = c.args.self.now.journal; failed = c.args.self.now.failed } in
    safe_same g.D.Disk.bytes g.D.Disk.may_leave g.D.Disk.moment g.D.Disk.left_since g.D.Disk.faults g.met.D.Disk.only_now
    (store_of c.args.self.now begun opened armed) (store_of new begun opened armed) c.requires.history c.draft_of.ensures.past refl refl
