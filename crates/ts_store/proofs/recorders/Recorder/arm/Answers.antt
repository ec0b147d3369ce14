use Rattle.std.proofs.Common.{Some, refl, sym, ◌∙◌, ap, subst, arith}
use Rattle.std.specs.Prelude.{is_some}
use Rattle.ts_model.specs.declared.events.Event.TheVariants.{Built}
use Rattle.txn_journal.specs.Calls.{Logged}
use Rattle.txn_journal.specs.declared.journals.Append.TheVariants.{Done}
use Rattle.ts_store.specs.Recorders.{IsKeptIn}
use Rattle.ts_store.specs.Stores.{is_still}
use Rattle.ts_store.specs.declared.recorders.Recorder.{Recorder}
use Rattle.ts_store.proofs.KeptLaws.{none_of_going, rose_above, rose_from, rose_none, some_of_still}
use Rattle.ts_store.proofs.RecordLaws.{arms_safely, kept_armed}
use Rattle.ts_store.proofs.recorders.Recorder.arm.Goals as goal

pub returns-in-Done-clause-arms : goal.returns-in-Done-clause-arms
returns-in-Done-clause-arms g c =
    let new : Recorder g.row.D.Denot = record { engine = c.args.self.now.engine; journal = c.arm.new.self; failed = c.args.self.now.failed } in
    arms_safely g.D.Disk.bytes g.D.Disk.may_leave g.D.Disk.moment g.D.Disk.left_since g.D.Disk.faults c.args.self.now new c.requires.sound refl c.arm.ensures.any_moment Done (λ tells. c.in-Done.ensures.tells _ tells) (λ rest. c.in-Done.ensures.done _ rest) c.arm.ensures.shown

pub returns-in-DiskFault-clause-arms : goal.returns-in-DiskFault-clause-arms
returns-in-DiskFault-clause-arms g c =
    let new : Recorder g.row.D.Denot = record { engine = c.args.self.now.engine; journal = c.arm.new.self; failed = c.args.self.now.failed } in
    let safely = arms_safely g.D.Disk.bytes g.D.Disk.may_leave g.D.Disk.moment g.D.Disk.left_since g.D.Disk.faults c.args.self.now new c.requires.sound refl c.arm.ensures.any_moment c.arm.result (λ tells. c.arm.ensures.tells _ tells) (λ rest. c.arm.ensures.done _ rest) c.arm.ensures.shown in
    record { tells = λ tells. tt; done = λ rest. tt; any_moment = safely.any_moment; shown = safely.shown; earlier = safely.earlier }

pub returns-in-Stopped-clause-arms : goal.returns-in-Stopped-clause-arms
returns-in-Stopped-clause-arms g c =
    let new : Recorder g.row.D.Denot = record { engine = c.args.self.now.engine; journal = c.arm.new.self; failed = c.args.self.now.failed } in
    let safely = arms_safely g.D.Disk.bytes g.D.Disk.may_leave g.D.Disk.moment g.D.Disk.left_since g.D.Disk.faults c.args.self.now new c.requires.sound refl c.arm.ensures.any_moment c.arm.result (λ tells. c.arm.ensures.tells _ tells) (λ rest. c.arm.ensures.done _ rest) c.arm.ensures.shown in
    record { tells = λ tells. tt; done = λ rest. tt; any_moment = safely.any_moment; shown = safely.shown; earlier = safely.earlier }

pub returns-in-Done-clause-ends : goal.returns-in-Done-clause-ends
returns-in-Done-clause-ends g c =
    let none = none_of_going c.args.self.now.failed c.args.self.now.journal.standing c.requires.still (c.in-Done.ensures.ends).0 in
    (none, none)

pub returns-in-DiskFault-clause-ends : goal.returns-in-DiskFault-clause-ends
returns-in-DiskFault-clause-ends g c = (none_of_going c.args.self.now.failed c.args.self.now.journal.standing c.requires.still (c.in-DiskFault.ensures.ends).0, refl)

pub returns-in-Stopped-clause-ends : goal.returns-in-Stopped-clause-ends
returns-in-Stopped-clause-ends g c = (some_of_still c.args.self.now.failed c.args.self.now.journal.standing c.requires.still (c.in-Stopped.ensures.ends).0, refl)

pub returns-in-Done-clause-kept : goal.returns-in-Done-clause-kept
returns-in-Done-clause-kept g c =
    let new : Recorder g.row.D.Denot = record { engine = c.args.self.now.engine; journal = c.arm.new.self; failed = c.args.self.now.failed } in
    let none = none_of_going c.args.self.now.failed c.args.self.now.journal.standing c.requires.still (c.in-Done.ensures.ends).0 in
    kept_armed g.D.Disk.bytes g.D.Disk.may_leave g.D.Disk.moment g.D.Disk.left_since g.D.Disk.faults c.args.self.now new c.requires.sound refl c.arm.ensures.any_moment
    none (λ tells _. c.in-Done.ensures.tells _ tells) (λ rest _. c.in-Done.ensures.done _ rest)
    (λ begun few le. omega (arith, le, c.in-Done.ensures.counted))
    (λ begun le. rose_none c.args.self.now.failed (g.D.Disk.faults begun) (g.D.Disk.faults c.arm.new.self.disk) none)
    (ap is_some none ∙ ap is_still (sym (c.in-Done.ensures.ends).1))
    c.arm.ensures.armed
    c.arm.ensures.shown

pub returns-in-DiskFault-clause-kept : goal.returns-in-DiskFault-clause-kept
returns-in-DiskFault-clause-kept g c =
    let new : Recorder g.row.D.Denot = record { engine = c.args.self.now.engine; journal = c.arm.new.self; failed = Some (Built 0 0) } in
    let none = none_of_going c.args.self.now.failed c.args.self.now.journal.standing c.requires.still (c.in-DiskFault.ensures.ends).0 in
    kept_armed g.D.Disk.bytes g.D.Disk.may_leave g.D.Disk.moment g.D.Disk.left_since g.D.Disk.faults c.args.self.now new c.requires.sound refl c.arm.ensures.any_moment
    none (λ tells is. absurd (cc is)) (λ rest is. absurd (cc is))
    (λ begun few le. rose_above (g.D.Disk.faults begun) (g.D.Disk.faults c.arm.new.self.disk) few (rose_from (g.D.Disk.faults begun) (g.D.Disk.faults c.args.self.now.journal.disk) (g.D.Disk.faults c.arm.new.self.disk) le c.in-DiskFault.ensures.counted))
    (λ begun le some. rose_from (g.D.Disk.faults begun) (g.D.Disk.faults c.args.self.now.journal.disk) (g.D.Disk.faults c.arm.new.self.disk) le c.in-DiskFault.ensures.counted)
    (ap is_still (sym (c.in-DiskFault.ensures.ends).1))
    c.arm.ensures.armed
    c.arm.ensures.shown

pub returns-in-Stopped-clause-kept : goal.returns-in-Stopped-clause-kept
returns-in-Stopped-clause-kept g c = λ begun opened armed.
    subst (λ (j : Logged g.row.D.Denot). IsKeptIn g.D.Disk.bytes g.D.Disk.may_leave g.D.Disk.moment g.D.Disk.left_since g.D.Disk.faults (record { engine = c.args.self.now.engine; journal = j; failed = c.args.self.now.failed }) begun opened armed)
    (sym c.in-Stopped.ensures.stopped)
