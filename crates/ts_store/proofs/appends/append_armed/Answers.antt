use Rattle.std.proofs.Common.{IsSomeAnd, inl, subst}
use Rattle.ts_disk.specs.CrashImage.{LeavesOnly}
use Rattle.ts_disk.proofs.Told.{some_also}
use Rattle.txn_journal.specs.Calls.{IfDone, IsAtRest}
use Rattle.txn_journal.specs.Contents.{with_payload}
use Rattle.txn_journal.specs.Frames.{StandsFor, WithOrWithout}
use Rattle.txn_journal.specs.declared.versions.Version.{Version}
use Rattle.txn_journal.proofs.Moments.{follows, weaker}
use Rattle.ts_store.proofs.AppendLaws.{counted_on, ends_on, stopped_on}
use Rattle.ts_store.proofs.appends.append_armed.Goals as goal

pub returns-in-Done-clause-done : goal.returns-in-Done-clause-done
returns-in-Done-clause-done g c = λ content tells.
    subst (λ (v : Version). IfDone c.append.result (IsAtRest g.D.Disk.bytes g.D.Disk.may_leave c.append.new.self (with_payload v content c.args.frame.now))) c.arm.ensures.version
    (c.append.ensures.done content (c.in-Done.ensures.tells content tells))

pub returns-in-Done-clause-any_moment : goal.returns-in-Done-clause-any_moment
returns-in-Done-clause-any_moment g c = λ content rest.
    follows g.D.Disk.moment g.D.Disk.left_since c.args.journal.now.disk c.arm.new.self.disk c.append.new.self.disk (λ file. StandsFor file content) (WithOrWithout c.args.journal.now.version content c.args.frame.now) (WithOrWithout c.args.journal.now.version content c.args.frame.now)
    (c.arm.ensures.any_moment content rest)
    (subst (λ (v : Version). LeavesOnly g.D.Disk.moment g.D.Disk.left_since c.arm.new.self.disk c.append.new.self.disk (WithOrWithout v content c.args.frame.now)) c.arm.ensures.version
    (c.append.ensures.any_moment content (c.in-Done.ensures.done content rest)))
    (λ image stands. inl stands)
    (λ image either. either)

pub returns-in-Done-clause-shown : goal.returns-in-Done-clause-shown
returns-in-Done-clause-shown g c = λ content tells.
    subst (λ (v : Version). IsSomeAnd (g.D.Disk.bytes c.append.new.self.disk) (WithOrWithout v content c.args.frame.now)) c.arm.ensures.version
    (c.append.ensures.shown content (c.in-Done.ensures.tells content tells))

pub returns-in-Done-clause-ends : goal.returns-in-Done-clause-ends
returns-in-Done-clause-ends g c = ends_on c.append.result c.args.journal.now.standing c.arm.new.self.standing c.append.new.self.standing c.in-Done.ensures.ends c.append.ensures.ends

pub returns-in-Done-clause-stopped : goal.returns-in-Done-clause-stopped
returns-in-Done-clause-stopped g c = stopped_on c.append.result c.args.journal.now.standing c.arm.new.self.standing c.append.new.self.standing _ _ c.in-Done.ensures.ends c.append.ensures.ends c.append.ensures.stopped

pub returns-in-Done-clause-counted : goal.returns-in-Done-clause-counted
returns-in-Done-clause-counted g c = counted_on c.append.result (g.D.Disk.faults c.args.journal.now.disk) (g.D.Disk.faults c.arm.new.self.disk) (g.D.Disk.faults c.append.new.self.disk) c.in-Done.ensures.counted c.append.ensures.counted

pub returns-in-DiskFault-clause-any_moment : goal.returns-in-DiskFault-clause-any_moment
returns-in-DiskFault-clause-any_moment g c = λ content rest.
    weaker g.D.Disk.moment g.D.Disk.left_since c.args.journal.now.disk c.arm.new.self.disk (λ file. StandsFor file content) (WithOrWithout c.args.journal.now.version content c.args.frame.now) (c.arm.ensures.any_moment content rest) (λ image stands. inl stands)

pub returns-in-DiskFault-clause-shown : goal.returns-in-DiskFault-clause-shown
returns-in-DiskFault-clause-shown g c = λ content tells.
    some_also (g.D.Disk.bytes c.arm.new.self.disk) (λ file. StandsFor file content) (WithOrWithout c.args.journal.now.version content c.args.frame.now) (λ file stands. inl stands) (c.arm.ensures.shown content tells)

pub returns-in-Stopped-clause-any_moment : goal.returns-in-Stopped-clause-any_moment
returns-in-Stopped-clause-any_moment g c = λ content rest.
    weaker g.D.Disk.moment g.D.Disk.left_since c.args.journal.now.disk c.arm.new.self.disk (λ file. StandsFor file content) (WithOrWithout c.args.journal.now.version content c.args.frame.now) (c.arm.ensures.any_moment content rest) (λ image stands. inl stands)

pub returns-in-Stopped-clause-shown : goal.returns-in-Stopped-clause-shown
returns-in-Stopped-clause-shown g c = λ content tells.
    some_also (g.D.Disk.bytes c.arm.new.self.disk) (λ file. StandsFor file content) (WithOrWithout c.args.journal.now.version content c.args.frame.now) (λ file stands. inl stands) (c.arm.ensures.shown content tells)
