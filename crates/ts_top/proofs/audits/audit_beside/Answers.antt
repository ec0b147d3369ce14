-- The audit is over the history that the journal represented.
use Rattle.std.proofs.Common.{◌≡◌, refl, sym, subst}
use Rattle.ts_io.specs.Faults.{Counted}
use Rattle.ts_model.specs.History.{History}
use Rattle.engine_core.specs.Histories.{history_of}
use Rattle.ts_store.specs.Stands.{Stands}
use Rattle.ts_top.specs.Audits.{Audits}
use Rattle.ts_top.specs.Outcomes.{Outside}
use Rattle.ts_top.proofs.AuditLaws.{audited, audits_beside, disk_no_fault}
use Rattle.ts_top.proofs.OutcomeLaws.{if_known}
use Rattle.ts_top.proofs.audits.audit_beside.Goals as goal

pub returns-in-Ready-clause-outcome : goal.returns-in-Ready-clause-outcome
returns-in-Ready-clause-outcome g c = λ input rest.
    let D = g.D.Disk in
    let K = g.K.Sink in
    let h : History = history_of c.in-Ready.ledger.past in
    let read = c.audit_read-status in
    let told = read.ensures.told in
    let o : Outside = record { input = input; rest = rest; written_before = K.written c.args.sink.now; written = K.written read.new.sink; file_before = D.bytes c.args.disk; file = D.bytes c.in-Ready.disk; reads = 0 } in
    audits_beside read.result (read.new.sink ≡ c.args.sink.now) c.args.text.now o h
    (if_known (D.bytes c.args.disk) (λ file. Stands file h) c.in-Ready.ensures.reads)
    (audited h (read.new.sink ≡ c.args.sink.now) (K.written c.args.sink.now) (K.written read.new.sink) c.args.text.now told.audit read.result told.answers told.prints)

pub returns-in-Ready-clause-disk : goal.returns-in-Ready-clause-disk
returns-in-Ready-clause-disk g c =
    let D = g.D.Disk in
    let K = g.K.Sink in
    let h : History = history_of c.in-Ready.ledger.past in
    let read = c.audit_read-status in
    let told = read.ensures.told in
    let none = disk_no_fault h read.result (read.new.sink ≡ c.args.sink.now) c.args.text.now (K.written c.args.sink.now) (K.written read.new.sink)
    (audited h (read.new.sink ≡ c.args.sink.now) (K.written c.args.sink.now) (K.written read.new.sink) c.args.text.now told.audit read.result told.answers told.prints) in
    subst (λ fault. Counted (D.faults c.args.disk) (D.faults c.in-Ready.disk) fault) (sym none) c.in-Ready.ensures.counted
