-- The text is read to its end, and audited against the journal.
use Rattle.std.proofs.Common.{◌≡◌, IfSome, refl, sym, subst}
use Rattle.ts_io.specs.Faults.{Counted}
use Rattle.script_run.specs.Runs.{ReadWhole}
use Rattle.ts_top.specs.Outcomes.{Outside}
use Rattle.ts_top.proofs.AuditLaws.{audit_to, beside_reads_nothing}
use Rattle.ts_top.proofs.ParallelLaws.{read_whole, too_long}
use Rattle.ts_top.proofs.audits.audit_transcript.Goals as goal

pub returns-in-End-clause-outcome : goal.returns-in-End-clause-outcome
returns-in-End-clause-outcome g c =
    let D = g.D.Disk in
    let K = g.K.Sink in
    let S = g.S.Source in
    let input = S.left c.args.source.now in
    let rest = S.left c.read_all.new.source in
    let ended = c.audit_beside.result in
    let o : Outside = record { input = input; rest = rest; written_before = K.written c.args.sink.now; written = K.written c.audit_beside.new.sink; file_before = D.bytes c.args.disk; file = D.bytes ended.disk; reads = ended.reads } in
    audit_to ended.status (c.audit_beside.new.sink ≡ c.args.sink.now) (ended.disk ≡ c.args.disk) c.deref.result.now o
    (subst (λ out. IfSome input (λ i. ReadWhole i rest × (i ≡ out))) (sym c.deref.ensures.value) (read_whole input rest c.read_all.new.out.items c.in-End.ensures.read.0 c.in-End.ensures.read.1 c.read_all.ensures.within))
    (c.audit_beside.ensures.outcome input rest)

pub returns-in-End-clause-reads : goal.returns-in-End-clause-reads
returns-in-End-clause-reads g c =
    let S = g.S.Source in
    let input = S.left c.args.source.now in
    let rest = S.left c.read_all.new.source in
    subst (λ fault. Counted (S.faults c.args.source.now) (S.faults c.read_all.new.source) fault)
    (sym (beside_reads_nothing c.audit_beside.result.status _ _ _ (c.audit_beside.ensures.outcome input rest))) c.in-End.ensures.counted

pub returns-in-InputLong-clause-outcome : goal.returns-in-InputLong-clause-outcome
returns-in-InputLong-clause-outcome g c =
    let S = g.S.Source in
    (refl, refl, too_long (S.left c.args.source.now) (S.left c.read_all.new.source) c.read_all.new.out.items c.in-InputLong.ensures.read)
