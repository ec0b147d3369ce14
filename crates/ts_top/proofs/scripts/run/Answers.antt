-- If the journal was opened, its script is run.
use Rattle.std.proofs.Common.{IfSome, refl, sym, subst}
use Rattle.std.specs.Prelude.{IsSomeAnd, IsSome}
use Rattle.ts_disk.specs.Disk.{Keeps}
use Rattle.ts_io.specs.Faults.{Counted}
use Rattle.ts_store.specs.Images.{HasHeader, IsDurable}
use Rattle.ts_store.specs.Stands.{Stands}
use Rattle.ts_store.specs.Stores.{history_seen}
use Rattle.ts_top.specs.Endings.{is_disk_fault}
use Rattle.ts_top.specs.Outcomes.{IfWentOn, Outside, RanTo, LeftAfter}
use Rattle.ts_top.proofs.OutcomeLaws.{if_known, ran_or_not}
use Rattle.ts_top.proofs.OpeningLaws.{not_opened_header, not_opened_reads, not_opened_run, not_opened_writes}
use Rattle.ts_top.proofs.scripts.run.Goals as goal

pub run_lines-requires-clause-goes_on : goal.run_lines-requires-clause-goes_on
run_lines-requires-clause-goes_on g c = λ _ _. c.in-Ok.ensures.goes_on

pub run_lines-requires-clause-armed : goal.run_lines-requires-clause-armed
run_lines-requires-clause-armed g c = λ _ _. c.in-Ok.ensures.armed

pub run_lines-requires-clause-whole : goal.run_lines-requires-clause-whole
run_lines-requires-clause-whole g c = λ _ _. c.in-Ok.ensures.whole

pub returns-in-Ok-clause-outcome : goal.returns-in-Ok-clause-outcome
returns-in-Ok-clause-outcome g c =
    let D = g.D.Disk in
    let K = g.K.Sink in
    let S = g.S.Source in
    let store = c.in-Ok.store in
    let end = c.run_lines.result in
    let o : Outside = record { input = S.left c.args.source.now; rest = S.left c.run_lines.new.source; written_before = K.written c.args.sink.now; written = K.written c.run_lines.new.sink; file_before = D.bytes c.args.disk; file = D.bytes end.disk; reads = end.reads } in
    let stood : IfSome (D.bytes c.args.disk) (λ file. Stands file (history_seen store)) = if_known (D.bytes c.args.disk) (λ file. Stands file (history_seen store)) c.in-Ok.ensures.stands in
    ran_or_not end.status (IsSome (D.bytes c.args.disk)) (LeftAfter D.bytes D.may_leave D.moment D.left_since c.args.disk end.disk) _ _ _ o
    (subst (λ b. RanTo end.status (IsSome (D.bytes b)) (LeftAfter D.bytes D.may_leave D.moment D.left_since b end.disk) ⊥ ⊥ ⊥ o) c.in-Ok.ensures.begun
    (c.run_lines.ensures.outcome (D.bytes c.args.disk) stood))

pub returns-in-Ok-clause-header : goal.returns-in-Ok-clause-header
returns-in-Ok-clause-header g c =
    let D = g.D.Disk in
    subst (λ b. IfWentOn c.run_lines.result.status (IsSome (D.bytes b) → IsSomeAnd (D.bytes c.run_lines.result.disk) HasHeader)) c.in-Ok.ensures.begun c.run_lines.ensures.header

pub returns-in-Ok-clause-reads : goal.returns-in-Ok-clause-reads
returns-in-Ok-clause-reads g c = c.run_lines.ensures.reads

pub returns-in-Ok-clause-writes : goal.returns-in-Ok-clause-writes
returns-in-Ok-clause-writes g c = c.run_lines.ensures.writes

pub returns-in-Ok-clause-disk : goal.returns-in-Ok-clause-disk
returns-in-Ok-clause-disk g c = subst (λ n. Counted n (g.D.Disk.faults c.run_lines.result.disk) (is_disk_fault c.run_lines.result.status)) c.in-Ok.ensures.counted c.run_lines.ensures.disk

pub returns-in-Err-clause-outcome : goal.returns-in-Err-clause-outcome
returns-in-Err-clause-outcome g c =
    let D = g.D.Disk in
    let K = g.K.Sink in
    let S = g.S.Source in
    let end = c.in-Err.ended in
    let o : Outside = record { input = S.left c.args.source.now; rest = S.left c.args.source.now; written_before = K.written c.args.sink.now; written = K.written c.args.sink.now; file_before = D.bytes c.args.disk; file = D.bytes end.disk; reads = end.reads } in
    not_opened_run (IsSome (D.bytes c.args.disk)) (LeftAfter D.bytes D.may_leave D.moment D.left_since c.args.disk end.disk) o _ _ (Keeps D.bytes D.may_leave D.moment D.left_since c.args.disk end.disk) (refl, refl, c.in-Err.ensures.unread) end.status c.in-Err.ensures.ended

pub returns-in-Err-clause-header : goal.returns-in-Err-clause-header
returns-in-Err-clause-header g c = not_opened_header _ _ _ _ c.in-Err.ended.status _ _ c.in-Err.ensures.ended

pub returns-in-Err-clause-reads : goal.returns-in-Err-clause-reads
returns-in-Err-clause-reads g c = subst (λ fault. Counted (g.S.Source.faults c.args.source.now) (g.S.Source.faults c.args.source.now) fault) (sym (not_opened_reads _ _ _ _ c.in-Err.ended.status _ c.in-Err.ensures.ended)) refl

pub returns-in-Err-clause-writes : goal.returns-in-Err-clause-writes
returns-in-Err-clause-writes g c = subst (λ fault. Counted (g.K.Sink.faults c.args.sink.now) (g.K.Sink.faults c.args.sink.now) fault) (sym (not_opened_writes _ _ _ _ c.in-Err.ended.status _ c.in-Err.ensures.ended)) refl

pub returns-in-Err-clause-disk : goal.returns-in-Err-clause-disk
returns-in-Err-clause-disk g c = c.in-Err.ensures.disk

pub returns-in-Ok-clause-lasting : goal.returns-in-Ok-clause-lasting
returns-in-Ok-clause-lasting g c =
    let D = g.D.Disk in
    subst (λ b. IfWentOn c.run_lines.result.status (IsDurable D.bytes D.may_leave b → IsDurable D.bytes D.may_leave c.run_lines.result.disk)) c.in-Ok.ensures.begun c.run_lines.ensures.lasting

pub returns-in-Err-clause-lasting : goal.returns-in-Err-clause-lasting
returns-in-Err-clause-lasting g c = not_opened_header _ _ _ _ c.in-Err.ended.status _ _ c.in-Err.ensures.ended
