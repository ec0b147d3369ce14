-- If the journal was opened, its input is read and run.
use Rattle.std.proofs.Common.{IfSome, refl, sym, subst}
use Rattle.std.specs.Prelude.{IsSomeAnd, IsSome}
use Rattle.ts_disk.specs.Disk.{Keeps}
use Rattle.ts_io.specs.Faults.{Counted}
use Rattle.ts_schema.specs.Faults.{Rose}
use Rattle.ts_store.specs.Images.{HasHeader, IsDurable}
use Rattle.ts_store.specs.Stands.{Stands}
use Rattle.ts_store.specs.Stores.{history_seen}
use Rattle.ts_top.specs.Outcomes.{IfWentOn, Outside, LeftAfter}
use Rattle.ts_top.specs.Parallel.{CountedAfterWorkers, ParTo}
use Rattle.ts_top.proofs.OutcomeLaws.{if_known}
use Rattle.ts_top.proofs.OpeningLaws.{not_opened_header, not_opened_reads}
use Rattle.ts_top.proofs.ParallelLaws.{not_opened_disk, not_opened_par, not_opened_sink, par_or_not}
use Rattle.ts_top.proofs.parallel.par.Goals as goal

pub returns-in-Ok-clause-outcome : goal.returns-in-Ok-clause-outcome
returns-in-Ok-clause-outcome g c =
    let D = g.D.Disk in
    let K = g.K.Sink in
    let S = g.S.Source in
    let store = c.in-Ok.store in
    let end = c.run_all.result in
    let o : Outside = record { input = S.left c.args.source.now; rest = S.left c.run_all.new.source; written_before = K.written c.args.sink.now; written = K.written c.run_all.new.sink; file_before = D.bytes c.args.disk; file = D.bytes end.disk; reads = end.reads } in
    let stood : IfSome (D.bytes c.args.disk) (λ file. Stands file (history_seen store)) = if_known (D.bytes c.args.disk) (λ file. Stands file (history_seen store)) c.in-Ok.ensures.stands in
    let failed : Type 0 = Rose (K.faults c.args.sink.now) (K.faults c.run_all.new.sink) in
    par_or_not c.args.replies (IsSome (D.bytes c.args.disk)) (LeftAfter D.bytes D.may_leave D.moment D.left_since c.args.disk end.disk) failed o end.status _ _ _
    (subst (λ b. ParTo c.args.replies end.status (IsSome (D.bytes b)) (LeftAfter D.bytes D.may_leave D.moment D.left_since b end.disk) failed ⊥ ⊥ ⊥ o) c.in-Ok.ensures.begun (c.run_all.ensures.outcome (D.bytes c.args.disk) stood))

pub returns-in-Ok-clause-header : goal.returns-in-Ok-clause-header
returns-in-Ok-clause-header g c =
    let D = g.D.Disk in
    subst (λ b. IfWentOn c.run_all.result.status (IsSome (D.bytes b) → IsSomeAnd (D.bytes c.run_all.result.disk) HasHeader)) c.in-Ok.ensures.begun c.run_all.ensures.header

pub returns-in-Ok-clause-disk : goal.returns-in-Ok-clause-disk
returns-in-Ok-clause-disk g c = subst (λ n. CountedAfterWorkers c.run_all.result.status n (g.D.Disk.faults c.run_all.result.disk)) c.in-Ok.ensures.counted c.run_all.ensures.disk

pub returns-in-Err-clause-outcome : goal.returns-in-Err-clause-outcome
returns-in-Err-clause-outcome g c =
    let D = g.D.Disk in
    let K = g.K.Sink in
    let S = g.S.Source in
    let end = c.in-Err.ended in
    let o : Outside = record { input = S.left c.args.source.now; rest = S.left c.args.source.now; written_before = K.written c.args.sink.now; written = K.written c.args.sink.now; file_before = D.bytes c.args.disk; file = D.bytes end.disk; reads = end.reads } in
    not_opened_par c.args.replies (IsSome (D.bytes c.args.disk)) (LeftAfter D.bytes D.may_leave D.moment D.left_since c.args.disk end.disk) (Rose (K.faults c.args.sink.now) (K.faults c.args.sink.now)) o _ _ (Keeps D.bytes D.may_leave D.moment D.left_since c.args.disk end.disk) (refl, refl, c.in-Err.ensures.unread) end.status c.in-Err.ensures.ended

pub returns-in-Err-clause-header : goal.returns-in-Err-clause-header
returns-in-Err-clause-header g c = not_opened_header _ _ _ _ c.in-Err.ended.status _ _ c.in-Err.ensures.ended

pub returns-in-Err-clause-reads : goal.returns-in-Err-clause-reads
returns-in-Err-clause-reads g c = subst (λ fault. Counted (g.S.Source.faults c.args.source.now) (g.S.Source.faults c.args.source.now) fault) (sym (not_opened_reads _ _ _ _ c.in-Err.ended.status _ c.in-Err.ensures.ended)) refl

pub returns-in-Err-clause-writes : goal.returns-in-Err-clause-writes
returns-in-Err-clause-writes g c = not_opened_sink c.args.replies _ _ _ _ c.in-Err.ended.status _ _ c.in-Err.ensures.ended

pub returns-in-Err-clause-disk : goal.returns-in-Err-clause-disk
returns-in-Err-clause-disk g c = not_opened_disk c.in-Err.ended.status _ _ c.in-Err.ensures.disk

pub returns-in-Ok-clause-lasting : goal.returns-in-Ok-clause-lasting
returns-in-Ok-clause-lasting g c =
    let D = g.D.Disk in
    subst (λ b. IfWentOn c.run_all.result.status (IsDurable D.bytes D.may_leave b → IsDurable D.bytes D.may_leave c.run_all.result.disk)) c.in-Ok.ensures.begun c.run_all.ensures.lasting

pub returns-in-Err-clause-lasting : goal.returns-in-Err-clause-lasting
returns-in-Err-clause-lasting g c = not_opened_header _ _ _ _ c.in-Err.ended.status _ _ c.in-Err.ensures.ended
