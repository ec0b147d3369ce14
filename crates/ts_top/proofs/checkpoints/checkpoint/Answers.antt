-- If the journal was opened, the image of its history is saved.
use Rattle.std.proofs.Common.{◌≡◌, ℕ, List, Some, refl, sym, ap, ◌∙◌, subst}
use Rattle.std.specs.Prelude.{IsSomeAnd, IsSome}
use Rattle.ts_disk.specs.Disk.{Keeps}
use Rattle.ts_io.specs.Faults.{Counted}
use Rattle.ts_store.specs.Images.{HasHeader, IsDurable}
use Rattle.ts_store.specs.Stands.{Stands}
use Rattle.ts_store.specs.Stores.{history_seen}
use Rattle.ts_top.specs.Checkpoints.{CheckpointTo}
use Rattle.ts_top.specs.Endings.{is_disk_fault}
use Rattle.ts_top.specs.Outcomes.{IfWentOn, Outside, LeftAfter}
use Rattle.ts_top.proofs.CheckpointLaws.{changed_or_kept, not_opened_checkpoint}
use Rattle.ts_top.proofs.OpeningLaws.{not_opened_header, not_opened_reads, not_opened_writes}
use Rattle.ts_top.proofs.checkpoints.checkpoint.Goals as goal

pub save-requires-clause-goes_on : goal.save-requires-clause-goes_on
save-requires-clause-goes_on g c = c.in-Ok.ensures.goes_on

pub save-requires-clause-armed : goal.save-requires-clause-armed
save-requires-clause-armed g c = c.in-Ok.ensures.armed

pub save-requires-clause-whole : goal.save-requires-clause-whole
save-requires-clause-whole g c = c.in-Ok.ensures.whole

pub save-requires-clause-stands : goal.save-requires-clause-stands
save-requires-clause-stands g c = λ file told. c.in-Ok.ensures.stands file (ap g.D.Disk.bytes (sym c.in-Ok.ensures.begun) ∙ told)

pub save-requires-clause-tells : goal.save-requires-clause-tells
save-requires-clause-tells g c = λ some. c.in-Ok.ensures.tells (subst (λ b. IsSome (g.D.Disk.bytes b)) c.in-Ok.ensures.begun some)

pub save-requires-clause-rests : goal.save-requires-clause-rests
save-requires-clause-rests g c = λ d. c.in-Ok.ensures.rests (subst (λ b. IsDurable g.D.Disk.bytes g.D.Disk.may_leave b) c.in-Ok.ensures.begun d)

pub save-requires-clause-images : goal.save-requires-clause-images
save-requires-clause-images g c =
    let D = g.D.Disk in
    let store = c.in-Ok.store in
    subst (λ b. (x : List ℕ) → LeftAfter D.bytes D.may_leave D.moment D.left_since b store.journal.disk x → Stands x (history_seen store)) (sym c.in-Ok.ensures.begun) c.in-Ok.ensures.images

pub returns-in-Ok-clause-outcome : goal.returns-in-Ok-clause-outcome
returns-in-Ok-clause-outcome g c input rest =
    let D = g.D.Disk in
    let K = g.K.Sink in
    let end = c.save.result in
    let still : Type 0 = c.save.new.sink ≡ c.args.sink.now in
    let o : Outside = record { input = input; rest = rest; written_before = K.written c.args.sink.now; written = K.written c.save.new.sink; file_before = D.bytes c.args.disk; file = D.bytes end.disk; reads = end.reads } in
    changed_or_kept (IsSome (D.bytes c.args.disk)) (LeftAfter D.bytes D.may_leave D.moment D.left_since c.args.disk end.disk) still o end.status (Keeps D.bytes D.may_leave D.moment D.left_since c.args.disk end.disk)
    (subst (λ b. CheckpointTo end.status (IsSome (D.bytes b)) (LeftAfter D.bytes D.may_leave D.moment D.left_since b end.disk) still ⊥
    (record { input = input; rest = rest; written_before = K.written c.args.sink.now; written = K.written c.save.new.sink; file_before = D.bytes b; file = D.bytes end.disk; reads = end.reads }))
    c.in-Ok.ensures.begun (c.save.ensures.outcome input rest))

pub returns-in-Ok-clause-unread : goal.returns-in-Ok-clause-unread
returns-in-Ok-clause-unread g c = c.save.ensures.unread

pub returns-in-Ok-clause-uncounted : goal.returns-in-Ok-clause-uncounted
returns-in-Ok-clause-uncounted g c = c.save.ensures.uncounted

pub returns-in-Ok-clause-header : goal.returns-in-Ok-clause-header
returns-in-Ok-clause-header g c =
    let D = g.D.Disk in
    subst (λ b. IfWentOn c.save.result.status (IsSome (D.bytes b) → IsSomeAnd (D.bytes c.save.result.disk) HasHeader)) c.in-Ok.ensures.begun c.save.ensures.header

pub returns-in-Ok-clause-lasting : goal.returns-in-Ok-clause-lasting
returns-in-Ok-clause-lasting g c =
    let D = g.D.Disk in
    subst (λ b. IfWentOn c.save.result.status (IsDurable D.bytes D.may_leave b → IsDurable D.bytes D.may_leave c.save.result.disk)) c.in-Ok.ensures.begun c.save.ensures.lasting

pub returns-in-Ok-clause-writes : goal.returns-in-Ok-clause-writes
returns-in-Ok-clause-writes g c = c.save.ensures.writes

pub returns-in-Ok-clause-disk : goal.returns-in-Ok-clause-disk
returns-in-Ok-clause-disk g c = subst (λ n. Counted n (g.D.Disk.faults c.save.result.disk) (is_disk_fault c.save.result.status)) c.in-Ok.ensures.counted c.save.ensures.disk

pub returns-in-Err-clause-outcome : goal.returns-in-Err-clause-outcome
returns-in-Err-clause-outcome g c input rest =
    let D = g.D.Disk in
    let K = g.K.Sink in
    let end = c.in-Err.ended in
    let o : Outside = record { input = input; rest = rest; written_before = K.written c.args.sink.now; written = K.written c.args.sink.now; file_before = D.bytes c.args.disk; file = D.bytes end.disk; reads = end.reads } in
    not_opened_checkpoint (IsSome (D.bytes c.args.disk)) (LeftAfter D.bytes D.may_leave D.moment D.left_since c.args.disk end.disk) (c.args.sink.now ≡ c.args.sink.now) o end.status (Keeps D.bytes D.may_leave D.moment D.left_since c.args.disk end.disk) refl c.in-Err.ensures.ended

pub returns-in-Err-clause-unread : goal.returns-in-Err-clause-unread
returns-in-Err-clause-unread g c = not_opened_reads _ _ _ _ c.in-Err.ended.status _ c.in-Err.ensures.ended

pub returns-in-Err-clause-uncounted : goal.returns-in-Err-clause-uncounted
returns-in-Err-clause-uncounted g c = c.in-Err.ensures.unread

pub returns-in-Err-clause-header : goal.returns-in-Err-clause-header
returns-in-Err-clause-header g c = not_opened_header _ _ _ _ c.in-Err.ended.status _ _ c.in-Err.ensures.ended

pub returns-in-Err-clause-lasting : goal.returns-in-Err-clause-lasting
returns-in-Err-clause-lasting g c = not_opened_header _ _ _ _ c.in-Err.ended.status _ _ c.in-Err.ensures.ended

pub returns-in-Err-clause-writes : goal.returns-in-Err-clause-writes
returns-in-Err-clause-writes g c = subst (λ fault. Counted (g.K.Sink.faults c.args.sink.now) (g.K.Sink.faults c.args.sink.now) fault) (sym (not_opened_writes _ _ _ _ c.in-Err.ended.status _ c.in-Err.ensures.ended)) refl
