-- The end of the checkpoint determines what the call has done.
use Rattle.std.proofs.Common.{◌≡◌, ℕ, List, refl}
use Rattle.ts_store.specs.Stands.{Stands}
use Rattle.ts_store.specs.Stores.{opening_history, history_seen}
use Rattle.ts_top.specs.Outcomes.{Outside}
use Rattle.ts_top.proofs.CheckpointLaws.{counted_disk, ended_to, headed, history_or_image, lasts, no_read_fault, went_on}
use Rattle.ts_top.proofs.OutcomeLaws.{if_known}
use Rattle.ts_top.proofs.checkpoints.save.Goals as goal

pub returns-clause-outcome : goal.returns-clause-outcome
returns-clause-outcome g c input rest =
    let D = g.D.Disk in
    let K = g.K.Sink in
    let store = c.args.store in
    let new = c.checkpoint-disk.result.disk in
    let o : Outside = record { input = input; rest = rest; written_before = K.written c.args.sink.now; written = K.written c.tell_end.new.sink; file_before = D.bytes store.begun; file = D.bytes new; reads = 0 } in
    ended_to D.bytes D.may_leave D.moment D.left_since store.begun new store.journal (history_seen store) c.requires.stands c.requires.tells c.requires.rests store.engine.past refl store.failed c.requires.goes_on o
    (if_known (D.bytes store.begun) (λ file. Stands file (history_seen store)) c.requires.stands) refl (c.tell_end.new.sink ≡ c.args.sink.now)
    c.checkpoint-disk.result.end c.tell_end.result c.checkpoint-disk.ensures.ends (λ some. (c.checkpoint-disk.ensures.shown (c.requires.tells some), c.checkpoint-disk.ensures.done (c.requires.tells some))) c.checkpoint-disk.ensures.untouched c.requires.images
    (λ x image. history_or_image (opening_history store) (history_seen store) store.failed x c.requires.whole c.requires.goes_on (c.checkpoint-disk.ensures.images image.0 x image.1))
    c.tell_end.ensures.tells

pub returns-clause-unread : goal.returns-clause-unread
returns-clause-unread g c = no_read_fault c.checkpoint-disk.result.end c.tell_end.result _ _ _ c.tell_end.ensures.tells

pub returns-clause-header : goal.returns-clause-header
returns-clause-header g c =
    let D = g.D.Disk in
    let store = c.args.store in
    went_on c.checkpoint-disk.result.end c.tell_end.result _ _ _ _ c.tell_end.ensures.tells
    (headed D.bytes D.may_leave D.moment D.left_since store.begun c.checkpoint-disk.result.disk store.journal (history_seen store) c.checkpoint-disk.result.end
    (λ some. (c.checkpoint-disk.ensures.shown (c.requires.tells some), c.checkpoint-disk.ensures.done (c.requires.tells some))) (λ some. c.checkpoint-disk.ensures.header c.requires.goes_on some))

pub returns-clause-lasting : goal.returns-clause-lasting
returns-clause-lasting g c =
    let D = g.D.Disk in
    let store = c.args.store in
    went_on c.checkpoint-disk.result.end c.tell_end.result _ _ _ _ c.tell_end.ensures.tells
    (lasts D.bytes D.may_leave D.moment D.left_since store.begun c.checkpoint-disk.result.disk store.journal (history_seen store) c.requires.stands c.requires.tells c.requires.rests c.checkpoint-disk.result.end
    (λ some. (c.checkpoint-disk.ensures.shown (c.requires.tells some), c.checkpoint-disk.ensures.done (c.requires.tells some))) c.checkpoint-disk.ensures.untouched)

pub returns-clause-disk : goal.returns-clause-disk
returns-clause-disk g c = counted_disk c.checkpoint-disk.result.end c.tell_end.result _ _ _ _ _ _ _ _ c.requires.goes_on c.checkpoint-disk.ensures.ends c.tell_end.ensures.tells c.checkpoint-disk.ensures.counted
