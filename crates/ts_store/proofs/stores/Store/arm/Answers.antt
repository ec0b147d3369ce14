use Rattle.std.proofs.Common.{◌≡◌, ℕ, ◌≤◌, IsSomeAnd, ◌∙◌, ap, subst}
use Rattle.ts_disk.specs.CrashImage.{LeavesOnly}
use Rattle.ts_model.specs.History.{History, Begins}
use Rattle.txn_journal.specs.Calls.{IfDone, IfStopped, IsCounted}
use Rattle.ts_store.specs.Images.{BeginSince}
use Rattle.ts_store.specs.Recorders.{store_of}
use Rattle.ts_store.specs.Safe.{StopsBy}
use Rattle.ts_store.specs.Stands.{Stands}
use Rattle.ts_store.specs.Stores.{StoreValue, Rests, Tells, history_seen}
use Rattle.ts_store.proofs.AppendLaws.{armed_done, armed_stays}
use Rattle.ts_store.proofs.KeptLaws.{kept_armed_now}
use Rattle.ts_store.proofs.RecordLaws.{stopped_same}
use Rattle.ts_store.proofs.stores.Store.arm.Goals as goal

pub arm-answer-requires-clause-sound : goal.arm-answer-requires-clause-sound
arm-answer-requires-clause-sound g c = c.self.invariant.sound

pub arm-answer-requires-clause-still : goal.arm-answer-requires-clause-still
arm-answer-requires-clause-still g c = c.self.invariant.still

pub returns-clause-engine : goal.returns-clause-engine
returns-clause-engine g c = c.arm-answer.ensures.engine ∙ ap (λ (s : StoreValue g.row.D.Denot). s.engine) c.self.view_is

pub returns-clause-begun : goal.returns-clause-begun
returns-clause-begun g c = ap (λ (s : StoreValue g.row.D.Denot). s.begun) c.self.view_is

pub returns-clause-opened : goal.returns-clause-opened
returns-clause-opened g c = ap (λ (s : StoreValue g.row.D.Denot). s.opened) c.self.view_is

pub returns-clause-tells : goal.returns-clause-tells
returns-clause-tells g c =
    let new : StoreValue g.row.D.Denot = store_of c.arm-answer.new.self c.self.inside.begun c.self.inside.opened c.is_armed_after-self-inside.result in
    subst (λ (s : StoreValue g.row.D.Denot). Tells g.D.Disk.bytes s → IfDone c.arm-answer.result (Tells g.D.Disk.bytes new)) c.self.view_is
    c.arm-answer.ensures.arms.tells

pub returns-clause-done : goal.returns-clause-done
returns-clause-done g c =
    let new : StoreValue g.row.D.Denot = store_of c.arm-answer.new.self c.self.inside.begun c.self.inside.opened c.is_armed_after-self-inside.result in
    subst (λ (s : StoreValue g.row.D.Denot). Rests g.D.Disk.bytes g.D.Disk.may_leave s → IfDone c.arm-answer.result (Rests g.D.Disk.bytes g.D.Disk.may_leave new)) c.self.view_is
    c.arm-answer.ensures.arms.done

pub returns-clause-any_moment : goal.returns-clause-any_moment
returns-clause-any_moment g c =
    subst (λ (s : StoreValue g.row.D.Denot). Rests g.D.Disk.bytes g.D.Disk.may_leave s → LeavesOnly g.D.Disk.moment g.D.Disk.left_since s.journal.disk c.arm-answer.new.self.journal.disk (λ file. Stands file (history_seen s))) c.self.view_is
    c.arm-answer.ensures.arms.any_moment

pub returns-clause-shown : goal.returns-clause-shown
returns-clause-shown g c =
    subst (λ (s : StoreValue g.row.D.Denot). Tells g.D.Disk.bytes s → IsSomeAnd (g.D.Disk.bytes c.arm-answer.new.self.journal.disk) (λ file. Stands file (history_seen s))) c.self.view_is
    c.arm-answer.ensures.arms.shown

pub returns-clause-earlier : goal.returns-clause-earlier
returns-clause-earlier g c =
    subst (λ (s : StoreValue g.row.D.Denot). (t : ℕ) (h : History) → Rests g.D.Disk.bytes g.D.Disk.may_leave s → Begins h (history_seen s) → t ≤ g.D.Disk.moment s.journal.disk
    → BeginSince g.D.Disk.left_since s.journal.disk t h → BeginSince g.D.Disk.left_since c.arm-answer.new.self.journal.disk t h) c.self.view_is
    c.arm-answer.ensures.arms.earlier

pub returns-clause-ends : goal.returns-clause-ends
returns-clause-ends g c = subst (λ (s : StoreValue g.row.D.Denot). StopsBy c.arm-answer.result s.failed c.arm-answer.new.self.failed) c.self.view_is c.arm-answer.ensures.ends

pub returns-clause-stopped : goal.returns-clause-stopped
returns-clause-stopped g c =
    let new : StoreValue g.row.D.Denot = store_of c.arm-answer.new.self c.self.inside.begun c.self.inside.opened c.is_armed_after-self-inside.result in
    subst (λ (s : StoreValue g.row.D.Denot). IfStopped c.arm-answer.result (new ≡ s)) c.self.view_is
    (stopped_same c.arm-answer.result c.self.inside.recorder c.arm-answer.new.self c.self.inside.begun c.self.inside.opened c.self.inside.armed c.is_armed_after-self-inside.result c.is_armed_after-self-inside.ensures c.arm-answer.ensures.stopped)

pub returns-clause-armed : goal.returns-clause-armed
returns-clause-armed g c = armed_done c.arm-answer.result c.self.inside.armed c.is_armed_after-self-inside.result c.is_armed_after-self-inside.ensures

pub returns-clause-stays_armed : goal.returns-clause-stays_armed
returns-clause-stays_armed g c = λ was.
    armed_stays c.arm-answer.result c.self.inside.armed c.is_armed_after-self-inside.result c.is_armed_after-self-inside.ensures (ap (λ (s : StoreValue g.row.D.Denot). s.armed) c.self.view_is ∙ was)

pub returns-clause-counted : goal.returns-clause-counted
returns-clause-counted g c = subst (λ (s : StoreValue g.row.D.Denot). IsCounted c.arm-answer.result (g.D.Disk.faults s.journal.disk) (g.D.Disk.faults c.arm-answer.new.self.journal.disk)) c.self.view_is c.arm-answer.ensures.counted

pub invariant_of-self : goal.invariant_of-self
invariant_of-self g c =
    let before : StoreValue g.row.D.Denot = store_of c.arm-answer.new.self c.self.inside.begun c.self.inside.opened c.self.inside.armed in
    kept_armed_now g.D.Disk.bytes g.D.Disk.may_leave g.D.Disk.moment g.D.Disk.left_since g.D.Disk.faults before c.is_armed_after-self-inside.result (λ _. c.arm-answer.ensures.armed)
    (c.arm-answer.ensures.kept c.self.inside.begun c.self.inside.opened c.self.inside.armed c.self.invariant)
