use Rattle.std.proofs.Common.{◌≡◌, ◌⊎◌, ℕ, ◌≤◌, true, List, None, subst}
use Rattle.std.specs.Prelude.{IsSome, IsSomeAnd}
use Rattle.ts_disk.specs.CrashImage.{LeavesOnly}
use Rattle.ts_model.specs.History.{History, Begins}
use Rattle.ts_model.proofs.HistoryLaws.{begins_prefix}
use Rattle.engine_core.specs.Histories.{history_of}
use Rattle.ts_store.specs.Checkpoints.{BeginsSaved, IfUntouched, StandsForImage, StandsSaved}
use Rattle.ts_store.specs.Images.{BeginSince, HasHeader, IsBetween, IsDurable}
use Rattle.ts_store.specs.Recorders.{store_of}
use Rattle.ts_store.specs.Stores.{Rests, StoreValue, opening_history, history_seen}
use Rattle.ts_store.proofs.CheckpointLaws.{begins_run, images_run, untouched_shows, written_from}
use Rattle.ts_store.proofs.KeptLaws.{shows_header}
use Rattle.ts_store.proofs.stores.Store.checkpoint.Goals as goal

pub returns-clause-earlier : goal.returns-clause-earlier
returns-clause-earlier g c =
    subst (λ (s : StoreValue g.row.D.Denot). (t : ℕ) (h : History) → Rests g.D.Disk.bytes g.D.Disk.may_leave s → Begins h (history_seen s) → t ≤ g.D.Disk.moment s.journal.disk
    → BeginSince g.D.Disk.left_since s.journal.disk t h → (image : List ℕ) → g.D.Disk.left_since c.checkpoint.result.disk t image → BeginsSaved h image)
    c.self.view_is
    (λ t h rest begins le begin.
    begins_run g.D.Disk.bytes g.D.Disk.may_leave g.D.Disk.moment g.D.Disk.left_since c.checkpoint.result.end h (history_of c.self.inside.recorder.engine.past) t c.self.inside.recorder.journal.disk c.checkpoint.result.disk
    (c.checkpoint.ensures.any_moment rest) c.checkpoint.ensures.untouched begins le begin)

pub returns-clause-images : goal.returns-clause-images
returns-clause-images g c =
    let inside : StoreValue g.row.D.Denot = store_of c.self.inside.recorder c.self.inside.begun c.self.inside.opened c.self.inside.armed in
    let h = history_of c.self.inside.recorder.engine.past in
    subst (λ (s : StoreValue g.row.D.Denot). IsDurable g.D.Disk.bytes g.D.Disk.may_leave s.begun → (image : List ℕ) → g.D.Disk.left_since c.checkpoint.result.disk (g.D.Disk.moment s.begun) image
    → IsBetween (opening_history s) (history_seen s) s.failed image ⊎ StandsForImage (history_seen s) image)
    c.self.view_is
    (λ durable.
    images_run g.D.Disk.bytes g.D.Disk.may_leave g.D.Disk.moment g.D.Disk.left_since c.checkpoint.result.end (opening_history inside) (history_seen inside) c.self.inside.recorder.failed (g.D.Disk.moment c.self.inside.begun)
    c.self.inside.recorder.journal.disk c.checkpoint.result.disk
    (written_from (LeavesOnly g.D.Disk.moment g.D.Disk.left_since c.self.inside.recorder.journal.disk c.checkpoint.result.disk (StandsSaved h)) c.checkpoint.result.end c.self.inside.recorder.engine.past c.self.inside.recorder.failed c.args.most
    c.checkpoint.ensures.ends (λ going. c.checkpoint.ensures.any_moment (c.self.invariant.rests durable going)))
    c.checkpoint.ensures.untouched (begins_prefix (history_seen inside) c.self.inside.opened) (c.self.invariant.later durable) (c.self.invariant.images durable))

pub returns-clause-header : goal.returns-clause-header
returns-clause-header g c going some =
    let D = g.D.Disk in
    let inside : StoreValue g.row.D.Denot = store_of c.self.inside.recorder c.self.inside.begun c.self.inside.opened c.self.inside.armed in
    subst (λ (s : StoreValue g.row.D.Denot). s.armed ≡ true → s.failed ≡ None → IsSome (D.bytes s.begun) → IfUntouched c.checkpoint.result.end (IsSomeAnd (D.bytes c.checkpoint.result.disk) HasHeader))
    c.self.view_is
    (λ armed goes_on known. untouched_shows D.bytes c.checkpoint.result.end inside.journal.disk c.checkpoint.result.disk HasHeader c.checkpoint.ensures.untouched
    (shows_header D.bytes D.may_leave D.moment D.left_since D.faults inside c.self.invariant armed goes_on known))
    c.requires.armed going some
