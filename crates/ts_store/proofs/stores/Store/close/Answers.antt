use Rattle.std.proofs.Common.{◌≡◌, ℕ, true, List, None, sym, ◌∙◌, ap, subst}
use Rattle.std.specs.Prelude.{IsSome, IsSomeAnd}
use Rattle.ts_store.specs.Images.{HasHeader, IsBetween, IsDurable, StandsForEither, latest}
use Rattle.ts_store.specs.Stores.{StoreValue, opening_history, history_seen}
use Rattle.ts_store.specs.Recorders.{store_of}
use Rattle.ts_store.proofs.KeptLaws.{durable_still, shows_header}
use Rattle.ts_store.proofs.stores.Store.close.Goals as goal

pub returns-clause-disk : goal.returns-clause-disk
returns-clause-disk g c = c.into_disk.ensures ∙ ap (λ (s : StoreValue g.row.D.Denot). s.journal.disk) c.self.view_is

pub returns-clause-shown : goal.returns-clause-shown
returns-clause-shown g c =
    subst (λ (disk : g.row.D.Denot). IsSome (g.D.Disk.bytes c.args.self.begun) → IsSomeAnd (g.D.Disk.bytes disk) (StandsForEither (history_seen c.args.self) (latest (history_seen c.args.self) c.args.self.failed))) (sym (returns-clause-disk g c))
    (subst (λ (s : StoreValue g.row.D.Denot). IsSome (g.D.Disk.bytes s.begun) → IsSomeAnd (g.D.Disk.bytes s.journal.disk) (StandsForEither (history_seen s) (latest (history_seen s) s.failed))) c.self.view_is c.self.invariant.shown)

pub returns-clause-images : goal.returns-clause-images
returns-clause-images g c =
    subst (λ (disk : g.row.D.Denot). IsDurable g.D.Disk.bytes g.D.Disk.may_leave c.args.self.begun → (image : List ℕ) → g.D.Disk.left_since disk (g.D.Disk.moment c.args.self.begun) image → IsBetween (opening_history c.args.self) (history_seen c.args.self) c.args.self.failed image) (sym (returns-clause-disk g c))
    (subst (λ (s : StoreValue g.row.D.Denot). IsDurable g.D.Disk.bytes g.D.Disk.may_leave s.begun → (image : List ℕ) → g.D.Disk.left_since s.journal.disk (g.D.Disk.moment s.begun) image → IsBetween (opening_history s) (history_seen s) s.failed image) c.self.view_is c.self.invariant.images)

pub returns-clause-header : goal.returns-clause-header
returns-clause-header g c =
    subst (λ (disk : g.row.D.Denot). c.args.self.armed ≡ true → c.args.self.failed ≡ None → IsSome (g.D.Disk.bytes c.args.self.begun) → IsSomeAnd (g.D.Disk.bytes disk) HasHeader) (sym (returns-clause-disk g c))
    (subst (λ (s : StoreValue g.row.D.Denot). s.armed ≡ true → s.failed ≡ None → IsSome (g.D.Disk.bytes s.begun) → IsSomeAnd (g.D.Disk.bytes s.journal.disk) HasHeader) c.self.view_is
    (shows_header g.D.Disk.bytes g.D.Disk.may_leave g.D.Disk.moment g.D.Disk.left_since g.D.Disk.faults (store_of c.self.inside.recorder c.self.inside.begun c.self.inside.opened c.self.inside.armed) c.self.invariant))

pub returns-clause-rests : goal.returns-clause-rests
returns-clause-rests g c =
    subst (λ (disk : g.row.D.Denot). c.args.self.failed ≡ None → IsDurable g.D.Disk.bytes g.D.Disk.may_leave c.args.self.begun → IsDurable g.D.Disk.bytes g.D.Disk.may_leave disk) (sym (returns-clause-disk g c))
    (subst (λ (s : StoreValue g.row.D.Denot). s.failed ≡ None → IsDurable g.D.Disk.bytes g.D.Disk.may_leave s.begun → IsDurable g.D.Disk.bytes g.D.Disk.may_leave s.journal.disk) c.self.view_is
    (durable_still g.D.Disk.bytes g.D.Disk.may_leave g.D.Disk.moment g.D.Disk.left_since g.D.Disk.faults (store_of c.self.inside.recorder c.self.inside.begun c.self.inside.opened c.self.inside.armed) c.self.invariant))
