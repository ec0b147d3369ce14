-- The effect of a store's calls on its disk, for a crash at any moment.
use Rattle.std.specs.Prelude.{◌≡◌, ℕ, ◌≤◌, List, Option, None, IsSome}
use Rattle.ts_disk.specs.CrashImage.{LeavesOnly}
use Rattle.ts_model.specs.declared.events.Event.{Event}
use Rattle.ts_model.specs.History.{History, Begins}
use Rattle.txn_journal.specs.declared.journals.Append.{Append}
use Rattle.txn_journal.specs.declared.journals.Append.TheVariants.{Done, DiskFault, Stopped}
use Rattle.ts_store.specs.Images.{BeginSince, StandsForEither, latest}
use Rattle.ts_store.specs.Stores.{StoreValue, Rests, Tells, history_seen}

-- the effect of a call that appends at most one event
pub record IsSafe {D : Type 0} (bytes : D → Option (List ℕ)) (may_leave : D → List ℕ → Type 0) (moment : D → ℕ)
    (left_since : D → ℕ → List ℕ → Type 0) (old new : StoreValue D) : Type 0 where
  -- a crash at any moment leaves a file that contains the history at entry, or that with the one event
  pub any_moment : Rests bytes may_leave old
      → LeavesOnly moment left_since old.journal.disk new.journal.disk
      (StandsForEither (history_seen old) (latest (history_seen new) new.failed))
  -- if each image since an earlier moment contains a history that begins with `h`, each still does
  pub earlier : (t : ℕ) (h : History) → Rests bytes may_leave old → Begins h (history_seen old) → t ≤ moment old.journal.disk
      → BeginSince left_since old.journal.disk t h → BeginSince left_since new.journal.disk t h
  -- if the disk didn't fail, reads return the new history afterwards
  pub tells : Tells bytes old → new.failed ≡ None → Tells bytes new
  -- and a crash leaves exactly that
  pub rests : Rests bytes may_leave old → new.failed ≡ None → Rests bytes may_leave new
  -- if no event was appended and the disk didn't fail, nothing was written
  pub untouched : history_seen new ≡ history_seen old → new.failed ≡ old.failed → new.journal ≡ old.journal

-- the journal stops by a fault, and so does the store
abbrev pub StopsBy : Append → Option Event → Option Event → Type 0
StopsBy Done before now = (before ≡ None) × (now ≡ None)
StopsBy DiskFault before now = (before ≡ None) × IsSome now
StopsBy Stopped before now = IsSome before × (now ≡ before)
