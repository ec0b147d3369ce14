-- Writes that are synced before anything else is written.
use Rattle.std.specs.Prelude.{◌≡◌, ℕ, List, Option, Some}
use Rattle.ts_disk.specs.CrashImage.{Only}
use Rattle.txn_journal.specs.Contents.{Content}
use Rattle.txn_journal.specs.Frames.{HoldsTo}
use Rattle.txn_journal.specs.declared.versions.Version.{Version}

-- a disk has these bytes, and all of them are on it
pub record IsWritten {D : Type 0} (bytes : D → Option (List ℕ)) (may_leave : D → List ℕ → Type 0) (disk : D)
    (file : List ℕ) : Type 0 where
  pub told : bytes disk ≡ Some file
  pub durable : Only file (may_leave disk)

-- reads of a disk return payloads with this content, up to the commit byte at this place
pub record Tells {D : Type 0} (bytes : D → Option (List ℕ)) (disk : D) (version : Version) (end : ℕ)
    (content : Content) : Type 0 where
  pub file : List ℕ
  pub told : bytes disk ≡ Some file
  pub lies : HoldsTo file version end content

-- and all of it is on the disk
pub record Rests {D : Type 0} (bytes : D → Option (List ℕ)) (may_leave : D → List ℕ → Type 0) (disk : D)
    (version : Version) (end : ℕ) (content : Content) : Type 0 where
  pub tells : Tells bytes disk version end content
  pub durable : Only tells.file (may_leave disk)
