-- A disk in memory some of whose calls fail.
use Rattle.std.specs.Prelude.{◌≡◌, ℕ, Bool, true, false, ◌&&◌, ◌==◌, nat_lt, if◌then◌else◌, List, Option, Result, IsErr, is_ok}
use Rattle.ts_schema.specs.Counts.{one_more}
use Rattle.ts_disk.specs.MemDisk.{Recorded, WasImage, known_bytes, leaves, moment}
use Rattle.ts_disk.specs.declared.fail_disks.DiskCall.{DiskCall}
use Rattle.ts_disk.specs.declared.fail_disks.DiskCall.TheVariants.{Len, Read, Write, Sync}
use Rattle.ts_disk.specs.declared.fail_disks.Plan.{Plan}
use Rattle.ts_disk.specs.declared.fail_disks.Plan.TheVariants.{Once, After}

-- its inner disk, the calls that fail, the number of counted calls made, and the number of calls that failed
pub record Failing : Type 0 where
  pub disk : Recorded
  pub plan : Plan
  pub made : ℕ
  pub faults : ℕ

-- the bytes, the images and the moment are those of the inner disk
abbrev pub known_of : Failing → Option (List ℕ)
known_of disk = known_bytes disk.disk

abbrev pub leaves_of : Failing → List ℕ → Type 0
leaves_of disk = leaves disk.disk

abbrev pub moment_of : Failing → ℕ
moment_of disk = moment disk.disk

abbrev pub was_image_of : Failing → ℕ → List ℕ → Type 0
was_image_of disk = WasImage disk.disk

abbrev pub same_kind : DiskCall → DiskCall → Bool
same_kind Len Len = true
same_kind Read Read = true
same_kind Write Write = true
same_kind Sync Sync = true
same_kind Len Read = false
same_kind Len Write = false
same_kind Len Sync = false
same_kind Read Len = false
same_kind Read Write = false
same_kind Read Sync = false
same_kind Write Len = false
same_kind Write Read = false
same_kind Write Sync = false
same_kind Sync Len = false
same_kind Sync Read = false
same_kind Sync Write = false

-- the calls that a plan counts: those of its kind, or all
abbrev pub is_counted : Plan → DiskCall → Bool
is_counted (Once kind nth) call = same_kind kind call
is_counted (After calls) call = true

-- the count after a call
abbrev pub made_after : Plan → DiskCall → ℕ → ℕ
made_after plan call made = if is_counted plan call then one_more made else made

-- whether the call with this number fails: only the nth of its kind, or all except the first ones
abbrev pub is_failing : Plan → DiskCall → ℕ → Bool
is_failing (Once kind nth) call made = same_kind kind call && made == nth
is_failing (After calls) call made = nat_lt calls made

abbrev pub fails_at : Failing → DiskCall → Bool
fails_at disk call = is_failing disk.plan call (made_after disk.plan call disk.made)

-- a call that fails doesn't change the inner disk, and each other is that disk's own call
pub record Runs {T E : Type 0} (call : DiskCall) (own : Recorded → Result T E → Recorded → Type 0) (old : Failing)
    (result : Result T E) (new : Failing) : Type 0 where
  pub fails : fails_at old call ≡ true → IsErr result × (new.disk ≡ old.disk)
  pub passes : fails_at old call ≡ false → own old.disk result new.disk
  pub plan : new.plan ≡ old.plan
  pub made : new.made ≡ made_after old.plan call old.made
  pub faults : new.faults ≡ (if is_ok result then old.faults else one_more old.faults)
