-- Taking the job of a snapshot that a session holds.
use Rattle.std.specs.Prelude.{◌≡◌, ℕ, List, Option, Some, None}
use Rattle.std.specs.Map.{set_value}
use Rattle.std.specs.Ordering.{nat_cmp}
use Rattle.std.specs.BTreeMap.{is_at, insert_entry}
use Rattle.ts_sessions.specs.declared.block_ends.HeldJob.{HeldJob}
use Rattle.ts_sessions.specs.declared.block_ends.HeldJob.TheVariants.{Nothing, Lost, Job}
use Rattle.ts_sessions.specs.declared.sessions.Snapshot.{Snapshot}
use Rattle.ts_sessions.specs.Places.{held_for}

-- what was held of a snapshot at a position
abbrev pub took_of : {J : Type 0} → ℕ → Option J → HeldJob J
took_of at None = Lost at
took_of at (Some job) = Job at job

-- the snapshot for a refresh has no job any more
abbrev pub without_job : {J : Type 0} → ℕ → ℕ → List (ℕ × Snapshot J) → List (ℕ × Snapshot J)
without_job c at entries = set_value (is_at (nat_cmp c)) entries (record { at = at; job = None })

-- the snapshot for a refresh has this job, and replaces one that was held
abbrev pub with_job : {J : Type 0} → ℕ → ℕ → J → List (ℕ × Snapshot J) → List (ℕ × Snapshot J)
with_job c at job entries = insert_entry nat_cmp entries c (record { at = at; job = Some job })

-- the job of the snapshot that is held for a refresh was taken, if there is one
abbrev pub TakesJob : {J : Type 0} → ℕ → List (ℕ × Snapshot J) → HeldJob J → List (ℕ × Snapshot J) → Type 0
TakesJob c old Nothing new = (held_for c old ≡ None) × (new ≡ old)
TakesJob c old (Lost at) new = (held_for c old ≡ Some (record { at = at; job = None })) × (new ≡ without_job c at old)
TakesJob c old (Job at job) new =
    (held_for c old ≡ Some (record { at = at; job = Some job })) × (new ≡ without_job c at old)
