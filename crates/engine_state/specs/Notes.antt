-- The entries of the logs of a table and of an aggregate over it.
use Rattle.std.specs.Prelude.{◌≡◌, true, List, map, ℤ, None, ◌≤ℤ◌}
use Rattle.std.specs.List.{AllByRecursion}
use Rattle.ts_bucket.specs.Bucket.{is_bucket, min_time, max_time}
use Rattle.ts_bucket.specs.Touches.{Noted}
use Rattle.ts_bucket.specs.declared.spans.Hull.{Hull}
use Rattle.ts_bucket.specs.declared.widths.Width.{Width}
use Rattle.inval_log.specs.declared.entries.Entry.{Entry}
use Rattle.inval_log.specs.Logs.{LogValue as TableLog}
use Rattle.mat_log.specs.Logs.{LogValue as ViewLog, pending_at, last_at}
use Rattle.ts_model.specs.History.{History, position}
use Rattle.coverage.specs.Notes.{Notes, pending_after}
use Rattle.coverage.specs.Coverage.{RisesFrom, is_upto}

-- an entry of a log, as it was noted
abbrev pub noted_of : Entry → Noted
noted_of entry = record { hull = entry.hull; at = entry.pos }

abbrev pub noted_in : List Entry → List Noted
noted_in entries = map noted_of entries

abbrev pub notes_in : TableLog → ViewLog → Notes
notes_in table view =
    record {
      threshold = table.threshold;
      log = noted_in table.entries;
      pending = pending_at view;
      refreshed = last_at view;
    }

-- the hull goes from a time to a time
pub record IsOfTimes (hull : Hull) : Type 0 where
  pub from : min_time ≤ℤ hull.least
  pub order : hull.least ≤ℤ hull.most
  pub upto : hull.most ≤ℤ max_time

-- noted hulls go from a time to a time; their positions rise, and none is after the history
pub record LogStands (h : History) (log : TableLog) : Type 0 where
  pub times : AllByRecursion (λ noted. IsOfTimes noted.hull) (noted_in log.entries)
  pub rising : RisesFrom None (noted_in log.entries)
  pub past : is_upto (position h) (noted_in log.entries) ≡ true

-- all that was noted was fed to the log of an aggregate
pub record IsFedTo (w : Width) (noted : List Noted) (old new : ViewLog) : Type 0 where
  pub width : new.width ≡ old.width
  pub refreshed : (b : ℤ) → last_at new b ≡ last_at old b
  pub pending : (b : ℤ) → is_bucket w b ≡ true → pending_at new b ≡ pending_after w b (last_at old b) noted (pending_at old b)
