-- The laws of the calendar and its buckets.
use Rattle.std.specs.Prelude.{◌≡◌, ℕ, ◌+◌, ◌*◌, ◌<◌, ◌≤◌, List, length, map, true, ℤ, pos, ◌+ℤ◌, ◌*ℤ◌, ◌≤ℤ◌}
use Rattle.std.specs.List.{AllByRecursion, list_all}
use Rattle.jiff_core.specs.Calendar.{weekday_number}
use Rattle.jiff_core.specs.Date.{epoch_day, IsYmd}
use Rattle.jiff_core.specs.declared.civil.date.Date.{Date}
use Rattle.ts_bucket.specs.Bucket.{WidthValue, bucket_of}
use Rattle.ts_schema.specs.declared.rows.Row.{Row}
use Rattle.ts_model.specs.Answers.{all_columns}
use Rattle.ts_model.specs.Sound.{row_fits}
use Rattle.ts_model.specs.declared.tables.Hyper.{Hyper}
use Rattle.ts_model.specs.declared.tables.TableDef.{TableDef}
use Rattle.cal_bucket.specs.Calendar.{divides, year_of, place_of, length_of, start_of, IsMonthOf}
use Rattle.cal_bucket.specs.declared.plans.CalUnit.{CalUnit}
use Rattle.cal_bucket.specs.declared.plans.CalUnit.TheVariants.{Day, Week, Month}
use Rattle.cal_bucket.specs.Buckets.{monday, start_at, IsCalendarBucket}
use Rattle.cal_bucket.specs.Places.{name_of}
use Rattle.cal_bucket.specs.declared.plans.CalPlan.{CalPlan}
use Rattle.cal_bucket.specs.Answers.{plan_rows, rows_of_plan}
use Rattle.cal_bucket.specs.Rows.{ShowARow}

-- ---- months

-- January 2000 starts 946,684,800 seconds after 1970
abbrev pub January2000 : Type 0
January2000 = start_of (pos 0) ≡ pos 946684800

-- and each other month, later or earlier, starts where the previous one ends
abbrev pub MonthsFollow : Type 0
MonthsFollow = (k : ℤ) → start_of (k +ℤ pos 1) ≡ start_of k +ℤ pos (86400 * length_of k)

-- in all years that jiff has, a month starts with the day of its first date
abbrev pub MonthsStartWithFirstDates : Type 0
MonthsStartWithFirstDates = (k : ℤ) (first : Date)
    → IsYmd (year_of k) (pos (place_of k + 1)) (pos 1) first → start_of k ≡ pos 86400 *ℤ epoch_day first

-- every number lies in a month
abbrev pub EachHasAMonth : Type 0
EachHasAMonth = (t : ℤ) → (k : ℤ) × IsMonthOf t k

-- and in no other
abbrev pub EachHasOneMonth : Type 0
EachHasOneMonth = (t j k : ℤ) → IsMonthOf t j → IsMonthOf t k → j ≡ k

-- 400 years are 4,800 months and 12,622,780,800 seconds, from any month on
abbrev pub FourHundredYears : Type 0
FourHundredYears = (k : ℤ) → start_of (k +ℤ pos 4800) ≡ start_of k +ℤ pos 12622780800

-- ---- buckets

-- b is the greatest start, at or below t, of a month that n divides
pub record IsGreatestStart (n : ℕ) (t b : ℤ) : Type 0 where
  pub month : ℤ
  pub divided : divides n month ≡ true
  pub start : b ≡ start_of month
  pub not_above : b ≤ℤ t
  pub greatest : (k : ℤ) → divides n k ≡ true → start_of k ≤ℤ t → start_of k ≤ℤ b

-- a bucket of n months has that name
abbrev pub MonthBucketsAreGreatest : Type 0
MonthBucketsAreGreatest = (n : ℕ) (t b : ℤ) → 0 < n → IsCalendarBucket Month n t b → IsGreatestStart n t b

-- buckets this many seconds wide, counted from a Monday
abbrev pub width_of : ℕ → WidthValue
width_of seconds = record { step = pos seconds; shift = monday }

-- buckets of days and of weeks are those
abbrev pub DaysHaveAWidth : Type 0
DaysHaveAWidth = (n : ℕ) (t b : ℤ) → 0 < n → IsCalendarBucket Day n t b → b ≡ bucket_of (width_of (n * 86400)) t

abbrev pub WeeksHaveAWidth : Type 0
WeeksHaveAWidth = (n : ℕ) (t b : ℤ) → 0 < n → IsCalendarBucket Week n t b → b ≡ bucket_of (width_of (n * 604800)) t

-- the day starts that many days after 1970 and is a Monday, as jiff counts
pub record IsMonday (start day : ℤ) : Type 0 where
  pub starts : start ≡ pos 86400 *ℤ day
  pub weekday : weekday_number day ≡ 0

-- buckets of weeks start with a Monday
abbrev pub WeeksStartOnMondays : Type 0
WeeksStartOnMondays = (n : ℕ) (p : ℤ) → (day : ℤ) × IsMonday (start_at Week n p) day

-- a time has one bucket of n units
abbrev pub EachHasOneBucket : Type 0
EachHasOneBucket = (unit : CalUnit) (n : ℕ) (t b c : ℤ) → 0 < n
    → IsCalendarBucket unit n t b → IsCalendarBucket unit n t c → b ≡ c

-- the name of the bucket of a number, as a function
abbrev pub NamesAreOfBuckets : Type 0
NamesAreOfBuckets = (unit : CalUnit) (n : ℕ) (t : ℤ) → 0 < n → IsCalendarBucket unit n t (name_of unit n t)

-- ---- rows

-- a plan shows the same over all columns of a table's rows as over the rows
abbrev pub ColumnsShowRows : Type 0
ColumnsShowRows = (plan : CalPlan) (rows : List Row) → AllByRecursion (λ row. plan.at ≤ length row.vals) rows
    → plan_rows plan (map (all_columns plan.at) rows) ≡ rows_of_plan plan rows

-- rows that fit a hypertable are shown by all their columns
abbrev pub FittingRowsAreShown : Type 0
FittingRowsAreShown = (def : TableDef) (hyper : Hyper) (rows : List Row) → hyper.at < length def.cols
    → list_all (row_fits def hyper) rows ≡ true → AllByRecursion (ShowARow hyper.at) (map (all_columns hyper.at) rows)
