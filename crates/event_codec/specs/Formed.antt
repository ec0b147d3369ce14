-- Events that can be encoded: all their parts are in the range of their fields.
use Rattle.std.specs.Prelude.{ℕ, ◌<◌, ◌≤◌, ◌^◌, ◌-◌, ℤ, pos, ◌+ℤ◌, ◌-ℤ◌, ◌≤ℤ◌, List, length, Option, IfSome, IsTrue, if◌then◌else◌}
use Rattle.std.specs.List.{AllByRecursion}
use Rattle.ts_bucket.specs.WholeSpans.{least, greatest}
use Rattle.ts_bucket.specs.Bucket.{max_step, max_time, min_time}
use Rattle.ts_bucket.specs.declared.spans.Span.{Span}
use Rattle.ts_bucket.specs.declared.widths.Width.{Width}
use Rattle.ts_num.specs.declared.values.Fun.{Fun}
use Rattle.ts_schema.specs.Names.{is_name}
use Rattle.ts_schema.specs.declared.columns.Column.{Column}
use Rattle.ts_schema.specs.declared.conditions.Cmp.{Cmp}
use Rattle.ts_schema.specs.declared.conditions.Test.{Test}
use Rattle.ts_schema.specs.declared.rows.Row.{Row}
use Rattle.ts_model.specs.Sound.{is_count_all, is_null_test}
use Rattle.ts_model.specs.declared.events.Event.{Event}
use Rattle.ts_model.specs.declared.events.Event.TheVariants.{Table, Hyper, View, Mode, Commit, Cut, Built}
use Rattle.ts_model.specs.declared.events.Op.{Op}
use Rattle.ts_model.specs.declared.events.Op.TheVariants.{Insert, Delete}
use Rattle.ts_model.specs.declared.tables.Hyper.{Hyper as HyperInfo}
use Rattle.ts_model.specs.declared.tables.TableDef.{TableDef}
use Rattle.ts_model.specs.declared.views.Agg.{Agg}
use Rattle.ts_model.specs.declared.views.Fold.{Fold}
use Rattle.ts_model.specs.declared.views.ViewDef.{ViewDef}

-- ---- numbers and lists

-- from lo to hi
abbrev pub Within : ℤ → ℤ → ℤ → Type 0
Within lo hi z = (lo ≤ℤ z) × (z ≤ℤ hi)

abbrev pub IsWord : ℤ → Type 0
IsWord z = Within least greatest z

-- fewer than 2 ^ 8 items, or fewer than 2 ^ 32
abbrev pub Few : {A : Type 0} → (A → Type 0) → List A → Type 0
Few P items = (length items < 2 ^ 8) × AllByRecursion P items

abbrev pub Many : {A : Type 0} → (A → Type 0) → List A → Type 0
Many P items = (length items < 2 ^ 32) × AllByRecursion P items

-- a number of four bytes
abbrev pub IsFour : ℕ → Type 0
IsFour n = n < 2 ^ 32

abbrev pub IsEight : ℕ → Type 0
IsEight n = n < 2 ^ 64

-- ---- parts

-- a name in lower case
abbrev pub IsName : List ℕ → Type 0
IsName text = IsTrue (is_name text)

-- NULL, or a number of 64 bits
abbrev pub IsValue : Option ℤ → Type 0
IsValue v = IfSome v IsWord

-- a row at a time
pub record IsRow (r : Row) : Type 0 where
  pub time : Within min_time max_time r.at
  pub values : Few IsValue r.vals

-- the number of a test is 0 if it is a test on NULL
abbrev pub least_number : Cmp → ℤ
least_number cmp = if is_null_test cmp then pos 0 else least

abbrev pub most_number : Cmp → ℤ
most_number cmp = if is_null_test cmp then pos 0 else greatest

pub record IsTest (t : Test) : Type 0 where
  pub column : IsFour t.col
  pub number : Within (least_number t.cmp) (most_number t.cmp) t.num

-- the column of an aggregate is 0 if it is `count(*)`
abbrev pub most_column : Fun → ℕ
most_column fun = if is_count_all fun then 0 else 2 ^ 32 - 1

abbrev pub IsAgg : Agg → Type 0
IsAgg a = a.col ≤ most_column a.fun

abbrev pub IsColumn : Column → Type 0
IsColumn c = IsName c.name

-- a step from 1 to 2 ^ 40, and a shift below it
pub record IsStep (w : Width) : Type 0 where
  pub step : Within (pos 1) max_step w.step
  pub shift : Within (pos 0) (w.step -ℤ pos 1) w.shift

-- a span that isn't empty
pub record IsSpan (s : Span) : Type 0 where
  pub lo : Within least (greatest -ℤ pos 1) s.lo
  pub hi : Within (s.lo +ℤ pos 1) greatest s.hi

pub record IsFold (f : Fold) : Type 0 where
  pub width : IsStep f.width
  pub keys : Few IsFour f.keys
  pub aggs : Few IsAgg f.aggs
  pub tests : Many IsTest f.tests

abbrev pub IsOp : Op → Type 0
IsOp (Insert t rows) = IsFour t × Many IsRow rows
IsOp (Delete t tests) = IsFour t × Many IsTest tests

pub record IsTable (def : TableDef) : Type 0 where
  pub name : IsName def.name
  pub columns : Few IsColumn def.cols

pub record IsHyper (h : HyperInfo) : Type 0 where
  pub place : IsFour h.at
  pub interval : IsWord h.interval

pub record IsView (def : ViewDef) : Type 0 where
  pub name : IsName def.name
  pub table : IsFour def.table
  pub fold : IsFold def.fold
  pub names : Few IsName def.names

-- ---- events

-- all parts of an event are in the range of their fields
abbrev pub IsFormed : Event → Type 0
IsFormed (Table def) = IsTable def
IsFormed (Hyper t h) = IsFour t × IsHyper h
IsFormed (View def) = IsView def
IsFormed (Mode v only) = IsFour v
IsFormed (Commit ops) = Many IsOp ops
IsFormed (Cut v s) = IsFour v × IsSpan s
IsFormed (Built cut snap) = IsEight cut × IsEight snap
