-- What the lines of a demonstration ask for, and the rosters that they find.
use Rattle.std.specs.Prelude.{ℕ, ◌*◌, ◌%◌, ℤ, pos, ◌-ℤ◌, true, false, List, [], ◌∷◌, map, Some, None, codes}
use Rattle.std.specs.List.{range_with_len}
use Rattle.ts_bucket.specs.declared.widths.Width.{Width}
use Rattle.ts_num.specs.declared.values.Fun.TheVariants as fun
use Rattle.ts_schema.specs.declared.rows.Row.{Row}
use Rattle.ts_model.specs.declared.events.Op.TheVariants as ops
use Rattle.ts_model.specs.declared.queries.Query.TheVariants as queries
use Rattle.ts_model.specs.declared.rosters.Roster.{Roster}
use Rattle.ts_model.specs.declared.tables.Hyper.{Hyper}
use Rattle.ts_model.specs.declared.tables.TableDef.{TableDef}
use Rattle.ts_model.specs.declared.views.ViewDef.{ViewDef}
use Rattle.stmt_check.specs.Queries.{starts_of}
use Rattle.stmt_check.specs.declared.actions.Action.{Action}
use Rattle.stmt_check.specs.declared.actions.Action.TheVariants as actions
use Rattle.demo_script.specs.Demo.{number_of, value_of, time_of}

-- ---- tables and aggregates

-- the table
abbrev pub demo_table : TableDef
demo_table = record {
  name = codes "m";
  cols =
      record { name = codes "time"; must = true }
      ∷ record { name = codes "dev"; must = false } ∷ record { name = codes "val"; must = false } ∷ [];
}

-- its first column is the time, and its chunks are as wide as the times of a round
abbrev pub demo_hyper : Hyper
demo_hyper = record { at = 0; interval = pos 5000 }

-- buckets of ten rows
abbrev pub demo_width : Width
demo_width = record { step = pos 100; shift = pos 0 }

-- the aggregate: in each bucket, for each device, the number of rows and the sum of their values
abbrev pub demo_view : ViewDef
demo_view = record {
  name = codes "m100";
  table = 0;
  fold = record {
    width = demo_width;
    keys = 1 ∷ [];
    aggs = record { fun = fun.CountAll; col = 0 } ∷ record { fun = fun.Sum; col = 2 } ∷ [];
    tests = [];
  };
  names = codes "bucket" ∷ codes "dev" ∷ codes "count" ∷ codes "sum" ∷ [];
  only = false;
}

-- ---- rosters

-- after the first line
abbrev pub roster_of_table : Roster
roster_of_table = record { tables = record { def = demo_table; hyper = None } ∷ []; views = [] }

-- after the second
abbrev pub roster_of_hypertable : Roster
roster_of_hypertable = record { tables = record { def = demo_table; hyper = Some demo_hyper } ∷ []; views = [] }

-- and from the third on
abbrev pub demo_roster : Roster
demo_roster = record { tables = record { def = demo_table; hyper = Some demo_hyper } ∷ []; views = demo_view ∷ [] }

-- ---- rows

-- a row with its time, its device and its value
abbrev pub row_with : ℤ → ℕ → ℕ → Row
row_with time device value = record { at = time; vals = Some (pos device) ∷ Some (pos value) ∷ [] }

-- the row at a place of a round
abbrev pub row_of : ℕ → ℕ → ℕ → Row
row_of demo round place =
    row_with (time_of (number_of round place) place) (number_of round place % 8) (value_of demo (number_of round place))

-- consecutive rows of a round
unfoldable pub rows_of : ℕ → ℕ → ℕ → ℕ → List Row
rows_of demo round first count = map (row_of demo round) (range_with_len first count)

-- ---- actions

-- inserts a part of a round's rows
abbrev pub insert_act : ℕ → ℕ → ℕ → Action
insert_act demo round part = actions.Change (ops.Insert 0 (rows_of demo round (100 * part) 100))

-- refreshes the aggregate over the times of the round before
abbrev pub refresh_act : ℕ → Action
refresh_act round = actions.Refresh 0 (Some (pos (5000 * round) -ℤ pos 5000)) (Some (pos (5000 * round)))

-- queries the aggregate
abbrev pub answer_act : Action
answer_act = actions.Ask (queries.Aggregate 0 (starts_of []))

-- inserts a late row
abbrev pub late_act : ℕ → Action
late_act demo = actions.Change (ops.Insert 0 (row_with (pos 1000) 0 (demo % 1000) ∷ []))
