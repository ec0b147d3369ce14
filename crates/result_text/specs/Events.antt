-- The texts of a log and of pending refreshes.
use Rattle.std.specs.Prelude.{ℕ, ℤ, Bool, List, [], ◌∷◌, ◌++◌, length, codes, decimal, Option, Some, None, if◌then◌else◌, slice_get}
use Rattle.std.specs.Fmt.{signed_decimal}
use Rattle.ts_bucket.specs.Bucket.{first_of}
use Rattle.ts_bucket.specs.declared.spans.Span.{Span}
use Rattle.ts_schema.specs.declared.columns.Column.{Column}
use Rattle.ts_model.specs.declared.events.Event.{Event}
use Rattle.ts_model.specs.declared.events.Event.TheVariants.{Table, Hyper, View, Mode, Commit, Cut, Built}
use Rattle.ts_model.specs.declared.rosters.Roster.{Roster}
use Rattle.ts_model.specs.declared.tables.Hyper.{Hyper as HyperInfo}
use Rattle.ts_model.specs.declared.tables.TableDef.{TableDef}
use Rattle.ts_model.specs.declared.tables.TableInfo.{TableInfo}
use Rattle.ts_model.specs.declared.views.ViewDef.{ViewDef}
use Rattle.ts_model.specs.Roster.{table_of, view_of}
use Rattle.result_text.specs.Spans.{span_end, span_text}

-- a column, with ! if it is NOT NULL
abbrev pub column_text : Column → List ℕ
column_text c = codes " " ++ c.name ++ (if c.must then codes "!" else codes "")

abbrev pub columns_text : List Column → List ℕ
columns_text [] = []
columns_text (c ∷ cs) = column_text c ++ columns_text cs

-- the name of a column, if it exists
abbrev pub column_name : Option Column → List ℕ
column_name None = []
column_name (Some c) = c.name

-- the name of the column at a place
abbrev pub place_text : List Column → ℕ → List ℕ
place_text columns place = codes " " ++ column_name (slice_get columns place)

-- a table and its columns
abbrev pub table_text : TableDef → List ℕ
table_text def = codes "TABLE " ++ def.name ++ columns_text def.cols

-- a table becomes a hypertable by a column and an interval
abbrev pub hyper_text : HyperInfo → Option TableInfo → List ℕ
hyper_text hyper None = []
hyper_text hyper (Some info) =
    (codes "HYPER " ++ info.def.name) ++ place_text info.def.cols hyper.at
    ++ (codes " " ++ signed_decimal hyper.interval)

-- an aggregate over a table
abbrev pub view_text : ViewDef → Option TableInfo → List ℕ
view_text def None = []
view_text def (Some info) =
    (codes "VIEW " ++ def.name) ++ (codes " " ++ info.def.name) ++ (codes " " ++ signed_decimal def.fold.width.step) ++
    (codes " " ++ signed_decimal def.fold.width.shift)

-- a mode: 1 is materialized only
abbrev pub mode_word : Bool → List ℕ
mode_word only = if only then codes " 1" else codes " 0"

abbrev pub mode_text : Bool → Option ViewDef → List ℕ
mode_text only None = []
mode_text only (Some def) = (codes "MODE " ++ def.name) ++ mode_word only

abbrev pub cut_text : Span → Option ViewDef → List ℕ
cut_text span None = []
cut_text span (Some def) = (codes "CUT " ++ def.name) ++ (codes " " ++ span_text (first_of def.fold.width) span)

-- a refresh was finished, by its cut and its snapshot
abbrev pub built_text : ℕ → ℕ → List ℕ
built_text cut snap = codes "BUILT " ++ decimal cut ++ codes " snap " ++ decimal snap

-- an event in words, with the names of a roster
abbrev pub event_text : Roster → Event → List ℕ
event_text roster (Table def) = table_text def
event_text roster (Hyper t hyper) = hyper_text hyper (table_of roster t)
event_text roster (View def) = view_text def (table_of roster def.table)
event_text roster (Mode v only) = mode_text only (view_of roster v)
event_text roster (Commit ops) = codes "COMMIT ops " ++ decimal (length ops)
event_text roster (Cut v span) = cut_text span (view_of roster v)
event_text roster (Built cut snap) = built_text cut snap

-- a line of the log
abbrev pub log_text : ℕ → Roster → Event → List ℕ
log_text number roster event = codes "@" ++ decimal number ++ codes " " ++ event_text roster event ++ codes "\n"

-- the position of a history
abbrev pub history_text : ℕ → List ℕ
history_text pos = codes "HISTORY @" ++ decimal pos ++ codes "\n"

-- a pending refresh: its number and the name of its aggregate
abbrev pub pending_head : ℕ → List ℕ → List ℕ
pending_head cut name = codes "PENDING " ++ decimal cut ++ codes " " ++ name

-- a pending refresh of an aggregate, as a line
abbrev pub pending_text : ℕ → List ℕ → Span → ℤ → List ℕ
pending_text cut name span min = pending_head cut name ++ span_end min span
