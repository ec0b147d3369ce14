-- The roster of a history: the tables and aggregates that it has created.
use Rattle.std.specs.Prelude.{◌≡◌, ℕ, zero, suc, Bool, false, ◌||◌, List, [], ◌∷◌, ◌++◌, Option, Some, None, is_some, unwrap_or, slice_get, position as place, nat_eq, option_and_then}
use Rattle.std.specs.Cmp.Lexicographic.{pointwise}
use Rattle.ts_model.specs.declared.events.Event.{Event}
use Rattle.ts_model.specs.declared.events.Event.TheVariants.{Table, Hyper, View, Mode}
use Rattle.ts_model.specs.declared.rosters.Roster.{Roster}
use Rattle.ts_model.specs.declared.tables.Hyper.{Hyper as HyperInfo}
use Rattle.ts_model.specs.declared.tables.TableDef.{TableDef}
use Rattle.ts_model.specs.declared.tables.TableInfo.{TableInfo}
use Rattle.ts_model.specs.declared.views.ViewDef.{ViewDef}
use Rattle.ts_model.specs.History.{History, start, resumed, ◌▸◌}

-- no table and no aggregate
abbrev pub no_relations : Roster
no_relations = record { tables = []; views = [] }

-- the list with its item at place i changed, if there is one
abbrev pub change_at : {X : Type 0} → List X → ℕ → (X → X) → List X
change_at [] i f = []
change_at (x ∷ xs) zero f = f x ∷ xs
change_at (x ∷ xs) (suc i) f = x ∷ change_at xs i f

-- a table becomes a hypertable, unless it is one
abbrev pub made_hyper : HyperInfo → TableInfo → TableInfo
made_hyper hyper info = record info { hyper = Some (unwrap_or info.hyper hyper) }

-- an aggregate is set to a mode
abbrev pub set_only : Bool → ViewDef → ViewDef
set_only only def = record def { only = only }

-- the roster after one more event: a new table or aggregate comes last, and nothing is removed
abbrev pub roster_after : Roster → Event → Roster
roster_after r (Table def) = record r { tables = r.tables ++ (record { def = def; hyper = None } ∷ []) }
roster_after r (Hyper t hyper) = record r { tables = change_at r.tables t (made_hyper hyper) }
roster_after r (View def) = record r { views = r.views ++ (def ∷ []) }
roster_after r (Mode v only) = record r { views = change_at r.views v (set_only only) }
roster_after r e = r

-- the roster after these events
abbrev pub roster_over : Roster → List Event → Roster
roster_over r [] = r
roster_over r (e ∷ es) = roster_over (roster_after r e) es

-- the tables and aggregates of a history, each aggregate with its present mode
abbrev pub roster : History → Roster
roster start = no_relations
roster (resumed i) = roster_over no_relations i.roster
roster (h ▸ e) = roster_after (roster h) e

-- table number t
abbrev pub table_of : Roster → ℕ → Option TableInfo
table_of r t = slice_get r.tables t

-- what makes table number t a hypertable, if it is one
abbrev pub hyper_of : Roster → ℕ → Option HyperInfo
hyper_of r t = option_and_then (λ info. info.hyper) (table_of r t)

-- the test is true of a table, if it is a hypertable
abbrev pub of_hyper : (TableDef → HyperInfo → Bool) → TableDef → Option HyperInfo → Bool
of_hyper test def None = false
of_hyper test def (Some hyper) = test def hyper

abbrev pub of_table : (TableDef → HyperInfo → Bool) → Option TableInfo → Bool
of_table test None = false
of_table test (Some info) = of_hyper test info.def info.hyper

-- aggregate number n
abbrev pub view_of : Roster → ℕ → Option ViewDef
view_of r n = slice_get r.views n

-- this aggregate, if it exists, in which only the mode may have changed
abbrev pub IsOf : ViewDef → Option ViewDef → Type 0
IsOf def None = Unit {0}
IsOf def (Some found) = (found.table ≡ def.table) × (found.fold ≡ def.fold)

-- two names are the same text
abbrev pub same_name : List ℕ → List ℕ → Bool
same_name a b = pointwise nat_eq a b

-- the number of the table with a name, and of the aggregate
abbrev pub table_named : Roster → List ℕ → Option ℕ
table_named r name = place (λ info. same_name info.def.name name) r.tables

abbrev pub view_named : Roster → List ℕ → Option ℕ
view_named r name = place (λ def. same_name def.name name) r.views

-- a table or an aggregate has this name
abbrev pub is_taken : Roster → List ℕ → Bool
is_taken r name = is_some (table_named r name) || is_some (view_named r name)
