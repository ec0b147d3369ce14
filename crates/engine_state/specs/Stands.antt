-- When a state represents a history.
use Rattle.std.specs.Prelude.{◌≡◌, ℕ, true, List, Option, Some, None}
use Rattle.ts_model.specs.declared.rosters.Roster.{Roster}
use Rattle.ts_model.specs.declared.tables.TableInfo.{TableInfo}
use Rattle.ts_model.specs.declared.views.ViewDef.{ViewDef}
use Rattle.ts_model.specs.History.{History, position}
use Rattle.ts_model.specs.Roster.{roster}
use Rattle.ts_model.specs.Allowed.{all_consistent}
use Rattle.refresh_list.specs.declared.refreshes.Refresh.{Refresh}
use Rattle.refresh_list.specs.Refreshes.{RefreshesStand}
use Rattle.engine_state.specs.Lists.{Each}
use Rattle.engine_state.specs.Tables.{TableValue, TableIs, table_at}
use Rattle.engine_state.specs.Views.{ViewValue, ViewStands}

-- what contracts see of a state
pub record StateValue : Type 0 where
  pub position : ℕ
  pub roster : Roster
  pub tables : List (Option TableValue)
  pub views : List ViewValue
  pub refreshes : List Refresh

-- the state of an aggregate is right, and its table exists
abbrev pub ViewIs : History → ℕ → ViewDef → Option TableValue → ViewValue → Type 0
ViewIs h n def None view = ⊥
ViewIs h n def (Some table) view = ViewStands h n def table.log view

-- table number t of a roster has this state, and so has aggregate number n
abbrev pub TableAt : History → ℕ → TableInfo → Option TableValue → Type 0
TableAt h t info table = TableIs h t info.hyper table

abbrev pub ViewAt : History → List (Option TableValue) → ℕ → ViewDef → ViewValue → Type 0
ViewAt h tables n def view = ViewIs h n def (table_at tables def.table) view

-- a state represents a history, which is consistent. (A field's name hides the definition of that name in later
-- fields, so two fields come last.)
pub record StandsFor (h : History) (s : StateValue) : Type 0 where
  pub consistent : all_consistent h ≡ true
  -- each table of the roster has the state of that number, and so has each aggregate
  pub tables : Each (TableAt h) (roster h).tables s.tables
  pub views : Each (ViewAt h s.tables) (roster h).views s.views
  pub refreshes : RefreshesStand h s.refreshes
  pub position : s.position ≡ position h
  pub roster : s.roster ≡ roster h

-- a state represents some history
pub record Stands (s : StateValue) : Type 0 where
  pub history : History
  pub stands : StandsFor history s
