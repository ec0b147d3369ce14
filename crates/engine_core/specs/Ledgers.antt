-- The data that decides which event may come next after a history, without its rows.
use Rattle.std.specs.Prelude.{◌≡◌, ℕ, true, List, [], ◌∷◌, ◌++◌, map}
use Rattle.ts_model.specs.declared.events.Event.{Event}
use Rattle.ts_model.specs.declared.events.Event.TheVariants.{Table, Hyper, View, Mode, Commit, Cut, Built}
use Rattle.ts_model.specs.declared.rosters.Roster.{Roster}
use Rattle.ts_model.specs.Allowed.{all_allowed}
use Rattle.ts_model.specs.History.{History}
use Rattle.ts_model.specs.Roster.{roster}
use Rattle.refresh_list.specs.declared.refreshes.Refresh.{Refresh}
use Rattle.refresh_list.specs.Refreshes.{RefreshesStand, finished_at, newly_cut}
use Rattle.engine_core.specs.Values.{Past}

-- the value of a ledger in contracts: its image and events
pub record LedgerValue : Type 0 where
  pub past : Past

-- the refreshes after event number k: a cut is one more, and a finish marks the one that it names
abbrev pub refreshes_after : List Refresh → ℕ → Event → List Refresh
refreshes_after rs k (Table def) = rs
refreshes_after rs k (Hyper t hyper) = rs
refreshes_after rs k (View def) = rs
refreshes_after rs k (Mode v only) = rs
refreshes_after rs k (Commit ops) = rs
refreshes_after rs k (Cut v span) = rs ++ (newly_cut k v span ∷ [])
refreshes_after rs k (Built cut snap) = map (finished_at cut k) rs

-- a roster and refreshes are those of a history, which is allowed
pub record IsLedgerOf (h : History) (relations : Roster) (refreshes : List Refresh) : Type 0 where
  pub allowed : all_allowed h ≡ true
  pub relations_are : relations ≡ roster h
  pub stand : RefreshesStand h refreshes
