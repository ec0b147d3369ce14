-- What a name refers to.
use Rattle.std.specs.Prelude.{◌≡◌, ℕ, ◌+◌, ◌<◌, ◌^◌, true, false, if◌then◌else◌, List, [], ◌∷◌, length, slice_get, Some, is_some}
use Rattle.ts_model.specs.declared.rosters.Roster.{Roster}
use Rattle.ts_model.specs.declared.tables.TableInfo.{TableInfo}
use Rattle.ts_model.specs.declared.views.ViewDef.{ViewDef}
use Rattle.ts_catalog.specs.declared.relations.Found.{Found}
use Rattle.ts_catalog.specs.declared.relations.Found.TheVariants as found
use Rattle.ts_model.specs.Roster.{same_name}

-- a table is plain until it becomes a hypertable
abbrev pub table_kind : TableInfo → ℕ → Found
table_kind t number = if is_some t.hyper then found.Hyper number else found.Plain number

-- the first table with this name, with tables numbered from k
abbrev pub table_from : List ℕ → ℕ → List TableInfo → Found
table_from name k [] = found.None
table_from name k (t ∷ ts) = if same_name t.def.name name then table_kind t k else table_from name (k + 1) ts

-- the first aggregate with this name, with aggregates numbered from k
abbrev pub view_from : List ℕ → ℕ → List ViewDef → Found
view_from name k [] = found.None
view_from name k (v ∷ vs) = if same_name v.name name then found.View k else view_from name (k + 1) vs

-- a, or b if a is nothing
abbrev pub or_else : Found → Found → Found
or_else found.None b = b
or_else (found.Plain n) b = found.Plain n
or_else (found.Hyper n) b = found.Hyper n
or_else (found.View n) b = found.View n

-- what a name refers to: a table, or otherwise an aggregate
abbrev pub found_in : Roster → List ℕ → Found
found_in roster name = or_else (table_from name 0 roster.tables) (view_from name 0 roster.views)

-- 32 bits suffice to number all relations
pub record CanBeNumbered (roster : Roster) : Type 0 where
  pub tables : length roster.tables < 2 ^ 32
  pub views : length roster.views < 2 ^ 32

-- the list has an item at this place, and the item has a property
pub record HasItem {X : Type 0} (items : List X) (place : ℕ) (P : X → Type 0) : Type 0 where
  pub item : X
  pub at : slice_get items place ≡ Some item
  pub is : P item

-- what is found is in the roster at its number, with the name and of the kind
abbrev pub IsThere : Roster → List ℕ → Found → Type 0
IsThere roster name found.None = Unit {0}
IsThere roster name (found.Plain n) = HasItem roster.tables n (λ t. (t.def.name ≡ name) × (is_some t.hyper ≡ false))
IsThere roster name (found.Hyper n) = HasItem roster.tables n (λ t. (t.def.name ≡ name) × (is_some t.hyper ≡ true))
IsThere roster name (found.View n) = HasItem roster.views n (λ v. v.name ≡ name)
