-- Result rows of groups in order, each written when its group ends.
use Rattle.std.specs.Prelude.{◌≡◌, ⊤, ℤ, List, [], ◌∷◌, ◌++◌, Option, Some, None}
use Rattle.cell_rows.specs.Parts.{AreParts, parts}
use Rattle.std.specs.declared.cmp.Ordering.{Ordering}
use Rattle.std.specs.declared.cmp.Ordering.TheVariants.{Less}
use Rattle.ts_num.specs.declared.values.Datum.{Datum}
use Rattle.ts_model.specs.declared.views.Agg.{Agg}
use Rattle.partial_agg.specs.declared.groups.Group.{Group}
use Rattle.partial_agg.specs.Groups.{AreInOrder}
use Rattle.group_fold.specs.Merging.{joined_parts}
use Rattle.cell_groups.specs.declared.groups.CellGroup.{CellGroup}
use Rattle.cell_groups.specs.declared.shapes.Shape.{Shape}
use Rattle.cell_groups.specs.declared.written.WrittenGroups.{WrittenGroups}
use Rattle.cell_groups.specs.Groups.{as_group, parts_of, rows_shown}
use Rattle.cell_groups.specs.KeptSummaries.{as_parts, row_tallies}
use Rattle.cell_groups.specs.TakenRows.{row_cmp}

-- the result rows written so far, whose cells are in one list
abbrev pub rows_written : WrittenGroups → List (List Datum)
rows_written w = parts 0 w.ends.items w.cells.items

-- the cells end where the last of these rows does
abbrev pub AreRows : WrittenGroups → Type 0
AreRows w = AreParts 0 w.ends.items w.cells.items

-- groups are those that have ended, and then the last one, if there is one
abbrev pub EndWith : Shape → List Group → Option CellGroup → List Group → Type 0
EndWith shape ended None groups = (ended ≡ []) × (groups ≡ [])
EndWith shape ended (Some g) groups = groups ≡ ended ++ as_group shape g ∷ []

-- groups in order, all of which except the last have been written
pub record AreWritten (shape : Shape) (groups : List Group) (rows : List (List Datum)) (last : Option CellGroup) : Type 0 where
  pub ended : List Group
  pub all : EndWith shape ended last groups
  pub shown : rows ≡ rows_shown shape ended
  pub order : AreInOrder groups

-- the last group, if there is one, compared with that of a row: no group counts as before it
abbrev pub last_cmp : Shape → Option CellGroup → ℤ → List Datum → Ordering
last_cmp shape None b cells = Less
last_cmp shape (Some g) b cells = row_cmp shape g b cells

-- a row was added to a group
pub record HasTaken (aggs : List Agg) (cells : List Datum) (old new : CellGroup) : Type 0 where
  pub start : new.start ≡ old.start
  pub first : new.first ≡ old.first
  pub parts : parts_of aggs new ≡ joined_parts (parts_of aggs old) (as_parts aggs (row_tallies aggs cells))

-- a row was added to the last group, if there is one
abbrev pub TakesRow : List Agg → List Datum → Option CellGroup → Option CellGroup → Type 0
TakesRow aggs cells None new = ⊤
TakesRow aggs cells (Some old) None = ⊥
TakesRow aggs cells (Some old) (Some new) = HasTaken aggs cells old new
