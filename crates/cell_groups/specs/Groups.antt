-- Groups of rows of cells, and their stored form.
use Rattle.std.specs.Prelude.{◌≡◌, ℕ, ℤ, Option, List, ◌∷◌, ◌++◌, map, length, IfSome, unwrap_or}
use Rattle.std.specs.List.{AllByRecursion}
use Rattle.ts_num.specs.Aggregates.{shown_or_null}
use Rattle.ts_num.specs.declared.values.Datum.{Datum}
use Rattle.ts_num.specs.declared.values.Datum.TheVariants.{Int}
use Rattle.ts_model.specs.declared.views.Agg.{Agg}
use Rattle.ts_model.specs.Groups.{shown_each}
use Rattle.partial_agg.specs.declared.groups.Group.{Group}
use Rattle.partial_agg.specs.Summaries.{Summary}
use Rattle.cell_groups.specs.declared.groups.CellGroup.{CellGroup}
use Rattle.cell_groups.specs.declared.shapes.Shape.{Shape}
use Rattle.cell_groups.specs.declared.tallies.Tally.{Tally}
use Rattle.ts_model.specs.Results.{cell_at}
use Rattle.cell_groups.specs.KeptSummaries.{as_parts, needed_parts, row_needs, row_tallies, tallies_shown}

-- the keys of a row
abbrev pub keys_at : List ℕ → List Datum → List (Option ℤ)
keys_at keys cells = map (cell_at cells) keys

-- the needed parts of the group of one row, in the bucket that starts at b
abbrev pub cells_at : Shape → ℤ → List Datum → Group
cells_at shape b cells = record { start = b; keys = keys_at shape.keys cells; parts = row_needs shape.aggs cells }

-- the needed parts of a group
abbrev pub needed_group : List Agg → Group → Group
needed_group aggs g = record { start = g.start; keys = g.keys; parts = needed_parts aggs g.parts }

-- ---- what is kept

-- the tallies of a group's columns
abbrev pub tallies_of : List Agg → CellGroup → List Tally
tallies_of aggs g = unwrap_or g.tallies (row_tallies aggs g.first)

abbrev pub parts_of : List Agg → CellGroup → List Summary
parts_of aggs g = as_parts aggs (tallies_of aggs g)

-- a stored group as a group
abbrev pub as_group : Shape → CellGroup → Group
as_group shape g = record { start = g.start; keys = keys_at shape.keys g.first; parts = parts_of shape.aggs g }

abbrev pub as_groups : Shape → List CellGroup → List Group
as_groups shape groups = map (as_group shape) groups

-- a group has a tally for each column, if it has tallies
abbrev pub HasTallies : List Agg → CellGroup → Type 0
HasTallies aggs g = IfSome g.tallies (λ ts. length ts ≡ length aggs)

abbrev pub HaveTallies : List Agg → List CellGroup → Type 0
HaveTallies aggs groups = AllByRecursion (HasTallies aggs) groups

-- the result row of a group
abbrev pub group_shown : Shape → CellGroup → List Datum
group_shown shape g =
    Int g.start ∷ (map shown_or_null (keys_at shape.keys g.first) ++ tallies_shown shape.aggs (tallies_of shape.aggs g))

-- the result row of a group, in which each aggregate shows its part
abbrev pub row_shown : Shape → Group → List Datum
row_shown shape g = Int g.start ∷ (map shown_or_null g.keys ++ shown_each shape.aggs g.parts)

abbrev pub rows_shown : Shape → List Group → List (List Datum)
rows_shown shape groups = map (row_shown shape) groups
