-- Adding rows to groups one by one.
use Rattle.std.specs.Prelude.{◌≡◌, ◌-◌, ◌<◌, ⊤, true, Bool, cond, false, ℕ, ℤ, List, [], ◌∷◌, map, filter, length, slice_index_or}
use Rattle.std.specs.Ordering.{is_gt}
use Rattle.std.specs.declared.cmp.Ordering.{Ordering}
use Rattle.std.specs.declared.cmp.Ordering.TheVariants.{Equal, Less}
use Rattle.ts_num.specs.declared.values.Datum.{Datum}
use Rattle.partial_agg.specs.declared.groups.Group.{Group}
use Rattle.partial_agg.specs.Groups.{AreInOrder, group_cmp}
use Rattle.group_fold.specs.Merging.{with_group, with_groups}
use Rattle.cell_groups.specs.declared.group_lookup.CellGroups.{CellGroups}
use Rattle.cell_groups.specs.declared.group_lookup.GroupSlot.{GroupSlot}
use Rattle.cell_groups.specs.declared.group_lookup.GroupSlot.TheVariants.{At, End, Unknown}
use Rattle.cell_groups.specs.declared.groups.CellGroup.{CellGroup}
use Rattle.cell_groups.specs.declared.shapes.Shape.{Shape}
use Rattle.cell_groups.specs.Groups.{HaveTallies, as_group, as_groups, cells_at}

-- groups in order with one more row, if it passes
abbrev pub taken_in : (List Datum → Bool) → (List Datum → Group) → List Datum → List Group → List Group
taken_in passes own cells groups = cond (passes cells) (with_group (own cells) groups) groups

-- groups in order with these rows added, if they pass
abbrev pub with_rows : (List Datum → Bool) → (List Datum → Group) → List (List Datum) → List Group → List Group
with_rows passes own rows groups = with_groups (map own (filter passes rows)) groups

-- ---- places

-- groups by bucket and keys
abbrev pub place_cmp : Shape → CellGroup → CellGroup → Ordering
place_cmp shape g h = group_cmp (as_group shape g) (as_group shape h)

-- a group compared with that of one row
abbrev pub row_cmp : Shape → CellGroup → ℤ → List Datum → Ordering
row_cmp shape g b cells = group_cmp (as_group shape g) (cells_at shape b cells)

-- the group of a row's bucket and keys is at a place
pub record IsRowAt (shape : Shape) (b : ℤ) (cells : List Datum) (groups : List CellGroup) (at : ℕ) : Type 0 where
  pub within : at < length groups
  pub same : (d : CellGroup) → row_cmp shape (slice_index_or groups at d) b cells ≡ Equal

-- the group at a place is before that of a row
pub record IsAfter (shape : Shape) (b : ℤ) (cells : List Datum) (groups : List CellGroup) (at : ℕ) : Type 0 where
  pub within : at < length groups
  pub before : (d : CellGroup) → row_cmp shape (slice_index_or groups at d) b cells ≡ Less

-- the last of these groups, if there is one, is before that of a row
abbrev pub ComesLast : Shape → ℤ → List Datum → List CellGroup → Type 0
ComesLast shape b cells groups = 0 < length groups → IsAfter shape b cells groups (length groups - 1)

-- the place of a row's group among groups: its place, or that it comes last
abbrev pub IsPlace : Shape → ℤ → List Datum → List CellGroup → GroupSlot → Type 0
IsPlace shape b cells groups (At at) = IsRowAt shape b cells groups at
IsPlace shape b cells groups End = ComesLast shape b cells groups
IsPlace shape b cells groups Unknown = ⊤

-- a group is at or before the first of others
abbrev pub IsNotAfter : Group → List Group → Type 0
IsNotAfter g [] = ⊤
IsNotAfter g (x ∷ xs) = is_gt (group_cmp g x) ≡ false

-- ---- groups as rows are added

-- each group has its tallies, and groups marked as in order are in order
pub record AreGathered (shape : Shape) (gathered : CellGroups) : Type 0 where
  pub tallies : HaveTallies shape.aggs gathered.groups.items
  pub order : gathered.in_order ≡ true → AreInOrder (as_groups shape gathered.groups.items)
