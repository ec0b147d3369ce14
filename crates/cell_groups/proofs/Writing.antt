-- Groups in order: one more after the last, or one more row in the last.
use Rattle.std.proofs.Common.{◌≡◌, ◌∙◌, ℕ, ℤ, List, [], ◌∷◌, ◌++◌, map, Option, Some, None, append-nil, refl, sym, ap, subst, arith}
use Rattle.std.specs.Option.{option_to_list}
use Rattle.std.specs.List.Sorted.{IsStrictlySortedBy}
use Rattle.std.specs.declared.cmp.Ordering.TheVariants.{Equal, Less}
use Rattle.std.proofs.lemmas.List.{map-append}
use Rattle.cell_rows.specs.Parts.{AreParts, parts}
use Rattle.ts_num.specs.declared.values.Datum.{Datum}
use Rattle.partial_agg.specs.declared.groups.Group.{Group}
use Rattle.partial_agg.specs.Groups.{AreInOrder, group_cmp}
use Rattle.group_fold.specs.Merging.{joined_parts, merge_of, with_group}
use Rattle.group_fold.proofs.Gathers.{none_in_order}
use Rattle.group_fold.proofs.Insertions.{alike_to, at_equal, at_greater, equal_back, less_back, less_trans}
use Rattle.group_fold.proofs.RowGroups.{sorted-with_group}
use Rattle.cell_groups.specs.declared.groups.CellGroup.{CellGroup}
use Rattle.cell_groups.specs.declared.shapes.Shape.{Shape}
use Rattle.cell_groups.specs.Groups.{as_group, cells_at, group_shown, keys_at, parts_of, row_shown, rows_shown}
use Rattle.cell_groups.specs.TakenRows.{row_cmp}
use Rattle.cell_groups.specs.Written.{AreWritten, HasTaken, TakesRow, last_cmp}
use Rattle.cell_groups.proofs.Gathering.{added_is_merged}
use Rattle.cell_groups.proofs.KeptSummaries.{as_row, kept_shown}
use Rattle.cell_groups.proofs.Sorting.{all_last}

-- ---- groups in order

-- a group after the last
behind_last : (front : List Group) (h g : Group) → AreInOrder (front ++ h ∷ []) → group_cmp h g ≡ Less → with_group g (front ++ h ∷ []) ≡ (front ++ h ∷ []) ++ g ∷ []
unfolding IsStrictlySortedBy
behind_last [] h g up less = at_greater g h [] (less_back h g less)
behind_last (x ∷ front) h g up less =
    let before : group_cmp x g ≡ Less = less_trans x h g (all_last (λ y. group_cmp x y ≡ Less) front h up.0).1 less in
    at_greater g x (front ++ h ∷ []) (less_back x g before) ∙ ap (λ zs. x ∷ zs) (behind_last front h g up.1 less)

-- a group with the place of the last one
into_last : (front : List Group) (h g : Group) → AreInOrder (front ++ h ∷ []) → group_cmp h g ≡ Equal → with_group g (front ++ h ∷ []) ≡ front ++ merge_of g h ∷ []
unfolding IsStrictlySortedBy
into_last [] h g up same = at_equal g h [] (equal_back h g same)
into_last (x ∷ front) h g up same =
    let before : group_cmp x g ≡ Less = sym (alike_to h g x same) ∙ (all_last (λ y. group_cmp x y ≡ Less) front h up.0).1 in
    at_greater g x (front ++ h ∷ []) (less_back x g before) ∙ ap (λ zs. x ∷ zs) (into_last front h g up.1 same)

-- ---- what is written

-- the result row of one group more
shown_more : (shape : Shape) (ended : List Group) (g : CellGroup) (rows : List (List Datum)) → rows ≡ rows_shown shape ended → rows ++ group_shown shape g ∷ [] ≡ rows_shown shape (ended ++ as_group shape g ∷ [])
shown_more shape ended g rows is =
    ap (λ r. r ++ group_shown shape g ∷ []) is
    ∙ ap (λ one. rows_shown shape ended ++ one) (kept_shown shape (g ∷ []))
    ∙ sym (map-append (row_shown shape) ended (as_group shape g ∷ []))

pub none_written : (shape : Shape) (rows : List (List Datum)) (last : Option CellGroup) → rows ≡ [] → last ≡ None → AreWritten shape [] rows last
none_written shape rows last empty none =
    subst (AreWritten shape [] rows) (sym none) (record { ended = []; all = (refl, refl); shown = empty; order = none_in_order [] (omega arith) })

-- the last one is written
pub all_written : (shape : Shape) (groups : List Group) (rows whole : List (List Datum)) (last : Option CellGroup) → whole ≡ rows ++ map (group_shown shape) (option_to_list last)
    → AreWritten shape groups rows last → whole ≡ rows_shown shape groups
all_written shape groups rows whole None put w =
    put ∙ append-nil rows ∙ w.shown ∙ ap (rows_shown shape) w.all.0 ∙ ap (rows_shown shape) (sym w.all.1)
all_written shape groups rows whole (Some g) put w = put ∙ shown_more shape w.ended g rows w.shown ∙ ap (rows_shown shape) (sym w.all)

-- ---- where the rows are

-- without ends there are no rows
pub no_rows : (ends : List ℕ) (cells : List Datum) → ends ≡ [] → parts 0 ends cells ≡ []
no_rows ends cells none = ap (λ es. parts 0 es cells) none

pub no_rows_are : (ends : List ℕ) (cells : List Datum) → ends ≡ [] → cells ≡ [] → AreParts 0 ends cells
no_rows_are ends cells none no_cell = subst (λ es. AreParts 0 es cells) (sym none) no_cell

pub same_rows : (ends ends' : List ℕ) (cells cells' : List Datum) → cells ≡ cells' → ends ≡ ends' → parts 0 ends cells ≡ parts 0 ends' cells'
same_rows ends ends' cells cells' same alike = ap (λ es. parts 0 es cells) alike ∙ ap (parts 0 ends') same

module _ (shape : Shape) (b : ℤ) (cells : List Datum) (groups : List Group) (rows : List (List Datum)) where
  -- the group of a row after the last
  pub next_written : (more : List (List Datum)) (last : Option CellGroup) (next : CellGroup) → as_group shape next ≡ cells_at shape b cells → last_cmp shape last b cells ≡ Less
      → more ≡ rows ++ map (group_shown shape) (option_to_list last) → AreWritten shape groups rows last
      → AreWritten shape (with_group (cells_at shape b cells) groups) more (Some next)
  next_written more None next is less put w = record {
    ended = [];
    all = ap (with_group (cells_at shape b cells)) w.all.1 ∙ ap (λ x. x ∷ []) (sym is);
    shown = put ∙ append-nil rows ∙ w.shown ∙ ap (rows_shown shape) w.all.0;
    order = sorted-with_group (cells_at shape b cells) groups w.order;
  }
  next_written more (Some g) next is less put w = record {
    ended = w.ended ++ as_group shape g ∷ [];
    all =
        ap (with_group (cells_at shape b cells)) w.all
        ∙ behind_last w.ended (as_group shape g) (cells_at shape b cells) (subst AreInOrder w.all w.order) less
        ∙ ap (λ x. (w.ended ++ as_group shape g ∷ []) ++ x ∷ []) (sym is);
    shown = put ∙ shown_more shape w.ended g rows w.shown;
    order = sorted-with_group (cells_at shape b cells) groups w.order;
  }

  -- a row in the last group
  pub row_written : (old new : CellGroup) → row_cmp shape old b cells ≡ Equal → HasTaken shape.aggs cells old new → AreWritten shape groups rows (Some old)
      → AreWritten shape (with_group (cells_at shape b cells) groups) rows (Some new)
  row_written old new same taken w =
      let grown : as_group shape new ≡ merge_of (cells_at shape b cells) (as_group shape old) =
      added_is_merged (cells_at shape b cells) (as_group shape old) (as_group shape new) same taken.start (ap (keys_at shape.keys) taken.first)
      (taken.parts ∙ ap (joined_parts (parts_of shape.aggs old)) (as_row shape.aggs cells))
      in
      record {
        ended = w.ended;
        all =
            ap (with_group (cells_at shape b cells)) w.all
            ∙ into_last w.ended (as_group shape old) (cells_at shape b cells) (subst AreInOrder w.all w.order) same
            ∙ ap (λ x. w.ended ++ x ∷ []) (sym grown);
        shown = w.shown;
        order = sorted-with_group (cells_at shape b cells) groups w.order;
      }

  pub last_written : (old new : Option CellGroup) → last_cmp shape old b cells ≡ Equal → TakesRow shape.aggs cells old new → AreWritten shape groups rows old
      → AreWritten shape (with_group (cells_at shape b cells) groups) rows new
  last_written None new same taken w = absurd (cc same)
  last_written (Some old) None same taken w = absurd taken
  last_written (Some old) (Some new) same taken w = row_written old new same taken w
