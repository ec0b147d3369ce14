-- The roll-up by a plan that keeps the groups of an aggregate: each row is alone in its group, and shows those
-- of its cells that the plan takes.
use Rattle.std.proofs.Common.{◌≡◌, ℕ, suc, ◌-◌, ◌<◌, ◌≤◌, ◌==◌, ◌&&◌, nat_le, nat_lt, List, [], ◌∷◌, ◌++◌, map, length, get_or, true, sym, refl, ap, ◌∙◌, arith}
use Rattle.std.proofs.lemmas.Bool.{and_parts, leb-true, ltb-true}
use Rattle.std.proofs.lemmas.List.{length-map, map-append}
use Rattle.std.specs.List.{AllByRecursion, list_all}
use Rattle.ts_num.specs.Aggregates.{shown_or_null}
use Rattle.ts_num.specs.declared.values.Datum.{Datum}
use Rattle.ts_num.specs.declared.values.Datum.TheVariants.{Int, Null}
use Rattle.ts_model.specs.declared.queries.Answer.{Answer}
use Rattle.ts_model.specs.declared.views.Fold.{Fold}
use Rattle.ts_model.specs.Chosen.{cell_or_null, chosen_cells}
use Rattle.ts_model.specs.Groups.{cells_of, shown_each}
use Rattle.ts_model.specs.Results.{cell_at}
use Rattle.ts_model.proofs.ResultLaws.{cell_behind, cell_of_part, value_of_cell}
use Rattle.partial_agg.specs.declared.groups.Group.{Group}
use Rattle.partial_agg.specs.Summaries.{datum_of, summary, value_of}
use Rattle.ts_bucket.specs.Bucket.{IsWidth}
use Rattle.ts_bucket.specs.declared.spans.Span.{Span}
use Rattle.cell_groups.specs.Groups.{row_shown, rows_shown}
use Rattle.hier_agg.specs.declared.plans.UpperPlan.{UpperPlan}
use Rattle.hier_agg.specs.Choices.{chosen_answer, chosen_places, keeps_its_cell, takes_groups}
use Rattle.hier_agg.specs.Plans.{agg_at, is_additive, row_count}
use Rattle.hier_agg.specs.Stale.{AreWholeRanges, upper_stale}
use Rattle.hier_agg.specs.Taken.{shape_of}
use Rattle.hier_agg.specs.Upper.{upper_answer, upper_rows}
use Rattle.hier_agg.specs.Wholes.{AreRowsOf, IsGroupOf, are_all, same_width}
use Rattle.hier_agg.proofs.KeptGroups.{KeepsGroups, again, columns, groups_kept, part_read, rows_alone, same_ranges, shows_again}
use Rattle.hier_agg.proofs.ReadRuns.{read_run}

-- ---- the test

-- its parts
record TakesGroups (lower : Fold) (plan : UpperPlan) : Type 0 where
  pub kept : KeepsGroups lower plan
  pub cols : list_all (keeps_its_cell lower) plan.cols ≡ true

groups_taken : (lower : Fold) (plan : UpperPlan) → takes_groups lower plan ≡ true → TakesGroups lower plan
groups_taken lower plan e =
    let cols = and_parts _ (list_all (keeps_its_cell lower) plan.cols) e in
    let tests = and_parts _ (length plan.tests == 0) cols.0 in
    let keys = and_parts (same_width plan.width lower.width) (are_all 0 (length lower.keys) plan.keys) tests.0 in
    record { kept = groups_kept lower plan keys.0 keys.1 tests.1; cols = cols.1 }

-- ---- cells

-- after the first cell of a row come the columns
behind_first : (first : Datum) (cells : List Datum) (ks : List ℕ) → map (cell_or_null (first ∷ cells)) (map suc ks) ≡ map (cell_or_null cells) ks
behind_first first cells [] = refl
behind_first first cells (k ∷ ks) = ap (λ ds. cell_or_null cells k ∷ ds) (behind_first first cells ks)

-- a cell that an aggregate shows, except a mean, is the one that its value shows
cell_kept : (lower : Fold) (group : Group) (c : ℕ) → IsGroupOf lower group → keeps_its_cell lower c ≡ true → shown_or_null (cell_at (columns lower group) c) ≡ cell_or_null (columns lower group) c
cell_kept lower group c is kept =
    let tests = and_parts (nat_le (length lower.keys) c && nat_lt (c - length lower.keys) (length lower.aggs)) (is_additive (agg_at lower c).fun) kept in
    let ends = and_parts (nat_le (length lower.keys) c) (nat_lt (c - length lower.keys) (length lower.aggs)) tests.0 in
    let behind : length lower.keys ≤ c = leb-true (length lower.keys) c ends.0 in
    let within : c - length lower.keys < length lower.aggs = ltb-true (c - length lower.keys) (length lower.aggs) ends.1 in
    let n = c - length lower.keys in
    let keys = is.keys in
    let parts = is.parts in
    let part = get_or group.parts n (summary []) in
    let past : length group.keys < suc c = omega (arith, keys) in
    let at : suc c - 1 - length group.keys ≡ n = omega (arith, keys) in
    let has_part : n < length group.parts = omega (arith, parts) in
    let shows : cell_or_null (columns lower group) c ≡ datum_of (agg_at lower c).fun part =
    cell_behind (Int group.start) group.keys (shown_each lower.aggs group.parts) (suc c) past
    ∙ ap (cell_or_null (shown_each lower.aggs group.parts)) at
    ∙ cell_of_part lower.aggs group.parts n row_count (summary []) within has_part in
    ap shown_or_null (sym (value_of_cell (columns lower group) c) ∙ ap value_of shows)
    ∙ part_read (agg_at lower c).fun part tests.1
    ∙ sym shows

cells_kept : (lower : Fold) (group : Group) (cols : List ℕ) → IsGroupOf lower group → list_all (keeps_its_cell lower) cols ≡ true → map shown_or_null (map (cell_at (columns lower group)) cols) ≡ map (cell_or_null (columns lower group)) cols
cells_kept lower group [] is kept = refl
cells_kept lower group (c ∷ cols) is kept =
    let both = and_parts (keeps_its_cell lower c) (list_all (keeps_its_cell lower) cols) kept in
    ap (λ d. d ∷ map shown_or_null (map (cell_at (columns lower group)) cols)) (cell_kept lower group c is both.0)
    ∙ ap (λ ds. cell_or_null (columns lower group) c ∷ ds) (cells_kept lower group cols is both.1)

module _ (lower : Fold) (plan : UpperPlan) (wide : IsWidth lower.width) (takes : TakesGroups lower plan) where
  -- ---- rows

  keys_kept : (group : Group) → IsGroupOf lower group → map (cell_or_null (columns lower group)) plan.keys ≡ map shown_or_null group.keys
  keys_kept group is =
      read_run Null (columns lower group) 0 plan.keys (map shown_or_null group.keys) (shown_each lower.aggs group.parts) refl takes.kept.keys (takes.kept.all_keys ∙ sym is.keys ∙ sym (length-map group.keys shown_or_null))

  shows_chosen : (group : Group) → IsGroupOf lower group → row_shown (shape_of lower plan) (again lower plan group) ≡ chosen_cells (chosen_places plan) (cells_of lower group)
  shows_chosen group is =
      let cells = columns lower group in
      let first = Int group.start in
      let places : map (cell_or_null (first ∷ cells)) (map suc plan.keys ++ map suc plan.cols) ≡ map (cell_or_null cells) plan.keys ++ map (cell_or_null cells) plan.cols =
      map-append (cell_or_null (first ∷ cells)) (map suc plan.keys) (map suc plan.cols)
      ∙ ap (λ ds. ds ++ map (cell_or_null (first ∷ cells)) (map suc plan.cols)) (behind_first first cells plan.keys)
      ∙ ap (λ ds. map (cell_or_null cells) plan.keys ++ ds) (behind_first first cells plan.cols) in
      shows_again lower plan wide takes.kept group is
      ∙ ap (λ ds. first ∷ (map shown_or_null group.keys ++ ds)) (cells_kept lower group plan.cols is takes.cols)
      ∙ ap (λ ks. first ∷ (ks ++ map (cell_or_null cells) plan.cols)) (sym (keys_kept group is))
      ∙ ap (λ ds. first ∷ ds) (sym places)

  all_chosen : (gs : List Group) → AllByRecursion (IsGroupOf lower) gs → rows_shown (shape_of lower plan) (map (again lower plan) gs) ≡ map (chosen_cells (chosen_places plan)) (map (cells_of lower) gs)
  all_chosen [] each = refl
  all_chosen (g ∷ gs) each =
      ap (λ r. r ∷ rows_shown (shape_of lower plan) (map (again lower plan) gs)) (shows_chosen g each.0)
      ∙ ap (λ rs. chosen_cells (chosen_places plan) (cells_of lower g) ∷ rs) (all_chosen gs each.1)

  -- rows of the fold with cells chosen are those of their roll-up
  chosen_rows : (rows : List (List Datum)) → AreRowsOf lower rows → upper_rows lower plan rows ≡ map (chosen_cells (chosen_places plan)) rows
  chosen_rows rows are =
      rows_alone lower plan wide takes.kept rows are ∙ all_chosen are.groups are.each ∙ ap (map (chosen_cells (chosen_places plan))) (sym are.shown)

pub roll_ups_of_groups_choose_cells : (lower : Fold) (plan : UpperPlan) (datum_of : Answer) → IsWidth lower.width → takes_groups lower plan ≡ true → AreRowsOf lower datum_of.rows → AreWholeRanges lower.width datum_of.stale → upper_answer lower plan datum_of ≡ chosen_answer plan datum_of
roll_ups_of_groups_choose_cells lower plan datum_of wide takes rows whole =
    let taken = groups_taken lower plan takes in
    let made : List (List Datum) → List Span → Answer = λ found stale. record { rows = found; stale = stale } in
    ap (λ found. made found (upper_stale plan.width datum_of.stale)) (chosen_rows lower plan wide taken datum_of.rows rows)
    ∙ ap (made (map (chosen_cells (chosen_places plan)) datum_of.rows)) (same_ranges lower plan wide taken.kept datum_of.stale whole)
