-- The roll-up by a plan that takes all of an aggregate: each row is alone in its group, and is shown unchanged.
use Rattle.std.proofs.Common.{◌≡◌, ℕ, zero, suc, ◌==◌, List, [], ◌∷◌, ◌++◌, map, length, drop, true, Option, None, ℤ, sym, refl, ap, ◌∙◌, arith}
use Rattle.std.proofs.lemmas.Bool.{and_parts, eqb-true}
use Rattle.std.proofs.lemmas.List.{append-nil}
use Rattle.std.specs.List.{AllByRecursion, list_all}
use Rattle.ts_num.specs.Aggregates.{shown_or_null}
use Rattle.ts_num.specs.declared.values.Datum.{Datum}
use Rattle.ts_num.specs.declared.values.Datum.TheVariants.{Int}
use Rattle.ts_model.specs.declared.queries.Answer.{Answer}
use Rattle.ts_model.specs.declared.views.Agg.{Agg}
use Rattle.ts_model.specs.declared.views.Fold.{Fold}
use Rattle.ts_model.specs.Groups.{cells_of, shown_each}
use Rattle.ts_model.specs.Results.{cell_at}
use Rattle.partial_agg.specs.declared.groups.Group.{Group}
use Rattle.partial_agg.specs.Summaries.{Summary, datum_of, value_of}
use Rattle.ts_bucket.specs.Bucket.{IsWidth}
use Rattle.ts_bucket.specs.declared.spans.Span.{Span}
use Rattle.cell_groups.specs.Groups.{row_shown, rows_shown}
use Rattle.hier_agg.specs.declared.plans.UpperPlan.{UpperPlan}
use Rattle.hier_agg.specs.Plans.{is_additive}
use Rattle.hier_agg.specs.Stale.{AreWholeRanges, upper_stale}
use Rattle.hier_agg.specs.Taken.{shape_of}
use Rattle.hier_agg.specs.Upper.{upper_answer, upper_rows}
use Rattle.hier_agg.specs.Wholes.{AreRowsOf, IsGroupOf, are_all, run_from, same_width, takes_all}
use Rattle.hier_agg.proofs.KeptGroups.{KeepsGroups, again, columns, groups_kept, part_read, rows_alone, same_ranges, shows_again, values_are}
use Rattle.hier_agg.proofs.ReadRuns.{drop_front, read_run}

-- ---- the values that are shown

parts_read : (aggs : List Agg) (parts : List Summary) → list_all (λ a. is_additive a.fun) aggs ≡ true → map shown_or_null (map value_of (shown_each aggs parts)) ≡ shown_each aggs parts
parts_read [] parts e = refl
parts_read (a ∷ aggs) [] e = refl
parts_read (a ∷ aggs) (p ∷ parts) e =
    let both = and_parts (is_additive a.fun) (list_all (λ x. is_additive x.fun) aggs) e in
    ap (λ d. d ∷ map shown_or_null (map value_of (shown_each aggs parts))) (part_read a.fun p both.0)
    ∙ ap (λ ds. datum_of a.fun p ∷ ds) (parts_read aggs parts both.1)

-- as many are shown as there are aggregates and parts
shown_length : (aggs : List Agg) (parts : List Summary) (n : ℕ) → n ≡ length aggs → n ≡ length parts → n ≡ length (map value_of (shown_each aggs parts))
shown_length [] parts n a p = a
shown_length (x ∷ aggs) [] n a p = absurd (omega (arith, a, p))
shown_length (x ∷ aggs) (y ∷ parts) zero a p = absurd (omega (arith, a))
shown_length (x ∷ aggs) (y ∷ parts) (suc n) a p = ap suc (shown_length aggs parts n (omega (arith, a)) (omega (arith, p)))

-- ---- a plan that takes everything

-- the parts of the test
record TakesAll (lower : Fold) (plan : UpperPlan) : Type 0 where
  pub kept : KeepsGroups lower plan
  pub cols : run_from (length lower.keys) plan.cols ≡ true
  pub all_cols : length plan.cols ≡ length lower.aggs
  pub additive : list_all (λ a. is_additive a.fun) lower.aggs ≡ true

all_taken : (lower : Fold) (plan : UpperPlan) → takes_all lower plan ≡ true → TakesAll lower plan
all_taken lower plan e =
    let additive = and_parts _ (list_all (λ a. is_additive a.fun) lower.aggs) e in
    let tests = and_parts _ (length plan.tests == 0) additive.0 in
    let cols = and_parts _ (are_all (length lower.keys) (length lower.aggs) plan.cols) tests.0 in
    let keys = and_parts (same_width plan.width lower.width) (are_all 0 (length lower.keys) plan.keys) cols.0 in
    let own_cols = and_parts (length plan.cols == length lower.aggs) (run_from (length lower.keys) plan.cols) cols.1 in
    record {
      kept = groups_kept lower plan keys.0 keys.1 tests.1;
      cols = own_cols.1;
      all_cols = eqb-true (length plan.cols) (length lower.aggs) own_cols.0;
      additive = additive.1;
    }

module _ (lower : Fold) (plan : UpperPlan) (wide : IsWidth lower.width) (takes : TakesAll lower plan) where
  -- ---- one row

  module _ (group : Group) (is : IsGroupOf lower group) where
    abbrev numbers : List (Option ℤ)
    numbers = map value_of (shown_each lower.aggs group.parts)

    cols_read : map (cell_at (columns lower group)) plan.cols ≡ numbers
    cols_read =
        let behind : drop (length lower.keys) (map value_of (columns lower group)) ≡ numbers ++ [] =
        ap (drop (length lower.keys)) (values_are lower group) ∙ ap (λ n. drop n (group.keys ++ numbers)) (sym is.keys) ∙ drop_front group.keys numbers ∙ sym (append-nil numbers) in
        read_run None (map value_of (columns lower group)) (length lower.keys) plan.cols numbers [] behind takes.cols (shown_length lower.aggs group.parts (length plan.cols) takes.all_cols (takes.all_cols ∙ sym is.parts))

    shows_itself : row_shown (shape_of lower plan) (again lower plan group) ≡ cells_of lower group
    shows_itself =
        shows_again lower plan wide takes.kept group is
        ∙ ap (λ ds. Int group.start ∷ (map shown_or_null group.keys ++ ds)) (ap (map shown_or_null) cols_read ∙ parts_read lower.aggs group.parts takes.additive)

  -- ---- all rows

  all_shown : (gs : List Group) → AllByRecursion (IsGroupOf lower) gs → rows_shown (shape_of lower plan) (map (again lower plan) gs) ≡ map (cells_of lower) gs
  all_shown [] each = refl
  all_shown (g ∷ gs) each =
      ap (λ r. r ∷ rows_shown (shape_of lower plan) (map (again lower plan) gs)) (shows_itself g each.0) ∙ ap (λ rs. cells_of lower g ∷ rs) (all_shown gs each.1)

  -- rows of the fold are those of their roll-up
  same_rows : (rows : List (List Datum)) → AreRowsOf lower rows → upper_rows lower plan rows ≡ rows
  same_rows rows are = rows_alone lower plan wide takes.kept rows are ∙ all_shown are.groups are.each ∙ sym are.shown

pub whole_roll_ups_are_the_lower_answer : (lower : Fold) (plan : UpperPlan) (datum_of : Answer) → IsWidth lower.width → takes_all lower plan ≡ true → AreRowsOf lower datum_of.rows → AreWholeRanges lower.width datum_of.stale → upper_answer lower plan datum_of ≡ datum_of
whole_roll_ups_are_the_lower_answer lower plan datum_of wide takes rows whole =
    let all = all_taken lower plan takes in
    let made : List (List Datum) → List Span → Answer = λ found stale. record { rows = found; stale = stale } in
    ap (λ found. made found (upper_stale plan.width datum_of.stale)) (same_rows lower plan wide all datum_of.rows rows)
    ∙ ap (made datum_of.rows) (same_ranges lower plan wide all.kept datum_of.stale whole)
