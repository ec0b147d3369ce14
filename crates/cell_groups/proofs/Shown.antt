-- The groups of rows of cells show the needed parts of the groups of the rows that the cells represent.
use Rattle.std.proofs.Common.{◌≡◌, List, [], ◌∷◌, ◌++◌, map, Bool, cond, sym, refl, ap, ◌∙◌}
use Rattle.std.specs.List.{AllByRecursion}
use Rattle.ts_num.specs.Aggregates.{shown_or_null}
use Rattle.ts_num.specs.declared.values.Datum.{Datum}
use Rattle.ts_num.specs.declared.values.Datum.TheVariants.{Int}
use Rattle.ts_num.specs.declared.values.Fun.{Fun}
use Rattle.ts_bucket.specs.Bucket.{IsWidth}
use Rattle.ts_schema.specs.Conditions.{passes_all}
use Rattle.ts_schema.specs.declared.rows.Row.{Row}
use Rattle.ts_schema.proofs.Cases.{by_test}
use Rattle.ts_model.specs.declared.views.Agg.{Agg}
use Rattle.ts_model.specs.declared.views.Fold.{Fold}
use Rattle.ts_model.specs.Groups.{cells_of, groups_of, shown_each}
use Rattle.ts_model.specs.Scratch.{fold_rows}
use Rattle.partial_agg.specs.declared.groups.Group.{Group}
use Rattle.partial_agg.specs.Summaries.{Summary, datum_of}
use Rattle.group_fold.specs.Grouping.{row_group}
use Rattle.group_fold.specs.Merging.{groups_with_row, with_group}
use Rattle.group_fold.proofs.RowGroups.{groups_of-more}
use Rattle.group_fold.proofs.Scratches.{groups_show_scratch}
use Rattle.cell_groups.specs.declared.shapes.Shape.{Shape}
use Rattle.cell_groups.specs.Groups.{needed_group, rows_shown}
use Rattle.cell_groups.specs.TakenRows.{taken_in, with_rows}
use Rattle.cell_groups.proofs.KeptSummaries.{needed_shown, needed_with_group}

-- cells represent a row of a fold: they pass the tests if the row does, and they have the needed parts of its
-- group
pub record StandFor (fold : Fold) (aggs : List Agg) (passes : List Datum → Bool) (own : List Datum → Group) (row : List Datum → Row) (cells : List Datum) : Type 0 where
  pub tests : passes cells ≡ passes_all (row cells) fold.tests
  pub group : own cells ≡ needed_group aggs (row_group fold (row cells))

-- functions in order
funs_of : List Agg → List Fun
funs_of aggs = map (λ a. a.fun) aggs

module _ (fold : Fold) (shape : Shape) (wide : IsWidth fold.width) (passes : List Datum → Bool) (own : List Datum → Group) (row : List Datum → Row) where
  more : (cells : List Datum) (rows : List (List Datum)) → with_rows passes own (cells ∷ rows) [] ≡ taken_in passes own cells (with_rows passes own rows [])
  more cells rows =
      by_test (passes cells)
      (λ e. rw e refl)
      (λ e. rw e refl)

  taken_is : (cells : List Datum) (groups : List Group) → StandFor fold shape.aggs passes own row cells → taken_in passes own cells (map (needed_group shape.aggs) groups) ≡ map (needed_group shape.aggs) (groups_with_row fold (row cells) groups)
  taken_is cells groups stand =
      let all = map (needed_group shape.aggs) in
      ap (λ b. cond b (with_group (own cells) (all groups)) (all groups)) stand.tests
      ∙ by_test (passes_all (row cells) fold.tests)
      (λ e. rw e (ap (λ g. with_group g (all groups)) stand.group ∙ needed_with_group shape.aggs (row_group fold (row cells)) groups))
      (λ e. rw e refl)

  pub gathered_are : (rows : List (List Datum)) → AllByRecursion (StandFor fold shape.aggs passes own row) rows → with_rows passes own rows [] ≡ map (needed_group shape.aggs) (groups_of fold (map row rows))
  gathered_are [] h = refl
  gathered_are (cells ∷ rows) h =
      more cells rows ∙ ap (taken_in passes own cells) (gathered_are rows h.1) ∙ taken_is cells (groups_of fold (map row rows)) h.0
      ∙ ap (map (needed_group shape.aggs)) (sym (groups_of-more fold wide (row cells) (map row rows)))

-- what is shown depends only on the functions
shown_alike : (aggs others : List Agg) → map (λ a. a.fun) aggs ≡ map (λ a. a.fun) others → (ps : List Summary) → shown_each aggs ps ≡ shown_each others ps
shown_alike [] [] e ps = refl
shown_alike [] (b ∷ others) e ps = absurd (cc e)
shown_alike (a ∷ aggs) [] e ps = absurd (cc e)
shown_alike (a ∷ aggs) (b ∷ others) e [] = refl
shown_alike (a ∷ aggs) (b ∷ others) e (p ∷ ps) =
    let first : a.fun ≡ b.fun = cc e in
    let rest : map (λ x. x.fun) aggs ≡ map (λ x. x.fun) others = cc e in
    ap (λ f. datum_of f p ∷ shown_each aggs ps) first ∙ ap (λ ds. datum_of b.fun p ∷ ds) (shown_alike aggs others rest ps)

rows_alike : (fold : Fold) (shape : Shape) → map (λ a. a.fun) shape.aggs ≡ map (λ a. a.fun) fold.aggs → (gs : List Group) → rows_shown shape gs ≡ map (cells_of fold) gs
rows_alike fold shape e [] = refl
rows_alike fold shape e (g ∷ gs) =
    let made : List Datum → List Datum = λ ds. Int g.start ∷ (map shown_or_null g.keys ++ ds) in
    ap (λ ds. made ds ∷ rows_shown shape gs) (shown_alike shape.aggs fold.aggs e g.parts) ∙ ap (λ rows. cells_of fold g ∷ rows) (rows_alike fold shape e gs)

-- so the groups gathered show the aggregation from scratch of those rows
pub gathered_show : (fold : Fold) (shape : Shape) (wide : IsWidth fold.width) (passes : List Datum → Bool) (own : List Datum → Group) (row : List Datum → Row) (rows : List (List Datum))
    → map (λ a. a.fun) shape.aggs ≡ map (λ a. a.fun) fold.aggs → AllByRecursion (StandFor fold shape.aggs passes own row) rows → rows_shown shape (with_rows passes own rows []) ≡ fold_rows fold (map row rows)
gathered_show fold shape wide passes own row rows e h =
    ap (rows_shown shape) (gathered_are fold shape wide passes own row rows h)
    ∙ needed_shown shape (groups_of fold (map row rows))
    ∙ rows_alike fold shape e (groups_of fold (map row rows))
    ∙ (groups_show_scratch fold wide (map row rows)).of_all
