-- Laws of groups: they show the aggregation from scratch.
use Rattle.std.proofs.Common.{◌≡◌, ℕ, ◌≤◌, nat_lt, List, [], ◌∷◌, ◌++◌, map, ℤ, Option, refl, sym, ap, ◌∙◌, subst}
use Rattle.std.proofs.lemmas.Bool.{and_left, cond-false, le-ltb}
use Rattle.ts_num.specs.Aggregates.{shown_or_null}
use Rattle.ts_num.specs.declared.values.Datum.TheVariants.{Int}
use Rattle.ts_schema.specs.declared.rows.Row.{Row}
use Rattle.partial_agg.specs.Summaries.{summary}
use Rattle.partial_agg.proofs.Joined.{shown-summary}
use Rattle.ts_model.specs.declared.views.Agg.{Agg}
use Rattle.ts_model.specs.declared.views.Fold.{Fold}
use Rattle.ts_model.specs.declared.views.ViewDef.{ViewDef}
use Rattle.ts_model.specs.History.{History, start, resumed, ◌▸◌, base_position, prefix}
use Rattle.ts_model.specs.Rows.{rows, rows_at}
use Rattle.ts_model.specs.Saved.{is_dirty, saved_groups}
use Rattle.ts_model.specs.Scratch.{cell, bucket_rows, key_lists, with_keys, result_row, scratch_of, scratch}
use Rattle.ts_model.specs.Groups.{column, group_at, groups_in, shown_each, cells_of, groups_at_last, groups_at, scratch_at}
use Rattle.ts_model.proofs.HistoryLaws.{base_prefix}

shown_each-summaries : (rows : List Row) (aggs : List Agg) → shown_each aggs (map (λ agg. summary (column rows agg)) aggs) ≡ map (cell rows) aggs
shown_each-summaries rows [] = refl
shown_each-summaries rows (agg ∷ aggs) =
    ap (λ d. d ∷ shown_each aggs (map (λ agg. summary (column rows agg)) aggs)) (shown-summary agg.fun (column rows agg)) ∙ ap (λ ds. cell rows agg ∷ ds) (shown_each-summaries rows aggs)

pub bucket_cells : (fold : Fold) (b : ℤ) (found : List Row) (qs : List (List (Option ℤ))) → map (cells_of fold) (map (group_at fold b found) qs) ≡ map (λ keys. result_row fold b keys (with_keys fold keys found)) qs
bucket_cells fold b found [] = refl
bucket_cells fold b found (q ∷ qs) =
    let one : cells_of fold (group_at fold b found q) ≡ result_row fold b q (with_keys fold q found) = ap (λ ds. Int b ∷ (map shown_or_null q ++ ds)) (shown_each-summaries (with_keys fold q found) fold.aggs) in
    ap (λ d. d ∷ map (cells_of fold) (map (group_at fold b found) qs)) one ∙ ap (λ ds. result_row fold b q (with_keys fold q found) ∷ ds) (bucket_cells fold b found qs)

-- the groups of a bucket show its aggregation from scratch
pub cells_are_scratch : (fold : Fold) (rows : List Row) (b : ℤ) → map (cells_of fold) (groups_in fold rows b) ≡ scratch_of fold b rows
cells_are_scratch fold rows b = bucket_cells fold b (bucket_rows fold b rows) (key_lists fold (bucket_rows fold b rows))

-- at or above the base, the groups of a bucket are those of its rows
pub stood_is : (n : ℕ) (def : ViewDef) (g : History) (s : ℕ) (b : ℤ) → base_position g ≤ s → groups_at_last n def g s b ≡ groups_in def.fold (rows def.table g) b
stood_is n def start s b l = refl
stood_is n def (resumed i) s b l = cond-false _ (saved_groups n i b) (groups_in def.fold (rows def.table (resumed i)) b) (and_left (nat_lt s i.pos) (is_dirty n i b) (le-ltb s i.pos l))
stood_is n def (g ▸ e) s b l = refl

pub groups_at_is : (n : ℕ) (def : ViewDef) (h : History) (s : ℕ) (b : ℤ) → base_position h ≤ s → groups_at n def h s b ≡ groups_in def.fold (rows_at def.table h s) b
groups_at_is n def h s b l = stood_is n def (prefix h s) s b (subst (λ p. p ≤ s) (sym (base_prefix h s)) l)

-- the groups of a bucket at a position show the aggregation from scratch of that prefix
pub scratch_at_is : (n : ℕ) (def : ViewDef) (h : History) (s : ℕ) (b : ℤ) → base_position h ≤ s → scratch_at n def h s b ≡ scratch def (prefix h s) b
scratch_at_is n def h s b l = ap (map (cells_of def.fold)) (groups_at_is n def h s b l) ∙ cells_are_scratch def.fold (rows def.table (prefix h s)) b
