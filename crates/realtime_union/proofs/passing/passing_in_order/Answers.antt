use Rattle.std.proofs.Common.{◌≡◌, ◌∙◌, ap, sym, rules, filter}
use Rattle.std.proofs.lemmas.Fn.{filter_same}
use Rattle.std.proofs.lemmas.List.Sorted.{ranks_by, answers_always}
use Rattle.std.specs.List.Sorted.{IsSorted}
use Rattle.ts_schema.specs.declared.rows.Row.{Row}
use Rattle.ts_schema.specs.Conditions.{passes_all}
use Rattle.ts_schema.specs.Rows.{row_cmp}
use Rattle.ts_schema.proofs.OrderLaws.{row_cmp_total}
use Rattle.ts_model.specs.Rows.{in_order}
use Rattle.ts_model.proofs.RowLaws.{filter-in_order}
use Rattle.realtime_union.proofs.OrderedRows.{sorted_rows}
use Rattle.realtime_union.proofs.passing.passing_in_order.Goals as goal

pub returns : goal.returns
returns c =
    let passes = λ (row : Row). passes_all row c.args.tests.now in
    let found = c.args.found in
    let kept : c.retain.new.self.items ≡ filter passes found = filter_same _ passes _ (λ x b f' k. search rules) _ _ c.retain.ensures.filtered ∙ ap (filter passes) c.into_items-sorted.ensures.items in
    let up : IsSorted row_cmp c.sort_by.new.self.items = c.in_ok-sort_by.ensures.sorted _ (ranks_by row_cmp_total (λ (row : Row). row)) (answers_always _ _ _ (λ f a r f' k. search rules)) in
    sorted_rows c.retain.new.self.items c.sort_by.new.self.items c.sort_by.ensures.permutation up ∙ (ap in_order kept ∙ sym (filter-in_order passes found))
