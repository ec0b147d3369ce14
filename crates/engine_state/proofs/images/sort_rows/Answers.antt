use Rattle.std.proofs.Common.{◌∙◌, ap, rules}
use Rattle.std.proofs.lemmas.List.Sorted.{ranks_by, answers_always}
use Rattle.std.specs.List.Sorted.{IsSorted}
use Rattle.ts_schema.specs.declared.rows.Row.{Row}
use Rattle.ts_schema.specs.Rows.{row_cmp}
use Rattle.ts_schema.proofs.OrderLaws.{row_cmp_total}
use Rattle.ts_model.specs.Rows.{in_order}
use Rattle.realtime_union.proofs.OrderedRows.{sorted_rows}
use Rattle.engine_state.proofs.images.sort_rows.Goals as goal

pub returns : goal.returns
returns c =
    let up : IsSorted row_cmp c.sort_by.new.self.items = c.in_ok-sort_by.ensures.sorted _ (ranks_by row_cmp_total (λ (row : Row). row)) (answers_always _ _ _ (λ f a r f' k. search rules)) in
    c.of.ensures.items ∙ sorted_rows c.into_items-items.result.items c.sort_by.new.self.items c.sort_by.ensures.permutation up ∙ ap in_order c.into_items-items.ensures.items
