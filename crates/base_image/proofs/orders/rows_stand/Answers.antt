use Rattle.std.proofs.Common.{◌≡◌, rules}
use Rattle.std.proofs.lemmas.Fn.{always_returns_same}
use Rattle.std.proofs.Common.{not}
use Rattle.std.specs.Ordering.{is_gt}
use Rattle.ts_schema.specs.Rows.{row_cmp}
use Rattle.ts_schema.proofs.OrderLaws.{row_cmp_total}
use Rattle.base_image.proofs.Neighbours.{stands}
use Rattle.base_image.proofs.orders.rows_stand.Goals as goal

pub returns : goal.returns
returns c = stands row_cmp row_cmp_total c.args.rows.now c.is_sorted_by.result (c.is_sorted_by.ensures.cases (λ x y. not (is_gt (row_cmp x y))) (always_returns_same _ (λ a r. r ≡ not (is_gt (row_cmp a.0.now a.1.0.now))) _ (λ a r q k. search rules)))
