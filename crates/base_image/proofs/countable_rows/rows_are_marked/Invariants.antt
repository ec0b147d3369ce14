use Rattle.std.proofs.Common.{◌≡◌, length}
use Rattle.std.proofs.Common.{true}
use Rattle.std.specs.List.{list_all}
use Rattle.ts_bucket.specs.Bucket.{is_time}
use Rattle.ts_model.specs.Valid.{row_marked}
use Rattle.base_image.proofs.ListLaws.{IsToldBy}
use Rattle.base_image.proofs.countable_rows.rows_are_marked.Given as goal

abbrev pub invariant-loop-left : goal.invariant-loop-left
invariant-loop-left l = IsToldBy (row_marked l.fold l.view) l.rows l.left × (list_all (λ row. is_time row.at) l.left ≡ true)

abbrev pub decreases-loop-left : goal.decreases-loop-left
decreases-loop-left l = length l.left
