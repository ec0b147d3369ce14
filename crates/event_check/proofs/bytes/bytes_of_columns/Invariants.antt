use Rattle.std.proofs.Common.{◌≡◌, ◌+◌, take, min}
use Rattle.std.specs.List.{sum_by}
use Rattle.ts_model.specs.Bytes.{name_bytes}
use Rattle.event_check.proofs.bytes.bytes_of_columns.Given as goal

abbrev pub invariant-loop-col : goal.invariant-loop-col
invariant-loop-col l = l.total ≡ min (sum_by (λ c. name_bytes c.name + 1) (take l.col-index l.cols)) 18446744073709551615
