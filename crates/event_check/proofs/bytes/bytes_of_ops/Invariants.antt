use Rattle.std.proofs.Common.{◌≡◌, take, min}
use Rattle.std.specs.List.{sum_by}
use Rattle.ts_model.specs.Bytes.{op_bytes}
use Rattle.event_check.proofs.bytes.bytes_of_ops.Given as goal

abbrev pub invariant-loop-op : goal.invariant-loop-op
invariant-loop-op l = l.total ≡ min (sum_by op_bytes (take l.op-index l.ops)) 18446744073709551615
