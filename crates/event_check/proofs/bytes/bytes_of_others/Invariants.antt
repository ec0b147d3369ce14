use Rattle.std.proofs.Common.{◌≡◌, take, min}
use Rattle.std.specs.List.{sum_by}
use Rattle.ts_model.specs.Bytes.{value_bytes}
use Rattle.event_check.proofs.bytes.bytes_of_others.Given as goal

abbrev pub invariant-loop-i : goal.invariant-loop-i
invariant-loop-i l = l.total ≡ min (sum_by value_bytes (take l.i l.vals)) 18446744073709551615
