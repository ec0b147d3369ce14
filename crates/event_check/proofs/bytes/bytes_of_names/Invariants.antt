use Rattle.std.proofs.Common.{◌≡◌, take, min}
use Rattle.std.specs.List.{sum_by}
use Rattle.ts_model.specs.Bytes.{name_bytes}
use Rattle.event_check.proofs.bytes.bytes_of_names.Given as goal

abbrev pub invariant-loop-name : goal.invariant-loop-name
invariant-loop-name l = l.total ≡ min (sum_by name_bytes (take l.name-index l.names)) 18446744073709551615
