use Rattle.std.proofs.Common.{◌≡◌, take, min}
use Rattle.std.specs.List.{sum_by}
use Rattle.base_image.specs.Counting.{sums_bytes}
use Rattle.base_image.proofs.sizes.bytes_of_parts.Given as goal

abbrev pub invariant-loop-part : goal.invariant-loop-part
invariant-loop-part l = l.total ≡ min (sum_by sums_bytes (take l.part-index l.parts)) 18446744073709551615
