use Rattle.std.proofs.Common.{◌≡◌, take, min}
use Rattle.std.specs.List.{sum_by}
use Rattle.base_image.specs.Counting.{group_bytes}
use Rattle.base_image.proofs.sizes.bytes_of_groups.Given as goal

abbrev pub invariant-loop-group : goal.invariant-loop-group
invariant-loop-group l = l.total ≡ min (sum_by group_bytes (take l.group-index l.groups)) 18446744073709551615
