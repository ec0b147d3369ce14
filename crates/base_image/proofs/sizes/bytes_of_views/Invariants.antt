use Rattle.std.proofs.Common.{◌≡◌, take, min}
use Rattle.std.specs.List.{sum_by}
use Rattle.base_image.specs.Counting.{saved_bytes}
use Rattle.base_image.proofs.sizes.bytes_of_views.Given as goal

abbrev pub invariant-loop-view : goal.invariant-loop-view
invariant-loop-view l = l.total ≡ min (sum_by saved_bytes (take l.view-index l.views)) 18446744073709551615
