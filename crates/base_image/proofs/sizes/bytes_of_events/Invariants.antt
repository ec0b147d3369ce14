use Rattle.std.proofs.Common.{◌≡◌, take, min}
use Rattle.std.specs.List.{sum_by}
use Rattle.base_image.specs.Counting.{framed_bytes}
use Rattle.base_image.proofs.sizes.bytes_of_events.Given as goal

abbrev pub invariant-loop-event : goal.invariant-loop-event
invariant-loop-event l = l.total ≡ min (sum_by framed_bytes (take l.event-index l.events)) 18446744073709551615
