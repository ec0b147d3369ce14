use Rattle.std.proofs.Common.{◌≡◌, take, min}
use Rattle.std.specs.List.{sum_by}
use Rattle.base_image.specs.Outlines.{commit_bytes}
use Rattle.base_image.proofs.tallies.bytes_of_commits.Given as goal

abbrev pub invariant-loop-tally : goal.invariant-loop-tally
invariant-loop-tally l = l.total ≡ min (sum_by commit_bytes (take l.tally-index l.tallies)) 18446744073709551615
