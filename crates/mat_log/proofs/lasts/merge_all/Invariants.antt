use Rattle.std.proofs.Common.{◌≡◌, ◌++◌, drop}
use Rattle.mat_log.specs.Lasts.{pieces_merged}
use Rattle.mat_log.proofs.lasts.merge_all.Given as goal

abbrev pub invariant-loop-next : goal.invariant-loop-next
invariant-loop-next l = l.pieces.items ++ pieces_merged l.last (drop l.next-index l.rest) ≡ pieces_merged l.fn.first l.rest
