use Rattle.std.proofs.Common.{length}
use Rattle.row_versions.proofs.TableLaws.{Leads}
use Rattle.row_versions.proofs.tables.Table.apply.Given as goal

abbrev pub invariant-loop-left : goal.invariant-loop-left
invariant-loop-left l = Leads l.table l.pos l.fn.ops l.fn.self l.left l.done.table l.done.effect

abbrev pub decreases-loop-left : goal.decreases-loop-left
decreases-loop-left l = length l.left
