use Rattle.std.proofs.Common.{◌≡◌, drop}
use Rattle.mat_log.specs.Feeding.{are_rising}
use Rattle.mat_log.proofs.touches.do_rise.Given as goal

abbrev pub invariant-loop-entry : goal.invariant-loop-entry
invariant-loop-entry l = are_rising l.last (drop l.entry-index l.entries) ≡ are_rising 0 l.entries
