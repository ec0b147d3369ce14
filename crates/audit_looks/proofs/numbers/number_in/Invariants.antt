use Rattle.std.specs.Prelude.{◌≡◌, length}
use Rattle.audit_looks.specs.Lines.{number_from}
use Rattle.audit_looks.proofs.numbers.number_in.Given as goal

abbrev pub invariant-loop-left : goal.invariant-loop-left
invariant-loop-left l = number_from l.number l.left ≡ number_from 0 l.text

abbrev pub decreases-loop-left : goal.decreases-loop-left
decreases-loop-left l = length l.left
