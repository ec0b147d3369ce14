use Rattle.std.proofs.Common.{◌≡◌}
use Rattle.turn_lock.specs.Pass.{IsPassOf, IsIdle, shares_of}
use Rattle.journal_tests.proofs.locks.append_many.Given as goal

abbrev pub invariant-loop-i : goal.invariant-loop-i
invariant-loop-i g l = IsPassOf l.lock l.pass × IsIdle l.pass × (shares_of l.pass ≡ shares_of l.fn.pass)
