use Rattle.std.proofs.Common.{◌≡◌, drop}
use Rattle.stmt_check.specs.Queries.{starts_refusal}
use Rattle.stmt_check.proofs.queries.check_starts.Given as goal

-- what is left decides
abbrev pub invariant-loop-test : goal.invariant-loop-test
invariant-loop-test l = starts_refusal l.fn.pos l.fn.def l.fn.tests ≡ starts_refusal l.fn.pos l.fn.def (drop l.test-index l.fn.tests)
