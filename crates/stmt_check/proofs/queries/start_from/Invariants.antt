use Rattle.std.proofs.Common.{◌≡◌, drop}
use Rattle.stmt_check.specs.Queries.{from_all}
use Rattle.ts_bucket.specs.WholeSpans.{least}
use Rattle.stmt_check.proofs.queries.start_from.Given as goal

-- the bound so far, over what is left
abbrev pub invariant-loop-test : goal.invariant-loop-test
invariant-loop-test l = from_all least l.fn.tests ≡ from_all l.lo (drop l.test-index l.fn.tests)
