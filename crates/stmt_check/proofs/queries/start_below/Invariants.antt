use Rattle.std.proofs.Common.{◌≡◌, drop}
use Rattle.stmt_check.specs.Queries.{below_all}
use Rattle.ts_bucket.specs.WholeSpans.{greatest}
use Rattle.stmt_check.proofs.queries.start_below.Given as goal

-- the bound so far, over what is left
abbrev pub invariant-loop-test : goal.invariant-loop-test
invariant-loop-test l = below_all greatest l.fn.tests ≡ below_all l.hi (drop l.test-index l.fn.tests)
