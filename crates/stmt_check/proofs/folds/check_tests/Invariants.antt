use Rattle.std.proofs.Common.{◌≡◌, take, drop}
use Rattle.stmt_check.specs.Folds.{tests_of, tests_refusal}
use Rattle.stmt_check.proofs.folds.check_tests.Given as goal

-- what is left decides, and the tests so far are numbered
abbrev pub invariant-loop-test : goal.invariant-loop-test
invariant-loop-test l =
    (tests_refusal l.fn.pos l.fn.info l.fn.tests ≡ tests_refusal l.fn.pos l.fn.info (drop l.test-index l.fn.tests))
    × (l.numbered ≡ tests_of l.fn.info (take l.test-index l.fn.tests))
