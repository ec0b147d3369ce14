use Rattle.std.proofs.Common.{◌≡◌, map, take, drop}
use Rattle.hier_agg.specs.Reads.{test_of}
use Rattle.hier_agg.specs.Refusals.{tests_refusal}
use Rattle.hier_agg.proofs.columns.check_tests.Given as goal

-- what is left decides, and the tests so far are numbered
abbrev pub invariant-loop-test : goal.invariant-loop-test
invariant-loop-test l =
    (tests_refusal l.fn.pos l.fn.def l.fn.tests ≡ tests_refusal l.fn.pos l.fn.def (drop l.test-index l.fn.tests))
    × (l.numbered ≡ map (test_of l.fn.def) (take l.test-index l.fn.tests))
