use Rattle.std.proofs.Common.{◌≡◌, map, take}
use Rattle.cal_bucket.specs.Shapes.{test_among}
use Rattle.cal_bucket.proofs.shapes.tests_among.Given as goal

abbrev pub invariant-loop-test : goal.invariant-loop-test
invariant-loop-test l = l.placed.items ≡ map (test_among l.at) (take l.test-index l.tests)
