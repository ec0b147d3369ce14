use Rattle.std.proofs.Common.{length, ◌≡◌, ◌+◌, arith}
use Rattle.chunk_catalog.proofs.LevelLaws.{fork_is}
use Rattle.chunk_catalog.proofs.segment_trees.fork.Goals as goal

pub invariant_of-result : goal.invariant_of-result
invariant_of-result c =
    let many : c.count.result + c.count-2.result ≡ length c.args.left.0 + length c.args.right.0 = omega (arith, c.count.ensures.count, c.count-2.ensures.count) in
    fork_is c.args.left c.args.right c.in_ok-left.left.value c.in_ok-right.right.value (c.count.result + c.count-2.result)
    c.join_hulls-hull.result c.hull.result c.hull-2.result c.both_died-dead.result c.died_out.result c.died_out-2.result
    c.requires.even c.in_ok-left.ensures.ok c.in_ok-right.ensures.ok many c.hull.ensures.hull c.hull-2.ensures.hull c.join_hulls-hull.ensures.joined
    c.died_out.ensures.dead c.died_out-2.ensures.dead c.both_died-dead.ensures.later
