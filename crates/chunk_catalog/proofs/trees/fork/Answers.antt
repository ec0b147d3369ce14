use Rattle.std.proofs.Common.{◌*◌, length, ◌∙◌, ap, subst, arith}
use Rattle.seg_rows.specs.Hulls.{joined_hull, hull_at}
use Rattle.chunk_catalog.specs.Levels.{AreFew, FewLevels, TreeValue}
use Rattle.seg_rows.specs.Versions.{died_out}
use Rattle.chunk_catalog.specs.Places.{StartsIn, versions_of}
use Rattle.chunk_catalog.proofs.SpareLaws.{dead_over}
use Rattle.chunk_catalog.proofs.PlaceLaws.{starts_of_fork}
use Rattle.chunk_catalog.proofs.LevelLaws.{few_over, few_counted, sides_within}
use Rattle.chunk_catalog.proofs.trees.fork.Goals as goal

pub overflow_add-height : goal.overflow_add-height
overflow_add-height c =
    let within = sides_within c.args.left.value c.args.right.value c.args.chunk in
    let left : FewLevels c.args.left.value.1 (length c.args.left.value.0) = subst (λ (v : TreeValue). FewLevels v.1 (length v.0)) c.deref-3.ensures c.height.ensures.few in
    let right : FewLevels c.args.right.value.1 (length c.args.right.value.0) = subst (λ (v : TreeValue). FewLevels v.1 (length v.0)) c.deref-4.ensures c.height-2.ensures.few in
    let low = few_counted c.args.left.value.1 (length c.args.left.value.0) left (omega (arith, within.0, c.requires.countable)) in
    let low_too = few_counted c.args.right.value.1 (length c.args.right.value.0) right (omega (arith, within.1, c.requires.countable)) in
    let left_is = c.height.ensures.height ∙ ap (λ (v : TreeValue). v.1.chunks) c.deref-3.ensures in
    let right_is = c.height-2.ensures.height ∙ ap (λ (v : TreeValue). v.1.chunks) c.deref-4.ensures in
    record { fits = omega (arith, low, low_too, left_is, right_is, c.max-height.ensures) }

pub invariant_of-result : goal.invariant_of-result
invariant_of-result c =
    let left : FewLevels c.args.left.value.1 (length c.args.left.value.0) = subst (λ (v : TreeValue). FewLevels v.1 (length v.0)) c.deref-3.ensures c.height.ensures.few in
    let right : FewLevels c.args.right.value.1 (length c.args.right.value.0) = subst (λ (v : TreeValue). FewLevels v.1 (length v.0)) c.deref-4.ensures c.height-2.ensures.few in
    let left_is = c.height.ensures.height ∙ ap (λ (v : TreeValue). v.1.chunks) c.deref-3.ensures in
    let right_is = c.height-2.ensures.height ∙ ap (λ (v : TreeValue). v.1.chunks) c.deref-4.ensures in
    record {
      starts_in = starts_of_fork c.starts.result c.starts-2.result c.hull_with-starts.result c.args.chunk.start c.args.left.value.0 c.args.right.value.0 c.args.chunk.versions
          (subst (λ (v : TreeValue). StartsIn c.starts.result v.0) c.deref.ensures c.starts.ensures.all)
          (subst (λ (v : TreeValue). StartsIn c.starts-2.result v.0) c.deref-2.ensures c.starts-2.ensures.all)
          (c.hull_with-starts.ensures.joined ∙ ap (joined_hull (hull_at c.args.chunk.start)) c.join_hulls.ensures.joined);
      counted = omega (arith, left_is, right_is, c.max-height.ensures);
      even = c.requires.even;
      few = few_over c.args.left.value c.args.right.value c.args.chunk c.requires.even left right
          (subst (λ n. AreFew c.args.chunk.levels (2 * n)) c.count-some.ensures.count c.count-some.ensures.few)
          (omega (arith, c.count-some.ensures.count, c.count-some.ensures.some));
      dead_is = dead_over c.args.left.value.0 c.args.right.value.0 c.args.chunk.start c.args.chunk.versions c.died_out.result c.died_out-2.result c.both_died.result c.died_out-3.result c.both_died-dead.result
          (c.died_out.ensures.dead ∙ ap (λ (v : TreeValue). died_out (versions_of v.0)) c.deref-5.ensures) c.died_out-2.ensures.dead c.both_died.ensures.later
          (c.died_out-3.ensures.dead ∙ ap (λ (v : TreeValue). died_out (versions_of v.0)) c.deref-6.ensures) c.both_died-dead.ensures.later;
    }
