use Rattle.std.proofs.Common.{◌≡◌, ◌+◌, ◌∙◌, length, refl, sym, ap, subst, arith}
use Rattle.std.proofs.lemmas.List.{length-append}
use Rattle.chunk_catalog.specs.SegmentTrees.{pile_view, AreEven, IsPile, IsFork}
use Rattle.chunk_catalog.proofs.LevelLaws.{even_beside, even_grown, few_for}
use Rattle.chunk_catalog.proofs.segment_trees.SegmentTree.+append.Goals as goal

pub beside-requires-then-count-clause-even : goal.beside-requires-then-count-clause-even
beside-requires-then-count-clause-even t c =
    let left = c.in-Fork.left.value in
    let right = c.in-Fork.right.value in
    let fork : IsFork left right c.in-Fork.field-2 c.in-Fork.field-3 c.in-Fork.field-4 = subst IsPile c.in-Fork.is c.self.invariant in
    let same = c.in_ok-copy-in-Fork.ensures.same ∙ (sym c.self.view_is ∙ ap pile_view c.in-Fork.is) in
    let right_is : c.count.result ≡ length right.0 = c.count.ensures.count ∙ ap (λ p. length p.0) c.deref.ensures in
    let left_is : c.count-in-Fork-2.result ≡ length left.0 = c.count-in-Fork-2.ensures.count ∙ ap (λ p. length p.0) c.deref-in-Fork.ensures in
    let segment_is : length c.of-then-count.result.0 ≡ length c.args.segment = ap length c.of-then-count.ensures.versions in
    even_beside c.in_ok-copy-in-Fork.field-0 left right c.of-then-count.result (ap (λ d. d.0) same) (ap (λ d. d.1) same) fork.even.lean
    (few_for c.deref-in-Fork.result.now left c.count-in-Fork-2.result c.deref-in-Fork.ensures left_is c.count-in-Fork-2.ensures.few)
    (few_for c.deref.result.now right c.count.result c.deref.ensures right_is c.count.ensures.few)
    c.of-then-count.ensures.levels
    (omega (arith, left_is, c.count-in-Fork-2.ensures.some))
    (omega (arith, segment_is, c.requires.some))
    (omega (arith, left_is, right_is, segment_is, c.count-in-Fork.ensures.count, c.if-count.true))

pub beside-requires-in-Fork-clause-even : goal.beside-requires-in-Fork-clause-even
beside-requires-in-Fork-clause-even t c =
    let left = c.in-Fork.left.value in
    let right = c.in-Fork.right.value in
    let fork : IsFork left right c.in-Fork.field-2 c.in-Fork.field-3 c.in-Fork.field-4 = subst IsPile c.in-Fork.is c.self.invariant in
    let right_is : c.count.result ≡ length right.0 = c.count.ensures.count ∙ ap (λ p. length p.0) c.deref.ensures in
    let left_is : c.count-in-Fork-2.result ≡ length left.0 = c.count-in-Fork-2.ensures.count ∙ ap (λ p. length p.0) c.deref-in-Fork.ensures in
    let left_same = c.in_ok-copy-in-Fork-2.ensures.same ∙ c.deref-in-Fork-3.ensures in
    let new = c.in_ok-right-in-Fork.right in
    let grown : length new.0 ≡ length right.0 + length c.args.segment =
    ap length c.in_ok-right-in-Fork.ensures.versions ∙ (length-append c.deref-in-Fork-2.result.now.0 c.args.segment ∙ ap (λ p. length p.0 + length c.args.segment) c.deref-in-Fork-2.ensures) in
    subst (λ l. AreEven l new) (sym left_same)
    (even_grown left right new fork.even (few_for new new c.count-few.result refl c.count-few.ensures.count c.count-few.ensures.few)
    (omega (arith, grown)) (omega (arith, grown, left_is, right_is, c.count-in-Fork.ensures.count, c.if-count.false)) (omega (arith, left_is, c.count-in-Fork-2.ensures.some)))
