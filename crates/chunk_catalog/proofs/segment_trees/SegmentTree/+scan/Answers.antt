use Rattle.std.proofs.Common.{◌≡◌, ◌+◌, ◌∙◌, length, ap, sym, arith}
use Rattle.std.proofs.lemmas.List.{length-append}
use Rattle.std.proofs.lemmas.Result.{on_err_weaker}
use Rattle.chunk_catalog.specs.SegmentTrees.{pile_view}
use Rattle.chunk_catalog.proofs.Counting.{up_then}
use Rattle.chunk_catalog.proofs.segment_trees.SegmentTree.+scan.Goals as goal

pub returns-in_ok-scan-in-Fork-clause-at_most : goal.returns-in_ok-scan-in-Fork-clause-at_most
returns-in_ok-scan-in-Fork-clause-at_most g t c =
    let left = c.in-Fork.left.value.0 in
    let right = c.in-Fork.right.value.0 in
    let shown : length c.args.self.now.0 ≡ length left + length right =
    ap (λ d. length d.0) (sym c.self.view_is) ∙ (ap (λ s. length (pile_view s).0) c.in-Fork.is ∙ length-append left right) in
    let first : length c.deref.result.now.0 ≡ length left = ap (λ p. length p.0) c.deref.ensures in
    let second : length c.deref-in-Fork.result.now.0 ≡ length right = ap (λ p. length p.0) c.deref-in-Fork.ensures in
    on_err_weaker c.scan-in-Fork-2.result
    (λ up. up_then (length c.deref.result.now.0) (length c.deref-in-Fork.result.now.0) (length c.args.self.now.0) c.args.steps.now c.scan-in-Fork.new.steps c.scan-in-Fork-2.new.steps
    (omega (arith, c.count-so_far.type_inv, c.count-so_far.ensures.count)) c.in_ok-scan-in-Fork.ensures.ticks up (omega (arith, shown, first, second)))
    c.scan-in-Fork-2.ensures.at_most
