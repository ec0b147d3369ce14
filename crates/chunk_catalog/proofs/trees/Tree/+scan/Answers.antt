use Rattle.std.proofs.Common.{◌≡◌, ◌+◌, ◌∙◌, length, ap, sym, arith}
use Rattle.std.proofs.lemmas.Result.{err_from_is_err_and, on_err_weaker}
use Rattle.chunk_catalog.specs.Places.{in_chunk, versions_in}
use Rattle.chunk_catalog.specs.Trees.{tree_view}
use Rattle.chunk_catalog.proofs.Counting.{up_first, up_then}
use Rattle.chunk_catalog.proofs.PlaceLaws.{length_reached}
use Rattle.chunk_catalog.proofs.trees.Tree.+scan.Goals as goal

pub returns-in_err-scan-in-Fork-clause-at_most : goal.returns-in_err-scan-in-Fork-clause-at_most
returns-in_err-scan-in-Fork-clause-at_most g t c =
    let left = c.in-Fork.left.value.0 in
    let here = in_chunk c.in-Fork.chunk.start c.in-Fork.chunk.versions in
    let right = c.in-Fork.right.value.0 in
    let shown : length (versions_in c.args.reach c.args.self.now.0) ≡ length (versions_in c.args.reach left) + length (versions_in c.args.reach here) + length (versions_in c.args.reach right) =
    ap (λ d. length (versions_in c.args.reach d.0)) (sym c.self.view_is) ∙ (ap (λ n. length (versions_in c.args.reach (tree_view n).0)) c.in-Fork.is ∙ length_reached c.args.reach left here right) in
    let first : length (versions_in c.args.reach c.deref.result.now.0) ≡ length (versions_in c.args.reach left) = ap (λ v. length (versions_in c.args.reach v.0)) c.deref.ensures in
    let p = err_from_is_err_and c.from_residual.result c.from_residual.ensures.1 in
    rw p.1 (up_first (length (versions_in c.args.reach c.deref.result.now.0)) (length (versions_in c.args.reach c.args.self.now.0)) c.args.steps.now c.scan.new.steps c.in_err-scan-in-Fork.ensures.at_most (omega (arith, shown, first)))

pub returns-in_err-scan_in-in-Fork-clause-at_most : goal.returns-in_err-scan_in-in-Fork-clause-at_most
returns-in_err-scan_in-in-Fork-clause-at_most g t c =
    let left = c.in-Fork.left.value.0 in
    let here = in_chunk c.in-Fork.chunk.start c.in-Fork.chunk.versions in
    let right = c.in-Fork.right.value.0 in
    let shown : length (versions_in c.args.reach c.args.self.now.0) ≡ length (versions_in c.args.reach left) + length (versions_in c.args.reach here) + length (versions_in c.args.reach right) =
    ap (λ d. length (versions_in c.args.reach d.0)) (sym c.self.view_is) ∙ (ap (λ n. length (versions_in c.args.reach (tree_view n).0)) c.in-Fork.is ∙ length_reached c.args.reach left here right) in
    let first : length (versions_in c.args.reach c.deref.result.now.0) ≡ length (versions_in c.args.reach left) = ap (λ v. length (versions_in c.args.reach v.0)) c.deref.ensures in
    let p = err_from_is_err_and c.from_residual-in_err-scan_in-in-Fork.result c.from_residual-in_err-scan_in-in-Fork.ensures.1 in
    rw p.1 (up_then (length (versions_in c.args.reach c.deref.result.now.0)) (length (versions_in c.args.reach here)) (length (versions_in c.args.reach c.args.self.now.0)) c.args.steps.now c.scan.new.steps c.scan_in.new.steps
    (omega (arith, c.count-so_far.type_inv, c.count-so_far.ensures.count)) c.in_ok-scan-in-Fork.ensures.ticks c.in_err-scan_in-in-Fork.ensures.at_most (omega (arith, shown, first)))

pub returns-in_ok-scan_in-in-Fork-clause-at_most : goal.returns-in_ok-scan_in-in-Fork-clause-at_most
returns-in_ok-scan_in-in-Fork-clause-at_most g t c =
    let left = c.in-Fork.left.value.0 in
    let here = in_chunk c.in-Fork.chunk.start c.in-Fork.chunk.versions in
    let right = c.in-Fork.right.value.0 in
    let shown : length (versions_in c.args.reach c.args.self.now.0) ≡ length (versions_in c.args.reach left) + length (versions_in c.args.reach here) + length (versions_in c.args.reach right) =
    ap (λ d. length (versions_in c.args.reach d.0)) (sym c.self.view_is) ∙ (ap (λ n. length (versions_in c.args.reach (tree_view n).0)) c.in-Fork.is ∙ length_reached c.args.reach left here right) in
    let first : length (versions_in c.args.reach c.deref.result.now.0) ≡ length (versions_in c.args.reach left) = ap (λ v. length (versions_in c.args.reach v.0)) c.deref.ensures in
    let last : length (versions_in c.args.reach c.deref-in-Fork.result.now.0) ≡ length (versions_in c.args.reach right) = ap (λ v. length (versions_in c.args.reach v.0)) c.deref-in-Fork.ensures in
    on_err_weaker c.scan-in-Fork.result
    (λ up. up_then (length (versions_in c.args.reach c.deref.result.now.0) + length (versions_in c.args.reach here)) (length (versions_in c.args.reach c.deref-in-Fork.result.now.0)) (length (versions_in c.args.reach c.args.self.now.0)) c.args.steps.now c.scan_in.new.steps c.scan-in-Fork.new.steps
    (omega (arith, c.count-so_far.type_inv, c.count-so_far.ensures.count)) (omega (arith, c.in_ok-scan-in-Fork.ensures.ticks, c.in_ok-scan_in-in-Fork.ensures.ticks)) up (omega (arith, shown, first, last)))
    c.scan-in-Fork.ensures.at_most
