-- Each pass moves past the next number of either map.
use Rattle.std.proofs.Common.{◌≡◌, ◌∙◌, Some, ap, sym, FitsSigned, rules}
use Rattle.std.specs.Int.{w64}
use Rattle.std.proofs.lemmas.Int.{to_z-of_z}
use Rattle.span_map.specs.Combined.{earliest, with_last}
use Rattle.span_map.proofs.CombineLaws.{combining_as}
use Rattle.span_map.proofs.combine.combine.Goals as goal

pub loop-from-preserved : goal.loop-from-preserved
loop-from-preserved c =
    let fits : FitsSigned w64 c.in-Some.from = search rules in
    let next : earliest c.loop-from.left.now c.loop-from.right.now ≡ Some c.in-Some.from = sym c.next_from.ensures ∙ c.in-Some.is in
    combining_as c.args.rule c.args.first.now c.args.second.now c.loop-from.edges.items c.loop-from.mine c.loop-from.left.now c.loop-from.other c.loop-from.right.now c.in-Some.from _ _ _ _ _ next
    (simp to_z-of_z at c.skip_edges-value.ensures.value)
    (simp to_z-of_z at c.skip_edges-value.ensures.edges)
    (simp to_z-of_z at c.skip_edges-value-in-Some.ensures.value)
    (simp to_z-of_z at c.skip_edges-value-in-Some.ensures.edges)
    (c.in_ok-push_edge.ensures ∙ ap (λ x. with_last c.loop-from.edges.items (record { from = x; value = c.combine_values-value.result })) (to_z-of_z w64 c.in-Some.from fits) ∙ ap (λ u. with_last c.loop-from.edges.items (record { from = c.in-Some.from; value = u })) c.combine_values-value.ensures)
    c.loop-from.invariant
