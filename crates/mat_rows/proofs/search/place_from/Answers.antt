-- The search drops the half of the places that can't be that of the first group from the number on.
use Rattle.std.proofs.Common.{◌≡◌, ◌∙◌, ◌+◌, ◌-◌, ◌/◌, true, false, int_lt, refl, sym, ap, subst, FitsSigned, arith, rules}
use Rattle.std.specs.Int.{w64}
use Rattle.std.proofs.lemmas.Int.{to_z-of_z}
use Rattle.partial_agg.specs.declared.groups.Group.{Group}
use Rattle.mat_rows.proofs.PlaceLaws.{IsNarrowed, order_starts, narrowed_up, narrowed_down, narrowed_point}
use Rattle.mat_rows.proofs.search.place_from.Goals as goal

pub loop-low-preserved-then-get-x : goal.loop-low-preserved-then-get-x
loop-low-preserved-then-get-x c =
    let fits-x : FitsSigned w64 c.args.x = search rules in
    let fits : FitsSigned w64 c.get.result.now.start = search rules in
    let less : int_lt c.get.result.now.start c.args.x ≡ true = simp to_z-of_z at c.if-get-x.true in
    subst (λ z. IsNarrowed c.args.groups.now.items z (c.loop-low.low + (c.loop-low.high - c.loop-low.low) / 2 + 1) c.loop-low.high) (sym (to_z-of_z w64 c.args.x fits-x))
    (narrowed_up c.args.groups.now.items c.args.x c.loop-low.low c.loop-low.high (c.loop-low.low + (c.loop-low.high - c.loop-low.low) / 2) _ _ c.get.result.now (order_starts c.args.groups.now.items c.requires) refl refl (omega arith) (omega arith)
    (ap (λ (g : Group). int_lt g.start c.args.x) (sym c.get.ensures.item) ∙ less) (subst (λ z. IsNarrowed c.args.groups.now.items z c.loop-low.low c.loop-low.high) (to_z-of_z w64 c.args.x fits-x) c.loop-low.invariant))

pub loop-low-preserved : goal.loop-low-preserved
loop-low-preserved c =
    let fits-x : FitsSigned w64 c.args.x = search rules in
    let fits : FitsSigned w64 c.get.result.now.start = search rules in
    let not_less : int_lt c.get.result.now.start c.args.x ≡ false = simp to_z-of_z at c.if-get-x.false in
    subst (λ z. IsNarrowed c.args.groups.now.items z c.loop-low.low (c.loop-low.low + (c.loop-low.high - c.loop-low.low) / 2)) (sym (to_z-of_z w64 c.args.x fits-x))
    (narrowed_down c.args.groups.now.items c.args.x c.loop-low.low c.loop-low.high (c.loop-low.low + (c.loop-low.high - c.loop-low.low) / 2) _ _ c.get.result.now (order_starts c.args.groups.now.items c.requires) refl refl (omega arith) (omega arith)
    (ap (λ (g : Group). int_lt g.start c.args.x) (sym c.get.ensures.item) ∙ not_less) (subst (λ z. IsNarrowed c.args.groups.now.items z c.loop-low.low c.loop-low.high) (to_z-of_z w64 c.args.x fits-x) c.loop-low.invariant))

pub returns-clause-parts : goal.returns-clause-parts
returns-clause-parts c =
    let fits-x : FitsSigned w64 c.args.x = search rules in
    narrowed_point c.args.groups.now.items c.args.x c.loop-low.low c.loop-low.high (omega arith) (subst (λ z. IsNarrowed c.args.groups.now.items z c.loop-low.low c.loop-low.high) (to_z-of_z w64 c.args.x fits-x) c.loop-low.invariant)
