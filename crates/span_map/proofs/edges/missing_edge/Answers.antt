-- The edge goes to its place, unless one is there.
use Rattle.std.proofs.Common.{◌≡◌, ◌∙◌, ap, drop, insert, FitsSigned}
use Rattle.std.specs.Int.{w64}
use Rattle.std.proofs.lemmas.Int.{to_z-of_z}
use Rattle.span_map.specs.Edges.{place_below, begins_at}
use Rattle.span_map.proofs.ChangeLaws.{missing_there, missing_absent}
use Rattle.span_map.proofs.edges.missing_edge.Goals as goal

pub returns-then-is_at : goal.returns-then-is_at
returns-then-is_at c =
    let fits : FitsSigned w64 c.args.t = c.ranges.t in
    let place : c.places_below-place.result ≡ place_below c.args.t c.args.edges.now = simp to_z-of_z at c.places_below-place.ensures.place in
    let there : c.is_at.result ≡ begins_at c.args.t (drop c.places_below-place.result c.args.edges.now) = simp to_z-of_z at c.is_at.ensures in
    missing_there c.args.t c.args.edges.now c.places_below-place.result c.is_at.result place there c.if-is_at.true

pub returns : goal.returns
returns c =
    let fits : FitsSigned w64 c.args.t = c.ranges.t in
    let place : c.places_below-place.result ≡ place_below c.args.t c.args.edges.now = simp to_z-of_z at c.places_below-place.ensures.place in
    let there : c.is_at.result ≡ begins_at c.args.t (drop c.places_below-place.result c.args.edges.now) = simp to_z-of_z at c.is_at.ensures in (
      c.places_below-place.ensures.bound,
      ap (λ x. insert c.args.edges.now c.places_below-place.result (record { from = x; value = c.value_after-value.result })) (to_z-of_z w64 c.args.t fits)
          ∙ missing_absent c.args.t c.args.edges.now c.places_below-place.result c.is_at.result c.value_after-value.result place there c.if-is_at.false c.value_after-value.ensures,
    )
