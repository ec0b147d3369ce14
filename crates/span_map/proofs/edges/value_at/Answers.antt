-- The value at a number is that after the edges at or below it.
use Rattle.std.proofs.Common.{◌≡◌, None, sym, ap, ◌∙◌, take, FitsSigned}
use Rattle.std.specs.Int.{w64}
use Rattle.std.proofs.lemmas.Int.{to_z-of_z}
use Rattle.span_map.specs.Edges.{last_value, place_upto}
use Rattle.span_map.proofs.EdgeLaws.{value_from-place}
use Rattle.span_map.proofs.edges.value_at.Goals as goal

pub returns : goal.returns
returns c =
    let fits : FitsSigned w64 c.args.t = c.ranges.t in
    let place : c.places_upto.result ≡ place_upto c.args.t c.args.edges.now = simp to_z-of_z at c.places_upto.ensures.place in
    c.value_after.ensures ∙ ap (λ n. last_value None (take n c.args.edges.now)) place
    ∙ sym (value_from-place None c.args.edges.now c.args.t)
