-- The value at a number is that after the edges at or below it.
use Rattle.std.proofs.Common.{◌≡◌, ◌∙◌, None, take, sym, ap, FitsSigned}
use Rattle.std.specs.Int.{w64}
use Rattle.std.proofs.lemmas.Int.{to_z-of_z}
use Rattle.span_map.specs.Maps.{MapValue}
use Rattle.span_map.specs.Edges.{last_value, place_upto, value_from}
use Rattle.span_map.proofs.EdgeLaws.{value_from-place}
use Rattle.span_map.proofs.shared.SharedMap.at.Goals as goal

pub returns : goal.returns
returns c =
    let fits : FitsSigned w64 c.args.t = c.ranges.t in
    let es = c.self.inside.edges.items in
    let place : c.place.result ≡ place_upto c.args.t es = simp to_z-of_z at c.place.ensures.place in
    record {
      value = c.value_before.ensures ∙ (ap (λ n. last_value None (take n es)) place ∙ (sym (value_from-place None es c.args.t) ∙ ap (λ (m : MapValue). value_from None m.edges c.args.t) c.self.view_is));
    }
