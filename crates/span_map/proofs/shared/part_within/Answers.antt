-- The edges between the places of both ends, framed by them, have the values of the span.
use Rattle.std.proofs.Common.{◌≡◌, ◌∙◌, List, None, take, ap, sym, subst}
use Rattle.span_map.specs.declared.edges.Edge.{Edge}
use Rattle.span_map.specs.Edges.{IsRising, between, edges_between, last_value, value_from, value_on}
use Rattle.span_map.proofs.PatchLaws.{part_is}
use Rattle.span_map.proofs.PieceLaws.{rising-framed, value_from-framed}
use Rattle.span_map.proofs.shared.part_within.Goals.{In_ok-edges_of_part}
use Rattle.span_map.proofs.shared.part_within.Goals as goal

-- the edges built are those of the part
is : (c : In_ok-edges_of_part) → c.in_ok-edges_of_part.field-0.items ≡ edges_between c.args.span.lo c.args.span.hi (value_on c.args.span.lo c.args.edges.now.items) (between c.args.span.lo c.args.span.hi c.args.edges.now.items)
is c =
    let es = c.args.edges.now.items in
    let s = c.args.span in
    let part : c.deref.result.now ≡ between s.lo s.hi es =
    c.deref.ensures.value ∙ part_is s es c.in_ok-between.between.items c.places_within-first.result.0 c.places_within-first.result.1 c.requires.some c.places_within-first.ensures.start c.places_within-first.ensures.end c.in_ok-between.ensures in
    c.in_ok-edges_of_part.ensures
    ∙ (ap (λ v. edges_between s.lo s.hi v c.deref.result.now) (c.value_before-value.ensures ∙ ap (λ n. last_value None (take n es)) c.places_within-first.ensures.start)
    ∙ ap (edges_between s.lo s.hi (value_on s.lo es)) part)

pub of_edges-requires : goal.of_edges-requires
of_edges-requires c = subst IsRising (sym (is c)) (rising-framed c.args.span.lo c.args.span.hi c.args.edges.now.items c.requires.some c.requires.rising)

pub returns : goal.returns
returns c = record {
  values = λ t. ap (λ (es : List Edge). value_from None es t) (c.of_edges.ensures.edges ∙ is c.before.before) ∙ value_from-framed c.args.span c.args.edges.now.items t c.requires.some;
}
