-- The patch takes the places from the start of the span up to its end.
use Rattle.std.proofs.Common.{◌≡◌, ◌∙◌, List, None, take, ap, sym, subst}
use Rattle.block_list.specs.Lists.{splice}
use Rattle.span_map.specs.declared.edges.Edge.{Edge}
use Rattle.span_map.specs.Edges.{IsRising, last_value, place_below, place_upto, value_from}
use Rattle.span_map.specs.Patches.{patch_of}
use Rattle.span_map.proofs.PatchLaws.{patched_is, patched_rises, patched_values}
use Rattle.span_map.proofs.shared.patched_edges.Goals.{In_ok-replace}
use Rattle.span_map.proofs.shared.patched_edges.Goals as goal

-- the edges of a patch between those before it and those after it
abbrev whole : (c : In_ok-replace) → List Edge
whole c =
    let es = c.args.edges.now.items in
    let s = c.args.span in
    splice (place_below s.lo es) (place_upto s.hi es) (patch_of s (last_value None (take (place_below s.lo es) es)) c.args.part.now (last_value None (take (place_upto s.hi es) es))) es

is : (c : In_ok-replace) → c.in_ok-replace.field-0.items ≡ whole c
is c =
    let first = c.places_around-first.result.0 in
    let end = c.places_around-first.result.1 in
    c.in_ok-replace.ensures.items
    ∙ patched_is c.args.span c.args.edges.now.items c.args.part.now c.deref.result.now first end c.value_before-before.result c.value_before-after.result
    c.places_around-first.ensures.start c.places_around-first.ensures.end c.value_before-before.ensures c.value_before-after.ensures (c.deref.ensures.value ∙ c.in_ok-patch.ensures)

pub invariant_of-result : goal.invariant_of-result
invariant_of-result c = subst IsRising (sym (is c)) (patched_rises c.args.span c.args.edges.now.items c.args.part.now c.requires.some c.requires.rising c.requires.part)

pub returns : goal.returns
returns c = record {
  values = λ t. ap (λ (es : List Edge). value_from None es t) (is c.before) ∙ patched_values c.args.span c.args.edges.now.items c.args.part.now c.requires.some c.requires.rising c.requires.part t;
}
