-- Both ends get an edge, and the edges between change.
use Rattle.std.proofs.Common.{◌≡◌, ◌∙◌, ◌<ℤ◌, ap, sym, subst, None, map, arith}
use Rattle.std.specs.Int.{w64, cast_signed, cast_unsigned}
use Rattle.std.proofs.lemmas.Int.{ints}
use Rattle.ts_bucket.specs.Spans.{SpanValue}
use Rattle.span_map.specs.Edges.{IsRising, value_from}
use Rattle.span_map.specs.Changes.{with_edge, edge_changed}
use Rattle.span_map.proofs.ChangeLaws.{rising-with_edge, values-edges_changed}
use Rattle.span_map.proofs.edges.change_values.Goals as goal

pub split-requires-then-span-clause-rising : goal.split-requires-then-span-clause-rising
split-requires-then-span-clause-rising c = subst IsRising (sym c.split.ensures.items) (rising-with_edge None _ _ c.requires.rising)

-- the edges with one at each end of the span
split_twice : (c : goal.After-change_within) → c.split-then-span.new.edges.items ≡ with_edge None c.args.span.hi (with_edge None c.args.span.lo c.args.edges.now.items)
split_twice c =
    let low : c.span.inside.lo ≡ c.args.span.lo = ap (λ (s : SpanValue). s.lo) c.span.view_is in
    let high : c.span.inside.hi ≡ c.args.span.hi = ap (λ (s : SpanValue). s.hi) c.span.view_is in
    let lo : cast_signed w64 (cast_unsigned w64 c.span.inside.lo) ≡ c.args.span.lo = omega (arith, ints) in
    let hi : cast_signed w64 (cast_unsigned w64 c.span.inside.hi) ≡ c.args.span.hi = omega (arith, ints) in
    c.split-then-span.ensures.items ∙ ap (λ t. with_edge None t c.split.new.edges.items) hi
    ∙ ap (with_edge None c.args.span.hi) (c.split.ensures.items ∙ ap (λ t. with_edge None t c.args.edges.now.items) lo)

pub change_within-requires : goal.change_within-requires
change_within-requires c = record { rising = subst IsRising (sym c.split-then-span.ensures.items) (rising-with_edge None _ _ (subst IsRising (sym c.split.ensures.items) (rising-with_edge None _ _ c.requires.rising))) }

pub returns-then-span-clause-values : goal.returns-then-span-clause-values
returns-then-span-clause-values c =
    let some : c.args.span.lo <ℤ c.args.span.hi = grind (arith, ints) in
    λ t. c.change_within.ensures.values t
    ∙ ap (λ es. value_from None (map (edge_changed c.args.span c.args.change) es) t) (split_twice c)
    ∙ values-edges_changed c.args.span c.args.change c.args.edges.now.items some c.requires.rising t
