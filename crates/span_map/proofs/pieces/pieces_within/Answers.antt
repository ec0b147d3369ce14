-- The pieces found are those between the ends of the span.
use Rattle.std.proofs.Common.{◌≡◌, ◌∙◌, ap, arith}
use Rattle.std.specs.Int.{w64, cast_signed, cast_unsigned}
use Rattle.std.proofs.lemmas.Int.{ints}
use Rattle.ts_bucket.specs.Spans.{SpanValue}
use Rattle.span_map.specs.Edges.{value_on, between}
use Rattle.span_map.specs.Pieces.{pieces_from}
use Rattle.span_map.proofs.PieceLaws.{values_as, rising_as}
use Rattle.span_map.proofs.pieces.pieces_within.Goals as goal

is : (c : goal.After-pieces_between) → pieces_from (cast_signed w64 (cast_unsigned w64 c.span.inside.lo)) (cast_signed w64 (cast_unsigned w64 c.span.inside.hi)) c.part_within-value.result.0 c.part_within-value.result.1.now ≡ pieces_from c.args.span.lo c.args.span.hi (value_on c.args.span.lo c.args.edges.now) (between c.args.span.lo c.args.span.hi c.args.edges.now)
is c =
    let low : c.span.inside.lo ≡ c.args.span.lo = ap (λ (s : SpanValue). s.lo) c.span.view_is in
    let high : c.span.inside.hi ≡ c.args.span.hi = ap (λ (s : SpanValue). s.hi) c.span.view_is in
    let lo : cast_signed w64 (cast_unsigned w64 c.span.inside.lo) ≡ c.args.span.lo = omega (arith, ints) in
    let hi : cast_signed w64 (cast_unsigned w64 c.span.inside.hi) ≡ c.args.span.hi = omega (arith, ints) in
    ap (λ x. pieces_from x (cast_signed w64 (cast_unsigned w64 c.span.inside.hi)) c.part_within-value.result.0 c.part_within-value.result.1.now) lo
    ∙ ap (λ x. pieces_from c.args.span.lo x c.part_within-value.result.0 c.part_within-value.result.1.now) hi
    ∙ ap (λ v. pieces_from c.args.span.lo c.args.span.hi v c.part_within-value.result.1.now) c.part_within-value.ensures.value
    ∙ ap (pieces_from c.args.span.lo c.args.span.hi (value_on c.args.span.lo c.args.edges.now)) c.part_within-value.ensures.edges

pub returns-clause-values : goal.returns-clause-values
returns-clause-values c = values_as c.args.span c.args.edges.now c.pieces_between.result _ c.requires (is c) c.pieces_between.ensures

pub returns-clause-rising : goal.returns-clause-rising
returns-clause-rising c = rising_as c.args.span c.args.edges.now c.pieces_between.result _ c.requires (is c) c.pieces_between.ensures
