-- The edges between the places that the two searches found are those from the start of the span to its end.
use Rattle.std.proofs.Common.{◌≡◌, ◌∙◌, ℤ, ap, sym, subst, None, FitsSigned, arith, rules}
use Rattle.std.specs.Int.{w64, cast_signed, cast_unsigned}
use Rattle.std.proofs.lemmas.Int.{ints}
use Rattle.ts_bucket.specs.Spans.{SpanValue}
use Rattle.span_map.specs.Edges.{IsRising, value_from, place_below, place_upto}
use Rattle.span_map.specs.Changes.{edges_halfway}
use Rattle.span_map.proofs.ChangeLaws.{rising-changed, places_ordered, halfway_begins, halfway_ends}
use Rattle.span_map.proofs.edges.change_within.Goals as goal
use Rattle.span_map.proofs.edges.change_within.Goals.{After-take_out}

-- a number through the code's cast
cast_is : (x v : ℤ) → v ≡ x → FitsSigned w64 v → cast_signed w64 (cast_unsigned w64 v) ≡ x
cast_is x v same fits =
    let plain : cast_signed w64 (cast_unsigned w64 v) ≡ v = omega (arith, ints) in
    plain ∙ same

ends : (c : After-take_out) → edges_halfway c.args.span c.args.change c.change_between-kept.result c.places_upto-end.result c.change_between-kept.new.edges.items ≡ c.take_out.new.edges.items
ends c =
    let high : c.span.inside.hi ≡ c.args.span.hi = ap (λ (s : SpanValue). s.hi) c.span.view_is in
    let hi : cast_signed w64 (cast_unsigned w64 c.span.inside.hi) ≡ c.args.span.hi = omega (arith, ints) in
    halfway_ends c.args.span c.args.change c.args.edges.now.items c.change_between-kept.new.edges.items _ c.change_between-kept.result c.places_upto-end.result c.requires.rising hi (c.places_upto-end.ensures.place ∙ ap (place_upto (cast_signed w64 (cast_unsigned w64 c.span.inside.hi))) c.deref-2.ensures.value) c.change_between-kept.ensures.after
    ∙ sym c.take_out.ensures.items

pub change_between-kept-requires-clause-order : goal.change_between-kept-requires-clause-order
change_between-kept-requires-clause-order c =
    let le = places_ordered (cast_signed w64 (cast_unsigned w64 c.span.inside.lo)) (cast_signed w64 (cast_unsigned w64 c.span.inside.hi)) c.args.edges.now.items (omega (arith, ints)) in
    let first = c.places_below-first.ensures.place ∙ ap (place_below (cast_signed w64 (cast_unsigned w64 c.span.inside.lo))) c.deref.ensures.value in
    let end = c.places_upto-end.ensures.place ∙ ap (place_upto (cast_signed w64 (cast_unsigned w64 c.span.inside.hi))) c.deref-2.ensures.value in
    omega arith

pub change_between-kept-requires-clause-rising : goal.change_between-kept-requires-clause-rising
change_between-kept-requires-clause-rising c = subst IsRising (sym (halfway_begins c.args.span c.args.change c.args.edges.now.items _ c.places_below-first.result (cast_is c.args.span.lo c.span.inside.lo (ap (λ (s : SpanValue). s.lo) c.span.view_is) (search rules)) (c.places_below-first.ensures.place ∙ ap (place_below (cast_signed w64 (cast_unsigned w64 c.span.inside.lo))) c.deref.ensures.value))) (rising-changed c.args.span c.args.change c.args.edges.now.items c.requires.rising)

pub returns-clause-rising : goal.returns-clause-rising
returns-clause-rising c = subst IsRising (ends c) c.change_between-kept.ensures.rising

pub returns-clause-values : goal.returns-clause-values
returns-clause-values c = λ t. ap (λ es. value_from None es t) (sym (ends c)) ∙ c.change_between-kept.ensures.values t ∙ ap (λ es. value_from None es t) (halfway_begins c.args.span c.args.change c.args.edges.now.items _ c.places_below-first.result (cast_is c.args.span.lo c.span.inside.lo (ap (λ (s : SpanValue). s.lo) c.span.view_is) (search rules)) (c.places_below-first.ensures.place ∙ ap (place_below (cast_signed w64 (cast_unsigned w64 c.span.inside.lo))) c.deref.ensures.value))
