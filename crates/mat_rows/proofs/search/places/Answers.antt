-- The place of the end is at or after that of the start.
use Rattle.std.proofs.Common.{◌≡◌, ◌∙◌, ℤ, ap, subst, FitsSigned, arith, rules}
use Rattle.std.specs.Int.{w64, cast_signed, cast_unsigned}
use Rattle.std.proofs.lemmas.Int.{ints}
use Rattle.ts_bucket.specs.Spans.{SpanValue}
use Rattle.mat_rows.specs.Replacing.{PartsAt}
use Rattle.mat_rows.proofs.PlaceLaws.{parts_up}
use Rattle.mat_rows.proofs.search.places.Goals as goal

-- a number through the code's cast
cast_is : (x v : ℤ) → v ≡ x → FitsSigned w64 v → cast_signed w64 (cast_unsigned w64 v) ≡ x
cast_is x v same fits =
    let plain : cast_signed w64 (cast_unsigned w64 v) ≡ v = omega (arith, ints) in
    plain ∙ same

pub returns-clause-order : goal.returns-clause-order
returns-clause-order c = parts_up c.args.groups.now.items _ _ c.place_from-start.result c.place_from-end.result (omega (arith, ints)) c.place_from-start.ensures.bound c.place_from-end.ensures.bound c.place_from-start.ensures.parts c.place_from-end.ensures.parts

pub returns-clause-start_parts : goal.returns-clause-start_parts
returns-clause-start_parts c = subst (λ x. PartsAt x c.args.groups.now.items c.place_from-start.result) (cast_is c.args.span.lo c.span.inside.lo (ap (λ (s : SpanValue). s.lo) c.span.view_is) (search rules)) c.place_from-start.ensures.parts

pub returns-clause-end_parts : goal.returns-clause-end_parts
returns-clause-end_parts c = subst (λ x. PartsAt x c.args.groups.now.items c.place_from-end.result) (cast_is c.args.span.hi c.span.inside.hi (ap (λ (s : SpanValue). s.hi) c.span.view_is) (search rules)) c.place_from-end.ensures.parts
