-- What starts in a span and in the range of buckets starts between the greater start and the lesser end.
use Rattle.std.proofs.Common.{◌≡◌, ◌∙◌, ℤ, ◌≤ℤ◌, ap, FitsSigned, arith, rules}
use Rattle.std.specs.Int.{w64, cast_signed, cast_unsigned, int_min, int_max}
use Rattle.std.proofs.lemmas.Int.{ints, to_z-of_z}
use Rattle.ts_bucket.specs.Bucket.{first_of}
use Rattle.ts_bucket.specs.Spans.{SpanValue}
use Rattle.ts_bucket.specs.WholeSpans.{whole_span}
use Rattle.ts_bucket.proofs.WholeSpanLaws.{first_low, in_both}
use Rattle.ts_bucket.proofs.whole_spans.buckets_in.Goals as goal

-- the greater start and the lesser end, without the code's casts
from_is : (x y lo first m : ℤ) → FitsSigned w64 x → FitsSigned w64 y → FitsSigned w64 m → x ≡ lo → y ≡ first → m ≡ int_max (cast_signed w64 (cast_unsigned w64 x)) (cast_signed w64 (cast_unsigned w64 y)) → cast_signed w64 (cast_unsigned w64 m) ≡ int_max lo first
from_is x y lo first m p q r e f g =
    to_z-of_z w64 m r ∙ g ∙ ap (λ a. int_max a (cast_signed w64 (cast_unsigned w64 y))) (to_z-of_z w64 x p ∙ e) ∙ ap (int_max lo) (to_z-of_z w64 y q ∙ f)

to_is : (x y hi last m : ℤ) → FitsSigned w64 x → FitsSigned w64 y → FitsSigned w64 m → x ≡ hi → y ≡ last → m ≡ int_min (cast_signed w64 (cast_unsigned w64 x)) (cast_signed w64 (cast_unsigned w64 y)) → cast_signed w64 (cast_unsigned w64 m) ≡ int_min hi last
to_is x y hi last m p q r e f g =
    to_z-of_z w64 m r ∙ g ∙ ap (λ a. int_min a (cast_signed w64 (cast_unsigned w64 y))) (to_z-of_z w64 x p ∙ e) ∙ ap (int_min hi) (to_z-of_z w64 y q ∙ f)

greater_start : (c : goal.After-buckets_between) → cast_signed w64 (cast_unsigned w64 c.max.result) ≡ int_max c.args.starts.lo (first_of c.args.w)
greater_start c = from_is c.starts.inside.lo c.all.inside.lo c.args.starts.lo (first_of c.args.w) c.max.result (search rules) (search rules) (search rules) (ap (λ (s : SpanValue). s.lo) c.starts.view_is) (ap (λ (s : SpanValue). s.lo) (c.all.view_is ∙ c.all_buckets-all.ensures.value)) c.max.ensures.value

lesser_end : (c : goal.After-buckets_between) → cast_signed w64 (cast_unsigned w64 c.min.result) ≡ int_min c.args.starts.hi (whole_span c.args.w).hi
lesser_end c = to_is c.starts.inside.hi c.all.inside.hi c.args.starts.hi (whole_span c.args.w).hi c.min.result (search rules) (search rules) (search rules) (ap (λ (s : SpanValue). s.hi) c.starts.view_is) (ap (λ (s : SpanValue). s.hi) (c.all.view_is ∙ c.all_buckets-all.ensures.value)) c.min.ensures.value

low : (c : goal.After-min) → first_of c.args.w ≤ℤ cast_signed w64 (cast_unsigned w64 c.max.result)
low c =
    let fits : FitsSigned w64 c.max.result = search rules in
    let first : c.all.inside.lo ≡ first_of c.args.w = ap (λ (s : SpanValue). s.lo) (c.all.view_is ∙ c.all_buckets-all.ensures.value) in
    let word : FitsSigned w64 c.all.inside.lo = search rules in
    let bound : cast_signed w64 (cast_unsigned w64 c.all.inside.lo) ≤ℤ c.max.result = c.max.ensures.other_bound in
    omega (arith, ints)

pub buckets_between-requires-clause-reach : goal.buckets_between-requires-clause-reach
buckets_between-requires-clause-reach c =
    let least = first_low c.args.w c.all_buckets-all.ensures.bounds in
    let above : first_of c.args.w ≤ℤ cast_signed w64 (cast_unsigned w64 c.max.result) = low c in
    omega (arith, ints)

pub buckets_between-requires-clause-low : goal.buckets_between-requires-clause-low
buckets_between-requires-clause-low c = low c

pub buckets_between-requires-clause-high : goal.buckets_between-requires-clause-high
buckets_between-requires-clause-high c =
    let fits : FitsSigned w64 c.min.result = search rules in
    let last : c.all.inside.hi ≡ (whole_span c.args.w).hi = ap (λ (s : SpanValue). s.hi) (c.all.view_is ∙ c.all_buckets-all.ensures.value) in
    let word : FitsSigned w64 c.all.inside.hi = search rules in
    let bound : c.min.result ≤ℤ cast_signed w64 (cast_unsigned w64 c.all.inside.hi) = c.min.ensures.other_bound in
    omega (arith, ints)

pub returns-clause-exact : goal.returns-clause-exact
returns-clause-exact c = λ b p. c.buckets_between.ensures.exact b p ∙ in_both c.args.starts (whole_span c.args.w) _ _ b (greater_start c) (lesser_end c)
