-- The start of a bucket is the first at or above itself; any other number has the end of its bucket.
use Rattle.std.proofs.Common.{◌≡◌, ◌∙◌, pos, true, false, int_lt, ℤ, ◌+ℤ◌, ◌≤ℤ◌, ◌<ℤ◌, ap, sym, subst, FitsSigned, arith, rules}
use Rattle.std.specs.Int.{w64, cast_signed, cast_unsigned}
use Rattle.std.proofs.lemmas.Int.{ints, to_z-of_z}
use Rattle.ts_bucket.specs.Bucket.{WidthValue, IsWidth, bucket_of}
use Rattle.ts_bucket.specs.WholeSpans.{whole_span, greatest}
use Rattle.ts_bucket.specs.Windows.{start_from}
use Rattle.ts_bucket.proofs.BucketLaws.{bucket_of_meets}
use Rattle.ts_bucket.proofs.WholeSpanLaws.{start_from-bucket, start_from-end, start_from-in_range, range_end}
use Rattle.ts_bucket.proofs.windows.next_start.Goals as goal

-- the end of the bucket of a number that doesn't start it is a number of 64 bits
end_fits : (w : WidthValue) (t : ℤ) → IsWidth w → t ≤ℤ (whole_span w).hi → bucket_of w t <ℤ t → (bucket_of w t +ℤ w.step) ≤ℤ greatest
end_fits w t h le below =
    let is : start_from w t ≡ bucket_of w t +ℤ w.step = start_from-end w t h below in
    let inside : start_from w t ≤ℤ (whole_span w).hi = start_from-in_range w t h le in
    let end : (whole_span w).hi ≤ℤ greatest = (range_end w h).0 in
    omega (arith, ints)

sum_fits : (w : WidthValue) (t b step : ℤ) → IsWidth w → t ≤ℤ (whole_span w).hi → FitsSigned w64 b → FitsSigned w64 t → b ≡ bucket_of w t → step ≡ w.step → b <ℤ t → FitsSigned w64 (b +ℤ step)
sum_fits w t b step h le fits-b fits-t is step_is below =
    let under : bucket_of w t <ℤ t = subst (λ x. x <ℤ t) is below in
    let end : (bucket_of w t +ℤ w.step) ≤ℤ greatest = end_fits w t h le under in
    let positive : pos 0 <ℤ w.step = h.positive in
    omega (arith, ints)

-- the code's number, without its casts
sum_is : (b step : ℤ) → FitsSigned w64 b → FitsSigned w64 step → FitsSigned w64 (b +ℤ step) → cast_signed w64 (cast_unsigned w64 (cast_signed w64 (cast_unsigned w64 b) +ℤ cast_signed w64 (cast_unsigned w64 step))) ≡ b +ℤ step
sum_is b step p q r = omega (arith, ints)

-- what is known if the bucket starts below the number
record Known (w : WidthValue) (t b step : ℤ) : Type 0 where
  bounds : IsWidth w
  start_fits : FitsSigned w64 b
  step_fits : FitsSigned w64 step
  sum_fits_too : FitsSigned w64 (b +ℤ step)
  is : b ≡ bucket_of w t
  step_is : step ≡ w.step
  below : bucket_of w t <ℤ t

known : (c : goal.After-struct_told-1) → Known c.args.w c.args.t c.bucket_start-start.result c.w.inside.step
known c =
    let bounds : IsWidth c.args.w = subst IsWidth c.w.view_is c.w.invariant in
    let fits : FitsSigned w64 c.bucket_start-start.result = search rules in
    let time : FitsSigned w64 c.args.t = c.ranges.t in
    let step : FitsSigned w64 c.w.inside.step = search rules in
    let is : c.bucket_start-start.result ≡ bucket_of c.args.w c.args.t = c.bucket_start-start.ensures.value ∙ ap (bucket_of c.args.w) (to_z-of_z w64 c.args.t time) in
    let step_is : c.w.inside.step ≡ c.args.w.step = ap (λ (v : WidthValue). v.step) c.w.view_is in
    let less : int_lt c.bucket_start-start.result c.args.t ≡ true = rw (to_z-of_z w64 c.bucket_start-start.result fits, to_z-of_z w64 c.args.t time) at c.if-start-t.true in
    let below : c.bucket_start-start.result <ℤ c.args.t = grind (arith, ints) in
    record {
      bounds = bounds;
      start_fits = fits;
      step_fits = step;
      sum_fits_too = sum_fits c.args.w c.args.t c.bucket_start-start.result c.w.inside.step bounds c.requires.high fits time is step_is below;
      is = is;
      step_is = step_is;
      below = subst (λ x. x <ℤ c.args.t) is below;
    }

pub overflow_add-result : goal.overflow_add-result
overflow_add-result c =
    let k = known c in
    rw (to_z-of_z w64 c.bucket_start-start.result k.start_fits, to_z-of_z w64 c.w.inside.step k.step_fits) k.sum_fits_too

pub returns-then-start-t-clause-value : goal.returns-then-start-t-clause-value
returns-then-start-t-clause-value c =
    let k = known c in
    sum_is c.bucket_start-start.result c.w.inside.step k.start_fits k.step_fits k.sum_fits_too
    ∙ ap (λ x. x +ℤ c.w.inside.step) k.is
    ∙ ap (λ x. bucket_of c.args.w c.args.t +ℤ x) k.step_is
    ∙ sym (start_from-end c.args.w c.args.t k.bounds k.below)

pub returns-else-start-t-clause-value : goal.returns-else-start-t-clause-value
returns-else-start-t-clause-value c =
    let bounds : IsWidth c.args.w = subst IsWidth c.w.view_is c.w.invariant in
    let fits : FitsSigned w64 c.bucket_start-start.result = search rules in
    let time : FitsSigned w64 c.args.t = c.ranges.t in
    let is : c.bucket_start-start.result ≡ bucket_of c.args.w c.args.t = c.bucket_start-start.ensures.value ∙ ap (bucket_of c.args.w) (to_z-of_z w64 c.args.t time) in
    let less : int_lt c.bucket_start-start.result c.args.t ≡ false = rw (to_z-of_z w64 c.bucket_start-start.result fits, to_z-of_z w64 c.args.t time) at c.if-start-t.false in
    let above : c.args.t ≤ℤ c.bucket_start-start.result = grind (arith, ints) in
    let low : bucket_of c.args.w c.args.t ≤ℤ c.args.t = (bucket_of_meets c.args.w c.args.t bounds).at_or_below in
    let same : bucket_of c.args.w c.args.t ≡ c.args.t = omega (arith, ints) in
    to_z-of_z w64 c.args.t time ∙ sym (start_from-bucket c.args.w c.args.t bounds same)
