-- Laws of ranges.
use Rattle.std.proofs.Common.{◌≡◌, true, Bool, ◌&&◌, ℤ, List, ◌∙◌}
use Rattle.ts_bucket.specs.Bucket.{WidthValue, is_bucket}
use Rattle.ts_bucket.specs.Spans.{SpanValue}
use Rattle.ts_bucket.specs.Ranges.{is_asked, AreRanges}

-- the ranges of the buckets that pass a test are those of any test that the same buckets pass
pub AreRanges-same : (w : WidthValue) (s t : SpanValue) (p q : ℤ → Bool) (found : List SpanValue) → ((b : ℤ) → is_bucket w b ≡ true → (is_asked w s b && p b) ≡ (is_asked w t b && q b)) → AreRanges w s p found → AreRanges w t q found
AreRanges-same w s t p q found same are = record {
  whole = are.whole;
  rising = are.rising;
  exact = λ b bucket. are.exact b bucket ∙ same b bucket;
}
