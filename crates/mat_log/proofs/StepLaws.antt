-- The two functions of a log stay in step through each change.
use Rattle.std.proofs.Common.{◌≡◌, ℕ, Bool, true, false, cond, ◌&&◌, ◌||◌, ℤ, Option, Some, None, is_some, refl, sym, ap, ◌∙◌}
use Rattle.std.proofs.Math.Bool.{or-true}
use Rattle.ts_bucket.specs.Bucket.{WidthValue, IsWidth, is_bucket, bucket_of}
use Rattle.ts_bucket.specs.Positions.{later, above, is_before}
use Rattle.ts_bucket.specs.Spans.{SpanValue, in_span}
use Rattle.ts_bucket.proofs.BucketLaws.{is_bucket-bucket_of, is_bucket-first}
use Rattle.ts_bucket.specs.WholeSpans.{whole_span, greatest}
use Rattle.mat_log.specs.Logs.{IsInStep}
use Rattle.ts_bucket.proofs.WholeSpanLaws.{in_span-bucket}

-- a function that has one value for a whole bucket still has after each of its values was changed by a rule for the whole bucket
one_after : (w : WidthValue) (f g : ℤ → Option ℕ) (rule : ℤ → Option ℕ → Option ℕ) → ((t : ℤ) → g t ≡ rule t (f t)) → ((t : ℤ) → f t ≡ f (bucket_of w t)) → ((t : ℤ) (v : Option ℕ) → rule t v ≡ rule (bucket_of w t) v) → (t : ℤ) → g t ≡ g (bucket_of w t)
one_after w f g rule is one same t = is t ∙ ap (rule t) (one t) ∙ same t (f (bucket_of w t)) ∙ sym (is (bucket_of w t))

-- all buckets pending, none refreshed
pub in_step-new : (w : WidthValue) (pending refreshed : ℤ → Option ℕ) (made : ℕ) → IsWidth w → ((t : ℤ) → pending t ≡ cond (in_span (whole_span w) t) (Some made) None) → ((t : ℤ) → refreshed t ≡ None) → IsInStep w pending refreshed
in_step-new w pending refreshed made h p r = record {
  bounds = h;
  one_pending = λ t. p t ∙ ap (λ b. cond b (Some made) None) (in_span-bucket w (whole_span w) t h (is_bucket-first w h) (is_bucket-bucket_of w greatest h)) ∙ sym (p (bucket_of w t));
  one_refreshed = λ t. r t ∙ sym (r (bucket_of w t));
  marked = λ t inside. ap (λ v. is_some (refreshed t) || is_some v) (p t ∙ ap (λ b. cond b (Some made) None) inside) ∙ or-true (is_some (refreshed t));
}

-- the same functions
pub in_step-same : (w : WidthValue) (p r p' r' : ℤ → Option ℕ) → IsInStep w p r → ((t : ℤ) → p' t ≡ p t) → ((t : ℤ) → r' t ≡ r t) → IsInStep w p' r'
in_step-same w p r p' r' h e f = record {
  bounds = h.bounds;
  one_pending = λ t. e t ∙ h.one_pending t ∙ sym (e (bucket_of w t));
  one_refreshed = λ t. f t ∙ h.one_refreshed t ∙ sym (f (bucket_of w t));
  marked = λ t inside. ap (λ v. is_some v || is_some (p' t)) (f t) ∙ ap (λ v. is_some (r t) || is_some v) (e t) ∙ h.marked t inside;
}

-- after an entry
pub in_step-fed : (w : WidthValue) (p r p' : ℤ → Option ℕ) (s : SpanValue) (pos : ℕ) → IsInStep w p r → is_bucket w s.lo ≡ true → is_bucket w s.hi ≡ true → ((t : ℤ) → p' t ≡ cond (in_span s t && is_before pos (r t)) (Some pos) (p t)) → IsInStep w p' r
in_step-fed w p r p' s pos h lo hi e = record {
  bounds = h.bounds;
  one_pending = one_after w p p' (λ t v. cond (in_span s t && is_before pos (r t)) (Some pos) v) e h.one_pending (λ t v. ap (λ b. cond (b && is_before pos (r t)) (Some pos) v) (in_span-bucket w s t h.bounds lo hi) ∙ ap (λ x. cond (in_span s (bucket_of w t) && is_before pos x) (Some pos) v) (h.one_refreshed t));
  one_refreshed = h.one_refreshed;
  marked = λ t inside. ap (λ v. is_some (r t) || is_some v) (e t) ∙ still (in_span s t && is_before pos (r t)) (is_some (r t)) (p t) (h.marked t inside);
}
  where
    still : (b c : Bool) (v : Option ℕ) → (c || is_some v) ≡ true → (c || is_some (cond b (Some pos) v)) ≡ true
    still b true v m = refl
    still true false v m = refl
    still false false v m = m

-- after a refresh
pub in_step-settled : (w : WidthValue) (p r p' r' : ℤ → Option ℕ) (s : SpanValue) (snap : ℕ) → IsInStep w p r → is_bucket w s.lo ≡ true → is_bucket w s.hi ≡ true → ((t : ℤ) → p' t ≡ cond (in_span s t) (above snap (p t)) (p t)) → ((t : ℤ) → r' t ≡ cond (in_span s t) (later (r t) (Some snap)) (r t)) → IsInStep w p' r'
in_step-settled w p r p' r' s snap h lo hi e f = record {
  bounds = h.bounds;
  one_pending = one_after w p p' (λ t v. cond (in_span s t) (above snap v) v) e h.one_pending (λ t v. ap (λ b. cond b (above snap v) v) (in_span-bucket w s t h.bounds lo hi));
  one_refreshed = one_after w r r' (λ t v. cond (in_span s t) (later v (Some snap)) v) f h.one_refreshed (λ t v. ap (λ b. cond b (later v (Some snap)) v) (in_span-bucket w s t h.bounds lo hi));
  marked = λ t inside. ap (λ v. is_some v || is_some (p' t)) (f t) ∙ ap (λ v. is_some (cond (in_span s t) (later (r t) (Some snap)) (r t)) || is_some v) (e t) ∙ still (in_span s t) (r t) (p t) (h.marked t inside);
}
  where
    some_later : (v : Option ℕ) → is_some (later v (Some snap)) ≡ true
    some_later None = refl
    some_later (Some x) = refl

    still : (b : Bool) (v u : Option ℕ) → (is_some v || is_some u) ≡ true → (is_some (cond b (later v (Some snap)) v) || is_some (cond b (above snap u) u)) ≡ true
    still true v u m = ap (λ c. c || is_some (above snap u)) (some_later v)
    still false v u m = m
