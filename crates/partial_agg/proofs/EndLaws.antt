-- Ends as they are kept, of one more value and of two columns.
use Rattle.std.proofs.Common.{◌≡◌, ℕ, ℤ, ◌+◌, ◌<◌, zero, suc, Some, [], ◌∷◌, pos, refl, sym, ap, ◌∙◌, arith}
use Rattle.std.specs.Prelude.{◌+ℤ◌}
use Rattle.std.specs.Int.{int_max, int_min}
use Rattle.std.proofs.lemmas.Int.{ints}
use Rattle.ts_num.specs.Aggregates.{greater, lesser}
use Rattle.partial_agg.specs.Ends.{EndsIn, IsEnd, end_of, kept_end}
use Rattle.partial_agg.specs.Summaries.{Summary, summary_of_both, summary}

pub end_there : (n : ℕ) (v : ℤ) → 0 < n → end_of n v ≡ Some v
end_there zero v p = absurd (omega (arith, p))
end_there (suc n) v p = refl

pub end_kept : (n : ℕ) (v : ℤ) → 0 < n → IsEnd n v
end_kept n v p = ap kept_end (end_there n v p)

pub both_least : (m n : ℕ) (x y : ℤ) → 0 < m → 0 < n → EndsIn (m + n) (lesser (end_of m x) (end_of n y)) (int_min x y)
both_least m n x y p q = record {
  kept = end_kept (m + n) (int_min x y) (omega (arith, p));
  shown = end_there (m + n) (int_min x y) (omega (arith, p)) ∙ sym (rw (end_there m x p, end_there n y q) refl);
}

pub both_most : (m n : ℕ) (x y : ℤ) → 0 < m → 0 < n → EndsIn (m + n) (greater (end_of m x) (end_of n y)) (int_max x y)
both_most m n x y p q = record {
  kept = end_kept (m + n) (int_max x y) (omega (arith, p));
  shown = end_there (m + n) (int_max x y) (omega (arith, p)) ∙ sym (rw (end_there m x p, end_there n y q) refl);
}

-- a summary with one more value, by its fields
pub value_joined : (s : Summary) (v l m : ℤ) → Some l ≡ lesser s.least (Some v) → Some m ≡ greater s.most (Some v)
    → record { count = s.count + 1; values = s.values + 1; sum = s.sum +ℤ v; least = end_of (s.values + 1) l; most = end_of (s.values + 1) m }
    ≡ summary_of_both s (summary (Some v ∷ []))
value_joined s v l m least most =
    rw (end_there (s.values + 1) l (omega arith), end_there (s.values + 1) m (omega arith), least, most, whole s.sum v) refl
  where
    whole : (a b : ℤ) → a +ℤ b ≡ a +ℤ (b +ℤ pos 0)
    whole a b = omega (arith, ints)
