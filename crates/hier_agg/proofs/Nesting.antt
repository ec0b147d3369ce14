-- Buckets of one width that lie in buckets of another.
use Rattle.std.proofs.Common.{◌≡◌, ℕ, suc, ◌+◌, ◌-◌, ◌*◌, ◌/◌, ◌%◌, ◌<◌, ◌≤◌, true, ℤ, pos, negsuc, ◌+ℤ◌, ◌-ℤ◌, ◌≤ℤ◌, ◌<ℤ◌, unsigned_abs, sym, refl, ap, ◌∙◌, subst, arith, mul-le-mul_left, mul_assoc, mul_comm, mul-add, add-mul, ap₂}
use Rattle.std.specs.Int.{int_rem_euclid}
use Rattle.std.specs.Ordering.{int_eq}
use Rattle.std.proofs.lemmas.Int.{ints, int_rem_euclid_is}
use Rattle.std.proofs.lemmas.Bool.{and_parts}
use Rattle.std.proofs.lemmas.Bool.Decides.{Decides-int_eq}
use Rattle.std.proofs.Math.Nat.{div-add-mod, mul-mod_right}
use Rattle.ts_bucket.specs.Bucket.{WidthValue, IsWidth, is_bucket, bucket_of, first_of, min_time}
use Rattle.ts_bucket.proofs.BucketLaws.{bucket_of_meets, is_bucket-remainder, is_bucket-from_remainder, is_bucket-bucket_of, bucket_of-last, holds-one, holds-from_parts}
use Rattle.ts_bucket.proofs.Remainders.{positive_is}
use Rattle.hier_agg.specs.Plans.{nests}

-- a number, raised by enough steps of n, is not negative
raised : (z : ℤ) (n k : ℕ) → 0 < n → unsigned_abs z ≤ k → (m : ℕ) × (z +ℤ pos (k * n) ≡ pos m)
raised (pos a) n k h e = (a + k * n, refl)
raised (negsuc a) n k h e =
    let many : k * 1 ≤ k * n = mul-le-mul_left k h in
    (k * n - suc a, omega (arith, ints))

-- a multiple as a number of steps
whole_steps : (m n : ℕ) → m % n ≡ 0 → m ≡ n * (m / n)
whole_steps m n h = let is : n * (m / n) + m % n ≡ m = div-add-mod m n in omega (arith, is, h)

-- ---- multiples of a multiple

multiple_of_multiple : (m n k : ℕ) → m % n ≡ 0 → n % k ≡ 0 → m % k ≡ 0
multiple_of_multiple m n k p q =
    let m_is = whole_steps m n p in
    let n_is = whole_steps n k q in
    ap (λ x. x % k) (m_is ∙ ap (λ x. x * (m / n)) n_is ∙ mul_assoc k (n / k) (m / n)) ∙ mul-mod_right k ((n / k) * (m / n))

-- a number that a step divides is also divided by each step that divides that one
divided_twice : (z d e : ℤ) → pos 0 <ℤ d → pos 0 <ℤ e → int_rem_euclid z d ≡ pos 0 → int_rem_euclid d e ≡ pos 0 → int_rem_euclid z e ≡ pos 0
divided_twice z d e hd he p q =
    let n = positive_is d hd in
    let k = positive_is e he in
    let x = raised z n.0 (unsigned_abs z) n.1 (omega arith) in
    let by_n : int_rem_euclid z d ≡ pos (x.0 % n.0) = int_rem_euclid_is z d n.0 (unsigned_abs z) x.0 n.1 n.2 x.1 in
    let whole : x.0 % n.0 ≡ 0 = ap unsigned_abs (sym by_n ∙ p) in
    let d_by_k : int_rem_euclid d e ≡ pos (n.0 % k.0) = int_rem_euclid_is d e k.0 0 n.0 k.1 k.2 (ap (λ y. y +ℤ pos (0 * k.0)) n.2 ∙ omega (arith, ints)) in
    let steps : n.0 % k.0 ≡ 0 = ap unsigned_abs (sym d_by_k ∙ q) in
    let n_is : n.0 ≡ k.0 * (n.0 / k.0) = whole_steps n.0 k.0 steps in
    let moved : unsigned_abs z * n.0 ≡ (unsigned_abs z * (n.0 / k.0)) * k.0 =
    ap (λ y. unsigned_abs z * y) (n_is ∙ mul_comm k.0 (n.0 / k.0)) ∙ sym (mul_assoc (unsigned_abs z) (n.0 / k.0) k.0) in
    let z_is : z +ℤ pos ((unsigned_abs z * (n.0 / k.0)) * k.0) ≡ pos x.0 = ap (λ y. z +ℤ pos y) (sym moved) ∙ x.1 in
    int_rem_euclid_is z e k.0 (unsigned_abs z * (n.0 / k.0)) x.0 k.1 k.2 z_is ∙ ap pos (multiple_of_multiple x.0 n.0 k.0 whole steps)

-- a step that divides two numbers divides their sum
divided_sum : (y z d : ℤ) → pos 0 <ℤ d → int_rem_euclid y d ≡ pos 0 → int_rem_euclid z d ≡ pos 0 → int_rem_euclid (y +ℤ z) d ≡ pos 0
divided_sum y z d h p q =
    let n = positive_is d h in
    let a = raised y n.0 (unsigned_abs y) n.1 (omega arith) in
    let b = raised z n.0 (unsigned_abs z) n.1 (omega arith) in
    let a_whole : a.0 % n.0 ≡ 0 = ap unsigned_abs (sym (int_rem_euclid_is y d n.0 (unsigned_abs y) a.0 n.1 n.2 a.1) ∙ p) in
    let b_whole : b.0 % n.0 ≡ 0 = ap unsigned_abs (sym (int_rem_euclid_is z d n.0 (unsigned_abs z) b.0 n.1 n.2 b.1) ∙ q) in
    let a_is : a.0 ≡ n.0 * (a.0 / n.0) = whole_steps a.0 n.0 a_whole in
    let b_is : b.0 ≡ n.0 * (b.0 / n.0) = whole_steps b.0 n.0 b_whole in
    let both : a.0 + b.0 ≡ n.0 * (a.0 / n.0 + b.0 / n.0) = ap₂ (λ s t. s + t) a_is b_is ∙ sym (mul-add n.0 (a.0 / n.0) (b.0 / n.0)) in
    let steps : (unsigned_abs y + unsigned_abs z) * n.0 ≡ unsigned_abs y * n.0 + unsigned_abs z * n.0 = add-mul (unsigned_abs y) (unsigned_abs z) n.0 in
    let first : y +ℤ pos (unsigned_abs y * n.0) ≡ pos a.0 = a.1 in
    let second : z +ℤ pos (unsigned_abs z * n.0) ≡ pos b.0 = b.1 in
    let sum_is : (y +ℤ z) +ℤ pos ((unsigned_abs y + unsigned_abs z) * n.0) ≡ pos (a.0 + b.0) = omega (arith, ints, steps, first, second) in
    int_rem_euclid_is (y +ℤ z) d n.0 (unsigned_abs y + unsigned_abs z) (a.0 + b.0) n.1 n.2 sum_is
    ∙ ap pos (ap (λ x. x % n.0) both ∙ mul-mod_right n.0 (a.0 / n.0 + b.0 / n.0))

-- ---- buckets

-- the parts of the test that widths fit
nests-parts : (lower upper : WidthValue) → nests lower upper ≡ true → (int_rem_euclid upper.step lower.step ≡ pos 0) × (int_rem_euclid (upper.shift -ℤ lower.shift) lower.step ≡ pos 0)
nests-parts lower upper e =
    let parts = and_parts (int_eq (int_rem_euclid upper.step lower.step) (pos 0)) (int_eq (int_rem_euclid (upper.shift -ℤ lower.shift) lower.step) (pos 0)) e in
    ((Decides-int_eq (int_rem_euclid upper.step lower.step) (pos 0)).0 parts.0, (Decides-int_eq (int_rem_euclid (upper.shift -ℤ lower.shift) lower.step) (pos 0)).0 parts.1)

-- where a wider bucket starts, a bucket starts
pub starts_nest : (lower upper : WidthValue) (b : ℤ) → IsWidth lower → IsWidth upper → nests lower upper ≡ true → is_bucket upper b ≡ true → is_bucket lower b ≡ true
starts_nest lower upper b low up e h =
    let parts = nests-parts lower upper e in
    let own : int_rem_euclid (b -ℤ upper.shift) lower.step ≡ pos 0 = divided_twice (b -ℤ upper.shift) upper.step lower.step up.positive low.positive (is_bucket-remainder upper b h) parts.0 in
    let both = divided_sum (b -ℤ upper.shift) (upper.shift -ℤ lower.shift) lower.step low.positive own parts.1 in
    let moved : (b -ℤ upper.shift) +ℤ (upper.shift -ℤ lower.shift) ≡ b -ℤ lower.shift = omega (arith, ints) in
    is_bucket-from_remainder lower b (subst (λ z. int_rem_euclid z lower.step ≡ pos 0) moved both)

-- the bucket of a time's bucket is the bucket of the time
pub buckets_nest : (lower upper : WidthValue) (t : ℤ) → IsWidth lower → IsWidth upper → nests lower upper ≡ true → bucket_of upper (bucket_of lower t) ≡ bucket_of upper t
buckets_nest lower upper t low up e =
    let wide = bucket_of_meets upper t up in
    let own = bucket_of_meets lower t low in
    let start = is_bucket-bucket_of upper t up in
    let wide_below : bucket_of upper t ≤ℤ t = wide.at_or_below in
    let wide_above : t <ℤ (bucket_of upper t +ℤ upper.step) = wide.end_above in
    let own_below : bucket_of lower t ≤ℤ t = own.at_or_below in
    let from : bucket_of upper t ≤ℤ bucket_of lower t = bucket_of-last lower (bucket_of upper t) t low (starts_nest lower upper (bucket_of upper t) low up e start) wide_below in
    let below : bucket_of lower t <ℤ (bucket_of upper t +ℤ upper.step) = omega (arith, ints, own_below, wide_above) in
    sym (holds-one upper (bucket_of upper t) (bucket_of lower t) up start (holds-from_parts upper (bucket_of upper t) (bucket_of lower t) from below))

-- the first bucket lies in the first
pub first_nests : (lower upper : WidthValue) → IsWidth lower → IsWidth upper → nests lower upper ≡ true → bucket_of upper (first_of lower) ≡ first_of upper
first_nests lower upper low up e = buckets_nest lower upper min_time low up e
