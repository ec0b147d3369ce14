-- Laws of the orders of values, of lists of values and of rows. They are total, and the first two find only
-- equal values equal.
use Rattle.std.proofs.Common.{◌≡◌, [], ◌∷◌, Option, None, Some, ℤ, refl, ap}
use Rattle.std.specs.Cmp.{IsTotalOrder}
use Rattle.std.specs.Cmp.Lexicographic.{slice_cmp}
use Rattle.std.specs.Ordering.{ordering_then, ordering_reverse}
use Rattle.std.specs.declared.cmp.Ordering.{Ordering}
use Rattle.std.specs.declared.cmp.Ordering.TheVariants.{Less, Equal, Greater}
use Rattle.std.proofs.lemmas.Cmp.{int_cmp_total, lists_total, on_total, then_total}
use Rattle.std.proofs.lemmas.Map.Lookups.{CmpEqualImpliesEq, exact_signed}
use Rattle.ts_schema.specs.Rows.{value_cmp, values_cmp, row_cmp}

value_cmp-back : (x y : Option ℤ) → value_cmp x y ≡ ordering_reverse (value_cmp y x)
value_cmp-back None None = refl
value_cmp-back None (Some y) = refl
value_cmp-back (Some x) None = refl
value_cmp-back (Some x) (Some y) = int_cmp_total.antisymm x y

value_cmp-trans : (x y z : Option ℤ) → value_cmp x y ≡ Less → value_cmp y z ≡ Less → value_cmp x z ≡ Less
value_cmp-trans None None z p q = cc
value_cmp-trans None (Some y) z p q = cc
value_cmp-trans (Some x) None None p q = cc
value_cmp-trans (Some x) None (Some z) p q = cc
value_cmp-trans (Some x) (Some y) None p q = refl
value_cmp-trans (Some x) (Some y) (Some z) p q = int_cmp_total.trans x y z p q

value_cmp-congr : (x y z : Option ℤ) → value_cmp x y ≡ Equal → value_cmp x z ≡ value_cmp y z
value_cmp-congr None None z p = refl
value_cmp-congr None (Some y) z p = cc
value_cmp-congr (Some x) None z p = cc
value_cmp-congr (Some x) (Some y) None p = refl
value_cmp-congr (Some x) (Some y) (Some z) p = int_cmp_total.congr x y z p

pub value_cmp_total : IsTotalOrder value_cmp
value_cmp_total = record { antisymm = value_cmp-back; trans = value_cmp-trans; congr = value_cmp-congr }

pub values_cmp_total : IsTotalOrder values_cmp
values_cmp_total = lists_total value_cmp_total

pub row_cmp_total : IsTotalOrder row_cmp
row_cmp_total = then_total (on_total (λ r. r.at) int_cmp_total) (on_total (λ r. r.vals) values_cmp_total)

-- if one order after the other answers equal, both do
pub then_equal : (a b : Ordering) → ordering_then a b ≡ Equal → (a ≡ Equal) × (b ≡ Equal)
then_equal Less b e = cc
then_equal Equal b e = (refl, e)
then_equal Greater b e = cc

pub value_cmp_exact : CmpEqualImpliesEq value_cmp
value_cmp_exact None None e = refl
value_cmp_exact None (Some y) e = cc
value_cmp_exact (Some x) None e = cc
value_cmp_exact (Some x) (Some y) e = ap Some (exact_signed x y e)

pub lists_exact : {K : Type 0} {R : K → K → Ordering} → CmpEqualImpliesEq R → CmpEqualImpliesEq (slice_cmp R)
lists_exact exact [] [] e = refl
lists_exact exact [] (y ∷ ys) e = cc
lists_exact exact (x ∷ xs) [] e = cc
lists_exact {K} {R} exact (x ∷ xs) (y ∷ ys) e =
    let both = then_equal (R x y) (slice_cmp R xs ys) e in
    let heads : x ≡ y = exact x y both.0 in
    let tails : xs ≡ ys = lists_exact exact xs ys both.1 in
    cc

pub values_cmp_exact : CmpEqualImpliesEq values_cmp
values_cmp_exact = lists_exact value_cmp_exact
