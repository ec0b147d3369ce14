-- Laws of the lesser and the greater of two numbers, and of the least and the greatest of a list.
use Rattle.std.proofs.Common.{◌≡◌, List, [], ◌∷◌, ◌++◌, Option, Some, None, ℤ, refl, sym, ap, ◌∙◌, arith}
use Rattle.std.specs.Int.{int_min, int_max}
use Rattle.std.proofs.lemmas.Int.{ints, clamps}
use Rattle.ts_num.specs.Aggregates.{lesser, greater, least_of, greatest_of}

int_min_assoc : (x y z : ℤ) → int_min (int_min x y) z ≡ int_min x (int_min y z)
int_min_assoc x y z = omega (arith, ints, clamps)

pub int_max_assoc : (x y z : ℤ) → int_max (int_max x y) z ≡ int_max x (int_max y z)
int_max_assoc x y z = omega (arith, ints, clamps)

pub lesser_assoc : (a b c : Option ℤ) → lesser (lesser a b) c ≡ lesser a (lesser b c)
lesser_assoc None b c = refl
lesser_assoc (Some x) None c = refl
lesser_assoc (Some x) (Some y) None = refl
lesser_assoc (Some x) (Some y) (Some z) = ap Some (int_min_assoc x y z)

pub greater_assoc : (a b c : Option ℤ) → greater (greater a b) c ≡ greater a (greater b c)
greater_assoc None b c = refl
greater_assoc (Some x) None c = refl
greater_assoc (Some x) (Some y) None = refl
greater_assoc (Some x) (Some y) (Some z) = ap Some (int_max_assoc x y z)

pub least_of-append : (xs ys : List ℤ) → least_of (xs ++ ys) ≡ lesser (least_of xs) (least_of ys)
least_of-append [] ys = refl
least_of-append (v ∷ vs) ys = ap (λ m. lesser (Some v) m) (least_of-append vs ys) ∙ sym (lesser_assoc (Some v) (least_of vs) (least_of ys))

pub greatest_of-append : (xs ys : List ℤ) → greatest_of (xs ++ ys) ≡ greater (greatest_of xs) (greatest_of ys)
greatest_of-append [] ys = refl
greatest_of-append (v ∷ vs) ys = ap (λ m. greater (Some v) m) (greatest_of-append vs ys) ∙ sym (greater_assoc (Some v) (greatest_of vs) (greatest_of ys))

pub lesser_comm : (a b : Option ℤ) → lesser a b ≡ lesser b a
lesser_comm None None = refl
lesser_comm None (Some y) = refl
lesser_comm (Some x) None = refl
lesser_comm (Some x) (Some y) = ap Some (int_min_comm x y)
  where
    int_min_comm : (x y : ℤ) → int_min x y ≡ int_min y x
    int_min_comm x y = omega (arith, ints, clamps)

pub greater_comm : (a b : Option ℤ) → greater a b ≡ greater b a
greater_comm None None = refl
greater_comm None (Some y) = refl
greater_comm (Some x) None = refl
greater_comm (Some x) (Some y) = ap Some (int_max_comm x y)
  where
    int_max_comm : (x y : ℤ) → int_max x y ≡ int_max y x
    int_max_comm x y = omega (arith, ints, clamps)
