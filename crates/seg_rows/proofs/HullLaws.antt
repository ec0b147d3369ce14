-- Laws of hulls and of greatest times: both can be joined, in any order.
use Rattle.std.proofs.Common.{◌≡◌, ℤ, Option, Some, None, List, [], ◌∷◌, ◌++◌, refl, sym, ◌∙◌, ap, arith}
use Rattle.std.specs.Int.{int_min, int_max}
use Rattle.std.proofs.lemmas.Int.{ints, clamps}
use Rattle.ts_bucket.specs.Spans.{HullValue}
use Rattle.ts_schema.specs.declared.rows.Row.{Row}
use Rattle.seg_rows.specs.Hulls.{joined_hull, hull_at, hull_of, most_of}
use Rattle.seg_rows.specs.Versions.{later_time, latest_of}

int_min-assoc : (x y z : ℤ) → int_min x (int_min y z) ≡ int_min (int_min x y) z
int_min-assoc x y z = omega (arith, ints, clamps)

int_max-assoc : (x y z : ℤ) → int_max x (int_max y z) ≡ int_max (int_max x y) z
int_max-assoc x y z = omega (arith, ints, clamps)

int_max-comm : (x y : ℤ) → int_max x y ≡ int_max y x
int_max-comm x y = omega (arith, ints, clamps)

pub joined_hull-none : (a : Option HullValue) → joined_hull a None ≡ a
joined_hull-none None = refl
joined_hull-none (Some g) = refl

int_min-comm : (x y : ℤ) → int_min x y ≡ int_min y x
int_min-comm x y = omega (arith, ints, clamps)

pub joined_hull-comm : (a b : Option HullValue) → joined_hull a b ≡ joined_hull b a
joined_hull-comm None b = sym (joined_hull-none b)
joined_hull-comm (Some g) None = refl
joined_hull-comm (Some g) (Some h) =
    ap Some (let least = int_min-comm g.least h.least in let most = int_max-comm g.most h.most in cc)

-- hulls join in any grouping
pub joined_hull-assoc : (a b c : Option HullValue) → joined_hull a (joined_hull b c) ≡ joined_hull (joined_hull a b) c
joined_hull-assoc None b c = refl
joined_hull-assoc (Some f) None c = refl
joined_hull-assoc (Some f) (Some g) None = refl
joined_hull-assoc (Some f) (Some g) (Some h) =
    ap Some (let least = int_min-assoc f.least g.least h.least in let most = int_max-assoc f.most g.most h.most in cc)

-- the hull of two lists is the join of their hulls
pub hull_of-append : (xs ys : List Row) → hull_of (xs ++ ys) ≡ joined_hull (hull_of xs) (hull_of ys)
hull_of-append [] ys = refl
hull_of-append (x ∷ xs) ys =
    ap (joined_hull (hull_at x.at)) (hull_of-append xs ys) ∙ joined_hull-assoc (hull_at x.at) (hull_of xs) (hull_of ys)

pub later_time-none : (a : Option ℤ) → later_time a None ≡ a
later_time-none None = refl
later_time-none (Some x) = refl

pub later_time-assoc : (a b c : Option ℤ) → later_time a (later_time b c) ≡ later_time (later_time a b) c
later_time-assoc None b c = refl
later_time-assoc (Some x) None c = refl
later_time-assoc (Some x) (Some y) None = refl
later_time-assoc (Some x) (Some y) (Some z) = ap Some (int_max-assoc x y z)

pub later_time-comm : (a b : Option ℤ) → later_time a b ≡ later_time b a
later_time-comm None b = sym (later_time-none b)
later_time-comm (Some x) None = refl
later_time-comm (Some x) (Some y) = ap Some (int_max-comm x y)

-- the greatest time of two lists is the greater of theirs
pub latest_of-append : (xs ys : List Row) → latest_of (xs ++ ys) ≡ later_time (latest_of xs) (latest_of ys)
latest_of-append [] ys = refl
latest_of-append (x ∷ xs) ys =
    ap (later_time (Some x.at)) (latest_of-append xs ys) ∙ later_time-assoc (Some x.at) (latest_of xs) (latest_of ys)

-- one row more
pub hull_push : (rows : List Row) (row : Row) → hull_of (rows ++ row ∷ []) ≡ joined_hull (hull_of rows) (hull_at row.at)
hull_push rows row = hull_of-append rows (row ∷ [])

-- the greatest time is the greatest of the hull
pub most_joined : (a b : Option HullValue) → most_of (joined_hull a b) ≡ later_time (most_of a) (most_of b)
most_joined None b = refl
most_joined (Some g) None = refl
most_joined (Some g) (Some h) = refl

pub latest_of-hull : (rows : List Row) → latest_of rows ≡ most_of (hull_of rows)
latest_of-hull [] = refl
latest_of-hull (row ∷ rows) = ap (later_time (Some row.at)) (latest_of-hull rows) ∙ sym (most_joined (hull_at row.at) (hull_of rows))

-- a time at or above the greater of two others is at or above each of them
pub later_apart : (a b c : Option ℤ) → later_time a (later_time b c) ≡ a → (later_time a b ≡ a) × (later_time a c ≡ a)
later_apart a None c h = (later_time-none a, h)
later_apart a (Some y) None h = (h, later_time-none a)
later_apart None (Some y) (Some z) h = absurd (let none : None ≡ Some (int_max y z) = sym h in cc)
later_apart (Some x) (Some y) (Some z) h =
    let same : int_max x (int_max y z) ≡ x = cc in
    (ap Some (omega (arith, ints, clamps, same)), ap Some (omega (arith, ints, clamps, same)))
