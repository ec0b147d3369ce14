-- Lists with the same rows, each as often, are the same in row order, and have the same hull.
use Rattle.std.proofs.Common.{◌≡◌, ℕ, ◌+◌, ◌≤◌, ◌&&◌, Bool, true, false, cond, Option, List, [], ◌∷◌, ◌++◌, refl, sym, ◌∙◌, ap, arith}
use Rattle.std.specs.List.{filter, count_by}
use Rattle.std.specs.Ordering.{is_gt, is_eq, ordering_reverse}
use Rattle.std.specs.declared.cmp.Ordering.{Ordering}
use Rattle.std.specs.declared.cmp.Ordering.TheVariants.{Less, Equal, Greater}
use Rattle.std.proofs.lemmas.List.Sums.{sum_by-cons}
use Rattle.ts_bucket.specs.Spans.{HullValue}
use Rattle.ts_schema.specs.declared.rows.Row.{Row}
use Rattle.ts_schema.specs.Rows.{row_cmp}
use Rattle.ts_schema.proofs.OrderLaws.{row_cmp_total}
use Rattle.ts_model.specs.Rows.{with_row, in_order}
use Rattle.ts_model.proofs.OrderLaws.{row_cmp_same}
use Rattle.ts_model.proofs.RowLaws.{in_order-append_swap}
use Rattle.seg_rows.specs.Hulls.{joined_hull, hull_at, hull_of}
use Rattle.seg_rows.specs.Versions.{AsOften}
use Rattle.seg_rows.proofs.HullLaws.{joined_hull-assoc, joined_hull-comm}
use Rattle.ts_model.proofs.CountLaws.{count_cons}
use Rattle.ts_schema.proofs.Cases.{count-append}

-- an order that equals its reverse is equality
same_turned : (o : Ordering) → o ≡ ordering_reverse o → is_eq o ≡ true
same_turned Less e = absurd (cc)
same_turned Equal e = refl
same_turned Greater e = absurd (cc)

pub row_same : (x : Row) → is_eq (row_cmp x x) ≡ true
row_same x = same_turned (row_cmp x x) (row_cmp_total.antisymm x x)

equal_if : (o : Ordering) → is_eq o ≡ true → o ≡ Equal
equal_if Less e = absurd (cc)
equal_if Equal e = refl
equal_if Greater e = absurd (cc)

-- a list with an item that passes splits into the items before it, the item, and the items after it
record Found {X : Type 0} (test : X → Bool) (ys : List X) : Type 0 where
  pub item : X
  pub front : List X
  pub back : List X
  pub passes : test item ≡ true
  pub whole : ys ≡ front ++ item ∷ back

found : {X : Type 0} (test : X → Bool) (ys : List X) → 1 ≤ count_by test ys → Found test ys
found test [] h = absurd (omega (arith, h))
found test (y ∷ ys) h =
    elim (test y) as (λ b. test y ≡ b → Found test (y ∷ ys)) [
      | true ↦ λ e. record { item = y; front = []; back = ys; passes = e; whole = refl }
      | false ↦ λ e.
          let rest = found test ys (omega (arith, h, sum_by-cons (λ z. cond (test z) 1 0) y ys, ap {B = ℕ} (λ b. cond b 1 0) e)) in
          record { item = rest.item; front = y ∷ rest.front; back = rest.back; passes = rest.passes; whole = ap (λ zs. y ∷ zs) rest.whole }
    ] refl

-- an item at the front or in between leaves the same rest
without_item : {X : Type 0} (x : X) (xs front back : List X) → AsOften (x ∷ xs) (front ++ x ∷ back) → AsOften xs (front ++ back)
without_item x xs front back same = λ test.
    omega (arith, same test, count_cons test x xs, count-append test front (x ∷ back), count_cons test x back, count-append test front back)

-- lists with the same rows, each as often, are the same in row order
pub in_order-as_often : (xs ys : List Row) → AsOften xs ys → in_order xs ≡ in_order ys
in_order-as_often [] [] same = refl
in_order-as_often [] (y ∷ ys) same = absurd (omega (arith, same (λ z. true), count_cons (λ (z : Row). true) y ys))
in_order-as_often (x ∷ xs) ys same =
    let here : 1 ≤ count_by (λ y. is_eq (row_cmp x y)) ys =
    omega (arith, same (λ y. is_eq (row_cmp x y)), count_cons (λ y. is_eq (row_cmp x y)) x xs, ap {B = ℕ} (λ b. cond b 1 0) (row_same x)) in
    let at = found (λ y. is_eq (row_cmp x y)) ys here in
    let is : x ≡ at.item = row_cmp_same x at.item (equal_if (row_cmp x at.item) at.passes) in
    let whole : ys ≡ at.front ++ x ∷ at.back = at.whole ∙ ap (λ z. at.front ++ z ∷ at.back) (sym is) in
    let rest = in_order-as_often xs (at.front ++ at.back) (without_item x xs at.front at.back (λ test. same test ∙ ap (count_by test) whole)) in
    ap (with_row x) (rest ∙ in_order-append_swap at.front at.back)
    ∙ (in_order-append_swap (x ∷ at.back) at.front ∙ ap in_order (sym whole))

pub hulls_swap : (a b c : Option HullValue) → joined_hull a (joined_hull b c) ≡ joined_hull b (joined_hull a c)
hulls_swap a b c = joined_hull-assoc a b c ∙ (ap (λ h. joined_hull h c) (joined_hull-comm a b) ∙ sym (joined_hull-assoc b a c))

-- the hull of rows in order is that of the rows
hull_of-with_row : (row : Row) (xs : List Row) → hull_of (with_row row xs) ≡ joined_hull (hull_at row.at) (hull_of xs)
hull_of-with_row row [] = refl
hull_of-with_row row (x ∷ xs) =
    elim (is_gt (row_cmp row x)) as (λ b. hull_of (cond b (x ∷ with_row row xs) (row ∷ x ∷ xs)) ≡ joined_hull (hull_at row.at) (hull_of (x ∷ xs))) [
      | true ↦ ap (joined_hull (hull_at x.at)) (hull_of-with_row row xs) ∙ hulls_swap (hull_at x.at) (hull_at row.at) (hull_of xs)
      | false ↦ refl
    ]

pub hull_of-in_order : (xs : List Row) → hull_of (in_order xs) ≡ hull_of xs
hull_of-in_order [] = refl
hull_of-in_order (x ∷ xs) = hull_of-with_row x (in_order xs) ∙ ap (joined_hull (hull_at x.at)) (hull_of-in_order xs)

-- how many items of a selection pass
pub count_filter : {X : Type 0} (q t : X → Bool) (xs : List X) → count_by t (filter q xs) ≡ count_by (λ x. q x && t x) xs
count_filter q t [] = refl
count_filter q t (x ∷ xs) =
    elim (q x) as (λ b. count_by t (cond b (x ∷ filter q xs) (filter q xs)) ≡ cond (b && t x) 1 0 + count_by (λ y. q y && t y) xs) [
      | true ↦ count_cons t x (filter q xs) ∙ ap (λ n. cond (t x) 1 0 + n) (count_filter q t xs)
      | false ↦ count_filter q t xs ∙ omega arith
    ] ∙ sym (count_cons (λ y. q y && t y) x xs)
