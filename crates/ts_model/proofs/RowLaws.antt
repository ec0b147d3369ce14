-- Laws of rows in order: the order in which rows are inserted in their places has no effect.
use Rattle.std.proofs.Common.{◌≡◌, suc, ◌+◌, Bool, true, false, not, cond, ◌&&◌, List, [], ◌∷◌, ◌++◌, filter, length, sym, refl, ap, ◌∙◌, arith}
use Rattle.std.specs.List.{list_all}
use Rattle.std.specs.Ordering.{is_gt, ordering_reverse}
use Rattle.std.specs.declared.cmp.Ordering.{Ordering}
use Rattle.std.specs.declared.cmp.Ordering.TheVariants.{Less, Equal, Greater}
use Rattle.std.specs.Cmp.{upto}
use Rattle.std.proofs.lemmas.Bool.{true≢false, and_parts, and_from, cond-true, cond-false, not-true}
use Rattle.ts_schema.specs.declared.rows.Row.{Row}
use Rattle.ts_schema.specs.Rows.{row_cmp}
use Rattle.ts_model.specs.Rows.{with_row, with_rows, in_order}
use Rattle.ts_model.specs.Laws.{InOrder}
use Rattle.ts_schema.proofs.OrderLaws.{row_cmp_total}
use Rattle.ts_model.proofs.OrderLaws.{row_cmp_same, in_order-with_rows, at_most_all}

-- ---- the order of two rows

above_turned : (a b : Row) → is_gt (row_cmp a b) ≡ true → is_gt (row_cmp b a) ≡ false
above_turned a b e = ap is_gt (row_cmp_total.antisymm b a) ∙ by_cases (row_cmp a b) e
  where
    by_cases : (o : Ordering) → is_gt o ≡ true → is_gt (ordering_reverse o) ≡ false
    by_cases Less e = absurd (cc)
    by_cases Equal e = absurd (cc)
    by_cases Greater e = refl

-- one of two rows is above the other, or they are the same
apart_or_same : (P : Type 0) (a b : Row) → (is_gt (row_cmp a b) ≡ true → is_gt (row_cmp b a) ≡ false → P) → (is_gt (row_cmp a b) ≡ false → is_gt (row_cmp b a) ≡ true → P) → (a ≡ b → P) → P
apart_or_same P a b above below alike =
    elim (row_cmp a b) as (λ o. row_cmp a b ≡ o → P) [
      | Less ↦ λ e. below (ap is_gt e) (ap is_gt (row_cmp_total.antisymm b a ∙ ap ordering_reverse e))
      | Equal ↦ λ e. alike (row_cmp_same a b e)
      | Greater ↦ λ e. above (ap is_gt e) (ap is_gt (row_cmp_total.antisymm b a ∙ ap ordering_reverse e))
    ] refl

-- above x, which is not below b: above b
above_trans : (a b x : Row) → is_gt (row_cmp a x) ≡ true → is_gt (row_cmp b x) ≡ false → is_gt (row_cmp a b) ≡ true
above_trans a b x high low =
    elim (is_gt (row_cmp a b)) as (λ t. is_gt (row_cmp a b) ≡ t → t ≡ true) [
      | true ↦ λ _. refl
      | false ↦ λ e. absurd (true≢false (sym high ∙ upto row_cmp_total a b x e low))
    ] refl

-- ---- one row

with_row-past : (row x : Row) (xs : List Row) → is_gt (row_cmp row x) ≡ true → with_row row (x ∷ xs) ≡ x ∷ with_row row xs
with_row-past row x xs e = cond-true (is_gt (row_cmp row x)) (x ∷ with_row row xs) (row ∷ x ∷ xs) e

with_row-here : (row x : Row) (xs : List Row) → is_gt (row_cmp row x) ≡ false → with_row row (x ∷ xs) ≡ row ∷ x ∷ xs
with_row-here row x xs e = cond-false (is_gt (row_cmp row x)) (x ∷ with_row row xs) (row ∷ x ∷ xs) e

-- two rows at the head
two_first : (a b : Row) (xs : List Row) → with_row a xs ≡ a ∷ xs → with_row b xs ≡ b ∷ xs → with_row a (b ∷ xs) ≡ with_row b (a ∷ xs)
two_first a b xs p q =
    apart_or_same (with_row a (b ∷ xs) ≡ with_row b (a ∷ xs)) a b
    (λ above below. with_row-past a b xs above ∙ ap (λ ys. b ∷ ys) p ∙ sym (with_row-here b a xs below))
    (λ below above. with_row-here a b xs below ∙ sym (with_row-past b a xs above ∙ ap (λ ys. a ∷ ys) q))
    (λ alike. λ i. with_row (alike i) (sym alike i ∷ xs))

swap_past : (a b x : Row) (xs : List Row) → is_gt (row_cmp a x) ≡ true → is_gt (row_cmp b x) ≡ false → with_row a (with_row b (x ∷ xs)) ≡ with_row b (with_row a (x ∷ xs))
swap_past a b x xs high low =
    ap (with_row a) (with_row-here b x xs low)
    ∙ with_row-past a b (x ∷ xs) (above_trans a b x high low)
    ∙ ap (λ ys. b ∷ ys) (with_row-past a x xs high)
    ∙ sym (ap (with_row b) (with_row-past a x xs high) ∙ with_row-here b x (with_row a xs) low)

swap_both : (a b x : Row) (xs : List Row) → is_gt (row_cmp a x) ≡ true → is_gt (row_cmp b x) ≡ true → with_row a (with_row b xs) ≡ with_row b (with_row a xs) → with_row a (with_row b (x ∷ xs)) ≡ with_row b (with_row a (x ∷ xs))
swap_both a b x xs e f rest =
    ap (with_row a) (with_row-past b x xs f)
    ∙ with_row-past a x (with_row b xs) e
    ∙ ap (λ ys. x ∷ ys) rest
    ∙ sym (ap (with_row b) (with_row-past a x xs e) ∙ with_row-past b x (with_row a xs) f)

-- two rows are inserted in their places in either order
pub with_row-swap : (a b : Row) (xs : List Row) → with_row a (with_row b xs) ≡ with_row b (with_row a xs)
with_row-swap a b [] = two_first a b [] refl refl
with_row-swap a b (x ∷ xs) = swap_cases a b x xs (with_row-swap a b xs) (is_gt (row_cmp a x)) (is_gt (row_cmp b x)) refl refl
  where
    swap_cases : (a b x : Row) (xs : List Row) → with_row a (with_row b xs) ≡ with_row b (with_row a xs) → (p q : Bool) → is_gt (row_cmp a x) ≡ p → is_gt (row_cmp b x) ≡ q → with_row a (with_row b (x ∷ xs)) ≡ with_row b (with_row a (x ∷ xs))
    swap_cases a b x xs rest true true e f = swap_both a b x xs e f rest
    swap_cases a b x xs rest true false e f = swap_past a b x xs e f
    swap_cases a b x xs rest false true e f = sym (swap_past b a x xs f e)
    swap_cases a b x xs rest false false e f = ap (with_row a) (with_row-here b x xs f) ∙ two_first a b (x ∷ xs) (with_row-here a x xs e) (with_row-here b x xs f) ∙ sym (ap (with_row b) (with_row-here a x xs e))

-- ---- many rows

pub with_rows-append : (xs ys zs : List Row) → with_rows (xs ++ ys) zs ≡ with_rows xs (with_rows ys zs)
with_rows-append [] ys zs = refl
with_rows-append (x ∷ xs) ys zs = ap (with_row x) (with_rows-append xs ys zs)

pub with_rows-with_row : (xs : List Row) (a : Row) (ys : List Row) → with_rows xs (with_row a ys) ≡ with_row a (with_rows xs ys)
with_rows-with_row [] a ys = refl
with_rows-with_row (x ∷ xs) a ys = ap (with_row x) (with_rows-with_row xs a ys) ∙ with_row-swap x a (with_rows xs ys)

pub with_rows-swap : (xs ys zs : List Row) → with_rows xs (with_rows ys zs) ≡ with_rows ys (with_rows xs zs)
with_rows-swap [] ys zs = refl
with_rows-swap (x ∷ xs) ys zs = ap (with_row x) (with_rows-swap xs ys zs) ∙ sym (with_rows-with_row ys x (with_rows xs zs))

-- sorting two lists of rows results in the same list in either order
pub in_order-append : (xs ys : List Row) → in_order (xs ++ ys) ≡ with_rows xs (in_order ys)
in_order-append xs ys = with_rows-append xs ys []

pub in_order-append_swap : (xs ys : List Row) → in_order (xs ++ ys) ≡ in_order (ys ++ xs)
in_order-append_swap xs ys = in_order-append xs ys ∙ with_rows-swap xs ys [] ∙ sym (in_order-append ys xs)

-- rows that come in order are inserted in their places in the same way
pub with_rows-placed : (a : Row) (xs ys : List Row) → with_rows (with_row a xs) ys ≡ with_row a (with_rows xs ys)
with_rows-placed a [] ys = refl
with_rows-placed a (x ∷ xs) ys =
    elim (is_gt (row_cmp a x)) as (λ b. with_rows (cond b (x ∷ with_row a xs) (a ∷ x ∷ xs)) ys ≡ with_row a (with_row x (with_rows xs ys))) [
      | true ↦ ap (with_row x) (with_rows-placed a xs ys) ∙ with_row-swap x a (with_rows xs ys)
      | false ↦ refl
    ]

pub with_rows-in_order : (xs ys : List Row) → with_rows (in_order xs) ys ≡ with_rows xs ys
with_rows-in_order [] ys = refl
with_rows-in_order (x ∷ xs) ys = with_rows-placed x (in_order xs) ys ∙ ap (with_row x) (with_rows-in_order xs ys)

-- sorting rows in order doesn't change them
pub in_order-is : (xs : List Row) → InOrder row_cmp xs → in_order xs ≡ xs
in_order-is [] o = refl
in_order-is (x ∷ xs) o = ap (with_row x) (in_order-is xs o.1) ∙ first x xs o.0
  where
    first : (x : Row) (xs : List Row) → list_all (λ y. not (is_gt (row_cmp x y))) xs ≡ true → with_row x xs ≡ x ∷ xs
    first x [] e = refl
    first x (y ∷ ys) e = with_row-here x y ys (not-true (is_gt (row_cmp x y)) (and_parts _ _ e).0)

pub in_order-twice : (xs : List Row) → in_order (in_order xs) ≡ in_order xs
in_order-twice xs = with_rows-in_order xs []

pub stands_in_order : (xs : List Row) → InOrder row_cmp (in_order xs)
stands_in_order xs = in_order-with_rows xs [] tt

-- ---- the rows that a test selects from rows in order

-- a row not above the first is before all rows, even after some are left out
kept_first : (p : Row → Bool) (row : Row) (xs : List Row) → list_all (λ y. not (is_gt (row_cmp row y))) xs ≡ true → with_row row (filter p xs) ≡ row ∷ filter p xs
kept_first p row [] e = refl
kept_first p row (x ∷ xs) e =
    let parts = and_parts (not (is_gt (row_cmp row x))) (list_all (λ y. not (is_gt (row_cmp row y))) xs) e in
    elim (p x) as (λ b. with_row row (cond b (x ∷ filter p xs) (filter p xs)) ≡ row ∷ cond b (x ∷ filter p xs) (filter p xs)) [
      | true ↦ with_row-here row x (filter p xs) (not-true (is_gt (row_cmp row x)) parts.0)
      | false ↦ kept_first p row xs parts.1
    ]

pub filter-with_row_kept : (p : Row → Bool) (row : Row) (xs : List Row) → InOrder row_cmp xs → p row ≡ true → filter p (with_row row xs) ≡ with_row row (filter p xs)
filter-with_row_kept p row [] o e = ap (λ b. cond b (row ∷ []) []) e
filter-with_row_kept p row (x ∷ xs) o e =
    elim (is_gt (row_cmp row x)) as (λ b. is_gt (row_cmp row x) ≡ b → filter p (cond b (x ∷ with_row row xs) (row ∷ x ∷ xs)) ≡ with_row row (filter p (x ∷ xs))) [
      | true ↦ λ high.
          elim (p x) as (λ b. cond b (x ∷ filter p (with_row row xs)) (filter p (with_row row xs)) ≡ with_row row (cond b (x ∷ filter p xs) (filter p xs))) [
            | true ↦ ap (λ ys. x ∷ ys) (filter-with_row_kept p row xs o.1 e) ∙ sym (with_row-past row x (filter p xs) high)
            | false ↦ filter-with_row_kept p row xs o.1 e
          ]
      | false ↦ λ low.
          let all : list_all (λ y. not (is_gt (row_cmp row y))) (x ∷ xs) ≡ true = and_from _ _ (ap not low) (at_most_all row x xs low o.0) in
          ap (λ b. cond b (row ∷ filter p (x ∷ xs)) (filter p (x ∷ xs))) e ∙ sym (kept_first p row (x ∷ xs) all)
    ] refl

pub filter-with_row_left : (p : Row → Bool) (row : Row) (xs : List Row) → p row ≡ false → filter p (with_row row xs) ≡ filter p xs
filter-with_row_left p row [] e = ap (λ b. cond b (row ∷ []) []) e
filter-with_row_left p row (x ∷ xs) e =
    elim (is_gt (row_cmp row x)) as (λ b. filter p (cond b (x ∷ with_row row xs) (row ∷ x ∷ xs)) ≡ filter p (x ∷ xs)) [
      | true ↦ ap (λ ys. cond (p x) (x ∷ ys) ys) (filter-with_row_left p row xs e)
      | false ↦ ap (λ b. cond b (row ∷ filter p (x ∷ xs)) (filter p (x ∷ xs))) e
    ]

-- a test selects the same rows before and after sorting
pub filter-with_rows_kept : (p : Row → Bool) (new xs : List Row) → InOrder row_cmp xs → filter p (with_rows new xs) ≡ with_rows (filter p new) (filter p xs)
filter-with_rows_kept p [] xs o = refl
filter-with_rows_kept p (row ∷ new) xs o =
    let rest = filter-with_rows_kept p new xs o in
    elim (p row) as (λ b. p row ≡ b → filter p (with_row row (with_rows new xs)) ≡ with_rows (cond b (row ∷ filter p new) (filter p new)) (filter p xs)) [
      | true ↦ λ e. filter-with_row_kept p row (with_rows new xs) (in_order-with_rows new xs o) e ∙ ap (with_row row) rest
      | false ↦ λ e. filter-with_row_left p row (with_rows new xs) e ∙ rest
    ] refl

pub filter-in_order : (p : Row → Bool) (xs : List Row) → filter p (in_order xs) ≡ in_order (filter p xs)
filter-in_order p xs = filter-with_rows_kept p xs [] tt

pub length-with_row : (row : Row) (xs : List Row) → length (with_row row xs) ≡ suc (length xs)
length-with_row row [] = refl
length-with_row row (x ∷ xs) = elim (is_gt (row_cmp row x)) as (λ b. length (cond b (x ∷ with_row row xs) (row ∷ x ∷ xs)) ≡ suc (suc (length xs))) [ true ↦ ap suc (length-with_row row xs) | false ↦ refl ]

pub length-with_rows : (new xs : List Row) → length (with_rows new xs) ≡ length new + length xs
length-with_rows [] xs = omega arith
length-with_rows (row ∷ new) xs = length-with_row row (with_rows new xs) ∙ omega (arith, length-with_rows new xs)

-- a test of all rows doesn't depend on their order
all-with_row : (p : Row → Bool) (row : Row) (xs : List Row) → list_all p (with_row row xs) ≡ (p row && list_all p xs)
all-with_row p row [] = refl
all-with_row p row (x ∷ xs) =
    elim (is_gt (row_cmp row x)) as (λ b. list_all p (cond b (x ∷ with_row row xs) (row ∷ x ∷ xs)) ≡ (p row && (p x && list_all p xs))) [
      | true ↦ ap (λ b. p x && b) (all-with_row p row xs) ∙ swapped (p x) (p row) (list_all p xs)
      | false ↦ refl
    ]
  where
    swapped : (a b c : Bool) → (a && (b && c)) ≡ (b && (a && c))
    swapped true b c = refl
    swapped false true c = refl
    swapped false false c = refl

pub all-in_order : (p : Row → Bool) (xs : List Row) → list_all p (in_order xs) ≡ list_all p xs
all-in_order p [] = refl
all-in_order p (x ∷ xs) = all-with_row p x (in_order xs) ∙ ap (λ b. p x && b) (all-in_order p xs)

-- rows before others may be in any order
pub same_before : (xs ys zs : List Row) → in_order xs ≡ in_order ys → in_order (xs ++ zs) ≡ in_order (ys ++ zs)
same_before xs ys zs e = in_order-append_swap xs zs ∙ in_order-append zs xs ∙ ap (with_rows zs) e ∙ sym (in_order-append zs ys) ∙ in_order-append_swap zs ys
