-- Rows sorted into row order.
use Rattle.std.proofs.Common.{◌≡◌, suc, ◌+◌, false, not, List, [], ◌∷◌, get_or, refl, sym, ap, subst, ◌∙◌, arith}
use Rattle.std.specs.Ordering.{is_gt, is_lt, ordering_reverse}
use Rattle.std.specs.declared.cmp.Ordering.{Ordering}
use Rattle.std.specs.declared.cmp.Ordering.TheVariants.{Less, Equal, Greater}
use Rattle.std.specs.List.Sorted.{IsPermutation, IsSorted}
use Rattle.std.proofs.lemmas.Bool.{and_from}
use Rattle.ts_schema.specs.declared.rows.Row.{Row}
use Rattle.ts_schema.specs.Rows.{row_cmp}
use Rattle.ts_schema.proofs.OrderLaws.{row_cmp_total}
use Rattle.ts_model.specs.Laws.{InOrder}
use Rattle.ts_model.specs.Rows.{with_row, in_order}
use Rattle.ts_model.proofs.OrderLaws.{at_most_all}
use Rattle.ts_model.proofs.RowLaws.{with_row-swap, in_order-is}
use Rattle.group_fold.proofs.AnyOrder.{gathered, gathered-permuted}

not_above : (x y : Row) → is_lt (row_cmp y x) ≡ false → is_gt (row_cmp x y) ≡ false
not_above x y e = ap is_gt (row_cmp_total.antisymm x y) ∙ turned (row_cmp y x) e
  where
    turned : (o : Ordering) → is_lt o ≡ false → is_gt (ordering_reverse o) ≡ false
    turned Less e = absurd (cc)
    turned Equal e = refl
    turned Greater e = refl

sorted_tail : (x : Row) (xs : List Row) → IsSorted row_cmp (x ∷ xs) → IsSorted row_cmp xs
sorted_tail x xs up k d low high =
    let next : suc k + 1 ≡ suc (k + 1) = omega arith in
    subst (λ j. is_lt (row_cmp (get_or (x ∷ xs) j d) (get_or (x ∷ xs) (suc k) d)) ≡ false) next (up (suc k) d (omega arith) (omega arith))

sorted_in_order : (xs : List Row) → IsSorted row_cmp xs → InOrder row_cmp xs
sorted_in_order [] up = tt
sorted_in_order (x ∷ []) up = (refl, tt)
sorted_in_order (x ∷ y ∷ zs) up =
    let rest : InOrder row_cmp (y ∷ zs) = sorted_in_order (y ∷ zs) (sorted_tail x (y ∷ zs) up) in
    let first : is_gt (row_cmp x y) ≡ false = not_above x y (up 0 x (omega arith) (omega arith)) in
    (and_from _ _ (ap not first) (at_most_all x y zs first rest.0), rest)

rows_gathered : (xs : List Row) → in_order xs ≡ gathered with_row [] with_row-swap xs
rows_gathered [] = refl
rows_gathered (x ∷ xs) = ap (with_row x) (rows_gathered xs)

-- a permutation of rows that ascends is the rows in order
pub sorted_rows : (xs ys : List Row) → IsPermutation xs ys → IsSorted row_cmp ys → ys ≡ in_order xs
sorted_rows xs ys moved up =
    sym (in_order-is ys (sorted_in_order ys up))
    ∙ (rows_gathered ys ∙ (sym (gathered-permuted with_row [] with_row-swap xs ys moved) ∙ sym (rows_gathered xs)))
