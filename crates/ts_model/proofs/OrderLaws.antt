-- Orders of values, lists of values and rows; rows are in order, and each key occurs once, in order.
use Rattle.std.proofs.Common.{◌≡◌, ℕ, Bool, true, false, ◌||◌, not, cond, ◌==◌, List, [], ◌∷◌, map, filter, sym, refl, ap, ◌∙◌}
use Rattle.std.specs.List.{list_all, list_any}
use Rattle.std.specs.Ordering.{is_gt, is_lt, ordering_reverse, int_cmp, match_ordering}
use Rattle.std.specs.declared.cmp.Ordering.{Ordering}
use Rattle.std.specs.declared.cmp.Ordering.TheVariants.{Less, Equal, Greater}
use Rattle.std.specs.Cmp.{IsTotalOrder, int_cmp_total, upto}
use Rattle.std.proofs.lemmas.Map.Lookups.{CmpEqualImpliesEq, exact_signed}
use Rattle.std.specs.BTreeSet.{insert_key}
use Rattle.std.proofs.lemmas.Bool.{and_parts, and_from, not-true}
use Rattle.ts_bucket.specs.Bucket.{bucket_of}
use Rattle.ts_schema.specs.declared.rows.Row.{Row}
use Rattle.ts_schema.specs.Rows.{values_cmp, row_cmp}
use Rattle.ts_schema.proofs.OrderLaws.{values_cmp_total, row_cmp_total, then_equal, values_cmp_exact}
use Rattle.ts_schema.specs.Conditions.{passes_all}
use Rattle.ts_model.specs.declared.events.Event.TheVariants.{Table, Hyper, View, Mode, Commit, Cut, Built}
use Rattle.ts_model.specs.declared.events.Op.{Op}
use Rattle.ts_model.specs.declared.events.Op.TheVariants.{Insert, Delete}
use Rattle.ts_model.specs.History.{start, resumed, ◌▸◌}
use Rattle.ts_model.specs.Rows.{with_row, with_rows, after_op, after_ops, rows}
use Rattle.ts_model.specs.Saved.{appended_over}
use Rattle.ts_model.specs.Scratch.{keys_of, once}
use Rattle.ts_model.specs.Laws.{InOrder, Rises, IsOnce, RowsStandInOrder, ResultsComeInOrder}
use Rattle.ts_schema.proofs.Cases.{or_swapped}

-- ---- the order of rows

-- rows that the order finds equal are the same row
pub row_cmp_same : CmpEqualImpliesEq row_cmp
row_cmp_same x y e =
    let parts = then_equal (int_cmp x.at y.at) (values_cmp x.vals y.vals) e in
    let times : x.at ≡ y.at = exact_signed x.at y.at parts.0 in
    let values : x.vals ≡ y.vals = values_cmp_exact x.vals y.vals parts.1 in
    λ i. record { at = times i; vals = values i }

-- ---- rows are in order

list_all-filter : {X : Type 0} (q p : X → Bool) (xs : List X) → list_all q xs ≡ true → list_all q (filter p xs) ≡ true
list_all-filter q p [] e = refl
list_all-filter q p (x ∷ xs) e =
    let parts = and_parts (q x) (list_all q xs) e in
    let rest = list_all-filter q p xs parts.1 in
    elim (p x) as (λ b. list_all q (cond b (x ∷ filter p xs) (filter p xs)) ≡ true) [ true ↦ and_from _ _ parts.0 rest | false ↦ rest ]

list_all-with_row : (q : Row → Bool) (row : Row) (xs : List Row) → q row ≡ true → list_all q xs ≡ true → list_all q (with_row row xs) ≡ true
list_all-with_row q row [] here rest = and_from _ _ here refl
list_all-with_row q row (x ∷ xs) here rest =
    let parts = and_parts (q x) (list_all q xs) rest in
    elim (is_gt (row_cmp row x)) as (λ b. list_all q (cond b (x ∷ with_row row xs) (row ∷ x ∷ xs)) ≡ true) [
      | true ↦ and_from _ _ parts.0 (list_all-with_row q row xs here parts.1)
      | false ↦ and_from _ _ here rest
    ]

greater_turned : (o : Ordering) → is_gt o ≡ true → not (is_gt (ordering_reverse o)) ≡ true
greater_turned Less e = absurd (cc)
greater_turned Equal e = absurd (cc)
greater_turned Greater e = refl

pub at_most_all : (row x : Row) (xs : List Row) → is_gt (row_cmp row x) ≡ false → list_all (λ y. not (is_gt (row_cmp x y))) xs ≡ true → list_all (λ y. not (is_gt (row_cmp row y))) xs ≡ true
at_most_all row x [] l e = refl
at_most_all row x (y ∷ ys) l e =
    let parts = and_parts (not (is_gt (row_cmp x y))) (list_all (λ z. not (is_gt (row_cmp x z))) ys) e in
    and_from _ _ (ap not (upto row_cmp_total row x y l (not-true _ parts.0))) (at_most_all row x ys l parts.1)

pub in_order-with_row : (row : Row) (xs : List Row) → InOrder row_cmp xs → InOrder row_cmp (with_row row xs)
in_order-with_row row [] o = (refl, tt)
in_order-with_row row (x ∷ xs) o =
    elim (is_gt (row_cmp row x)) as (λ b. is_gt (row_cmp row x) ≡ b → InOrder row_cmp (cond b (x ∷ with_row row xs) (row ∷ x ∷ xs))) [
      | true ↦ λ e.
          let less : not (is_gt (row_cmp x row)) ≡ true = ap (λ r. not (is_gt r)) (row_cmp_total.antisymm x row) ∙ greater_turned (row_cmp row x) e in
          (list_all-with_row (λ y. not (is_gt (row_cmp x y))) row xs less o.0, in_order-with_row row xs o.1)
      | false ↦ λ e. (and_from _ _ (ap not e) (at_most_all row x xs e o.0), o)
    ] refl

pub in_order-with_rows : (new xs : List Row) → InOrder row_cmp xs → InOrder row_cmp (with_rows new xs)
in_order-with_rows [] xs o = o
in_order-with_rows (row ∷ new) xs o = in_order-with_row row (with_rows new xs) (in_order-with_rows new xs o)

pub in_order-filter : (p : Row → Bool) (xs : List Row) → InOrder row_cmp xs → InOrder row_cmp (filter p xs)
in_order-filter p [] o = tt
in_order-filter p (x ∷ xs) o =
    let rest = in_order-filter p xs o.1 in
    elim (p x) as (λ b. InOrder row_cmp (cond b (x ∷ filter p xs) (filter p xs))) [ true ↦ (list_all-filter (λ y. not (is_gt (row_cmp x y))) p xs o.0, rest) | false ↦ rest ]

pub in_order-after_op : (t : ℕ) (op : Op) (xs : List Row) → InOrder row_cmp xs → InOrder row_cmp (after_op t op xs)
in_order-after_op t (Insert u new) xs o = elim (u == t) as (λ b. InOrder row_cmp (cond b (with_rows new xs) xs)) [ true ↦ in_order-with_rows new xs o | false ↦ o ]
in_order-after_op t (Delete u tests) xs o = elim (u == t) as (λ b. InOrder row_cmp (cond b (filter (λ row. not (passes_all row tests)) xs) xs)) [ true ↦ in_order-filter (λ row. not (passes_all row tests)) xs o | false ↦ o ]

pub in_order-after_ops : (t : ℕ) (ops : List Op) (xs : List Row) → InOrder row_cmp xs → InOrder row_cmp (after_ops t ops xs)
in_order-after_ops t [] xs o = o
in_order-after_ops t (op ∷ ops) xs o = in_order-after_ops t ops (after_op t op xs) (in_order-after_op t op xs o)

pub rows_stand_in_order : RowsStandInOrder
rows_stand_in_order t start = tt
rows_stand_in_order t (resumed i) = in_order-with_rows (appended_over t i.rows) [] tt
rows_stand_in_order t (h ▸ Table def) = rows_stand_in_order t h
rows_stand_in_order t (h ▸ Hyper u hyper) = rows_stand_in_order t h
rows_stand_in_order t (h ▸ View def) = rows_stand_in_order t h
rows_stand_in_order t (h ▸ Mode v only) = rows_stand_in_order t h
rows_stand_in_order t (h ▸ Commit ops) = in_order-after_ops t ops (rows t h) (rows_stand_in_order t h)
rows_stand_in_order t (h ▸ Cut v span) = rows_stand_in_order t h
rows_stand_in_order t (h ▸ Built cut snap) = rows_stand_in_order t h

-- ---- each key occurs once, in order

module _ {K : Type 0} (cmp : K → K → Ordering) (total : IsTotalOrder cmp) (alike : CmpEqualImpliesEq cmp) where
  list_all-insert_key : (q : K → Bool) (ks : List K) (k : K) → q k ≡ true → list_all q ks ≡ true → list_all q (insert_key cmp ks k) ≡ true
  list_all-insert_key q [] k here rest = and_from _ _ here refl
  list_all-insert_key q (x ∷ xs) k here rest =
      let parts = and_parts (q x) (list_all q xs) rest in
      elim (cmp k x) as (λ o. list_all q (match_ordering o (k ∷ x ∷ xs) (x ∷ xs) (x ∷ insert_key cmp xs k)) ≡ true) [
        | Less ↦ and_from _ _ here rest
        | Equal ↦ rest
        | Greater ↦ and_from _ _ parts.0 (list_all-insert_key q xs k here parts.1)
      ]

  less_than_all : (k x : K) (xs : List K) → cmp k x ≡ Less → list_all (λ y. is_lt (cmp x y)) xs ≡ true → list_all (λ y. is_lt (cmp k y)) xs ≡ true
  less_than_all k x [] l e = refl
  less_than_all k x (y ∷ ys) l e =
      let parts = and_parts (is_lt (cmp x y)) (list_all (λ z. is_lt (cmp x z)) ys) e in
      and_from _ _ (ap is_lt (total.trans k x y l (less_is (cmp x y) parts.0))) (less_than_all k x ys l parts.1)
    where
      less_is : (o : Ordering) → is_lt o ≡ true → o ≡ Less
      less_is Less e = refl
      less_is Equal e = absurd (cc)
      less_is Greater e = absurd (cc)

  rises-insert_key : (ks : List K) (k : K) → Rises cmp ks → Rises cmp (insert_key cmp ks k)
  rises-insert_key [] k r = (refl, tt)
  rises-insert_key (x ∷ xs) k r =
      elim (cmp k x) as (λ o. cmp k x ≡ o → Rises cmp (match_ordering o (k ∷ x ∷ xs) (x ∷ xs) (x ∷ insert_key cmp xs k))) [
        | Less ↦ λ e. (and_from _ _ (ap is_lt e) (less_than_all k x xs e r.0), r)
        | Equal ↦ λ e. r
        | Greater ↦ λ e.
            let turned : is_lt (cmp x k) ≡ true = ap is_lt (total.antisymm x k ∙ ap ordering_reverse e) in
            (list_all-insert_key (λ y. is_lt (cmp x y)) xs k turned r.0, rises-insert_key xs k r.1)
      ] refl

  any-insert_key : (test : K → Bool) (ks : List K) (k : K) → list_any test (insert_key cmp ks k) ≡ (test k || list_any test ks)
  any-insert_key test [] k = refl
  any-insert_key test (x ∷ xs) k =
      elim (cmp k x) as (λ o. cmp k x ≡ o → list_any test (match_ordering o (k ∷ x ∷ xs) (x ∷ xs) (x ∷ insert_key cmp xs k)) ≡ (test k || (test x || list_any test xs))) [
        | Less ↦ λ e. refl
        | Equal ↦ λ e. twice (test k) (test x) (list_any test xs) (ap test (alike k x e))
        | Greater ↦ λ e. ap (λ b. test x || b) (any-insert_key test xs k) ∙ or_swapped (test x) (test k) (list_any test xs)
      ] refl
    where
      twice : (a b c : Bool) → a ≡ b → (b || c) ≡ (a || (b || c))
      twice true b c e = ap (λ z. z || c) (sym e)
      twice false b c e = refl

  pub is_once : (keys : List K) → IsOnce cmp keys (once cmp keys)
  is_once [] = record { rising = tt; occurring = λ test. refl }
  is_once (k ∷ ks) =
      let rest = is_once ks in
      record {
        rising = rises-insert_key (once cmp ks) k rest.rising;
        occurring = λ test. any-insert_key test (once cmp ks) k ∙ ap (λ b. test k || b) (rest.occurring test);
      }

pub results_come_in_order : ResultsComeInOrder
results_come_in_order = record {
  keys = λ fold group. is_once values_cmp values_cmp_total values_cmp_exact (map (keys_of fold.keys) group);
  buckets = λ fold rows. is_once int_cmp int_cmp_total exact_signed (map (λ row. bucket_of fold.width row.at) (filter (λ row. passes_all row fold.tests) rows));
}
