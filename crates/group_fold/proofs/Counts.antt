-- The counts of the groups of rows are at most the number of rows, so the groups of two lists fit together.
use Rattle.std.proofs.Common.{◌≡◌, ℕ, zero, suc, ◌+◌, ◌<◌, ◌≤◌, ◌^◌, List, [], ◌∷◌, length, get_or, map, ℤ, Option, Bool, true, false, cond, ◌&&◌, sym, refl, ap, ◌∙◌, arith}
use Rattle.std.specs.List.{AllByRecursion, filter}
use Rattle.std.specs.declared.cmp.Ordering.TheVariants.{Equal}
use Rattle.ts_schema.specs.declared.rows.Row.{Row}
use Rattle.std.specs.Ordering.{is_eq}
use Rattle.ts_schema.specs.Rows.{field_of, values_cmp}
use Rattle.ts_schema.specs.Conditions.{passes_all}
use Rattle.ts_bucket.specs.Bucket.{holds}
use Rattle.ts_model.specs.declared.views.Agg.{Agg}
use Rattle.ts_model.specs.declared.views.Fold.{Fold}
use Rattle.ts_model.specs.Scratch.{keys_of, bucket_rows, with_keys, key_lists, occurring_buckets}
use Rattle.partial_agg.specs.declared.groups.Group.{Group}
use Rattle.partial_agg.specs.Groups.{group_cmp}
use Rattle.partial_agg.specs.Summaries.{Summary, summary}
use Rattle.group_fold.specs.Grouping.{row_parts}
use Rattle.ts_model.specs.Groups.{column, group_at, groups_in, groups_of}
use Rattle.group_fold.specs.Gathering.{IsBelow}
use Rattle.group_fold.specs.Merging.{PartsFit, FitTogether}
use Rattle.group_fold.proofs.Occurring.{all-map, all-flat_map}
use Rattle.ts_schema.proofs.Cases.{all_weaker}

length-filter : {X : Type 0} (test : X → Bool) (xs : List X) → length (filter test xs) ≤ length xs
length-filter test [] = omega arith
length-filter test (x ∷ xs) = elim (test x) as (λ t. length (cond t (x ∷ filter test xs) (filter test xs)) ≤ suc (length xs)) [ true ↦ omega (arith, length-filter test xs) | false ↦ omega (arith, length-filter test xs) ]

length-map : {X Y : Type 0} (f : X → Y) (xs : List X) → length (map f xs) ≡ length xs
length-map f [] = refl
length-map f (x ∷ xs) = ap suc (length-map f xs)

counts_of_rows : (bound : ℕ) (found : List Row) (aggs : List Agg) → length found < bound → AllByRecursion (λ p. p.count < bound) (map (λ agg. summary (column found agg)) aggs)
counts_of_rows bound found aggs h =
    all-map (λ p. p.count < bound) (λ agg. summary (column found agg)) (λ agg. rw (length-map (λ row. field_of row agg.col) found) h) aggs

pub counts_below : (bound : ℕ) (fold : Fold) (rows : List Row) → length rows < bound → AllByRecursion (IsBelow bound fold) (groups_of fold rows)
counts_below bound fold rows h =
    all-flat_map (λ b. Unit {0}) (IsBelow bound fold) (groups_in fold rows) (λ b u. in_bucket b) (occurring_buckets fold rows) (every (occurring_buckets fold rows))
  where
    every : (bs : List ℤ) → AllByRecursion (λ b. Unit {0}) bs
    every [] = tt
    every (b ∷ bs) = (tt, every bs)

    few : (keys : List (Option ℤ)) (b : ℤ) → length (with_keys fold keys (bucket_rows fold b rows)) < bound
    few keys b =
        let inner : length (with_keys fold keys (bucket_rows fold b rows)) ≤ length (bucket_rows fold b rows) = length-filter (λ row. is_eq (values_cmp (keys_of fold.keys row) keys)) (bucket_rows fold b rows) in
        let outer : length (bucket_rows fold b rows) ≤ length rows = length-filter (λ row. holds fold.width b row.at && passes_all row fold.tests) rows in
        omega (arith, inner, outer, h)

    in_bucket : (b : ℤ) → AllByRecursion (IsBelow bound fold) (groups_in fold rows b)
    in_bucket b =
        all-map (IsBelow bound fold) (group_at fold b (bucket_rows fold b rows))
        (λ keys. (length-map (λ agg. summary (column (with_keys fold keys (bucket_rows fold b rows)) agg)) fold.aggs, counts_of_rows bound (with_keys fold keys (bucket_rows fold b rows)) fold.aggs (few keys b)))
        (key_lists fold (bucket_rows fold b rows))

pub below_weaker : (m n : ℕ) (fold : Fold) (groups : List Group) → m ≤ n → AllByRecursion (IsBelow m fold) groups → AllByRecursion (IsBelow n fold) groups
below_weaker m n fold groups le h =
    all_weaker (IsBelow m fold) (IsBelow n fold) (λ g p. (p.0, all_weaker (λ s. s.count < m) (λ s. s.count < n) (λ s q. omega arith) g.parts p.1)) groups h

parts_fit : (m n : ℕ) (ps qs : List Summary) → m + n ≤ 2 ^ 62 + 1 → length ps ≡ length qs → AllByRecursion (λ s. s.count < m) ps → AllByRecursion (λ s. s.count < n) qs → PartsFit ps qs
parts_fit m n [] [] le e h k = tt
parts_fit m n [] (q ∷ qs) le e h k = absurd (omega (arith, e))
parts_fit m n (p ∷ ps) [] le e h k = absurd (omega (arith, e))
parts_fit m n (p ∷ ps) (q ∷ qs) le e h k =
    let rest : length ps ≡ length qs = omega (arith, e) in
    (omega (arith, h.0, k.0), parts_fit m n ps qs le rest h.1 k.1)

pub fit_together : (m n : ℕ) (fold : Fold) (gs hs : List Group) → m + n ≤ 2 ^ 62 + 1 → AllByRecursion (IsBelow m fold) gs → AllByRecursion (IsBelow n fold) hs → FitTogether gs hs
fit_together m n fold gs hs le h k =
    all_weaker (IsBelow m fold) (λ g. AllByRecursion (λ x. group_cmp g x ≡ Equal → PartsFit g.parts x.parts) hs)
    (λ g p. all_weaker (IsBelow n fold) (λ x. group_cmp g x ≡ Equal → PartsFit g.parts x.parts) (λ x q e. parts_fit m n g.parts x.parts le (p.0 ∙ sym q.0) p.1 q.1) hs k) gs h

-- ---- the parts of one row

pub length-row_parts : (aggs : List Agg) (row : Row) → length (row_parts aggs row) ≡ length aggs
length-row_parts aggs row = length-map (λ agg. summary (field_of row agg.col ∷ [])) aggs

pub row_parts-at : (aggs : List Agg) (row : Row) (k : ℕ) (d : Agg) (e : Summary) → k < length aggs → get_or (row_parts aggs row) k e ≡ summary (field_of row (get_or aggs k d).col ∷ [])
row_parts-at [] row k d e h = absurd (omega arith)
row_parts-at (agg ∷ aggs) row zero d e h = refl
row_parts-at (agg ∷ aggs) row (suc k) d e h = row_parts-at aggs row k d e (omega arith)

pub row_part : (aggs : List Agg) (row : Row) (k : ℕ) (d : Agg) (e : Summary) (v : Option ℤ) → k < length aggs → v ≡ field_of row (get_or aggs k d).col → summary (v ∷ []) ≡ get_or (row_parts aggs row) k e
row_part aggs row k d e v h is = ap (λ x. summary (x ∷ [])) is ∙ sym (row_parts-at aggs row k d e h)
