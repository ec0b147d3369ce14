-- The groups of rows show the aggregation from scratch.
use Rattle.std.proofs.Common.{◌≡◌, Bool, true, false, List, [], ◌∷◌, ◌++◌, map, ℤ, sym, refl, ap, ◌∙◌, subst}
use Rattle.std.specs.List.{AllByRecursion, list_any, flat_map, filter}
use Rattle.std.specs.List.Sorted.{IsStrictlySortedBy}
use Rattle.std.specs.Ordering.{int_cmp, int_eq, is_eq}
use Rattle.std.specs.declared.cmp.Ordering.TheVariants.{Less}
use Rattle.std.proofs.lemmas.Cmp.{int_cmp_total}
use Rattle.std.proofs.lemmas.Map.Lookups.{exact_signed}
use Rattle.std.proofs.lemmas.Bool.Decides.{Decides-int_eq}
use Rattle.std.proofs.lemmas.List.Elements.{filter-append}
use Rattle.std.proofs.lemmas.List.{append-nil, map-append}
use Rattle.ts_schema.specs.declared.rows.Row.{Row}
use Rattle.ts_schema.specs.Conditions.{passes_all}
use Rattle.ts_bucket.specs.Bucket.{IsWidth, is_bucket, bucket_of}
use Rattle.ts_model.specs.declared.views.Fold.{Fold}
use Rattle.ts_model.specs.Scratch.{bucket_rows, key_lists, scratch_of, occurring_buckets}
use Rattle.ts_model.proofs.GroupLaws.{bucket_cells}
use Rattle.group_fold.specs.Grouping.{ShowScratch}
use Rattle.ts_model.specs.Groups.{group_at, bucket_groups, groups_in, groups_of, cells_of}
use Rattle.group_fold.proofs.Insertions.{by_order}
use Rattle.group_fold.proofs.Occurring.{all-map, all-flat_map, none_from_all, not_eq-less, not_eq-greater, all_above, all_above_tied, all_untied, sorted-once, any-once}
use Rattle.group_fold.proofs.Steps.{untied_number}
use Rattle.group_fold.proofs.RowGroups.{no_bucket_rows}

-- ---- what groups show

all_cells : (fold : Fold) (rows : List Row) (bs : List ℤ) → map (cells_of fold) (flat_map (groups_in fold rows) bs) ≡ flat_map (λ b. scratch_of fold b rows) bs
all_cells fold rows [] = refl
all_cells fold rows (b ∷ bs) =
    map-append (cells_of fold) (groups_in fold rows b) (flat_map (groups_in fold rows) bs)
    ∙ ap (λ ds. ds ++ map (cells_of fold) (flat_map (groups_in fold rows) bs)) (bucket_cells fold b (bucket_rows fold b rows) (key_lists fold (bucket_rows fold b rows)))
    ∙ ap (λ ds. scratch_of fold b rows ++ ds) (all_cells fold rows bs)

-- ---- the groups of one bucket

pub filter-none : {X : Type 0} (test : X → Bool) (xs : List X) → AllByRecursion (λ x. test x ≡ false) xs → filter test xs ≡ []
filter-none test [] h = refl
filter-none test (x ∷ xs) h = rw h.0 (filter-none test xs h.1)

pub filter-all : {X : Type 0} (test : X → Bool) (xs : List X) → AllByRecursion (λ x. test x ≡ true) xs → filter test xs ≡ xs
filter-all test [] h = refl
filter-all test (x ∷ xs) h = rw h.0 (ap (λ ys. x ∷ ys) (filter-all test xs h.1))

module _ (fold : Fold) (rows : List Row) (b : ℤ) where
  own_kept : AllByRecursion (λ g. int_eq g.start b ≡ true) (groups_in fold rows b)
  own_kept = all-map (λ g. int_eq g.start b ≡ true) (group_at fold b (bucket_rows fold b rows)) (λ q. (Decides-int_eq b b).1 refl) (key_lists fold (bucket_rows fold b rows))

  other_out : (x : ℤ) → is_eq (int_cmp b x) ≡ false → AllByRecursion (λ g. int_eq g.start b ≡ false) (groups_in fold rows x)
  other_out x e = all-map (λ g. int_eq g.start b ≡ false) (group_at fold x (bucket_rows fold x rows)) (λ q. untied_number b x e) (key_lists fold (bucket_rows fold x rows))

  all_out : (bs : List ℤ) → AllByRecursion (λ x. int_cmp b x ≡ Less) bs → filter (λ g. int_eq g.start b) (flat_map (groups_in fold rows) bs) ≡ []
  all_out bs h =
      filter-none (λ g. int_eq g.start b) (flat_map (groups_in fold rows) bs)
      (all-flat_map (λ x. int_cmp b x ≡ Less) (λ g. int_eq g.start b ≡ false) (groups_in fold rows) (λ x e. other_out x (not_eq-less (int_cmp b x) e)) bs h)

  of_bucket_among : (bs : List ℤ) → IsStrictlySortedBy int_cmp bs → (list_any (λ x. is_eq (int_cmp b x)) bs ≡ false → groups_in fold rows b ≡ []) → filter (λ g. int_eq g.start b) (flat_map (groups_in fold rows) bs) ≡ groups_in fold rows b
  unfolding IsStrictlySortedBy
  of_bucket_among [] sorted absent = sym (absent refl)
  of_bucket_among (x ∷ bs) sorted absent =
      by_order (int_cmp b x)
      (λ e.
      let above : AllByRecursion (λ y. int_cmp b y ≡ Less) (x ∷ bs) = (e, all_above int_cmp int_cmp_total b x bs e sorted.0) in
      let none = none_from_all (λ y. is_eq (int_cmp b y)) (x ∷ bs) (all_untied int_cmp int_cmp_total b (x ∷ bs) above) in
      all_out (x ∷ bs) above ∙ sym (absent none))
      (λ e.
      let same : b ≡ x = exact_signed b x e in
      let above = all_above_tied int_cmp int_cmp_total b x bs e sorted.0 in
      filter-append (λ g. int_eq g.start b) (groups_in fold rows x) (flat_map (groups_in fold rows) bs)
      ∙ ap (λ gs. filter (λ g. int_eq g.start b) (groups_in fold rows x) ++ gs) (all_out bs above)
      ∙ append-nil (filter (λ g. int_eq g.start b) (groups_in fold rows x))
      ∙ subst (λ y. filter (λ g. int_eq g.start b) (groups_in fold rows y) ≡ groups_in fold rows b) same (filter-all (λ g. int_eq g.start b) (groups_in fold rows b) own_kept))
      (λ e.
      let untied : is_eq (int_cmp b x) ≡ false = not_eq-greater (int_cmp b x) e in
      filter-append (λ g. int_eq g.start b) (groups_in fold rows x) (flat_map (groups_in fold rows) bs)
      ∙ ap (λ gs. gs ++ filter (λ g. int_eq g.start b) (flat_map (groups_in fold rows) bs)) (filter-none (λ g. int_eq g.start b) (groups_in fold rows x) (other_out x untied))
      ∙ of_bucket_among bs sorted.1 (λ none. absent (rw untied none)))

-- the groups that start at a bucket are the bucket's
pub groups_of_bucket : (fold : Fold) → IsWidth fold.width → (rows : List Row) (b : ℤ) → is_bucket fold.width b ≡ true → filter (λ g. int_eq g.start b) (groups_of fold rows) ≡ groups_in fold rows b
groups_of_bucket fold wide rows b p =
    let buckets = map (λ row. bucket_of fold.width row.at) (filter (λ row. passes_all row fold.tests) rows) in
    of_bucket_among fold rows b (occurring_buckets fold rows) (sorted-once int_cmp int_cmp_total buckets)
    (λ none. ap (bucket_groups fold b) (no_bucket_rows fold b wide p rows (sym (any-once int_cmp int_cmp_total b buckets) ∙ none)))

pub groups_show_scratch : (fold : Fold) → IsWidth fold.width → (rows : List Row) → ShowScratch fold rows (groups_of fold rows)
groups_show_scratch fold wide rows = record {
  of_bucket = λ b p. ap (map (cells_of fold)) (groups_of_bucket fold wide rows b p) ∙ bucket_cells fold b (bucket_rows fold b rows) (key_lists fold (bucket_rows fold b rows));
  of_all = all_cells fold rows (occurring_buckets fold rows);
}
