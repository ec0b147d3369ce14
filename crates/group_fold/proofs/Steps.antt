-- The groups of rows with one more row in front: its group is inserted in its place.
use Rattle.std.proofs.Common.{◌≡◌, true, false, List, [], ◌∷◌, ◌++◌, map, Option, ℤ, sym, refl, ap, ◌∙◌, subst}
use Rattle.std.specs.List.{AllByRecursion, list_any, flat_map}
use Rattle.std.specs.List.Sorted.{IsStrictlySortedBy}
use Rattle.std.specs.BTreeSet.{insert_key}
use Rattle.std.specs.Ordering.{int_cmp, int_eq, is_eq, ordering_then}
use Rattle.std.specs.declared.cmp.Ordering.TheVariants.{Less, Equal, Greater}
use Rattle.std.proofs.lemmas.Cmp.{tied_itself, int_cmp_total}
use Rattle.std.proofs.lemmas.Map.Lookups.{exact_signed}
use Rattle.std.proofs.lemmas.Bool.Decides.{Decides-int_eq}
use Rattle.std.proofs.lemmas.Bool.{or_parts, false_from_ne_true}
use Rattle.ts_schema.specs.declared.rows.Row.{Row}
use Rattle.ts_schema.specs.Rows.{field_of, values_cmp}
use Rattle.ts_schema.specs.Conditions.{passes_all}
use Rattle.ts_schema.proofs.OrderLaws.{values_cmp_total, values_cmp_exact}
use Rattle.ts_bucket.specs.Bucket.{IsWidth, is_bucket, bucket_of, holds}
use Rattle.ts_bucket.proofs.BucketLaws.{holds-is, holds-bucket_of}
use Rattle.ts_model.specs.declared.views.Agg.{Agg}
use Rattle.ts_model.specs.declared.views.Fold.{Fold}
use Rattle.ts_model.specs.Scratch.{keys_of, bucket_rows, key_lists, with_keys}
use Rattle.partial_agg.specs.declared.groups.Group.{Group}
use Rattle.partial_agg.specs.Summaries.{Summary, summary, summary_of_both}
use Rattle.partial_agg.specs.Groups.{group_cmp}
use Rattle.partial_agg.proofs.Joined.{summary-append}
use Rattle.group_fold.specs.Grouping.{row_at, row_group}
use Rattle.ts_model.specs.Groups.{column, group_at, bucket_groups, groups_in}
use Rattle.group_fold.specs.Merging.{joined_parts, merge_of, with_group}
use Rattle.group_fold.proofs.Insertions.{by_order, at_less, at_equal, at_greater, with_group-front, with_group-low, with_group-past}
use Rattle.group_fold.proofs.Occurring.{all-map, all-flat_map, map-same, flat_map-same, none_from_all, not_eq-less, not_eq-greater, is_eq-swap, all_above, all_above_tied, all_untied, sorted-once, any-once, key_less, key_equal, key_greater}
use Rattle.ts_schema.proofs.Cases.{all_weaker}

-- ---- in one bucket

-- the parts of a group with one more row in front
parts_more : (row : Row) (rows : List Row) (aggs : List Agg) → map (λ agg. summary (column (row ∷ rows) agg)) aggs ≡ joined_parts (map (λ agg. summary (field_of row agg.col ∷ [])) aggs) (map (λ agg. summary (column rows agg)) aggs)
parts_more row rows [] = refl
parts_more row rows (agg ∷ aggs) =
    let first : summary (column (row ∷ rows) agg) ≡ summary_of_both (summary (field_of row agg.col ∷ [])) (summary (column rows agg)) = summary-append (field_of row agg.col ∷ []) (column rows agg) in
    ap (λ s. s ∷ map (λ agg. summary (column (row ∷ rows) agg)) aggs) first ∙ ap (λ ss. summary_of_both (summary (field_of row agg.col ∷ [])) (summary (column rows agg)) ∷ ss) (parts_more row rows aggs)

module _ (fold : Fold) (b : ℤ) (row : Row) (found : List Row) where
  -- a group with other keys stays
  group_at-other : (q : List (Option ℤ)) → is_eq (values_cmp (keys_of fold.keys row) q) ≡ false → group_at fold b (row ∷ found) q ≡ group_at fold b found q
  group_at-other q e = rw e refl

  -- a new group
  group_at-new : with_keys fold (keys_of fold.keys row) found ≡ [] → group_at fold b (row ∷ found) (keys_of fold.keys row) ≡ row_at fold b row
  group_at-new none = rw (tied_itself values_cmp_total (keys_of fold.keys row), none) refl

  -- the row is added to a group
  group_at-more : (q : List (Option ℤ)) → values_cmp (keys_of fold.keys row) q ≡ Equal → group_at fold b (row ∷ found) q ≡ merge_of (row_at fold b row) (group_at fold b found q)
  group_at-more q e =
      let same : keys_of fold.keys row ≡ q = values_cmp_exact (keys_of fold.keys row) q e in
      let made : List (Option ℤ) → List Summary → Group = λ ks ps. record { start = b; keys = ks; parts = ps } in
      rw e (ap (λ ps. made q ps) (parts_more row (with_keys fold q found) fold.aggs) ∙ ap (λ ks. made ks (joined_parts (row_at fold b row).parts (group_at fold b found q).parts)) (sym same))

  -- groups of one bucket compare by their keys
  by_keys : (q : List (Option ℤ)) → group_cmp (row_at fold b row) (group_at fold b found q) ≡ values_cmp (keys_of fold.keys row) q
  by_keys q = rw (tied_itself int_cmp_total b) refl

  groups_others : (qs : List (List (Option ℤ))) → AllByRecursion (λ q. values_cmp (keys_of fold.keys row) q ≡ Less) qs → map (group_at fold b (row ∷ found)) qs ≡ map (group_at fold b found) qs
  groups_others qs h =
      map-same (group_at fold b (row ∷ found)) (group_at fold b found) qs
      (all_weaker (λ q. values_cmp (keys_of fold.keys row) q ≡ Less) (λ q. group_at fold b (row ∷ found) q ≡ group_at fold b found q)
      (λ q p. group_at-other q (not_eq-less (values_cmp (keys_of fold.keys row) q) p)) qs h)

  put_in : (qs : List (List (Option ℤ))) → IsStrictlySortedBy values_cmp qs → (list_any (λ q. is_eq (values_cmp (keys_of fold.keys row) q)) qs ≡ false → with_keys fold (keys_of fold.keys row) found ≡ []) → map (group_at fold b (row ∷ found)) (insert_key values_cmp qs (keys_of fold.keys row)) ≡ with_group (row_at fold b row) (map (group_at fold b found) qs)
  unfolding IsStrictlySortedBy
  put_in [] sorted absent = ap (λ g. g ∷ []) (group_at-new (absent refl))
  put_in (q ∷ qs) sorted absent =
      by_order (values_cmp (keys_of fold.keys row) q)
      (λ e.
      let above : AllByRecursion (λ y. values_cmp (keys_of fold.keys row) y ≡ Less) (q ∷ qs) = (e, all_above values_cmp values_cmp_total (keys_of fold.keys row) q qs e sorted.0) in
      let none = none_from_all (λ y. is_eq (values_cmp (keys_of fold.keys row) y)) (q ∷ qs) (all_untied values_cmp values_cmp_total (keys_of fold.keys row) (q ∷ qs) above) in
      let place : group_cmp (row_at fold b row) (group_at fold b found q) ≡ Less = by_keys q ∙ e in
      ap (map (group_at fold b (row ∷ found))) (key_less values_cmp values_cmp_total (keys_of fold.keys row) q qs e)
      ∙ ap (λ g. g ∷ map (group_at fold b (row ∷ found)) (q ∷ qs)) (group_at-new (absent none))
      ∙ ap (λ gs. row_at fold b row ∷ gs) (groups_others (q ∷ qs) above)
      ∙ sym (at_less (row_at fold b row) (group_at fold b found q) (map (group_at fold b found) qs) place))
      (λ e.
      let above = all_above_tied values_cmp values_cmp_total (keys_of fold.keys row) q qs e sorted.0 in
      let place : group_cmp (row_at fold b row) (group_at fold b found q) ≡ Equal = by_keys q ∙ e in
      ap (map (group_at fold b (row ∷ found))) (key_equal values_cmp values_cmp_total (keys_of fold.keys row) q qs e)
      ∙ ap (λ g. g ∷ map (group_at fold b (row ∷ found)) qs) (group_at-more q e)
      ∙ ap (λ gs. merge_of (row_at fold b row) (group_at fold b found q) ∷ gs) (groups_others qs above)
      ∙ sym (at_equal (row_at fold b row) (group_at fold b found q) (map (group_at fold b found) qs) place))
      (λ e.
      let place : group_cmp (row_at fold b row) (group_at fold b found q) ≡ Greater = by_keys q ∙ e in
      let untied : is_eq (values_cmp (keys_of fold.keys row) q) ≡ false = not_eq-greater (values_cmp (keys_of fold.keys row) q) e in
      ap (map (group_at fold b (row ∷ found))) (key_greater values_cmp values_cmp_total (keys_of fold.keys row) q qs e)
      ∙ ap (λ g. g ∷ map (group_at fold b (row ∷ found)) (insert_key values_cmp qs (keys_of fold.keys row))) (group_at-other q untied)
      ∙ ap (λ gs. group_at fold b found q ∷ gs) (put_in qs sorted.1 (λ none. absent (rw untied none)))
      ∙ sym (at_greater (row_at fold b row) (group_at fold b found q) (map (group_at fold b found) qs) place))

-- keys that don't occur have no rows
no_rows : (fold : Fold) (keys : List (Option ℤ)) (found : List Row) → list_any (λ q. is_eq (values_cmp keys q)) (map (keys_of fold.keys) found) ≡ false → with_keys fold keys found ≡ []
no_rows fold keys [] h = refl
no_rows fold keys (row ∷ found) h =
    let parts = or_parts (is_eq (values_cmp keys (keys_of fold.keys row))) (list_any (λ q. is_eq (values_cmp keys q)) (map (keys_of fold.keys) found)) h in
    let untied : is_eq (values_cmp (keys_of fold.keys row) keys) ≡ false = is_eq-swap values_cmp values_cmp_total (keys_of fold.keys row) keys ∙ parts.0 in
    rw untied (no_rows fold keys found parts.1)

pub bucket_groups-more : (fold : Fold) (b : ℤ) (row : Row) (found : List Row) → bucket_groups fold b (row ∷ found) ≡ with_group (row_at fold b row) (bucket_groups fold b found)
bucket_groups-more fold b row found =
    put_in fold b row found (key_lists fold found) (sorted-once values_cmp values_cmp_total (map (keys_of fold.keys) found))
    (λ none. no_rows fold (keys_of fold.keys row) found (sym (any-once values_cmp values_cmp_total (keys_of fold.keys row) (map (keys_of fold.keys) found)) ∙ none))

-- ---- over all buckets

-- a test of the order says what the test of numbers says
pub untied_number : (a b : ℤ) → is_eq (int_cmp a b) ≡ false → int_eq b a ≡ false
untied_number a b e =
    false_from_ne_true (int_eq b a) (λ t.
    let same : b ≡ a = (Decides-int_eq b a).0 t in
    let tied : is_eq (int_cmp a b) ≡ true = subst (λ x. is_eq (int_cmp a x) ≡ true) (sym same) (ap is_eq (tied_itself int_cmp_total a)) in
    cc)

module _ (fold : Fold) (wide : IsWidth fold.width) (row : Row) (rows : List Row) where
  -- the rows of another bucket stay
  groups_in-other : (b : ℤ) → is_bucket fold.width b ≡ true → is_eq (int_cmp (bucket_of fold.width row.at) b) ≡ false → groups_in fold (row ∷ rows) b ≡ groups_in fold rows b
  groups_in-other b p e =
      let out : holds fold.width b row.at ≡ false = holds-is fold.width b row.at wide p ∙ untied_number (bucket_of fold.width row.at) b e in
      rw out refl

  groups_in-own : passes_all row fold.tests ≡ true → groups_in fold (row ∷ rows) (bucket_of fold.width row.at) ≡ with_group (row_group fold row) (groups_in fold rows (bucket_of fold.width row.at))
  groups_in-own pass =
      let own : bucket_rows fold (bucket_of fold.width row.at) (row ∷ rows) ≡ row ∷ bucket_rows fold (bucket_of fold.width row.at) rows = rw (holds-bucket_of fold.width row.at wide, pass) refl in
      ap (bucket_groups fold (bucket_of fold.width row.at)) own ∙ bucket_groups-more fold (bucket_of fold.width row.at) row (bucket_rows fold (bucket_of fold.width row.at) rows)

  -- the groups of a later bucket come after, and those of an earlier one before
  later_groups : (b : ℤ) → int_cmp (bucket_of fold.width row.at) b ≡ Less → AllByRecursion (λ g. group_cmp (row_group fold row) g ≡ Less) (groups_in fold rows b)
  later_groups b e =
      all-map (λ g. group_cmp (row_group fold row) g ≡ Less) (group_at fold b (bucket_rows fold b rows))
      (λ q. ap (λ o. ordering_then o (values_cmp (keys_of fold.keys row) q)) e) (key_lists fold (bucket_rows fold b rows))

  earlier_groups : (b : ℤ) → int_cmp (bucket_of fold.width row.at) b ≡ Greater → AllByRecursion (λ g. group_cmp (row_group fold row) g ≡ Greater) (groups_in fold rows b)
  earlier_groups b e =
      all-map (λ g. group_cmp (row_group fold row) g ≡ Greater) (group_at fold b (bucket_rows fold b rows))
      (λ q. ap (λ o. ordering_then o (values_cmp (keys_of fold.keys row) q)) e) (key_lists fold (bucket_rows fold b rows))

  all_later : (bs : List ℤ) → AllByRecursion (λ b. int_cmp (bucket_of fold.width row.at) b ≡ Less) bs → AllByRecursion (λ g. group_cmp (row_group fold row) g ≡ Less) (flat_map (groups_in fold rows) bs)
  all_later bs h = all-flat_map (λ b. int_cmp (bucket_of fold.width row.at) b ≡ Less) (λ g. group_cmp (row_group fold row) g ≡ Less) (groups_in fold rows) later_groups bs h

  buckets_others : (bs : List ℤ) → AllByRecursion (λ b. is_bucket fold.width b ≡ true) bs → AllByRecursion (λ b. int_cmp (bucket_of fold.width row.at) b ≡ Less) bs → flat_map (groups_in fold (row ∷ rows)) bs ≡ flat_map (groups_in fold rows) bs
  buckets_others bs h k =
      flat_map-same (groups_in fold (row ∷ rows)) (groups_in fold rows) bs
      (both (λ b. is_bucket fold.width b ≡ true) (λ b. int_cmp (bucket_of fold.width row.at) b ≡ Less) (λ b. groups_in fold (row ∷ rows) b ≡ groups_in fold rows b)
      (λ b p e. groups_in-other b p (not_eq-less (int_cmp (bucket_of fold.width row.at) b) e)) bs h k)
    where
      both : {X : Type 0} (P Q R : X → Type 0) → ((x : X) → P x → Q x → R x) → (xs : List X) → AllByRecursion P xs → AllByRecursion Q xs → AllByRecursion R xs
      both P Q R f [] h k = tt
      both P Q R f (x ∷ xs) h k = (f x h.0 k.0, both P Q R f xs h.1 k.1)

  -- a bucket without rows, with one row in front
  groups_in-new : passes_all row fold.tests ≡ true → bucket_rows fold (bucket_of fold.width row.at) rows ≡ [] → groups_in fold (row ∷ rows) (bucket_of fold.width row.at) ≡ row_group fold row ∷ []
  groups_in-new pass none =
      groups_in-own pass ∙ ap (λ found. with_group (row_group fold row) (bucket_groups fold (bucket_of fold.width row.at) found)) none

  pub put_bucket : passes_all row fold.tests ≡ true → (bs : List ℤ) → IsStrictlySortedBy int_cmp bs → AllByRecursion (λ b. is_bucket fold.width b ≡ true) bs → (list_any (λ b. is_eq (int_cmp (bucket_of fold.width row.at) b)) bs ≡ false → bucket_rows fold (bucket_of fold.width row.at) rows ≡ []) → flat_map (groups_in fold (row ∷ rows)) (insert_key int_cmp bs (bucket_of fold.width row.at)) ≡ with_group (row_group fold row) (flat_map (groups_in fold rows) bs)
  unfolding IsStrictlySortedBy
  put_bucket pass [] sorted starts absent = ap (λ gs. gs ++ []) (groups_in-new pass (absent refl))
  put_bucket pass (b ∷ bs) sorted starts absent =
      by_order (int_cmp (bucket_of fold.width row.at) b)
      (λ e.
      let above : AllByRecursion (λ y. int_cmp (bucket_of fold.width row.at) y ≡ Less) (b ∷ bs) = (e, all_above int_cmp int_cmp_total (bucket_of fold.width row.at) b bs e sorted.0) in
      let none = none_from_all (λ y. is_eq (int_cmp (bucket_of fold.width row.at) y)) (b ∷ bs) (all_untied int_cmp int_cmp_total (bucket_of fold.width row.at) (b ∷ bs) above) in
      ap (flat_map (groups_in fold (row ∷ rows))) (key_less int_cmp int_cmp_total (bucket_of fold.width row.at) b bs e)
      ∙ ap (λ gs. gs ++ flat_map (groups_in fold (row ∷ rows)) (b ∷ bs)) (groups_in-new pass (absent none))
      ∙ ap (λ gs. row_group fold row ∷ gs) (buckets_others (b ∷ bs) starts above)
      ∙ sym (with_group-front (row_group fold row) (flat_map (groups_in fold rows) (b ∷ bs)) (all_later (b ∷ bs) above)))
      (λ e.
      let above = all_above_tied int_cmp int_cmp_total (bucket_of fold.width row.at) b bs e sorted.0 in
      let same : bucket_of fold.width row.at ≡ b = exact_signed (bucket_of fold.width row.at) b e in
      ap (flat_map (groups_in fold (row ∷ rows))) (key_equal int_cmp int_cmp_total (bucket_of fold.width row.at) b bs e)
      ∙ ap (λ gs. gs ++ flat_map (groups_in fold (row ∷ rows)) bs) (subst (λ x. groups_in fold (row ∷ rows) x ≡ with_group (row_group fold row) (groups_in fold rows x)) same (groups_in-own pass))
      ∙ ap (λ gs. with_group (row_group fold row) (groups_in fold rows b) ++ gs) (buckets_others bs starts.1 above)
      ∙ sym (with_group-low (row_group fold row) (groups_in fold rows b) (flat_map (groups_in fold rows) bs) (all_later bs above)))
      (λ e.
      let untied : is_eq (int_cmp (bucket_of fold.width row.at) b) ≡ false = not_eq-greater (int_cmp (bucket_of fold.width row.at) b) e in
      ap (flat_map (groups_in fold (row ∷ rows))) (key_greater int_cmp int_cmp_total (bucket_of fold.width row.at) b bs e)
      ∙ ap (λ gs. gs ++ flat_map (groups_in fold (row ∷ rows)) (insert_key int_cmp bs (bucket_of fold.width row.at))) (groups_in-other b starts.0 untied)
      ∙ ap (λ gs. groups_in fold rows b ++ gs) (put_bucket pass bs sorted.1 starts.1 (λ none. absent (rw untied none)))
      ∙ sym (with_group-past (row_group fold row) (groups_in fold rows b) (flat_map (groups_in fold rows) bs) (earlier_groups b e)))
