-- Grouping groups more coarsely: the effect of one more group, and that the result is the groups of the rows.
use Rattle.std.proofs.Common.{◌≡◌, ℕ, zero, suc, ◌-◌, ◌<◌, Bool, true, false, cond, ◌&&◌, List, [], ◌∷◌, map, length, get_or, Option, None, ℤ, sym, refl, ap, ◌∙◌, arith}
use Rattle.std.specs.List.{AllByRecursion}
use Rattle.std.specs.declared.cmp.Ordering.TheVariants.{Equal}
use Rattle.std.proofs.lemmas.Cmp.{tied_itself}
use Rattle.std.proofs.lemmas.List.{get_or-map, length-map}
use Rattle.std.proofs.lemmas.List.Folds.{list_all-append}
use Rattle.ts_schema.specs.declared.rows.Row.{Row}
use Rattle.ts_schema.specs.declared.conditions.Test.{Test}
use Rattle.ts_schema.specs.Conditions.{compares, passes_all, passes_one}
use Rattle.ts_schema.specs.Rows.{field_of}
use Rattle.ts_schema.proofs.Cases.{by_test}
use Rattle.ts_bucket.specs.Bucket.{bucket_of}
use Rattle.ts_model.specs.declared.views.Fold.{Fold}
use Rattle.ts_model.specs.Scratch.{keys_of, bucket_rows, key_lists, occurring_buckets, with_keys}
use Rattle.ts_model.specs.Groups.{column, group_at, groups_in, groups_of}
use Rattle.partial_agg.specs.declared.groups.Group.{Group}
use Rattle.partial_agg.specs.Groups.{group_cmp}
use Rattle.partial_agg.specs.Summaries.{Summary, summary, summary_of_both}
use Rattle.partial_agg.proofs.GroupLaws.{group_cmp_total, group_cmp-place}
use Rattle.group_fold.specs.Grouping.{row_group, row_parts}
use Rattle.group_fold.specs.Gathering.{HaveParts}
use Rattle.group_fold.specs.Merging.{joined_parts, merge_of, groups_with_row, with_group}
use Rattle.group_fold.proofs.Counts.{length-row_parts, row_parts-at}
use Rattle.group_fold.proofs.Insertions.{by_order, at_less, at_equal, at_greater, with_group-commutes, with_group-twice}
use Rattle.group_fold.proofs.Occurring.{all-map, all-flat_map}
use Rattle.group_fold.proofs.RowGroups.{groups_of-more}
use Rattle.hier_agg.specs.declared.plans.UpperPlan.{UpperPlan}
use Rattle.hier_agg.specs.Plans.{IsAdditive, PlanFits, agg_at, composed_fold, key_at, row_count, table_test}
use Rattle.hier_agg.specs.Regroup.{coarse, keys_pass, regroup}
use Rattle.hier_agg.proofs.Nesting.{buckets_nest}

-- ---- lists

pub all_each : {X : Type 0} (P : X → Type 0) → ((x : X) → P x) → (xs : List X) → AllByRecursion P xs
all_each P h [] = tt
all_each P h (x ∷ xs) = (h x, all_each P h xs)

-- ---- groups have as many parts as their fold

pub groups_have_parts : (fold : Fold) (rows : List Row) → HaveParts (length fold.aggs) (groups_of fold rows)
groups_have_parts fold rows =
    all-flat_map (λ b. Unit) (λ g. length g.parts ≡ length fold.aggs) (groups_in fold rows)
    (λ b u. all-map (λ g. length g.parts ≡ length fold.aggs) (group_at fold b (bucket_rows fold b rows))
    (λ keys. length-map fold.aggs (λ agg. summary (column (with_keys fold keys (bucket_rows fold b rows)) agg))) (key_lists fold (bucket_rows fold b rows)))
    (occurring_buckets fold rows) (all_each (λ b. Unit) (λ b. tt) (occurring_buckets fold rows))

-- ---- parts

-- the part at a place, joined with the part of another group at this place
joined_at : (ps qs : List Summary) (k : ℕ) → length ps ≡ length qs → get_or (joined_parts ps qs) k (summary []) ≡ summary_of_both (get_or ps k (summary [])) (get_or qs k (summary []))
joined_at [] [] k e = refl
joined_at [] (q ∷ qs) k e = absurd (omega (arith, e))
joined_at (p ∷ ps) [] k e = absurd (omega (arith, e))
joined_at (p ∷ ps) (q ∷ qs) zero e = refl
joined_at (p ∷ ps) (q ∷ qs) (suc k) e = joined_at ps qs k (omega (arith, e))

joined_picked : (n : ℕ) (ps qs : List Summary) (cols : List ℕ) → length ps ≡ length qs → map (λ c. get_or (joined_parts ps qs) (c - n) (summary [])) cols ≡ joined_parts (map (λ c. get_or ps (c - n) (summary [])) cols) (map (λ c. get_or qs (c - n) (summary [])) cols)
joined_picked n ps qs [] e = refl
joined_picked n ps qs (c ∷ cols) e =
    ap (λ p. p ∷ map (λ c. get_or (joined_parts ps qs) (c - n) (summary [])) cols) (joined_at ps qs (c - n) e)
    ∙ ap (λ rest. summary_of_both (get_or ps (c - n) (summary [])) (get_or qs (c - n) (summary [])) ∷ rest) (joined_picked n ps qs cols e)

-- groups of one start with the same keys have one place
tied_same : (g h : Group) → g.start ≡ h.start → g.keys ≡ h.keys → group_cmp g h ≡ Equal
tied_same g h p q = rw (p, q) (tied_itself group_cmp_total h)

-- ---- one group more

module _ (lower : Fold) (plan : UpperPlan) where
  -- groups with one more added, if its keys pass
  abbrev pub took : Group → List Group → List Group
  took g groups = cond (keys_pass plan.tests g.keys) (with_group (coarse lower plan g) groups) groups

  pub regroup-more : (g : Group) (gs : List Group) → regroup lower plan (g ∷ gs) ≡ took g (regroup lower plan gs)
  regroup-more g gs =
      by_test (keys_pass plan.tests g.keys)
      (λ e. rw e refl)
      (λ e. rw e refl)

  took-commutes : (g h : Group) (groups : List Group) → took g (took h groups) ≡ took h (took g groups)
  took-commutes g h groups = both (keys_pass plan.tests g.keys) (keys_pass plan.tests h.keys)
    where
      both : (s t : Bool) → cond s (with_group (coarse lower plan g) (cond t (with_group (coarse lower plan h) groups) groups)) (cond t (with_group (coarse lower plan h) groups) groups) ≡ cond t (with_group (coarse lower plan h) (cond s (with_group (coarse lower plan g) groups) groups)) (cond s (with_group (coarse lower plan g) groups) groups)
      both true true = with_group-commutes (coarse lower plan g) (coarse lower plan h) groups
      both true false = refl
      both false true = refl
      both false false = refl

  -- two groups of one place: making them coarse and merging them commute
  coarse-merged : (g h : Group) → length g.parts ≡ length h.parts → coarse lower plan (merge_of g h) ≡ merge_of (coarse lower plan g) (coarse lower plan h)
  coarse-merged g h e =
      let made : List Summary → Group = λ ps. record { start = bucket_of plan.width g.start; keys = map (λ k. get_or g.keys k None) plan.keys; parts = ps } in
      ap made (joined_picked (length lower.keys) g.parts h.parts plan.cols e)

  took-twice : (g h : Group) (groups : List Group) → group_cmp g h ≡ Equal → length g.parts ≡ length h.parts → took (merge_of g h) groups ≡ took g (took h groups)
  took-twice g h groups e same =
      let place = group_cmp-place g h e in
      let tests : keys_pass plan.tests g.keys ≡ keys_pass plan.tests h.keys = ap (keys_pass plan.tests) place.1 in
      let tied : group_cmp (coarse lower plan g) (coarse lower plan h) ≡ Equal =
      tied_same (coarse lower plan g) (coarse lower plan h) (ap (bucket_of plan.width) place.0) (ap (λ ks. map (λ k. get_or ks k None) plan.keys) place.1) in
      by_test (keys_pass plan.tests h.keys)
      (λ t. let s : keys_pass plan.tests g.keys ≡ true = tests ∙ t in
      rw (s, t) (ap (λ m. with_group m groups) (coarse-merged g h same) ∙ with_group-twice (coarse lower plan g) (coarse lower plan h) groups tied))
      (λ t. let s : keys_pass plan.tests g.keys ≡ false = tests ∙ t in rw (s, t) refl)

  -- a group inserted in its place among groups, and the groups grouped more coarsely
  regroup-with_group : (n : ℕ) (g : Group) (gs : List Group) → length g.parts ≡ n → HaveParts n gs → regroup lower plan (with_group g gs) ≡ took g (regroup lower plan gs)
  regroup-with_group n g [] p h = regroup-more g []
  regroup-with_group n g (x ∷ xs) p h =
      by_order (group_cmp g x)
      (λ e. ap (regroup lower plan) (at_less g x xs e) ∙ regroup-more g (x ∷ xs))
      (λ e. ap (regroup lower plan) (at_equal g x xs e) ∙ regroup-more (merge_of g x) xs ∙ took-twice g x (regroup lower plan xs) e (p ∙ sym h.0) ∙ ap (took g) (sym (regroup-more x xs)))
      (λ e. ap (regroup lower plan) (at_greater g x xs e) ∙ regroup-more x (with_group g xs) ∙ ap (took x) (regroup-with_group n g xs p h.1) ∙ took-commutes x g (regroup lower plan xs) ∙ ap (took g) (sym (regroup-more x xs)))

-- ---- the group of one row

module _ (lower : Fold) (row : Row) where
  -- a key of the row's group is the row's value
  key_is : (k : ℕ) → k < length lower.keys → get_or (keys_of lower.keys row) k None ≡ field_of row (key_at lower k)
  key_is k h = get_or-map (field_of row) lower.keys k 0 None h

  keys_are : (ks : List ℕ) → AllByRecursion (λ k. k < length lower.keys) ks → map (λ k. get_or (keys_of lower.keys row) k None) ks ≡ keys_of (map (key_at lower) ks) row
  keys_are [] h = refl
  keys_are (k ∷ ks) h = ap (λ v. v ∷ map (λ k. get_or (keys_of lower.keys row) k None) ks) (key_is k h.0) ∙ ap (λ vs. field_of row (key_at lower k) ∷ vs) (keys_are ks h.1)

  parts_are : (cols : List ℕ) → AllByRecursion (IsAdditive lower) cols → map (λ c. get_or (row_parts lower.aggs row) (c - length lower.keys) (summary [])) cols ≡ row_parts (map (agg_at lower) cols) row
  parts_are [] h = refl
  parts_are (c ∷ cols) h =
      ap (λ p. p ∷ map (λ c. get_or (row_parts lower.aggs row) (c - length lower.keys) (summary [])) cols) (row_parts-at lower.aggs row (c - length lower.keys) row_count (summary []) h.0.within)
      ∙ ap (λ ps. summary (field_of row (agg_at lower c).col ∷ []) ∷ ps) (parts_are cols h.1)

  tests_are : (ts : List Test) → AllByRecursion (λ t. t.col < length lower.keys) ts → keys_pass ts (keys_of lower.keys row) ≡ passes_all row (map (table_test lower) ts)
  tests_are [] h = refl
  tests_are (t ∷ ts) h =
      ap (λ v. compares t.cmp v t.num && keys_pass ts (keys_of lower.keys row)) (key_is t.col h.0) ∙ ap (λ b. passes_one row (table_test lower t) && b) (tests_are ts h.1)

  module _ (plan : UpperPlan) (fits : PlanFits lower plan) where
    coarse_row : coarse lower plan (row_group lower row) ≡ row_group (composed_fold lower plan) row
    coarse_row =
        let made : ℤ → List (Option ℤ) → List Summary → Group = λ s ks ps. record { start = s; keys = ks; parts = ps } in
        let parts = map (λ c. get_or (row_parts lower.aggs row) (c - length lower.keys) (summary [])) plan.cols in
        let keys = map (λ k. get_or (keys_of lower.keys row) k None) plan.keys in
        ap (λ s. made s keys parts) (buckets_nest lower.width plan.width row.at fits.lower_width fits.width fits.nested)
        ∙ ap (λ ks. made (bucket_of plan.width row.at) ks parts) (keys_are plan.keys fits.keys)
        ∙ ap (λ ps. made (bucket_of plan.width row.at) (keys_of (composed_fold lower plan).keys row) ps) (parts_are plan.cols fits.cols)

    -- the composed fold adds a row that passes as its group is added
    took_row : (groups : List Group) → passes_all row lower.tests ≡ true → took lower plan (row_group lower row) groups ≡ groups_with_row (composed_fold lower plan) row groups
    took_row groups e =
        let tests : keys_pass plan.tests (keys_of lower.keys row) ≡ passes_all row (composed_fold lower plan).tests =
        tests_are plan.tests fits.tests ∙ sym (list_all-append (passes_one row) lower.tests (map (table_test lower) plan.tests) ∙ ap (λ b. b && passes_all row (map (table_test lower) plan.tests)) e) in
        ap (λ b. cond b (with_group (coarse lower plan (row_group lower row)) groups) groups) tests
        ∙ ap (λ g. cond (passes_all row (composed_fold lower plan).tests) (with_group g groups) groups) coarse_row

    left_row : (groups : List Group) → passes_all row lower.tests ≡ false → groups_with_row (composed_fold lower plan) row groups ≡ groups
    left_row groups e =
        let tests : passes_all row (composed_fold lower plan).tests ≡ false =
        list_all-append (passes_one row) lower.tests (map (table_test lower) plan.tests) ∙ ap (λ b. b && passes_all row (map (table_test lower) plan.tests)) e in
        ap (λ b. cond b (with_group (row_group (composed_fold lower plan) row) groups) groups) tests

-- ---- the law

pub grouping_in_two_steps : (lower : Fold) (plan : UpperPlan) (rows : List Row) → PlanFits lower plan → regroup lower plan (groups_of lower rows) ≡ groups_of (composed_fold lower plan) rows
grouping_in_two_steps lower plan [] fits = refl
grouping_in_two_steps lower plan (row ∷ rows) fits =
    let before = grouping_in_two_steps lower plan rows fits in
    ap (regroup lower plan) (groups_of-more lower fits.lower_width row rows)
    ∙ by_test (passes_all row lower.tests)
    (λ e.
    ap (λ b. regroup lower plan (cond b (with_group (row_group lower row) (groups_of lower rows)) (groups_of lower rows))) e
    ∙ regroup-with_group lower plan (length lower.aggs) (row_group lower row) (groups_of lower rows) (length-row_parts lower.aggs row) (groups_have_parts lower rows)
    ∙ ap (took lower plan (row_group lower row)) before
    ∙ took_row lower row plan fits (groups_of (composed_fold lower plan) rows) e)
    (λ e.
    ap (λ b. regroup lower plan (cond b (with_group (row_group lower row) (groups_of lower rows)) (groups_of lower rows))) e
    ∙ before
    ∙ sym (left_row lower row plan fits (groups_of (composed_fold lower plan) rows) e))
    ∙ sym (groups_of-more (composed_fold lower plan) fits.width row rows)
