-- The answer of a roll-up: the rows of the composed fold, and those of each wider bucket.
use Rattle.std.proofs.Common.{◌≡◌, ℕ, zero, suc, ◌-◌, ◌<◌, ◌≤◌, Bool, true, false, cond, ◌&&◌, List, [], ◌∷◌, ◌++◌, map, filter, length, get_or, Option, Some, None, ℤ, sym, refl, ap, ◌∙◌, subst, arith}
use Rattle.std.specs.List.{AllByRecursion}
use Rattle.std.specs.Ordering.{int_eq}
use Rattle.std.proofs.lemmas.List.{length-map}
use Rattle.ts_num.specs.Aggregates.{shown_or_null}
use Rattle.ts_num.specs.declared.values.Datum.{Datum}
use Rattle.ts_num.specs.declared.values.Datum.TheVariants.{Int}
use Rattle.ts_schema.specs.declared.rows.Row.{Row}
use Rattle.ts_schema.specs.declared.conditions.Test.{Test}
use Rattle.ts_schema.specs.Conditions.{compares, passes_all}
use Rattle.ts_schema.specs.Rows.{field_of, values_cmp}
use Rattle.ts_schema.proofs.OrderLaws.{values_cmp_total}
use Rattle.ts_schema.proofs.Cases.{by_test, same_test}
use Rattle.std.proofs.lemmas.Bool.Decides.{Decides-int_eq}
use Rattle.ts_bucket.specs.Bucket.{IsWidth, holds, is_bucket}
use Rattle.ts_bucket.specs.declared.widths.Width.{Width}
use Rattle.ts_bucket.proofs.BucketLaws.{bucket_of-bucket, holds-bucket_of, holds-one}
use Rattle.ts_model.specs.declared.views.Agg.{Agg}
use Rattle.ts_model.specs.declared.views.Fold.{Fold}
use Rattle.ts_model.specs.Scratch.{bucket_rows, fold_rows, group_rows, key_lists, keys_of, occurring_buckets, scratch_of, with_keys}
use Rattle.ts_model.specs.Groups.{cells_of, column, group_at, groups_in, groups_of, shown_each}
use Rattle.partial_agg.specs.declared.groups.Group.{Group}
use Rattle.partial_agg.specs.Summaries.{Summary, summary, datum_of, value_of}
use Rattle.group_fold.specs.Grouping.{row_group, row_parts}
use Rattle.group_fold.specs.Merging.{with_group}
use Rattle.group_fold.proofs.Occurring.{all-map, all-flat_map, all-once}
use Rattle.group_fold.proofs.RowGroups.{groups_of-more, starts_are_buckets}
use Rattle.group_fold.proofs.Scratches.{groups_show_scratch}
use Rattle.hier_agg.specs.declared.plans.UpperPlan.{UpperPlan}
use Rattle.hier_agg.specs.Plans.{IsAdditive, PlanFits, agg_at, composed_fold, row_count}
use Rattle.hier_agg.specs.Regroup.{coarse, keys_pass, regroup}
use Rattle.hier_agg.specs.Upper.{adds_up, answer_test, row_of, rows_within, upper_fold, upper_rows}
use Rattle.hier_agg.proofs.Alike.{AlikeGroup, AlikeGroups, AlikeParts, Alike, NoneIsZero, alike_cell, alike_with_group, none_is_zero, parts_shown}
use Rattle.hier_agg.proofs.Regrouping.{all_each, grouping_in_two_steps, regroup-more}

-- ---- groups of a fold

-- a group has the keys and the parts of its fold
record IsOfFold (fold : Fold) (g : Group) : Type 0 where
  pub keys : length g.keys ≡ length fold.keys
  pub parts : length g.parts ≡ length fold.aggs
  pub none : AllByRecursion NoneIsZero g.parts

pub all_over : {X Y : Type 0} (P : X → Type 0) (Q : Y → Type 0) (f : X → Y) → ((x : X) → P x → Q (f x)) → (xs : List X) → AllByRecursion P xs → AllByRecursion Q (map f xs)
all_over P Q f h [] k = tt
all_over P Q f h (x ∷ xs) k = (h x k.0, all_over P Q f h xs k.1)

group_is_of_fold : (fold : Fold) (b : ℤ) (found : List Row) (keys : List (Option ℤ)) → length keys ≡ length fold.keys → IsOfFold fold (group_at fold b found keys)
group_is_of_fold fold b found keys e = record {
  keys = e;
  parts = length-map fold.aggs (λ agg. summary (column (with_keys fold keys found) agg));
  none = all-map NoneIsZero (λ agg. summary (column (with_keys fold keys found) agg)) (λ agg. none_is_zero (column (with_keys fold keys found) agg)) fold.aggs;
}

pub keys_fit : (fold : Fold) (found : List Row) → AllByRecursion (λ keys. length keys ≡ length fold.keys) (key_lists fold found)
keys_fit fold found =
    all-once values_cmp values_cmp_total (λ keys. length keys ≡ length fold.keys) (map (keys_of fold.keys) found)
    (all-map (λ keys. length keys ≡ length fold.keys) (keys_of fold.keys) (λ row. length-map fold.keys (field_of row)) found)

groups_are_of_fold : (fold : Fold) (rows : List Row) → AllByRecursion (IsOfFold fold) (groups_of fold rows)
groups_are_of_fold fold rows =
    all-flat_map (λ b. Unit) (IsOfFold fold) (groups_in fold rows)
    (λ b u. all_over (λ keys. length keys ≡ length fold.keys) (IsOfFold fold) (group_at fold b (bucket_rows fold b rows)) (group_is_of_fold fold b (bucket_rows fold b rows)) (key_lists fold (bucket_rows fold b rows)) (keys_fit fold (bucket_rows fold b rows)))
    (occurring_buckets fold rows) (all_each (λ b. Unit) (λ b. tt) (occurring_buckets fold rows))

-- ---- the cells of a group

key_cell : (keys : List (Option ℤ)) (ds : List Datum) (k : ℕ) → k < length keys → get_or (map value_of (map shown_or_null keys ++ ds)) k None ≡ get_or keys k None
key_cell [] ds k h = absurd (omega (arith, h))
key_cell (None ∷ keys) ds zero h = refl
key_cell (Some v ∷ keys) ds zero h = refl
key_cell (None ∷ keys) ds (suc k) h = key_cell keys ds k (omega (arith, h))
key_cell (Some v ∷ keys) ds (suc k) h = key_cell keys ds k (omega (arith, h))

part_cell : (keys : List (Option ℤ)) (ds : List Datum) (c : ℕ) → length keys ≤ c → get_or (map value_of (map shown_or_null keys ++ ds)) c None ≡ get_or (map value_of ds) (c - length keys) None
part_cell [] ds c h = let e : c ≡ c - 0 = omega arith in ap (λ i. get_or (map value_of ds) i None) e
part_cell (k ∷ keys) ds zero h = absurd (omega (arith, h))
part_cell (k ∷ keys) ds (suc c) h =
    let e : c - length keys ≡ suc c - suc (length keys) = omega arith in
    part_cell keys ds c (omega (arith, h)) ∙ ap (λ i. get_or (map value_of ds) i None) e

shown_cell : (aggs : List Agg) (parts : List Summary) (i : ℕ) → i < length aggs → length parts ≡ length aggs → get_or (map value_of (shown_each aggs parts)) i None ≡ value_of (datum_of (get_or aggs i row_count).fun (get_or parts i (summary [])))
shown_cell [] parts i h e = absurd (omega (arith, h))
shown_cell (a ∷ aggs) [] i h e = absurd (omega (arith, e))
shown_cell (a ∷ aggs) (p ∷ parts) zero h e = refl
shown_cell (a ∷ aggs) (p ∷ parts) (suc i) h e = shown_cell aggs parts i (omega (arith, h)) (omega (arith, e))

none_at : (ps : List Summary) (i : ℕ) → AllByRecursion NoneIsZero ps → NoneIsZero (get_or ps i (summary []))
none_at [] i h = none_is_zero []
none_at (p ∷ ps) zero h = h.0
none_at (p ∷ ps) (suc i) h = none_at ps i h.1

-- ---- one group, as a row of the answer

-- a group as a row of the answer, read as a row of a table
abbrev up : Fold → Group → Row
up lower g = row_of (cells_of lower g)

module _ (lower : Fold) (g : Group) (own : IsOfFold lower g) where
  key_field : (k : ℕ) → k < length lower.keys → field_of (up lower g) (suc k) ≡ get_or g.keys k None
  key_field k h = key_cell g.keys (shown_each lower.aggs g.parts) k (omega (arith, h, own.keys))

  part_field : (c : ℕ) → IsAdditive lower c → field_of (up lower g) (suc c) ≡ value_of (datum_of (agg_at lower c).fun (get_or g.parts (c - length lower.keys) (summary [])))
  part_field c h =
      let behind : length lower.keys ≤ c = h.behind_keys in
      part_cell g.keys (shown_each lower.aggs g.parts) c (omega (arith, behind, own.keys))
      ∙ ap (λ n. get_or (map value_of (shown_each lower.aggs g.parts)) (c - n) None) own.keys
      ∙ shown_cell lower.aggs g.parts (c - length lower.keys) h.within own.parts

  fields_are : (ks : List ℕ) → AllByRecursion (λ k. k < length lower.keys) ks → keys_of (map suc ks) (up lower g) ≡ map (λ k. get_or g.keys k None) ks
  fields_are [] h = refl
  fields_are (k ∷ ks) h = ap (λ v. v ∷ keys_of (map suc ks) (up lower g)) (key_field k h.0) ∙ ap (λ vs. get_or g.keys k None ∷ vs) (fields_are ks h.1)

  tests_pass : (ts : List Test) → AllByRecursion (λ t. t.col < length lower.keys) ts → passes_all (up lower g) (map answer_test ts) ≡ keys_pass ts g.keys
  tests_pass [] h = refl
  tests_pass (t ∷ ts) h =
      ap (λ v. compares t.cmp v t.num && passes_all (up lower g) (map answer_test ts)) (key_field t.col h.0)
      ∙ ap (λ b. compares t.cmp (get_or g.keys t.col None) t.num && b) (tests_pass ts h.1)

  parts_alike : (cols : List ℕ) → AllByRecursion (IsAdditive lower) cols → AlikeParts (map (agg_at lower) cols) (row_parts (map (adds_up lower) cols) (up lower g)) (map (λ c. get_or g.parts (c - length lower.keys) (summary [])) cols)
  parts_alike [] h = tt
  parts_alike (c ∷ cols) h =
      let part = get_or g.parts (c - length lower.keys) (summary []) in
      (subst (λ v. Alike (agg_at lower c).fun (summary (v ∷ [])) part) (sym (part_field c h.0)) (alike_cell (agg_at lower c).fun part h.0.additive (none_at g.parts (c - length lower.keys) own.none)), parts_alike cols h.1)

-- ---- all groups

module _ (lower : Fold) (plan : UpperPlan) (fits : PlanFits lower plan) where
  group_alike : (g : Group) → IsOfFold lower g → AlikeGroup (composed_fold lower plan).aggs (row_group (upper_fold lower plan) (up lower g)) (coarse lower plan g)
  group_alike g own = record {
    start = refl;
    keys = fields_are lower g own plan.keys fits.keys;
    parts = parts_alike lower g own plan.cols fits.cols;
  }

  groups_alike : (gs : List Group) → AllByRecursion (IsOfFold lower) gs → AlikeGroups (composed_fold lower plan).aggs (groups_of (upper_fold lower plan) (map (up lower) gs)) (regroup lower plan gs)
  groups_alike [] h = tt
  groups_alike (g ∷ gs) h =
      let before = groups_alike gs h.1 in
      let upper = groups_of (upper_fold lower plan) (map (up lower) gs) in
      let tests : passes_all (up lower g) (upper_fold lower plan).tests ≡ keys_pass plan.tests g.keys = tests_pass lower g h.0 plan.tests fits.tests in
      subst (λ xs. AlikeGroups (composed_fold lower plan).aggs xs (regroup lower plan (g ∷ gs))) (sym (groups_of-more (upper_fold lower plan) fits.width (up lower g) (map (up lower) gs)))
      (subst (λ ys. AlikeGroups (composed_fold lower plan).aggs (cond (passes_all (up lower g) (upper_fold lower plan).tests) (with_group (row_group (upper_fold lower plan) (up lower g)) upper) upper) ys) (sym (regroup-more lower plan g gs))
      (by_test (keys_pass plan.tests g.keys)
      (λ e. let f : passes_all (up lower g) (upper_fold lower plan).tests ≡ true = tests ∙ e in
      rw (f, e) (alike_with_group (composed_fold lower plan).aggs (row_group (upper_fold lower plan) (up lower g)) (coarse lower plan g) upper (regroup lower plan gs) (group_alike g h.0) before))
      (λ e. let f : passes_all (up lower g) (upper_fold lower plan).tests ≡ false = tests ∙ e in rw (f, e) before)))

  -- alike groups show the same
  cells_alike : (g h : Group) → AlikeGroup (composed_fold lower plan).aggs g h → cells_of (upper_fold lower plan) g ≡ cells_of (composed_fold lower plan) h
  cells_alike g h alike =
      let made : ℤ → List (Option ℤ) → List Datum → List Datum = λ s ks ds. Int s ∷ (map shown_or_null ks ++ ds) in
      ap (λ s. made s g.keys (shown_each (upper_fold lower plan).aggs g.parts)) alike.start
      ∙ ap (λ ks. made h.start ks (shown_each (upper_fold lower plan).aggs g.parts)) alike.keys
      ∙ ap (made h.start h.keys) (parts_shown (agg_at lower) (adds_up lower) (λ c. refl) plan.cols g.parts h.parts alike.parts)

  all_cells_alike : (gs hs : List Group) → AlikeGroups (composed_fold lower plan).aggs gs hs → map (cells_of (upper_fold lower plan)) gs ≡ map (cells_of (composed_fold lower plan)) hs
  all_cells_alike [] [] h = refl
  all_cells_alike [] (y ∷ hs) h = absurd h
  all_cells_alike (x ∷ gs) [] h = absurd h
  all_cells_alike (x ∷ gs) (y ∷ hs) h =
      ap (λ d. d ∷ map (cells_of (upper_fold lower plan)) gs) (cells_alike x y h.0) ∙ ap (λ ds. cells_of (composed_fold lower plan) y ∷ ds) (all_cells_alike gs hs h.1)

  -- those of a bucket are alike
  bucket_alike : (b : ℤ) (gs hs : List Group) → AlikeGroups (composed_fold lower plan).aggs gs hs → AlikeGroups (composed_fold lower plan).aggs (filter (λ g. int_eq g.start b) gs) (filter (λ g. int_eq g.start b) hs)
  bucket_alike b [] [] h = tt
  bucket_alike b [] (y ∷ hs) h = absurd h
  bucket_alike b (x ∷ gs) [] h = absurd h
  bucket_alike b (x ∷ gs) (y ∷ hs) h =
      let same : int_eq x.start b ≡ int_eq y.start b = ap (λ s. int_eq s b) h.0.start in
      let rest = bucket_alike b gs hs h.1 in
      by_test (int_eq y.start b)
      (λ e. let f : int_eq x.start b ≡ true = same ∙ e in rw (f, e) (h.0, rest))
      (λ e. let f : int_eq x.start b ≡ false = same ∙ e in rw (f, e) rest)

-- ---- rows

rows_of_groups : (lower : Fold) (gs : List Group) → map row_of (map (cells_of lower) gs) ≡ map (up lower) gs
rows_of_groups lower [] = refl
rows_of_groups lower (g ∷ gs) = ap (λ rows. up lower g ∷ rows) (rows_of_groups lower gs)

module _ (lower : Fold) (plan : UpperPlan) (rows : List Row) (fits : PlanFits lower plan) where
  answer_rows : map row_of (fold_rows lower rows) ≡ map (up lower) (groups_of lower rows)
  answer_rows = ap (map row_of) (sym (groups_show_scratch lower fits.lower_width rows).of_all) ∙ rows_of_groups lower (groups_of lower rows)

  alike : AlikeGroups (composed_fold lower plan).aggs (groups_of (upper_fold lower plan) (map row_of (fold_rows lower rows))) (groups_of (composed_fold lower plan) rows)
  alike =
      subst (λ xs. AlikeGroups (composed_fold lower plan).aggs (groups_of (upper_fold lower plan) xs) (groups_of (composed_fold lower plan) rows)) (sym answer_rows)
      (subst (λ ys. AlikeGroups (composed_fold lower plan).aggs (groups_of (upper_fold lower plan) (map (up lower) (groups_of lower rows))) ys) (grouping_in_two_steps lower plan rows fits)
      (groups_alike lower plan fits (groups_of lower rows) (groups_are_of_fold lower rows)))

  shows_all : upper_rows lower plan (fold_rows lower rows) ≡ fold_rows (composed_fold lower plan) rows
  shows_all =
      sym (groups_show_scratch (upper_fold lower plan) fits.width (map row_of (fold_rows lower rows))).of_all
      ∙ all_cells_alike lower plan fits (groups_of (upper_fold lower plan) (map row_of (fold_rows lower rows))) (groups_of (composed_fold lower plan) rows) alike
      ∙ (groups_show_scratch (composed_fold lower plan) fits.width rows).of_all

  shows_bucket : (b : ℤ) → is_bucket plan.width b ≡ true → scratch_of (upper_fold lower plan) b (map row_of (fold_rows lower rows)) ≡ scratch_of (composed_fold lower plan) b rows
  shows_bucket b e =
      let upper = groups_of (upper_fold lower plan) (map row_of (fold_rows lower rows)) in
      let whole = groups_of (composed_fold lower plan) rows in
      sym ((groups_show_scratch (upper_fold lower plan) fits.width (map row_of (fold_rows lower rows))).of_bucket b e)
      ∙ all_cells_alike lower plan fits (filter (λ g. int_eq g.start b) upper) (filter (λ g. int_eq g.start b) whole) (bucket_alike lower plan fits b upper whole alike)
      ∙ (groups_show_scratch (composed_fold lower plan) fits.width rows).of_bucket b e

pub roll_ups_show_the_composed_fold : (lower : Fold) (plan : UpperPlan) (rows : List Row) → PlanFits lower plan → upper_rows lower plan (fold_rows lower rows) ≡ fold_rows (composed_fold lower plan) rows
roll_ups_show_the_composed_fold lower plan rows fits = shows_all lower plan rows fits

-- ---- rows elsewhere have no effect on a bucket

filter_twice : {X Y : Type 0} (p q : Y → Bool) (f : X → Y) (xs : List X) → filter (λ y. p y && q y) (map f xs) ≡ filter q (map f (filter (λ x. p (f x)) xs))
filter_twice p q f [] = refl
filter_twice p q f (x ∷ xs) =
    let rest = filter_twice p q f xs in
    by_test (p (f x))
    (λ e. rw e (ap (λ ys. cond (q (f x)) (f x ∷ ys) ys) rest))
    (λ e. rw e rest)

rows_elsewhere : (fold : Fold) (b : ℤ) (found : List (List Datum)) → scratch_of fold b (map row_of found) ≡ group_rows fold b (filter (λ row. passes_all row fold.tests) (map row_of (rows_within fold.width b found)))
rows_elsewhere fold b found = ap (group_rows fold b) (filter_twice (λ row. holds fold.width b row.at) (λ row. passes_all row fold.tests) row_of found)

-- ---- the rows of one bucket

-- a bucket holds the start of another if and only if it is the same
starts_held : (w : Width) (b x : ℤ) → IsWidth w → is_bucket w b ≡ true → is_bucket w x ≡ true → holds w b x ≡ int_eq x b
starts_held w b x wide at start =
    same_test (holds w b x) (int_eq x b)
    (λ e. (Decides-int_eq x b).1 (sym (bucket_of-bucket w x wide start) ∙ sym (holds-one w b x wide at e)))
    (λ e. let is : x ≡ b = (Decides-int_eq x b).0 e in
    subst (λ y. holds w b y ≡ true) (sym is) (subst (λ y. holds w y b ≡ true) (bucket_of-bucket w b wide at) (holds-bucket_of w b wide)))

groups_are_buckets : (fold : Fold) → IsWidth fold.width → (rows : List Row) → AllByRecursion (λ g. is_bucket fold.width g.start ≡ true) (groups_of fold rows)
groups_are_buckets fold wide rows =
    all-flat_map (λ x. is_bucket fold.width x ≡ true) (λ g. is_bucket fold.width g.start ≡ true) (groups_in fold rows)
    (λ x p. all-map (λ g. is_bucket fold.width g.start ≡ true) (group_at fold x (bucket_rows fold x rows)) (λ keys. p) (key_lists fold (bucket_rows fold x rows)))
    (occurring_buckets fold rows) (starts_are_buckets fold wide rows)

cells_within : (fold : Fold) (b : ℤ) (gs : List Group) → IsWidth fold.width → is_bucket fold.width b ≡ true → AllByRecursion (λ g. is_bucket fold.width g.start ≡ true) gs → rows_within fold.width b (map (cells_of fold) gs) ≡ map (cells_of fold) (filter (λ g. int_eq g.start b) gs)
cells_within fold b [] wide at starts = refl
cells_within fold b (g ∷ gs) wide at starts =
    let rest = cells_within fold b gs wide at starts.1 in
    let own = starts_held fold.width b g.start wide at starts.0 in
    by_test (int_eq g.start b)
    (λ e. let f : holds fold.width b g.start ≡ true = own ∙ e in rw (f, e) (ap (λ ds. cells_of fold g ∷ ds) rest))
    (λ e. let f : holds fold.width b g.start ≡ false = own ∙ e in rw (f, e) rest)

-- the rows of a fold within one bucket are the aggregation from scratch of the bucket
pub rows_of_bucket : (fold : Fold) (rows : List Row) (b : ℤ) → IsWidth fold.width → is_bucket fold.width b ≡ true → rows_within fold.width b (fold_rows fold rows) ≡ scratch_of fold b rows
rows_of_bucket fold rows b wide at =
    let show = groups_show_scratch fold wide rows in
    ap (rows_within fold.width b) (sym show.of_all)
    ∙ cells_within fold b (groups_of fold rows) wide at (groups_are_buckets fold wide rows)
    ∙ show.of_bucket b at

pub wider_buckets_show_the_composed_fold : (lower : Fold) (plan : UpperPlan) (rows : List Row) (found : List (List Datum)) (b : ℤ) → PlanFits lower plan → is_bucket plan.width b ≡ true → rows_within plan.width b found ≡ rows_within plan.width b (fold_rows lower rows) → rows_within plan.width b (upper_rows lower plan found) ≡ scratch_of (composed_fold lower plan) b rows
wider_buckets_show_the_composed_fold lower plan rows found b fits at same =
    rows_of_bucket (upper_fold lower plan) (map row_of found) b fits.width at
    ∙ rows_elsewhere (upper_fold lower plan) b found
    ∙ ap (λ xs. group_rows (upper_fold lower plan) b (filter (λ row. passes_all row (upper_fold lower plan).tests) (map row_of xs))) same
    ∙ sym (rows_elsewhere (upper_fold lower plan) b (fold_rows lower rows))
    ∙ shows_bucket lower plan rows fits b at

-- ---- roll-ups of everything

pub whole_roll_ups_show_the_lower_rows : (lower : Fold) (plan : UpperPlan) (rows : List Row) (found : List (List Datum)) (b : ℤ) → PlanFits lower plan → composed_fold lower plan ≡ lower → is_bucket lower.width b ≡ true → rows_within lower.width b found ≡ scratch_of lower b rows → rows_within lower.width b (upper_rows lower plan found) ≡ rows_within lower.width b found
whole_roll_ups_show_the_lower_rows lower plan rows found b fits whole at datum_of =
    let same : plan.width ≡ lower.width = ap (λ (f : Fold). f.width) whole in
    let wide_at : is_bucket plan.width b ≡ true = subst (λ w. is_bucket w b ≡ true) (sym same) at in
    let here : rows_within lower.width b found ≡ rows_within lower.width b (fold_rows lower rows) = datum_of ∙ sym (rows_of_bucket lower rows b fits.lower_width at) in
    let wide_here : rows_within plan.width b found ≡ rows_within plan.width b (fold_rows lower rows) = subst (λ w. rows_within w b found ≡ rows_within w b (fold_rows lower rows)) (sym same) here in
    ap (λ w. rows_within w b (upper_rows lower plan found)) (sym same)
    ∙ wider_buckets_show_the_composed_fold lower plan rows found b fits wide_at wide_here
    ∙ ap (λ f. scratch_of f b rows) whole ∙ sym datum_of
