-- Laws of the groups of rows: one more row, two lists concatenated, and their order.
use Rattle.std.proofs.lemmas.List.{take_more}
use Rattle.std.proofs.Common.{ℕ, ◌+◌, ◌<◌, length, get_or, take, ◌≡◌, Bool, true, false, cond, ◌&&◌, List, [], ◌∷◌, ◌++◌, map, ℤ, sym, refl, ap, ◌∙◌}
use Rattle.std.specs.List.{AllByRecursion, list_any, flat_map, filter}
use Rattle.std.specs.List.Sorted.{IsStrictlySortedBy}
use Rattle.std.specs.BTreeSet.{insert_key}
use Rattle.std.specs.Ordering.{int_cmp, is_eq, ordering_reverse}
use Rattle.std.specs.declared.cmp.Ordering.TheVariants.{Less}
use Rattle.std.proofs.lemmas.Cmp.{int_cmp_total}
use Rattle.std.proofs.lemmas.Bool.{or_parts}
use Rattle.std.proofs.Math.Bool.{and-false}
use Rattle.ts_schema.specs.declared.rows.Row.{Row}
use Rattle.ts_schema.specs.Conditions.{passes_all}
use Rattle.ts_bucket.specs.Bucket.{IsWidth, is_bucket, bucket_of, holds}
use Rattle.ts_bucket.proofs.BucketLaws.{holds-is, is_bucket-bucket_of}
use Rattle.ts_model.specs.declared.views.Fold.{Fold}
use Rattle.ts_model.specs.Scratch.{bucket_rows, occurring_buckets}
use Rattle.partial_agg.specs.declared.groups.Group.{Group}
use Rattle.partial_agg.specs.Groups.{group_cmp, AreInOrder}
use Rattle.partial_agg.proofs.GroupLaws.{group_cmp_total}
use Rattle.group_fold.specs.Grouping.{row_group}
use Rattle.ts_model.specs.Groups.{bucket_groups, groups_in, groups_of}
use Rattle.group_fold.specs.Merging.{merge_of, with_group, with_groups, groups_with_row}
use Rattle.group_fold.proofs.Insertions.{by_order, with_group-commutes, with_groups-with_group}
use Rattle.group_fold.proofs.Occurring.{all-map, all-once, sorted-once, any-once, flat_map-same, is_eq-swap, all_above, all_above_tied}
use Rattle.group_fold.proofs.Steps.{put_bucket, untied_number}
use Rattle.ts_schema.proofs.Cases.{by_test}

all_each : {X : Type 0} (P : X → Type 0) → ((x : X) → P x) → (xs : List X) → AllByRecursion P xs
all_each P h [] = tt
all_each P h (x ∷ xs) = (h x, all_each P h xs)

-- ---- one row more

pub no_bucket_rows : (fold : Fold) (b : ℤ) → IsWidth fold.width → is_bucket fold.width b ≡ true → (rows : List Row) → list_any (λ x. is_eq (int_cmp b x)) (map (λ row. bucket_of fold.width row.at) (filter (λ row. passes_all row fold.tests) rows)) ≡ false → bucket_rows fold b rows ≡ []
no_bucket_rows fold b wide p [] h = refl
no_bucket_rows fold b wide p (row ∷ rows) h =
    elim (passes_all row fold.tests) as (λ t. list_any (λ x. is_eq (int_cmp b x)) (map (λ row. bucket_of fold.width row.at) (cond t (row ∷ filter (λ row. passes_all row fold.tests) rows) (filter (λ row. passes_all row fold.tests) rows))) ≡ false → cond (holds fold.width b row.at && t) (row ∷ bucket_rows fold b rows) (bucket_rows fold b rows) ≡ []) [
      | true ↦ λ k.
          let parts = or_parts (is_eq (int_cmp b (bucket_of fold.width row.at))) (list_any (λ x. is_eq (int_cmp b x)) (map (λ row. bucket_of fold.width row.at) (filter (λ row. passes_all row fold.tests) rows))) k in
          let out : holds fold.width b row.at ≡ false = holds-is fold.width b row.at wide p ∙ untied_number (bucket_of fold.width row.at) b (is_eq-swap int_cmp int_cmp_total (bucket_of fold.width row.at) b ∙ parts.0) in
          rw out (no_bucket_rows fold b wide p rows parts.1)
      | false ↦ λ k. rw (and-false (holds fold.width b row.at)) (no_bucket_rows fold b wide p rows k)
    ] h

module _ (fold : Fold) (wide : IsWidth fold.width) where
  pub starts_are_buckets : (rows : List Row) → AllByRecursion (λ b. is_bucket fold.width b ≡ true) (occurring_buckets fold rows)
  starts_are_buckets rows =
      all-once int_cmp int_cmp_total (λ b. is_bucket fold.width b ≡ true) (map (λ row. bucket_of fold.width row.at) (filter (λ row. passes_all row fold.tests) rows))
      (all-map (λ b. is_bucket fold.width b ≡ true) (λ row. bucket_of fold.width row.at) (λ row. is_bucket-bucket_of fold.width row.at wide) (filter (λ row. passes_all row fold.tests) rows))

  passing : (row : Row) (rows : List Row) → passes_all row fold.tests ≡ true → groups_of fold (row ∷ rows) ≡ with_group (row_group fold row) (groups_of fold rows)
  passing row rows pass =
      let buckets = map (λ row. bucket_of fold.width row.at) (filter (λ row. passes_all row fold.tests) rows) in
      let more : occurring_buckets fold (row ∷ rows) ≡ insert_key int_cmp (occurring_buckets fold rows) (bucket_of fold.width row.at) = rw pass refl in
      ap (flat_map (groups_in fold (row ∷ rows))) more
      ∙ put_bucket fold wide row rows pass (occurring_buckets fold rows) (sorted-once int_cmp int_cmp_total buckets) (starts_are_buckets rows)
      (λ none. no_bucket_rows fold (bucket_of fold.width row.at) wide (is_bucket-bucket_of fold.width row.at wide) rows (sym (any-once int_cmp int_cmp_total (bucket_of fold.width row.at) buckets) ∙ none))

  failing : (row : Row) (rows : List Row) → passes_all row fold.tests ≡ false → groups_of fold (row ∷ rows) ≡ groups_of fold rows
  failing row rows fail =
      let same : occurring_buckets fold (row ∷ rows) ≡ occurring_buckets fold rows = rw fail refl in
      ap (flat_map (groups_in fold (row ∷ rows))) same
      ∙ flat_map-same (groups_in fold (row ∷ rows)) (groups_in fold rows) (occurring_buckets fold rows)
      (all_each (λ b. groups_in fold (row ∷ rows) b ≡ groups_in fold rows b) (λ b. ap (bucket_groups fold b) (out b row rows fail)) (occurring_buckets fold rows))
    where
      out : (b : ℤ) (row : Row) (rows : List Row) → passes_all row fold.tests ≡ false → bucket_rows fold b (row ∷ rows) ≡ bucket_rows fold b rows
      out b row rows fail = rw (fail, and-false (holds fold.width b row.at)) refl

  -- a row in front is added
  pub groups_of-more : (row : Row) (rows : List Row) → groups_of fold (row ∷ rows) ≡ groups_with_row fold row (groups_of fold rows)
  groups_of-more row rows =
      by_test (passes_all row fold.tests)
      (λ e. passing row rows e ∙ sym (rw e refl))
      (λ e. failing row rows e ∙ sym (rw e refl))

  pub taken-commutes : (row other : Row) (groups : List Group) → groups_with_row fold row (groups_with_row fold other groups) ≡ groups_with_row fold other (groups_with_row fold row groups)
  taken-commutes row other groups = both (passes_all row fold.tests) (passes_all other fold.tests)
    where
      both : (s t : Bool) → cond s (with_group (row_group fold row) (cond t (with_group (row_group fold other) groups) groups)) (cond t (with_group (row_group fold other) groups) groups) ≡ cond t (with_group (row_group fold other) (cond s (with_group (row_group fold row) groups) groups)) (cond s (with_group (row_group fold row) groups) groups)
      both true true = with_group-commutes (row_group fold row) (row_group fold other) groups
      both true false = refl
      both false true = refl
      both false false = refl

  -- a row at the end is added too
  pub groups_of-push : (rows : List Row) (row : Row) → groups_of fold (rows ++ row ∷ []) ≡ groups_with_row fold row (groups_of fold rows)
  groups_of-push [] row = groups_of-more row []
  groups_of-push (x ∷ rows) row =
      groups_of-more x (rows ++ row ∷ []) ∙ ap (groups_with_row fold x) (groups_of-push rows row) ∙ taken-commutes x row (groups_of fold rows) ∙ ap (groups_with_row fold row) (sym (groups_of-more x rows))

  -- the groups of two lists of rows are those of each combined
  pub groups_of-append : (xs ys : List Row) → groups_of fold (xs ++ ys) ≡ with_groups (groups_of fold xs) (groups_of fold ys)
  groups_of-append [] ys = refl
  groups_of-append (x ∷ xs) ys =
      groups_of-more x (xs ++ ys) ∙ ap (groups_with_row fold x) (groups_of-append xs ys)
      ∙ by_test (passes_all x fold.tests)
      (λ e. rw e refl ∙ sym (with_groups-with_group (row_group fold x) (groups_of fold xs) (groups_of fold ys)) ∙ ap (λ gs. with_groups gs (groups_of fold ys)) (sym (passing x xs e)))
      (λ e. rw e refl ∙ ap (λ gs. with_groups gs (groups_of fold ys)) (sym (failing x xs e)))

-- after one more row of a list
pub groups_of_step : (fold : Fold) → IsWidth fold.width → (rows : List Row) (i : ℕ) (row : Row) → i < length rows → row ≡ get_or rows i row → groups_of fold (take (i + 1) rows) ≡ groups_with_row fold row (groups_of fold (take i rows))
groups_of_step fold wide rows i row h is = ap (groups_of fold) (take_more rows i row h ∙ ap (λ x. take i rows ++ x ∷ []) (sym is)) ∙ groups_of-push fold wide (take i rows) row

pub row_passed : (fold : Fold) → IsWidth fold.width → (rows : List Row) (i : ℕ) (row : Row) (before after : List Group) → i < length rows → row ≡ get_or rows i row → passes_all row fold.tests ≡ true → before ≡ groups_of fold (take i rows) → after ≡ with_group (row_group fold row) before → after ≡ groups_of fold (take (i + 1) rows)
row_passed fold wide rows i row before after h is pass was made =
    made ∙ ap (with_group (row_group fold row)) was ∙ sym (rw pass refl) ∙ sym (groups_of_step fold wide rows i row h is)

pub row_failed : (fold : Fold) → IsWidth fold.width → (rows : List Row) (i : ℕ) (row : Row) (before : List Group) → i < length rows → row ≡ get_or rows i row → passes_all row fold.tests ≡ false → before ≡ groups_of fold (take i rows) → before ≡ groups_of fold (take (i + 1) rows)
row_failed fold wide rows i row before h is fail was =
    was ∙ sym (rw fail refl) ∙ sym (groups_of_step fold wide rows i row h is)

-- ---- their order

pub all-with_group : (P : Group → Type 0) → ((g h : Group) → P g → P (merge_of g h)) → (g : Group) (xs : List Group) → P g → AllByRecursion P xs → AllByRecursion P (with_group g xs)
all-with_group P keeps g [] p h = (p, tt)
all-with_group P keeps g (x ∷ xs) p h =
    by_order (group_cmp g x)
    (λ e. rw e (p, h))
    (λ e. rw e (keeps g x p, h.1))
    (λ e. rw e (h.0, all-with_group P keeps g xs p h.1))

pub all-with_groups : (P : Group → Type 0) → ((g h : Group) → P g → P (merge_of g h)) → (gs hs : List Group) → AllByRecursion P gs → AllByRecursion P hs → AllByRecursion P (with_groups gs hs)
all-with_groups P keeps [] hs p h = h
all-with_groups P keeps (g ∷ gs) hs p h = all-with_group P keeps g (with_groups gs hs) p.0 (all-with_groups P keeps gs hs p.1 h)

pub sorted-with_group : (g : Group) (xs : List Group) → AreInOrder xs → AreInOrder (with_group g xs)
unfolding IsStrictlySortedBy
sorted-with_group g [] h = (tt, tt)
sorted-with_group g (x ∷ xs) h =
    by_order (group_cmp g x)
    (λ e. rw e ((e, all_above group_cmp group_cmp_total g x xs e h.0), h))
    (λ e. rw e (all_above_tied group_cmp group_cmp_total g x xs e h.0, h.1))
    (λ e.
    let below : group_cmp x g ≡ Less = group_cmp_total.antisymm x g ∙ ap ordering_reverse e in
    rw e (all-with_group (λ y. group_cmp x y ≡ Less) (λ y z p. p) g xs below h.0, sorted-with_group g xs h.1))

pub sorted-with_groups : (gs hs : List Group) → AreInOrder hs → AreInOrder (with_groups gs hs)
sorted-with_groups [] hs h = h
sorted-with_groups (g ∷ gs) hs h = sorted-with_group g (with_groups gs hs) (sorted-with_groups gs hs h)

pub sorted-taken : (fold : Fold) (row : Row) (groups : List Group) → AreInOrder groups → AreInOrder (groups_with_row fold row groups)
sorted-taken fold row groups h =
    by_test (passes_all row fold.tests)
    (λ e. rw e (sorted-with_group (row_group fold row) groups h))
    (λ e. rw e h)

pub sorted-groups_of : (fold : Fold) → IsWidth fold.width → (rows : List Row) → AreInOrder (groups_of fold rows)
unfolding IsStrictlySortedBy
sorted-groups_of fold wide [] = tt
sorted-groups_of fold wide (row ∷ rows) = rw (groups_of-more fold wide row rows) (sorted-taken fold row (groups_of fold rows) (sorted-groups_of fold wide rows))
