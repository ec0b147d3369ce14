-- What an answer shows of one bucket among those that a query asks for.
use Rattle.std.proofs.Common.{◌≡◌, ℕ, Bool, true, false, ◌||◌, List, [], ◌∷◌, ◌++◌, map, ℤ, pos, ◌+ℤ◌, ◌≤ℤ◌, ◌<ℤ◌, sym, refl, ap, ◌∙◌, subst, arith}
use Rattle.std.specs.List.{AllByRecursion, filter, flat_map, list_any}
use Rattle.std.specs.Ordering.{int_eq}
use Rattle.std.proofs.lemmas.Int.{ints}
use Rattle.std.proofs.lemmas.Bool.Decides.{Decides-int_eq}
use Rattle.std.proofs.lemmas.List.Elements.{filter-append}
use Rattle.std.proofs.lemmas.List.{append-nil}
use Rattle.ts_schema.proofs.Cases.{by_test}
use Rattle.ts_schema.specs.declared.rows.Row.{Row}
use Rattle.ts_num.specs.declared.values.Datum.{Datum}
use Rattle.ts_bucket.specs.Bucket.{IsWidth, holds, is_bucket}
use Rattle.ts_bucket.specs.declared.widths.Width.{Width}
use Rattle.ts_bucket.proofs.BucketLaws.{bucket_of-bucket, holds-is}
use Rattle.partial_agg.specs.declared.groups.Group.{Group}
use Rattle.ts_model.specs.declared.views.Fold.{Fold}
use Rattle.ts_model.specs.Groups.{cells_of}
use Rattle.ts_model.proofs.RangeLaws.{RisingBuckets, among}
use Rattle.hier_agg.specs.Upper.{row_of, rows_within}

-- the rows within a bucket, of several parts, are those of each part in order
pub within_each : (w : Width) (b : ℤ) (shows : ℤ → List (List Datum)) (bs : List ℤ) → rows_within w b (flat_map shows bs) ≡ flat_map (λ x. rows_within w b (shows x)) bs
within_each w b shows [] = refl
within_each w b shows (x ∷ bs) =
    filter-append (λ cells. holds w b (row_of cells).at) (shows x) (flat_map shows bs)
    ∙ ap (λ xs. rows_within w b (shows x) ++ xs) (within_each w b shows bs)

-- a bucket doesn't hold the start of another one
pub holds_no_other : (w : Width) (b x : ℤ) → IsWidth w → is_bucket w b ≡ true → is_bucket w x ≡ true → int_eq b x ≡ false → holds w b x ≡ false
holds_no_other w b x wide at other apart = holds-is w b x wide at ∙ ap (int_eq b) (bucket_of-bucket w x wide other) ∙ apart

-- a bucket holds its own start
pub holds_itself : (w : Width) (b : ℤ) → IsWidth w → is_bucket w b ≡ true → holds w b b ≡ true
holds_itself w b wide at = holds-is w b b wide at ∙ ap (int_eq b) (bucket_of-bucket w b wide at) ∙ (Decides-int_eq b b).1 refl

module _ {X : Type 0} (w : Width) (b : ℤ) (part : ℤ → List X) (others : (x : ℤ) → is_bucket w x ≡ true → int_eq b x ≡ false → part x ≡ []) where
  -- buckets that all start later don't include it
  none_later : (low : ℤ) (bs : List ℤ) → b <ℤ low → RisingBuckets w low bs → flat_map part bs ≡ []
  none_later low [] later rising = refl
  none_later low (x ∷ bs) later rising =
      let above : low ≤ℤ x = rising.0 in
      let apart : int_eq b x ≡ false =
      by_test (int_eq b x)
      (λ e. let same : b ≡ x = (Decides-int_eq b x).0 e in absurd (omega (arith, ints, later, above, same)))
      (λ e. e) in
      let after : b <ℤ (x +ℤ pos 1) = omega (arith, ints, later, above) in
      ap (λ xs. xs ++ flat_map part bs) (others x rising.1 apart) ∙ none_later (x +ℤ pos 1) bs after rising.2

  -- of rising buckets that include it, only this one has a part
  pub one_part : (low : ℤ) (bs : List ℤ) → RisingBuckets w low bs → among b bs ≡ true → flat_map part bs ≡ part b
  one_part low [] rising there = absurd (cc there)
  one_part low (x ∷ bs) rising there =
      by_test (int_eq x b)
      (λ e.
      let same : x ≡ b = (Decides-int_eq x b).0 e in
      let after : b <ℤ (x +ℤ pos 1) = omega (arith, ints, same) in
      ap (λ xs. part x ++ xs) (none_later (x +ℤ pos 1) bs after rising.2) ∙ append-nil (part x) ∙ ap part same)
      (λ e.
      let apart : int_eq b x ≡ false =
      by_test (int_eq b x)
      (λ f. let same : b ≡ x = (Decides-int_eq b x).0 f in absurd (cc (sym ((Decides-int_eq x b).1 (sym same)) ∙ e)))
      (λ f. f) in
      let rest : among b bs ≡ true = sym (ap (λ t. t || among b bs) e) ∙ there in
      ap (λ xs. xs ++ flat_map part bs) (others x rising.1 apart) ∙ one_part (x +ℤ pos 1) bs rising.2 rest)

-- cells of groups that all start in a bucket are all within it
pub all_within_own : (w : Width) (b : ℤ) (fold : Fold) (gs : List Group) → AllByRecursion (λ g. g.start ≡ b) gs → holds w b b ≡ true → rows_within w b (map (cells_of fold) gs) ≡ map (cells_of fold) gs
all_within_own w b fold [] starts own = refl
all_within_own w b fold (g ∷ gs) starts own =
    let inside : holds w b g.start ≡ true = ap (holds w b) starts.0 ∙ own in
    rw inside (ap (λ xs. cells_of fold g ∷ xs) (all_within_own w b fold gs starts.1 own))
