-- Results of commuting steps over a list, which don't depend on its order: the groups of rows, and groups put
-- in order.
use Rattle.std.proofs.Common.{◌≡◌, ℕ, zero, suc, ◌<◌, List, [], ◌∷◌, length, get_or, set, sym, refl, ap, ◌∙◌, arith}
use Rattle.std.specs.List.{swap, remove}
use Rattle.std.specs.List.Sorted.{IsPermutation}
use Rattle.std.proofs.lemmas.List.Sorted.{IsPermutation-keeps}
use Rattle.ts_schema.specs.declared.rows.Row.{Row}
use Rattle.ts_bucket.specs.Bucket.{IsWidth}
use Rattle.ts_model.specs.declared.views.Fold.{Fold}
use Rattle.ts_model.specs.Groups.{groups_of}
use Rattle.partial_agg.specs.declared.groups.Group.{Group}
use Rattle.group_fold.specs.Merging.{groups_with_row, with_group}
use Rattle.group_fold.specs.Gathering.{in_group_order}
use Rattle.group_fold.proofs.Insertions.{with_group-commutes}
use Rattle.group_fold.proofs.RowGroups.{groups_of-more, taken-commutes}

module _ {X S : Type 0} (step : X → S → S) (none : S) (commutes : (x y : X) (s : S) → step x (step y s) ≡ step y (step x s)) where
  abbrev pub gathered : List X → S
  gathered [] = none
  gathered (x ∷ xs) = step x (gathered xs)

  -- the item at a place may be added last
  pulled : (xs : List X) (i : ℕ) (d : X) → i < length xs → gathered xs ≡ step (get_or xs i d) (gathered (remove xs i))
  pulled [] i d h = absurd (omega arith)
  pulled (x ∷ xs) zero d h = refl
  pulled (x ∷ xs) (suc i) d h = ap (step x) (pulled xs i d (omega arith)) ∙ commutes x (get_or xs i d) (gathered (remove xs i))

  pulled_set : (xs : List X) (i : ℕ) (v : X) → i < length xs → gathered (set xs i v) ≡ step v (gathered (remove xs i))
  pulled_set [] i v h = absurd (omega arith)
  pulled_set (x ∷ xs) zero v h = refl
  pulled_set (x ∷ xs) (suc i) v h = ap (step x) (pulled_set xs i v (omega arith)) ∙ commutes x v (gathered (remove xs i))

  -- two items swapped
  front_swapped : (x : X) (xs : List X) (i : ℕ) (d : X) → i < length xs → gathered (get_or xs i d ∷ set xs i x) ≡ gathered (x ∷ xs)
  front_swapped x xs i d h =
      ap (step (get_or xs i d)) (pulled_set xs i x h) ∙ commutes (get_or xs i d) x (gathered (remove xs i)) ∙ ap (step x) (sym (pulled xs i d h))

  exchanged : (xs : List X) (i j : ℕ) (d : X) → i < length xs → j < length xs → gathered (set (set xs i (get_or xs j d)) j (get_or xs i d)) ≡ gathered xs
  exchanged [] i j d h k = absurd (omega arith)
  exchanged (x ∷ xs) zero zero d h k = refl
  exchanged (x ∷ xs) zero (suc j) d h k = front_swapped x xs j d (omega arith)
  exchanged (x ∷ xs) (suc i) zero d h k = front_swapped x xs i d (omega arith)
  exchanged (x ∷ xs) (suc i) (suc j) d h k = ap (step x) (exchanged xs i j d (omega arith) (omega arith))

  swapped : (xs : List X) (i j : ℕ) → i < length xs → j < length xs → gathered (swap xs i j) ≡ gathered xs
  swapped [] i j h k = refl
  swapped (x ∷ xs) i j h k = exchanged (x ∷ xs) i j x h k

  pub gathered-permuted : (xs ys : List X) → IsPermutation xs ys → gathered xs ≡ gathered ys
  gathered-permuted xs ys p =
      IsPermutation-keeps xs (λ zs. gathered xs ≡ gathered zs) refl (λ zs i j h k e. e ∙ sym (swapped zs i j h k)) ys p

groups_gathered : (fold : Fold) (wide : IsWidth fold.width) (rows : List Row) → groups_of fold rows ≡ gathered (groups_with_row fold) [] (taken-commutes fold wide) rows
groups_gathered fold wide [] = refl
groups_gathered fold wide (row ∷ rows) = groups_of-more fold wide row rows ∙ ap (groups_with_row fold row) (groups_gathered fold wide rows)

pub groups_of-permuted : (fold : Fold) → IsWidth fold.width → (rows others : List Row) → IsPermutation rows others → groups_of fold rows ≡ groups_of fold others
groups_of-permuted fold wide rows others p =
    groups_gathered fold wide rows ∙ (gathered-permuted (groups_with_row fold) [] (taken-commutes fold wide) rows others p ∙ sym (groups_gathered fold wide others))

ordered_gathered : (groups : List Group) → in_group_order groups ≡ gathered with_group [] with_group-commutes groups
ordered_gathered [] = refl
ordered_gathered (g ∷ gs) = ap (with_group g) (ordered_gathered gs)

pub ordered-permuted : (groups others : List Group) → IsPermutation groups others → in_group_order groups ≡ in_group_order others
ordered-permuted groups others p =
    ordered_gathered groups ∙ (gathered-permuted with_group [] with_group-commutes groups others p ∙ sym (ordered_gathered others))
