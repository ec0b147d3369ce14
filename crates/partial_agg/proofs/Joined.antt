-- The summary of two columns, concatenated, is their summaries joined.
use Rattle.std.proofs.Common.{◌≡◌, List, [], ◌∷◌, ◌++◌, length, Option, None, Some, ℤ, sym, refl, ap, ◌∙◌, arith, length-append, add_assoc, add_comm}
use Rattle.std.specs.Prelude.{◌+ℤ◌}
use Rattle.std.proofs.lemmas.Int.{ints}
use Rattle.ts_num.specs.Aggregates.{values, sum_of, aggregate, unless_empty}
use Rattle.ts_num.specs.Fractions.{lowest_terms}
use Rattle.ts_num.proofs.EndLaws.{lesser_assoc, greater_assoc, least_of-append, greatest_of-append, lesser_comm, greater_comm}
use Rattle.ts_num.specs.declared.values.Datum.TheVariants.{Int, Ratio}
use Rattle.ts_num.specs.declared.values.Fun.{Fun}
use Rattle.ts_num.specs.declared.values.Fun.TheVariants.{CountAll, Count, Sum, Min, Max, Avg}
use Rattle.partial_agg.specs.Summaries.{Summary, summary, summary_of_both, datum_of, sum_shown, mean_shown}

pub values-append : (xs ys : List (Option ℤ)) → values (xs ++ ys) ≡ values xs ++ values ys
values-append [] ys = refl
values-append (None ∷ xs) ys = values-append xs ys
values-append (Some v ∷ xs) ys = ap (λ vs. v ∷ vs) (values-append xs ys)

pub sum_of-append : (xs ys : List ℤ) → sum_of (xs ++ ys) ≡ sum_of xs +ℤ sum_of ys
sum_of-append [] ys = omega (arith, ints)
sum_of-append (v ∷ vs) ys = omega (arith, ints, sum_of-append vs ys)

pub summary-append : (xs ys : List (Option ℤ)) → summary (xs ++ ys) ≡ summary_of_both (summary xs) (summary ys)
summary-append xs ys =
    rw (length-append xs ys, values-append xs ys, length-append (values xs) (values ys), sum_of-append (values xs) (values ys), least_of-append (values xs) (values ys), greatest_of-append (values xs) (values ys)) refl

pub joined_columns : (a b : Summary) (xs ys : List (Option ℤ)) → a ≡ summary xs → b ≡ summary ys → summary_of_both a b ≡ summary (xs ++ ys)
joined_columns a b xs ys p q = ap (λ s. summary_of_both s b) p ∙ ap (summary_of_both (summary xs)) q ∙ sym (summary-append xs ys)

pub shown-summary : (fun : Fun) (column : List (Option ℤ)) → datum_of fun (summary column) ≡ aggregate fun column
shown-summary CountAll column = refl
shown-summary Count column = refl
shown-summary Sum column = elim (values column) as (λ vs. sum_shown (length vs) (sum_of vs) ≡ unless_empty vs (Int (sum_of vs))) [ [] ↦ refl | v ∷ vs ↦ refl ]
shown-summary Min column = refl
shown-summary Max column = refl
shown-summary Avg column = elim (values column) as (λ vs. mean_shown (length vs) (sum_of vs) ≡ unless_empty vs (Ratio (lowest_terms (sum_of vs) (length vs)))) [ [] ↦ refl | v ∷ vs ↦ refl ]

-- ---- the order in which summaries are joined has no effect

pub joined_assoc : (a b c : Summary) → summary_of_both (summary_of_both a b) c ≡ summary_of_both a (summary_of_both b c)
joined_assoc a b c =
    rw (add_assoc a.count b.count c.count, add_assoc a.values b.values c.values, lesser_assoc a.least b.least c.least, greater_assoc a.most b.most c.most, sum_assoc a.sum b.sum c.sum) refl
  where
    sum_assoc : (x y z : ℤ) → (x +ℤ y) +ℤ z ≡ x +ℤ (y +ℤ z)
    sum_assoc x y z = omega (arith, ints)

pub joined_comm : (a b : Summary) → summary_of_both a b ≡ summary_of_both b a
joined_comm a b =
    rw (add_comm a.count b.count, add_comm a.values b.values, lesser_comm a.least b.least, greater_comm a.most b.most, sum_comm a.sum b.sum) refl
  where
    sum_comm : (x y : ℤ) → x +ℤ y ≡ y +ℤ x
    sum_comm x y = omega (arith, ints)
