-- The totals of cells show the same as the summaries that the cells were shown from.
use Rattle.std.proofs.Common.{◌≡◌, ℕ, zero, suc, ◌+◌, ◌<◌, true, false, List, [], ◌∷◌, map, length, Option, Some, None, ℤ, pos, ◌+ℤ◌, sym, refl, ap, ◌∙◌, arith}
use Rattle.std.specs.List.{AllZip}
use Rattle.std.proofs.lemmas.Int.{ints}
use Rattle.ts_num.specs.Aggregates.{values, sum_of, lesser, greater, shown_or_null}
use Rattle.ts_num.specs.declared.values.Fun.{Fun}
use Rattle.ts_num.specs.declared.values.Fun.TheVariants.{CountAll, Count, Sum, Min, Max, Avg}
use Rattle.ts_num.specs.declared.values.Datum.TheVariants.{Int}
use Rattle.ts_model.specs.declared.views.Agg.{Agg}
use Rattle.ts_model.specs.Groups.{shown_each}
use Rattle.partial_agg.specs.declared.groups.Group.{Group}
use Rattle.partial_agg.specs.Groups.{group_cmp}
use Rattle.partial_agg.specs.Summaries.{Summary, summary, summary_of_both, datum_of, sum_shown, value_of}
use Rattle.group_fold.specs.Merging.{joined_parts, merge_of, with_group}
use Rattle.group_fold.proofs.Insertions.{by_order}
use Rattle.ts_schema.specs.Rows.{values_cmp}
use Rattle.std.specs.Ordering.{int_cmp, ordering_then}
use Rattle.hier_agg.specs.Plans.{added_by, is_additive}

-- ---- one part

-- if there are no values, the sum is 0
abbrev pub NoneIsZero : Summary → Type 0
NoneIsZero q = q.values ≡ 0 → q.sum ≡ pos 0

sum_of_none : (vs : List ℤ) → length vs ≡ 0 → sum_of vs ≡ pos 0
sum_of_none [] e = refl
sum_of_none (v ∷ vs) e = absurd (omega (arith, e))

pub none_is_zero : (column : List (Option ℤ)) → NoneIsZero (summary column)
none_is_zero column e = sum_of_none (values column) e

-- summary p, over cells, shows under the adding function what summary q shows under the function itself
abbrev pub Alike : Fun → Summary → Summary → Type 0
Alike CountAll p q = (p.sum ≡ pos q.count) × (0 < p.values)
Alike Count p q = (p.sum ≡ pos q.values) × (0 < p.values)
Alike Sum p q = (p.sum ≡ q.sum) × (p.values ≡ 0 → q.values ≡ 0) × (q.values ≡ 0 → p.values ≡ 0)
Alike Min p q = p.least ≡ q.least
Alike Max p q = p.most ≡ q.most
Alike Avg p q = false ≡ true

some_shown : (n : ℕ) (s t : ℤ) → s ≡ t → 0 < n → sum_shown n s ≡ Int t
some_shown zero s t e h = absurd (omega (arith, h))
some_shown (suc n) s t e h = ap Int e

same_shown : (m n : ℕ) (s t : ℤ) → s ≡ t → (m ≡ 0 → n ≡ 0) → (n ≡ 0 → m ≡ 0) → sum_shown m s ≡ sum_shown n t
same_shown zero zero s t e to back = refl
same_shown zero (suc n) s t e to back = let h : suc n ≡ 0 = to refl in absurd (omega (arith, h))
same_shown (suc m) zero s t e to back = let h : suc m ≡ 0 = back refl in absurd (omega (arith, h))
same_shown (suc m) (suc n) s t e to back = ap Int e

alike_shown : (fun : Fun) (p q : Summary) → Alike fun p q → datum_of (added_by fun) p ≡ datum_of fun q
alike_shown CountAll p q h = some_shown p.values p.sum (pos q.count) h.0 h.1
alike_shown Count p q h = some_shown p.values p.sum (pos q.values) h.0 h.1
alike_shown Sum p q h = same_shown p.values q.values p.sum q.sum h.0 h.1 h.2
alike_shown Min p q h = ap shown_or_null h
alike_shown Max p q h = ap shown_or_null h
alike_shown Avg p q h = absurd (cc h)

alike_joined : (fun : Fun) (p q r s : Summary) → Alike fun p q → Alike fun r s → Alike fun (summary_of_both p r) (summary_of_both q s)
alike_joined CountAll p q r s h k = (omega (arith, ints, h.0, k.0), omega (arith, h.1))
alike_joined Count p q r s h k = (omega (arith, ints, h.0, k.0), omega (arith, h.1))
alike_joined Sum p q r s h k =
    (ap (λ x. x +ℤ r.sum) h.0 ∙ ap (λ y. q.sum +ℤ y) k.0, to, back)
  where
    to : p.values + r.values ≡ 0 → q.values + s.values ≡ 0
    to e = let first : q.values ≡ 0 = h.1 (omega (arith, e)) in let second : s.values ≡ 0 = k.1 (omega (arith, e)) in omega (arith, first, second)

    back : q.values + s.values ≡ 0 → p.values + r.values ≡ 0
    back e = let first : p.values ≡ 0 = h.2 (omega (arith, e)) in let second : r.values ≡ 0 = k.2 (omega (arith, e)) in omega (arith, first, second)
alike_joined Min p q r s h k = ap (λ x. lesser x r.least) h ∙ ap (λ y. lesser q.least y) k
alike_joined Max p q r s h k = ap (λ x. greater x r.most) h ∙ ap (λ y. greater q.most y) k
alike_joined Avg p q r s h k = h

-- ---- the part of one cell

sum_cell : (n : ℕ) (s : ℤ) → (n ≡ 0 → s ≡ pos 0) → ((summary (value_of (sum_shown n s) ∷ [])).sum ≡ s) × ((summary (value_of (sum_shown n s) ∷ [])).values ≡ 0 → n ≡ 0) × (n ≡ 0 → (summary (value_of (sum_shown n s) ∷ [])).values ≡ 0)
sum_cell zero s h = (sym (h refl), λ e. refl, λ e. refl)
sum_cell (suc n) s h = (omega (arith, ints), λ e. absurd (omega (arith, e)), λ e. absurd (omega (arith, e)))

least_cell : (v : Option ℤ) → (summary (value_of (shown_or_null v) ∷ [])).least ≡ v
least_cell None = refl
least_cell (Some v) = refl

most_cell : (v : Option ℤ) → (summary (value_of (shown_or_null v) ∷ [])).most ≡ v
most_cell None = refl
most_cell (Some v) = refl

pub alike_cell : (fun : Fun) (q : Summary) → is_additive fun ≡ true → NoneIsZero q → Alike fun (summary (value_of (datum_of fun q) ∷ [])) q
alike_cell CountAll q e none = (omega (arith, ints), omega arith)
alike_cell Count q e none = (omega (arith, ints), omega arith)
alike_cell Sum q e none = sum_cell q.values q.sum none
alike_cell Min q e none = least_cell q.least
alike_cell Max q e none = most_cell q.most
alike_cell Avg q e none = e

-- ---- the parts of a group

-- parts are alike place by place
abbrev pub AlikeParts : List Agg → List Summary → List Summary → Type 0
AlikeParts [] ps qs = Unit {0}
AlikeParts (a ∷ aggs) [] qs = false ≡ true
AlikeParts (a ∷ aggs) (p ∷ ps) [] = false ≡ true
AlikeParts (a ∷ aggs) (p ∷ ps) (q ∷ qs) = Alike a.fun p q × AlikeParts aggs ps qs

parts_joined : (aggs : List Agg) (ps qs rs ss : List Summary) → AlikeParts aggs ps qs → AlikeParts aggs rs ss → AlikeParts aggs (joined_parts ps rs) (joined_parts qs ss)
parts_joined [] ps qs rs ss h k = tt
parts_joined (a ∷ aggs) [] qs rs ss h k = absurd (cc h)
parts_joined (a ∷ aggs) (p ∷ ps) [] rs ss h k = absurd (cc h)
parts_joined (a ∷ aggs) (p ∷ ps) (q ∷ qs) [] ss h k = absurd (cc k)
parts_joined (a ∷ aggs) (p ∷ ps) (q ∷ qs) (r ∷ rs) [] h k = absurd (cc k)
parts_joined (a ∷ aggs) (p ∷ ps) (q ∷ qs) (r ∷ rs) (s ∷ ss) h k = (alike_joined a.fun p q r s h.0 k.0, parts_joined aggs ps qs rs ss h.1 k.1)

pub parts_shown : {X : Type 0} (lower upper : X → Agg) → ((x : X) → (upper x).fun ≡ added_by (lower x).fun) → (xs : List X) (ps qs : List Summary) → AlikeParts (map lower xs) ps qs → shown_each (map upper xs) ps ≡ shown_each (map lower xs) qs
parts_shown lower upper by [] ps qs h = refl
parts_shown lower upper by (x ∷ xs) [] qs h = absurd (cc h)
parts_shown lower upper by (x ∷ xs) (p ∷ ps) [] h = absurd (cc h)
parts_shown lower upper by (x ∷ xs) (p ∷ ps) (q ∷ qs) h =
    ap (λ d. d ∷ shown_each (map upper xs) ps) (ap (λ f. datum_of f p) (by x) ∙ alike_shown (lower x).fun p q h.0)
    ∙ ap (λ ds. datum_of (lower x).fun q ∷ ds) (parts_shown lower upper by xs ps qs h.1)

-- ---- groups

-- groups of one place whose parts are alike
pub record AlikeGroup (aggs : List Agg) (g h : Group) : Type 0 where
  pub start : g.start ≡ h.start
  pub keys : g.keys ≡ h.keys
  pub parts : AlikeParts aggs g.parts h.parts

abbrev pub AlikeGroups : List Agg → List Group → List Group → Type 0
AlikeGroups aggs gs hs = AllZip (AlikeGroup aggs) gs hs

alike_merged : (aggs : List Agg) (g h x y : Group) → AlikeGroup aggs g h → AlikeGroup aggs x y → AlikeGroup aggs (merge_of g x) (merge_of h y)
alike_merged aggs g h x y p q = record { start = p.start; keys = p.keys; parts = parts_joined aggs g.parts h.parts x.parts y.parts p.parts q.parts }

same_order : (aggs : List Agg) (g h x y : Group) → AlikeGroup aggs g h → AlikeGroup aggs x y → group_cmp g x ≡ group_cmp h y
same_order aggs g h x y p q =
    ap (λ s. ordering_then (int_cmp s x.start) (values_cmp g.keys x.keys)) p.start
    ∙ ap (λ s. ordering_then (int_cmp h.start s) (values_cmp g.keys x.keys)) q.start
    ∙ ap (λ ks. ordering_then (int_cmp h.start y.start) (values_cmp ks x.keys)) p.keys
    ∙ ap (λ ks. ordering_then (int_cmp h.start y.start) (values_cmp h.keys ks)) q.keys

pub alike_with_group : (aggs : List Agg) (g h : Group) (gs hs : List Group) → AlikeGroup aggs g h → AlikeGroups aggs gs hs → AlikeGroups aggs (with_group g gs) (with_group h hs)
alike_with_group aggs g h [] [] p q = (p, tt)
alike_with_group aggs g h [] (y ∷ hs) p q = absurd q
alike_with_group aggs g h (x ∷ gs) [] p q = absurd q
alike_with_group aggs g h (x ∷ gs) (y ∷ hs) p q =
    let same = same_order aggs g h x y p q.0 in
    by_order (group_cmp h y)
    (λ e. let f = same ∙ e in rw (f, e) (p, q))
    (λ e. let f = same ∙ e in rw (f, e) (alike_merged aggs g h x y p q.0, q.1))
    (λ e. let f = same ∙ e in rw (f, e) (q.0, alike_with_group aggs g h gs hs p q.1))
