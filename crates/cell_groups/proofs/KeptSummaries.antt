-- Tallies store the part of a summary that a function needs, and that part determines what is shown.
use Rattle.std.proofs.Common.{◌≡◌, ℕ, zero, suc, ◌+◌, ◌<◌, List, [], ◌∷◌, ◌++◌, map, length, get_or, set, take, drop, Option, Some, None, unwrap_or, ℤ, pos, ◌+ℤ◌, sym, refl, ap, ◌∙◌, arith}
use Rattle.std.specs.Prelude.{IfSome}
use Rattle.std.proofs.lemmas.Int.{ints}
use Rattle.std.proofs.lemmas.List.{get_or-map, length-map}
use Rattle.ts_num.specs.Aggregates.{lesser, greater, shown_or_null}
use Rattle.ts_num.specs.declared.values.Datum.{Datum}
use Rattle.ts_num.specs.declared.values.Datum.TheVariants.{Int}
use Rattle.ts_num.specs.declared.values.Fun.{Fun}
use Rattle.ts_num.specs.declared.values.Fun.TheVariants.{CountAll, Count, Sum, Min, Max, Avg}
use Rattle.ts_model.specs.declared.views.Agg.{Agg}
use Rattle.ts_model.specs.Groups.{shown_each}
use Rattle.partial_agg.specs.declared.groups.Group.{Group}
use Rattle.partial_agg.specs.Groups.{group_cmp}
use Rattle.partial_agg.specs.Summaries.{Summary, summary_of_both, datum_of, sum_shown, summary}
use Rattle.group_fold.specs.Merging.{joined_parts, merge_of, with_group}
use Rattle.group_fold.proofs.Insertions.{by_order, at_less, at_equal, at_greater}
use Rattle.group_fold.proofs.Parts.{part_step, parts_whole}
use Rattle.cell_groups.specs.declared.groups.CellGroup.{CellGroup}
use Rattle.cell_groups.specs.declared.shapes.Shape.{Shape}
use Rattle.cell_groups.specs.declared.tallies.Tally.{Tally}
use Rattle.ts_model.specs.Results.{cell_at}
use Rattle.cell_groups.specs.Groups.{HasTallies, as_group, as_groups, group_shown, keys_at, needed_group, row_shown, rows_shown, tallies_of}
use Rattle.cell_groups.specs.KeptSummaries.{as_part, as_parts, bound_of, cell_shown, cell_tally, least_part, most_part, needed_summary, needed_parts, row_needs, row_tallies, sum_part, tallies_shown, tally_shown}

-- ---- one column

needed_joined : (fun : Fun) (p q : Summary) → summary_of_both (needed_summary fun p) (needed_summary fun q) ≡ needed_summary fun (summary_of_both p q)
needed_joined CountAll p q = refl
needed_joined Count p q = refl
needed_joined Sum p q = refl
needed_joined Min p q = refl
needed_joined Max p q = refl
needed_joined Avg p q = refl

-- the tally of one cell has the needed part
as_sum : (v : Option ℤ) → as_part Sum (cell_tally Sum v) ≡ needed_summary Sum (summary (v ∷ []))
as_sum None = refl
as_sum (Some v) = let e : v ≡ v +ℤ pos 0 = omega (arith, ints) in ap (sum_part 1) e

as_cell : (fun : Fun) (v : Option ℤ) → as_part fun (cell_tally fun v) ≡ needed_summary fun (summary (v ∷ []))
as_cell CountAll v = refl
as_cell Count v = as_sum v
as_cell Sum v = as_sum v
as_cell Min None = refl
as_cell Min (Some v) = refl
as_cell Max None = refl
as_cell Max (Some v) = refl
as_cell Avg v = as_sum v

-- the needed part determines what is shown
shown_needed : (fun : Fun) (p : Summary) → datum_of fun (needed_summary fun p) ≡ datum_of fun p
shown_needed CountAll p = refl
shown_needed Count p = refl
shown_needed Sum p = refl
shown_needed Min p = refl
shown_needed Max p = refl
shown_needed Avg p = refl

bound_shown : (n : ℕ) (x : ℤ) → sum_shown n x ≡ shown_or_null (bound_of n x)
bound_shown zero x = refl
bound_shown (suc n) x = refl

shown_tally : (fun : Fun) (t : Tally) → tally_shown fun t ≡ datum_of fun (as_part fun t)
shown_tally CountAll t = refl
shown_tally Count t = refl
shown_tally Sum t = refl
shown_tally Min t = bound_shown t.values t.number
shown_tally Max t = bound_shown t.values t.number
shown_tally Avg t = refl

-- ---- two tallies

least_of_two : (m n : ℕ) (x y : ℤ) → bound_of (m + n) (unwrap_or (lesser (bound_of m x) (bound_of n y)) (pos 0)) ≡ lesser (bound_of m x) (bound_of n y)
least_of_two zero zero x y = refl
least_of_two zero (suc n) x y = let e : zero + suc n ≡ suc n = omega arith in ap (λ k. bound_of k y) e
least_of_two (suc m) zero x y = let e : suc m + zero ≡ suc m = omega arith in ap (λ k. bound_of k x) e
least_of_two (suc m) (suc n) x y = let e : suc m + suc n ≡ suc (m + suc n) = omega arith in ap (λ k. bound_of k (unwrap_or (lesser (Some x) (Some y)) (pos 0))) e

most_of_two : (m n : ℕ) (x y : ℤ) → bound_of (m + n) (unwrap_or (greater (bound_of m x) (bound_of n y)) (pos 0)) ≡ greater (bound_of m x) (bound_of n y)
most_of_two zero zero x y = refl
most_of_two zero (suc n) x y = let e : zero + suc n ≡ suc n = omega arith in ap (λ k. bound_of k y) e
most_of_two (suc m) zero x y = let e : suc m + zero ≡ suc m = omega arith in ap (λ k. bound_of k x) e
most_of_two (suc m) (suc n) x y = let e : suc m + suc n ≡ suc (m + suc n) = omega arith in ap (λ k. bound_of k (unwrap_or (greater (Some x) (Some y)) (pos 0))) e

pub least_joined : (a b t : Tally) → t.values ≡ a.values + b.values → t.number ≡ unwrap_or (lesser (bound_of a.values a.number) (bound_of b.values b.number)) (pos 0) → as_part Min t ≡ summary_of_both (as_part Min a) (as_part Min b)
least_joined a b t values number =
    ap (λ n. least_part n (bound_of n t.number)) values
    ∙ ap (λ x. least_part (a.values + b.values) (bound_of (a.values + b.values) x)) number
    ∙ ap (least_part (a.values + b.values)) (least_of_two a.values b.values a.number b.number)

pub most_joined : (a b t : Tally) → t.values ≡ a.values + b.values → t.number ≡ unwrap_or (greater (bound_of a.values a.number) (bound_of b.values b.number)) (pos 0) → as_part Max t ≡ summary_of_both (as_part Max a) (as_part Max b)
most_joined a b t values number =
    ap (λ n. most_part n (bound_of n t.number)) values
    ∙ ap (λ x. most_part (a.values + b.values) (bound_of (a.values + b.values) x)) number
    ∙ ap (most_part (a.values + b.values)) (most_of_two a.values b.values a.number b.number)

-- ---- all columns

pub length-as_parts : (aggs : List Agg) (ts : List Tally) → length ts ≡ length aggs → length (as_parts aggs ts) ≡ length aggs
length-as_parts [] ts e = refl
length-as_parts (a ∷ aggs) [] e = absurd (omega (arith, e))
length-as_parts (a ∷ aggs) (t ∷ ts) e = ap suc (length-as_parts aggs ts (omega (arith, e)))

pub as_parts-at : (aggs : List Agg) (ts : List Tally) (i : ℕ) (a : Agg) (t : Tally) (d : Summary) → i < length aggs → length ts ≡ length aggs → get_or (as_parts aggs ts) i d ≡ as_part (get_or aggs i a).fun (get_or ts i t)
as_parts-at [] ts i a t d h e = absurd (omega (arith, h))
as_parts-at (x ∷ aggs) [] i a t d h e = absurd (omega (arith, e))
as_parts-at (x ∷ aggs) (y ∷ ts) zero a t d h e = refl
as_parts-at (x ∷ aggs) (y ∷ ts) (suc i) a t d h e = as_parts-at aggs ts i a t d (omega (arith, h)) (omega (arith, e))

as_parts-set : (aggs : List Agg) (ts : List Tally) (i : ℕ) (a : Agg) (t : Tally) → i < length aggs → length ts ≡ length aggs → as_parts aggs (set ts i t) ≡ set (as_parts aggs ts) i (as_part (get_or aggs i a).fun t)
as_parts-set [] ts i a t h e = absurd (omega (arith, h))
as_parts-set (x ∷ aggs) [] i a t h e = absurd (omega (arith, e))
as_parts-set (x ∷ aggs) (y ∷ ts) zero a t h e = refl
as_parts-set (x ∷ aggs) (y ∷ ts) (suc i) a t h e = ap (λ ps. as_part x.fun y ∷ ps) (as_parts-set aggs ts i a t (omega (arith, h)) (omega (arith, e)))

-- the tallies of one more column are merged
pub tallies_step : (aggs : List Agg) (mine theirs now next : List Tally) (i : ℕ) (a : Agg) (none old new : Tally) → length mine ≡ length aggs → length theirs ≡ length aggs → length now ≡ length aggs
    → as_parts aggs now ≡ take i (joined_parts (as_parts aggs mine) (as_parts aggs theirs)) ++ drop i (as_parts aggs mine) → i < length aggs → old ≡ get_or now i old
    → as_part (get_or aggs i a).fun new ≡ summary_of_both (as_part (get_or aggs i a).fun old) (as_part (get_or aggs i a).fun (get_or theirs i none)) → next ≡ set now i new
    → as_parts aggs next ≡ take (i + 1) (joined_parts (as_parts aggs mine) (as_parts aggs theirs)) ++ drop (i + 1) (as_parts aggs mine)
tallies_step aggs mine theirs now next i a none old new e f g is h was made put =
    let part = as_part (get_or aggs i a).fun in
    let before : part old ≡ get_or (as_parts aggs now) i (part old) = ap part was ∙ sym (as_parts-at aggs now i a old (part old) h g) in
    let added : part (get_or theirs i none) ≡ get_or (as_parts aggs theirs) i (part old) = sym (as_parts-at aggs theirs i a none (part old) h f) in
    let stored : as_parts aggs next ≡ set (as_parts aggs now) i (part new) = ap (as_parts aggs) put ∙ as_parts-set aggs now i a new h g in
    let many = length-as_parts aggs mine e in
    part_step i (as_parts aggs mine) (as_parts aggs theirs) (as_parts aggs now) (as_parts aggs next) (part old) (part new) (part old) (part old)
    (many ∙ sym (length-as_parts aggs theirs f)) is (omega (arith, h, many)) before (made ∙ ap (summary_of_both (part old)) added) stored

-- at the end all are merged
pub tallies_whole : (aggs : List Agg) (mine theirs now : List Tally) (i : ℕ) → length mine ≡ length aggs → length theirs ≡ length aggs
    → as_parts aggs now ≡ take i (joined_parts (as_parts aggs mine) (as_parts aggs theirs)) ++ drop i (as_parts aggs mine) → i ≡ length aggs → as_parts aggs now ≡ joined_parts (as_parts aggs mine) (as_parts aggs theirs)
tallies_whole aggs mine theirs now i e f is end =
    let many = length-as_parts aggs mine e in
    parts_whole i (as_parts aggs mine) (as_parts aggs theirs) (as_parts aggs now) (many ∙ sym (length-as_parts aggs theirs f)) is (end ∙ sym many)

-- ---- one row

pub length-row_tallies : (aggs : List Agg) (cells : List Datum) → length (row_tallies aggs cells) ≡ length aggs
length-row_tallies aggs cells = length-map aggs (λ a. cell_tally a.fun (cell_at cells a.col))

pub row_tallies-at : (aggs : List Agg) (cells : List Datum) (i : ℕ) (a : Agg) (t : Tally) → i < length aggs → get_or (row_tallies aggs cells) i t ≡ cell_tally (get_or aggs i a).fun (cell_at cells (get_or aggs i a).col)
row_tallies-at aggs cells i a t h = get_or-map (λ x. cell_tally x.fun (cell_at cells x.col)) aggs i a t h

pub as_row : (aggs : List Agg) (cells : List Datum) → as_parts aggs (row_tallies aggs cells) ≡ row_needs aggs cells
as_row [] cells = refl
as_row (a ∷ aggs) cells =
    ap (λ p. p ∷ as_parts aggs (row_tallies aggs cells)) (as_cell a.fun (cell_at cells a.col))
    ∙ ap (λ ps. needed_summary a.fun (summary (cell_at cells a.col ∷ [])) ∷ ps) (as_row aggs cells)

-- what is shown of one row
pub shown_row : (aggs : List Agg) (cells : List Datum) → map (cell_shown cells) aggs ≡ tallies_shown aggs (row_tallies aggs cells)
shown_row [] cells = refl
shown_row (a ∷ aggs) cells = ap (λ ds. cell_shown cells a ∷ ds) (shown_row aggs cells)

-- the totals of a group have a tally for each column
pub tallies_fit : (aggs : List Agg) (g : CellGroup) → HasTallies aggs g → length (tallies_of aggs g) ≡ length aggs
tallies_fit aggs g h =
    elim g.tallies as (λ o. IfSome o (λ ts. length ts ≡ length aggs) → length (unwrap_or o (row_tallies aggs g.first)) ≡ length aggs) [
      | None ↦ λ k. length-row_tallies aggs g.first
      | Some ts ↦ λ k. k
    ] h

-- ---- what is needed of groups

needed_parts_joined : (aggs : List Agg) (ps qs : List Summary) → joined_parts (needed_parts aggs ps) (needed_parts aggs qs) ≡ needed_parts aggs (joined_parts ps qs)
needed_parts_joined [] ps qs = refl
needed_parts_joined (a ∷ aggs) [] qs = refl
needed_parts_joined (a ∷ aggs) (p ∷ ps) [] = refl
needed_parts_joined (a ∷ aggs) (p ∷ ps) (q ∷ qs) =
    ap (λ s. s ∷ joined_parts (needed_parts aggs ps) (needed_parts aggs qs)) (needed_joined a.fun p q) ∙ ap (λ ss. needed_summary a.fun (summary_of_both p q) ∷ ss) (needed_parts_joined aggs ps qs)

needed_merged : (aggs : List Agg) (g h : Group) → merge_of (needed_group aggs g) (needed_group aggs h) ≡ needed_group aggs (merge_of g h)
needed_merged aggs g h =
    let with_parts : List Summary → Group = λ ps. record { start = g.start; keys = g.keys; parts = ps } in
    ap with_parts (needed_parts_joined aggs g.parts h.parts)

pub needed_with_group : (aggs : List Agg) (g : Group) (xs : List Group) → with_group (needed_group aggs g) (map (needed_group aggs) xs) ≡ map (needed_group aggs) (with_group g xs)
needed_with_group aggs g [] = refl
needed_with_group aggs g (x ∷ xs) =
    let all = map (needed_group aggs) in
    by_order (group_cmp g x)
    (λ e. at_less (needed_group aggs g) (needed_group aggs x) (all xs) e ∙ ap all (sym (at_less g x xs e)))
    (λ e. at_equal (needed_group aggs g) (needed_group aggs x) (all xs) e ∙ ap (λ m. m ∷ all xs) (needed_merged aggs g x) ∙ ap all (sym (at_equal g x xs e)))
    (λ e. at_greater (needed_group aggs g) (needed_group aggs x) (all xs) e ∙ ap (λ ys. needed_group aggs x ∷ ys) (needed_with_group aggs g xs) ∙ ap all (sym (at_greater g x xs e)))

-- ---- what is shown

parts_shown : (aggs : List Agg) (ps : List Summary) → shown_each aggs (needed_parts aggs ps) ≡ shown_each aggs ps
parts_shown [] ps = refl
parts_shown (a ∷ aggs) [] = refl
parts_shown (a ∷ aggs) (p ∷ ps) =
    ap (λ d. d ∷ shown_each aggs (needed_parts aggs ps)) (shown_needed a.fun p)
    ∙ ap (λ ds. datum_of a.fun p ∷ ds) (parts_shown aggs ps)

tallies_are : (aggs : List Agg) (ts : List Tally) → tallies_shown aggs ts ≡ shown_each aggs (as_parts aggs ts)
tallies_are [] ts = refl
tallies_are (a ∷ aggs) [] = refl
tallies_are (a ∷ aggs) (t ∷ ts) =
    ap (λ d. d ∷ tallies_shown aggs ts) (shown_tally a.fun t)
    ∙ ap (λ ds. datum_of a.fun (as_part a.fun t) ∷ ds) (tallies_are aggs ts)

-- the needed parts of groups show what the groups show
pub needed_shown : (shape : Shape) (gs : List Group) → rows_shown shape (map (needed_group shape.aggs) gs) ≡ rows_shown shape gs
needed_shown shape [] = refl
needed_shown shape (g ∷ gs) =
    let row : List Datum → List Datum = λ ds. Int g.start ∷ (map shown_or_null g.keys ++ ds) in
    ap (λ ds. row ds ∷ rows_shown shape (map (needed_group shape.aggs) gs)) (parts_shown shape.aggs g.parts)
    ∙ ap (λ rows. row_shown shape g ∷ rows) (needed_shown shape gs)

-- the stored groups show what the needed parts show
pub kept_shown : (shape : Shape) (gs : List CellGroup) → map (group_shown shape) gs ≡ rows_shown shape (as_groups shape gs)
kept_shown shape [] = refl
kept_shown shape (g ∷ gs) =
    let row : List Datum → List Datum = λ ds. Int g.start ∷ (map shown_or_null (keys_at shape.keys g.first) ++ ds) in
    ap (λ ds. row ds ∷ map (group_shown shape) gs) (tallies_are shape.aggs (tallies_of shape.aggs g))
    ∙ ap (λ rows. row_shown shape (as_group shape g) ∷ rows) (kept_shown shape gs)
