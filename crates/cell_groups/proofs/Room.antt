-- Counts and sums of groups of this many rows can be kept.
use Rattle.std.proofs.Common.{◌≡◌, ℕ, zero, suc, ◌+◌, ◌*◌, ◌<◌, ◌≤◌, ◌^◌, List, [], ◌∷◌, ◌++◌, map, length, get_or, set, take, drop, Option, Some, None, ℤ, pos, negsuc, sym, refl, ap, ◌∙◌, subst, arith}
use Rattle.std.specs.Prelude.{◌≤ℤ◌, neg_ℤ, int_le, FitsSigned}
use Rattle.std.specs.Int.{w128}
use Rattle.std.specs.List.{AllByRecursion}
use Rattle.std.specs.List.Sorted.{IsPermutation}
use Rattle.std.proofs.lemmas.Bool.{and_parts}
use Rattle.std.proofs.lemmas.Int.{ints}
use Rattle.std.proofs.lemmas.List.Sums.{get_or-le-sum_by, sum_by-cons, sum_by-set, sum_by_push}
use Rattle.ts_schema.proofs.Cases.{int_le-true}
use Rattle.ts_bucket.specs.WholeSpans.{greatest, least}
use Rattle.ts_num.specs.declared.values.Datum.{Datum}
use Rattle.ts_num.specs.declared.values.Fun.{Fun}
use Rattle.ts_num.specs.declared.values.Fun.TheVariants.{CountAll, Count, Sum, Min, Max, Avg}
use Rattle.ts_model.specs.declared.views.Agg.{Agg}
use Rattle.partial_agg.specs.declared.groups.Group.{Group}
use Rattle.partial_agg.specs.Groups.{group_cmp}
use Rattle.partial_agg.specs.Summaries.{Summary, summary_of_both, summary}
use Rattle.group_fold.specs.Merging.{joined_parts, merge_of, with_group}
use Rattle.group_fold.proofs.AnyOrder.{gathered, gathered-permuted}
use Rattle.group_fold.proofs.Insertions.{by_order}
use Rattle.partial_agg.specs.Summaries.{value_of}
use Rattle.ts_model.specs.Results.{cell_at}
use Rattle.group_fold.proofs.Parts.{part_before}
use Rattle.cell_groups.specs.declared.tallies.Tally.{Tally}
use Rattle.cell_groups.specs.KeptSummaries.{as_part, as_parts, needed_summary, row_needs}
use Rattle.cell_groups.specs.Room.{AreOfRows, CanBeKept, IsOfWords, IsWordOrNone, ShowWords, taken_by, taken_by_all}
use Rattle.cell_groups.proofs.KeptSummaries.{as_parts-at, length-as_parts}
use Rattle.cell_groups.proofs.Sorting.{all_permuted, all_push, all_set}

-- ---- parts

words_joined : (p q : Summary) → IsOfWords p → IsOfWords q → IsOfWords (summary_of_both p q)
words_joined p q h k = record {
  low = omega (arith, ints, h.low, k.low);
  high = omega (arith, ints, h.high, k.high);
}

all_words_joined : (ps qs : List Summary) → AllByRecursion IsOfWords ps → AllByRecursion IsOfWords qs → AllByRecursion IsOfWords (joined_parts ps qs)
all_words_joined [] qs h k = tt
all_words_joined (p ∷ ps) [] h k = tt
all_words_joined (p ∷ ps) (q ∷ qs) h k = (words_joined p q h.0 k.0, all_words_joined ps qs h.1 k.1)

taken_by-joined : (ps qs : List Summary) → taken_by (joined_parts ps qs) ≤ taken_by ps + taken_by qs
taken_by-joined [] qs = omega arith
taken_by-joined (p ∷ ps) [] = omega arith
taken_by-joined (p ∷ ps) (q ∷ qs) = omega (arith, taken_by-joined ps qs)

-- a sum of fewer than 2^64 numbers of 64 bits takes 128 bits
sum_fits : (values : ℕ) (sum : ℤ) → values < 2 ^ 64 → neg_ℤ (pos (2 ^ 63 * values)) ≤ℤ sum → sum ≤ℤ pos (2 ^ 63 * values) → FitsSigned w128 sum
sum_fits values (pos n) few low high = omega (arith, ints, high, few)
sum_fits values (negsuc n) few low high = omega (arith, ints, low, few)

pub all_kept : (n : ℕ) (ps : List Summary) → n < 2 ^ 64 → taken_by ps ≤ n → AllByRecursion IsOfWords ps → AllByRecursion CanBeKept ps
all_kept n [] few most words = tt
all_kept n (p ∷ ps) few most words = (
  record {
    count = omega (arith, few, most);
    values = omega (arith, few, most);
    sum = sum_fits p.values p.sum (omega (arith, few, most)) words.0.low words.0.high;
  },
  all_kept n ps few (omega (arith, most)) words.1,
)

-- if all parts can be kept, so can each
kept_at : (ps qs : List Summary) (k : ℕ) (d e : Summary) → k < length ps → length ps ≡ length qs → AllByRecursion CanBeKept (joined_parts ps qs) → CanBeKept (summary_of_both (get_or ps k d) (get_or qs k e))
kept_at [] qs k d e h same all = absurd (omega (arith, h))
kept_at (p ∷ ps) [] k d e h same all = absurd (omega (arith, same))
kept_at (p ∷ ps) (q ∷ qs) zero d e h same all = all.0
kept_at (p ∷ ps) (q ∷ qs) (suc k) d e h same all = kept_at ps qs k d e (omega (arith, h)) (omega (arith, same)) all.1

pub tally_kept : (aggs : List Agg) (mine theirs now : List Tally) (i : ℕ) (a : Agg) (none old : Tally) → length mine ≡ length aggs → length theirs ≡ length aggs → length now ≡ length aggs
    → as_parts aggs now ≡ take i (joined_parts (as_parts aggs mine) (as_parts aggs theirs)) ++ drop i (as_parts aggs mine) → i < length aggs → old ≡ get_or now i old
    → AllByRecursion CanBeKept (joined_parts (as_parts aggs mine) (as_parts aggs theirs)) → CanBeKept (summary_of_both (as_part (get_or aggs i a).fun old) (as_part (get_or aggs i a).fun (get_or theirs i none)))
tally_kept aggs mine theirs now i a none old e f g is h was all =
    let part = as_part (get_or aggs i a).fun in
    let many = length-as_parts aggs mine e in
    let same : length (as_parts aggs mine) ≡ length (as_parts aggs theirs) = many ∙ sym (length-as_parts aggs theirs f) in
    let before : part old ≡ get_or (as_parts aggs mine) i (part old) =
    ap part was ∙ sym (as_parts-at aggs now i a old (part old) h g) ∙ part_before i (as_parts aggs mine) (as_parts aggs theirs) (as_parts aggs now) (part old) same is (omega (arith, h, many)) in
    let added : part (get_or theirs i none) ≡ get_or (as_parts aggs theirs) i (part old) = sym (as_parts-at aggs theirs i a none (part old) h f) in
    subst CanBeKept (sym (ap (λ p. summary_of_both p (part (get_or theirs i none))) before ∙ ap (summary_of_both (get_or (as_parts aggs mine) i (part old))) added))
    (kept_at (as_parts aggs mine) (as_parts aggs theirs) i (part old) (part old) (omega (arith, h, many)) same all)

-- ---- the parts of one row

value_at : (vs : List (Option ℤ)) (c : ℕ) → AllByRecursion IsWordOrNone vs → IsWordOrNone (get_or vs c None)
value_at [] c h = tt
value_at (v ∷ vs) zero h = h.0
value_at (v ∷ vs) (suc c) h = value_at vs c h.1

sum_words : (v : Option ℤ) → IsWordOrNone v → IsOfWords (needed_summary Sum (summary (v ∷ [])))
sum_words None h = record { low = omega (arith, ints); high = omega (arith, ints) }
sum_words (Some x) h =
    let parts = and_parts (int_le least x) (int_le x greatest) h in
    let low = int_le-true least x parts.0 in
    let high = int_le-true x greatest parts.1 in
    record { low = omega (arith, ints, low); high = omega (arith, ints, high) }

no_sum : (n : ℕ) → neg_ℤ (pos (2 ^ 63 * n)) ≤ℤ pos 0
no_sum n = omega (arith, ints)

no_sum_above : (n : ℕ) → pos 0 ≤ℤ pos (2 ^ 63 * n)
no_sum_above n = omega (arith, ints)

cell_words : (fun : Fun) (v : Option ℤ) → IsWordOrNone v → IsOfWords (needed_summary fun (summary (v ∷ [])))
cell_words CountAll v h = record { low = no_sum 0; high = no_sum_above 0 }
cell_words Count v h = sum_words v h
cell_words Sum v h = sum_words v h
cell_words Min v h = record { low = no_sum (summary (v ∷ [])).values; high = no_sum_above (summary (v ∷ [])).values }
cell_words Max v h = record { low = no_sum (summary (v ∷ [])).values; high = no_sum_above (summary (v ∷ [])).values }
cell_words Avg v h = sum_words v h

pub row_words : (aggs : List Agg) (cells : List Datum) → ShowWords cells → AllByRecursion IsOfWords (row_needs aggs cells)
row_words [] cells h = tt
row_words (a ∷ aggs) cells h = (cell_words a.fun (cell_at cells a.col) (value_at (map value_of cells) a.col h), row_words aggs cells h)

one_value : (v : Option ℤ) → (summary (v ∷ [])).values ≤ 1
one_value None = omega arith
one_value (Some x) = omega arith

cell_counts : (fun : Fun) (v : Option ℤ) → (needed_summary fun (summary (v ∷ []))).count + (needed_summary fun (summary (v ∷ []))).values ≤ 1
cell_counts CountAll v = omega arith
cell_counts Count v = omega (arith, one_value v)
cell_counts Sum v = omega (arith, one_value v)
cell_counts Min v = omega (arith, one_value v)
cell_counts Max v = omega (arith, one_value v)
cell_counts Avg v = omega (arith, one_value v)

pub row_taken : (aggs : List Agg) (cells : List Datum) → taken_by (row_needs aggs cells) ≤ 1
row_taken [] cells = omega arith
row_taken (a ∷ aggs) cells = let one = cell_counts a.fun (cell_at cells a.col) in let rest = row_taken aggs cells in omega (arith, one, rest)

-- ---- groups

-- one more row in the group at a place
taken_by-set : (gs : List Group) (at : ℕ) (new d : Group) → at < length gs → taken_by new.parts ≤ taken_by (get_or gs at d).parts + 1 → taken_by_all (set gs at new) ≤ taken_by_all gs + 1
taken_by-set gs at new d h le = let both = sum_by-set (λ g. taken_by g.parts) gs at new d h in omega (arith, both, le)

words_at : (gs : List Group) (at : ℕ) (d : Group) → at < length gs → AllByRecursion (λ g. AllByRecursion IsOfWords g.parts) gs → AllByRecursion IsOfWords (get_or gs at d).parts
words_at [] at d h words = absurd (omega (arith, h))
words_at (g ∷ gs) zero d h words = words.0
words_at (g ∷ gs) (suc at) d h words = words_at gs at d (omega (arith, h)) words.1

-- one more row, in a new group
pub rows_pushed : (n : ℕ) (gs : List Group) (g : Group) → AreOfRows n gs → taken_by g.parts ≤ 1 → AllByRecursion IsOfWords g.parts → AreOfRows (n + 1) (gs ++ g ∷ [])
rows_pushed n gs g rows one words = record {
  few = omega (arith, sum_by_push (λ x. taken_by x.parts) gs g, rows.few, one);
  words = all_push (λ x. AllByRecursion IsOfWords x.parts) gs g rows.words words;
}

-- one more row, in the group at a place
pub rows_set : (n : ℕ) (gs : List Group) (at : ℕ) (new d : Group) (row : List Summary) → AreOfRows n gs → at < length gs → new.parts ≡ joined_parts (get_or gs at d).parts row → taken_by row ≤ 1 → AllByRecursion IsOfWords row → AreOfRows (n + 1) (set gs at new)
rows_set n gs at new d row rows within is one words =
    let most = taken_by-joined (get_or gs at d).parts row in
    let one_more : taken_by new.parts ≤ taken_by (get_or gs at d).parts + 1 = omega (arith, ap taken_by is, most, one) in
    record {
      few = omega (arith, taken_by-set gs at new d within one_more, rows.few);
      words = all_set (λ x. AllByRecursion IsOfWords x.parts) gs at new rows.words
          (subst (AllByRecursion IsOfWords) (sym is) (all_words_joined (get_or gs at d).parts row (words_at gs at d within rows.words) words));
    }

-- and it can be kept there
pub row_kept : (n : ℕ) (gs : List Group) (at : ℕ) (d : Group) (row : List Summary) → AreOfRows n gs → at < length gs → n + 1 < 2 ^ 64 → taken_by row ≤ 1 → AllByRecursion IsOfWords row → AllByRecursion CanBeKept (joined_parts (get_or gs at d).parts row)
row_kept n gs at d row rows within few one words =
    let most = taken_by-joined (get_or gs at d).parts row in
    let here = get_or-le-sum_by (λ g. taken_by g.parts) gs at d within in
    all_kept (n + 1) (joined_parts (get_or gs at d).parts row) few (omega (arith, most, here, rows.few, one))
    (all_words_joined (get_or gs at d).parts row (words_at gs at d within rows.words) words)

-- the bound on the number of rows may be raised
pub rows_more : (m n : ℕ) (gs : List Group) → m ≤ n → AreOfRows m gs → AreOfRows n gs
rows_more m n gs le rows = record { few = omega (arith, le, rows.few); words = rows.words }

-- ---- groups put in order

more_taken : (g : Group) (hs : List Group) → taken_by_all (g ∷ hs) ≡ taken_by g.parts + taken_by_all hs
more_taken g hs = sum_by-cons (λ x. taken_by x.parts) g hs

-- two groups that are merged
pub pair_kept : (n : ℕ) (g h : Group) (gs : List Group) → AreOfRows n (g ∷ h ∷ gs) → n < 2 ^ 64 → AllByRecursion CanBeKept (joined_parts g.parts h.parts)
pair_kept n g h gs rows few =
    let most = taken_by-joined g.parts h.parts in
    let both = more_taken g (h ∷ gs) in
    let other = more_taken h gs in
    all_kept n (joined_parts g.parts h.parts) few (omega (arith, most, both, other, rows.few)) (all_words_joined g.parts h.parts rows.words.0 rows.words.1.0)

taken_by-with_group : (g : Group) (hs : List Group) → taken_by_all (with_group g hs) ≤ taken_by g.parts + taken_by_all hs
taken_by-with_group g [] = omega arith
taken_by-with_group g (h ∷ hs) =
    let rest = more_taken h hs in
    by_order (group_cmp g h)
    (λ e. rw e (let all = more_taken g (h ∷ hs) in omega (arith, all)))
    (λ e. rw e (let all = more_taken (merge_of g h) hs in omega (arith, all, rest, taken_by-joined g.parts h.parts)))
    (λ e. rw e (let all = more_taken h (with_group g hs) in omega (arith, all, rest, taken_by-with_group g hs)))

words-with_group : (g : Group) (hs : List Group) → AllByRecursion IsOfWords g.parts → AllByRecursion (λ x. AllByRecursion IsOfWords x.parts) hs → AllByRecursion (λ x. AllByRecursion IsOfWords x.parts) (with_group g hs)
words-with_group g [] p h = (p, tt)
words-with_group g (x ∷ hs) p h =
    by_order (group_cmp g x)
    (λ e. rw e (p, h))
    (λ e. rw e (all_words_joined g.parts x.parts p h.0, h.1))
    (λ e. rw e (h.0, words-with_group g hs p h.1))

-- the last group left is merged
pub rows_merged : (n : ℕ) (rest : List Group) (g : Group) (hs : List Group) → AreOfRows n ((rest ++ g ∷ []) ++ hs) → AreOfRows n (rest ++ with_group g hs)
rows_merged n [] g hs rows = record {
  few = omega (arith, taken_by-with_group g hs, more_taken g hs, rows.few);
  words = words-with_group g hs rows.words.0 rows.words.1;
}
rows_merged n (x ∷ rest) g hs rows =
    let later : AreOfRows (taken_by_all ((rest ++ g ∷ []) ++ hs)) ((rest ++ g ∷ []) ++ hs) = record { few = omega arith; words = rows.words.1 } in
    let next = rows_merged (taken_by_all ((rest ++ g ∷ []) ++ hs)) rest g hs later in
    let before = more_taken x ((rest ++ g ∷ []) ++ hs) in
    let after = more_taken x (rest ++ with_group g hs) in
    record { few = omega (arith, next.few, before, after, rows.few); words = (rows.words.0, next.words) }

-- the groups after it
pub rows_behind : (n : ℕ) (rest : List Group) (g : Group) (hs : List Group) → AreOfRows n ((rest ++ g ∷ []) ++ hs) → AreOfRows n (g ∷ hs)
rows_behind n [] g hs rows = rows
rows_behind n (x ∷ rest) g hs rows =
    let later : AreOfRows n ((rest ++ g ∷ []) ++ hs) = record { few = omega (arith, more_taken x ((rest ++ g ∷ []) ++ hs), rows.few); words = rows.words.1 } in
    rows_behind n rest g hs later

-- in another order they are of equally many rows
abbrev add_taken : Group → ℕ → ℕ
add_taken g n = taken_by g.parts + n

add_taken-commutes : (g h : Group) (n : ℕ) → add_taken g (add_taken h n) ≡ add_taken h (add_taken g n)
add_taken-commutes g h n = omega arith

taken_gathered : (gs : List Group) → taken_by_all gs ≡ gathered add_taken 0 add_taken-commutes gs
taken_gathered [] = refl
taken_gathered (g ∷ gs) = more_taken g gs ∙ ap (add_taken g) (taken_gathered gs)

pub rows_permuted : (n : ℕ) (gs hs : List Group) → IsPermutation gs hs → AreOfRows n gs → AreOfRows n hs
rows_permuted n gs hs p rows =
    let same : taken_by_all hs ≡ taken_by_all gs = taken_gathered hs ∙ (sym (gathered-permuted add_taken 0 add_taken-commutes gs hs p) ∙ sym (taken_gathered gs)) in
    record { few = omega (arith, same, rows.few); words = all_permuted (λ g. AllByRecursion IsOfWords g.parts) gs hs p rows.words }
