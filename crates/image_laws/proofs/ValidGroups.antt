-- The saved groups of an aggregate in the image of a history are valid.
use Rattle.std.proofs.Common.{◌≡◌, ℕ, zero, suc, ◌+◌, ◌*◌, ◌-◌, ◌^◌, ◌<◌, ◌≤◌, Bool, true, false, ◌&&◌, ◌||◌, not, cond, nat_lt, nat_le, ◌==◌, List, [], ◌∷◌, map, filter, length, ℤ, pos, ◌+ℤ◌, ◌≤ℤ◌, int_le, Option, Some, None, sym, refl, ap, ◌∙◌, subst, arith}
use Rattle.std.specs.Prelude.{is_some, is_none, neg_ℤ, slice_index_or}
use Rattle.std.specs.List.{list_all, AllByRecursion}
use Rattle.std.specs.Ordering.{int_eq, match_ordering}
use Rattle.std.specs.declared.cmp.Ordering.{Ordering}
use Rattle.std.specs.declared.cmp.Ordering.TheVariants.{Less, Equal, Greater}
use Rattle.std.specs.BTreeSet.{insert_key}
use Rattle.std.proofs.lemmas.Bool.{true≢false, and_parts, and_from, le-leb, eq-eqb, eqb-true}
use Rattle.std.proofs.lemmas.Int.{ints}
use Rattle.std.proofs.lemmas.List.{length-map}
use Rattle.ts_num.specs.Aggregates.{values as values_in, sum_of, least_of, greatest_of, lesser, greater}
use Rattle.ts_bucket.specs.Bucket.{is_bucket, is_time}
use Rattle.ts_bucket.specs.Ranges.{lies_in}
use Rattle.ts_bucket.specs.WholeSpans.{least, greatest}
use Rattle.ts_bucket.specs.declared.spans.Span.{Span}
use Rattle.ts_bucket.specs.declared.widths.Width.{Width}
use Rattle.ts_schema.proofs.Cases.{int_le-true, le-int_le}
use Rattle.ts_schema.specs.declared.columns.Column.{Column}
use Rattle.ts_schema.specs.declared.rows.Row.{Row}
use Rattle.ts_schema.specs.Rows.{field_of, values_cmp}
use Rattle.ts_schema.specs.Conditions.{passes_all}
use Rattle.partial_agg.specs.Summaries.{Summary, summary}
use Rattle.partial_agg.specs.declared.groups.Group.{Group}
use Rattle.ts_model.specs.declared.images.SavedGroup.{SavedGroup}
use Rattle.ts_model.specs.declared.images.Sums.{Sums}
use Rattle.ts_model.specs.declared.rosters.Roster.{Roster}
use Rattle.ts_model.specs.declared.tables.Hyper.{Hyper as HyperInfo}
use Rattle.ts_model.specs.declared.tables.TableDef.{TableDef}
use Rattle.ts_model.specs.declared.tables.TableInfo.{TableInfo}
use Rattle.ts_model.specs.declared.views.Agg.{Agg}
use Rattle.ts_model.specs.declared.views.Fold.{Fold}
use Rattle.ts_model.specs.declared.views.ViewDef.{ViewDef}
use Rattle.ts_model.specs.Saved.{summary_of, group_of, groups_among}
use Rattle.ts_model.specs.Roster.{table_of, of_table, of_hyper}
use Rattle.ts_model.specs.Scratch.{once, keys_of, key_lists, with_keys, bucket_rows}
use Rattle.ts_model.specs.Groups.{column, group_at, bucket_groups, groups_in}
use Rattle.ts_model.specs.Laws.{IsWord, fits_table}
use Rattle.ts_model.specs.Limits.{is_word}
use Rattle.ts_model.specs.Sound.{value_fits, values_fit, row_fits}
use Rattle.ts_model.specs.Valid.{is_told, sums_fit, group_fits}

-- ---- each saved group, by the groups of its bucket

fewer : (Q : Group → Bool) (g : SavedGroup) (gs : List SavedGroup) (b : ℤ) → list_all Q (groups_among (g ∷ gs) b) ≡ true → list_all Q (groups_among gs b) ≡ true
fewer Q g gs b e =
    elim (int_eq g.start b) as (λ t. list_all Q (map group_of (cond t (g ∷ filter (λ g. int_eq g.start b) gs) (filter (λ g. int_eq g.start b) gs))) ≡ true → list_all Q (groups_among gs b) ≡ true) [
      | true ↦ λ f. (and_parts (Q (group_of g)) (list_all Q (groups_among gs b)) f).1
      | false ↦ λ f. f
    ] e

pub groups_each : (w : Width) (Q : ℤ → Group → Bool) (gs : List SavedGroup) → list_all (λ (g : SavedGroup). is_bucket w g.start) gs ≡ true → ((b : ℤ) → is_bucket w b ≡ true → list_all (Q b) (groups_among gs b) ≡ true) → list_all (λ (g : SavedGroup). Q g.start (group_of g)) gs ≡ true
groups_each w Q [] whole each = refl
groups_each w Q (g ∷ gs) whole each =
    let parts = and_parts (is_bucket w g.start) (list_all (λ (g : SavedGroup). is_bucket w g.start) gs) whole in
    let first : list_all (Q g.start) (map group_of (g ∷ filter (λ x. int_eq x.start g.start) gs)) ≡ true =
    subst (λ t. list_all (Q g.start) (map group_of (cond t (g ∷ filter (λ x. int_eq x.start g.start) gs) (filter (λ x. int_eq x.start g.start) gs))) ≡ true) (itself g.start) (each g.start parts.0)
    in
    and_from _ _ (and_parts (Q g.start (group_of g)) _ first).0 (groups_each w Q gs parts.1 (λ b bucket. fewer (Q b) g gs b (each b bucket)))
  where
    itself : (b : ℤ) → int_eq b b ≡ true
    itself b = grind (arith, ints)

-- ---- what a group must be

-- a summary of a column of fewer than 2 ^ 62 rows
abbrev pub summary_fits : Summary → Bool
summary_fits s =
    nat_le s.values s.count && nat_lt s.count (2 ^ 62) && int_le (neg_ℤ (pos (2 ^ 63 * s.values))) s.sum && int_le s.sum (pos ((2 ^ 63 - 1) * s.values)) && is_told s.values s.least && is_told s.values s.most

-- the same without the bound on its rows
abbrev pub summary_stands : Summary → Bool
summary_stands s =
    nat_le s.values s.count && int_le (neg_ℤ (pos (2 ^ 63 * s.values))) s.sum && int_le s.sum (pos ((2 ^ 63 - 1) * s.values)) && is_told s.values s.least && is_told s.values s.most

abbrev pub is_few : Summary → Bool
is_few s = nat_lt s.count (2 ^ 62)

abbrev pub group_shape : Fold → Group → Bool
group_shape fold g = length g.keys == length fold.keys && length g.parts == length fold.aggs && list_all summary_stands g.parts

few_fits : (ps : List Summary) → list_all summary_stands ps ≡ true → list_all is_few ps ≡ true → list_all summary_fits ps ≡ true
few_fits [] a b = refl
few_fits (p ∷ ps) a b =
    let one = and_parts (summary_stands p) (list_all summary_stands ps) a in
    let two = and_parts (is_few p) (list_all is_few ps) b in
    let most = and_parts _ (is_told p.values p.most) one.0 in
    let low = and_parts _ (is_told p.values p.least) most.0 in
    let high = and_parts _ (int_le p.sum (pos ((2 ^ 63 - 1) * p.values))) low.0 in
    let from = and_parts (nat_le p.values p.count) (int_le (neg_ℤ (pos (2 ^ 63 * p.values))) p.sum) high.0 in
    and_from _ _ (and_from _ _ (and_from _ _ (and_from _ _ (and_from _ _ (and_from _ _ from.0 two.0) from.1) high.1) low.1) most.1) (few_fits ps one.1 two.1)

fits_stands : (ps : List Summary) → list_all summary_fits ps ≡ true → list_all summary_stands ps ≡ true
fits_stands [] a = refl
fits_stands (p ∷ ps) a =
    let one = and_parts (summary_fits p) (list_all summary_fits ps) a in
    let most = and_parts _ (is_told p.values p.most) one.0 in
    let low = and_parts _ (is_told p.values p.least) most.0 in
    let high = and_parts _ (int_le p.sum (pos ((2 ^ 63 - 1) * p.values))) low.0 in
    let from = and_parts _ (int_le (neg_ℤ (pos (2 ^ 63 * p.values))) p.sum) high.0 in
    let few = and_parts (nat_le p.values p.count) (is_few p) from.0 in
    and_from _ _ (and_from _ _ (and_from _ _ (and_from _ _ (and_from _ _ few.0 from.1) high.1) low.1) most.1) (fits_stands ps one.1)

sums_back : (ps : List Sums) → list_all summary_fits (map summary_of ps) ≡ list_all sums_fit ps
sums_back [] = refl
sums_back (p ∷ ps) = ap (λ t. sums_fit p && t) (sums_back ps)

-- a saved group fits if it is a group of the right shape with few rows in a dirty bucket
pub group_is_fit : (def : ViewDef) (dirty : List Span) (g : SavedGroup) → is_bucket def.fold.width g.start ≡ true → lies_in dirty g.start ≡ true → group_shape def.fold (group_of g) ≡ true → list_all is_few (group_of g).parts ≡ true → group_fits def dirty g ≡ true
group_is_fit def dirty g bucket lies shape few =
    let stands = and_parts _ (list_all summary_stands (group_of g).parts) shape in
    let parts = and_parts (length g.keys == length def.fold.keys) (length (group_of g).parts == length def.fold.aggs) stands.0 in
    and_from _ _ (and_from _ _ (and_from _ _ (and_from _ _ bucket lies) parts.0) (ap (λ m. m == length def.fold.aggs) (sym (length-map g.parts summary_of)) ∙ parts.1)) (sym (sums_back g.parts) ∙ few_fits (group_of g).parts stands.1 few)

pub fit_shape : (def : ViewDef) (dirty : List Span) (g : SavedGroup) → group_fits def dirty g ≡ true → group_shape def.fold (group_of g) ≡ true
fit_shape def dirty g e =
    let sums = and_parts _ (list_all sums_fit g.parts) e in
    let parts = and_parts _ (length g.parts == length def.fold.aggs) sums.0 in
    let keys = and_parts (is_bucket def.fold.width g.start && lies_in dirty g.start) (length g.keys == length def.fold.keys) parts.0 in
    and_from _ _ (and_from _ _ keys.1 (ap (λ m. m == length def.fold.aggs) (length-map g.parts summary_of) ∙ parts.1)) (fits_stands (group_of g).parts (sums_back g.parts ∙ sums.1))

-- ---- words

abbrev pub value_word : Option ℤ → Bool
value_word None = true
value_word (Some v) = is_word v

abbrev pub row_words : Row → Bool
row_words row = is_word row.at && list_all value_word row.vals

value_at : (vals : List (Option ℤ)) (k : ℕ) → list_all value_word vals ≡ true → value_word (slice_index_or vals k None) ≡ true
value_at [] k e = refl
value_at (v ∷ vals) zero e = (and_parts (value_word v) (list_all value_word vals) e).0
value_at (v ∷ vals) (suc k) e = value_at vals k (and_parts (value_word v) (list_all value_word vals) e).1

field_word : (row : Row) (k : ℕ) → row_words row ≡ true → value_word (field_of row k) ≡ true
field_word row zero e = (and_parts (is_word row.at) (list_all value_word row.vals) e).0
field_word row (suc k) e = value_at row.vals k (and_parts (is_word row.at) (list_all value_word row.vals) e).1

column_words : (agg : Agg) (xs : List Row) → list_all row_words xs ≡ true → list_all value_word (column xs agg) ≡ true
column_words agg [] e = refl
column_words agg (x ∷ xs) e = let parts = and_parts (row_words x) (list_all row_words xs) e in and_from _ _ (field_word x agg.col parts.0) (column_words agg xs parts.1)

words_in : (col : List (Option ℤ)) → list_all value_word col ≡ true → AllByRecursion IsWord (values_in col)
words_in [] e = tt
words_in (None ∷ col) e = words_in col e
words_in (Some v ∷ col) e =
    let parts = and_parts (is_word v) (list_all value_word col) e in
    let bounds = and_parts (int_le least v) (int_le v greatest) parts.0 in
    ((int_le-true least v bounds.0, int_le-true v greatest bounds.1), words_in col parts.1)

no_more : (col : List (Option ℤ)) → length (values_in col) ≤ length col
no_more [] = omega arith
no_more (None ∷ col) = omega (arith, no_more col)
no_more (Some v ∷ col) = omega (arith, no_more col)

sum_low : (vs : List ℤ) → AllByRecursion IsWord vs → neg_ℤ (pos (2 ^ 63 * length vs)) ≤ℤ sum_of vs
sum_low [] w = omega (arith, ints)
sum_low (v ∷ vs) w =
    let rest : neg_ℤ (pos (2 ^ 63 * length vs)) ≤ℤ sum_of vs = sum_low vs w.1 in
    let word = w.0 in
    omega (arith, ints)

sum_high : (vs : List ℤ) → AllByRecursion IsWord vs → sum_of vs ≤ℤ pos ((2 ^ 63 - 1) * length vs)
sum_high [] w = omega (arith, ints)
sum_high (v ∷ vs) w =
    let rest : sum_of vs ≤ℤ pos ((2 ^ 63 - 1) * length vs) = sum_high vs w.1 in
    let word = w.0 in
    omega (arith, ints)

least_told : (vs : List ℤ) → is_told (length vs) (least_of vs) ≡ true
least_told [] = refl
least_told (v ∷ vs) = by (least_of vs)
  where
    by : (o : Option ℤ) → is_some (lesser (Some v) o) ≡ true
    by None = refl
    by (Some x) = refl

most_told : (vs : List ℤ) → is_told (length vs) (greatest_of vs) ≡ true
most_told [] = refl
most_told (v ∷ vs) = by (greatest_of vs)
  where
    by : (o : Option ℤ) → is_some (greater (Some v) o) ≡ true
    by None = refl
    by (Some x) = refl

summary_is_fit : (col : List (Option ℤ)) → list_all value_word col ≡ true → summary_stands (summary col) ≡ true
summary_is_fit col e =
    let vs = values_in col in
    let w = words_in col e in
    and_from _ _ (and_from _ _ (and_from _ _ (and_from _ _ (le-leb (length vs) (length col) (no_more col)) (le-int_le _ _ (sum_low vs w))) (le-int_le _ _ (sum_high vs w))) (least_told vs)) (most_told vs)

-- ---- the groups of rows

all_filter : {X : Type 0} (p q : X → Bool) (xs : List X) → list_all p xs ≡ true → list_all p (filter q xs) ≡ true
all_filter p q [] e = refl
all_filter p q (x ∷ xs) e =
    let parts = and_parts (p x) (list_all p xs) e in
    elim (q x) as (λ t. list_all p (cond t (x ∷ filter q xs) (filter q xs)) ≡ true) [ true ↦ and_from _ _ parts.0 (all_filter p q xs parts.1) | false ↦ all_filter p q xs parts.1 ]

all_key : {K : Type 0} (cmp : K → K → Ordering) (p : K → Bool) (ks : List K) (k : K) → p k ≡ true → list_all p ks ≡ true → list_all p (insert_key cmp ks k) ≡ true
all_key cmp p [] k here rest = and_from _ _ here refl
all_key cmp p (x ∷ xs) k here rest =
    let parts = and_parts (p x) (list_all p xs) rest in
    elim (cmp k x) as (λ o. list_all p (match_ordering o (k ∷ x ∷ xs) (x ∷ xs) (x ∷ insert_key cmp xs k)) ≡ true) [
      | Less ↦ and_from _ _ here rest
      | Equal ↦ rest
      | Greater ↦ and_from _ _ parts.0 (all_key cmp p xs k here parts.1)
    ]

all_once : {K : Type 0} (cmp : K → K → Ordering) (p : K → Bool) (ks : List K) → list_all p ks ≡ true → list_all p (once cmp ks) ≡ true
all_once cmp p [] e = refl
all_once cmp p (k ∷ ks) e = let parts = and_parts (p k) (list_all p ks) e in all_key cmp p (once cmp ks) k parts.0 (all_once cmp p ks parts.1)

key_lengths : (keys : List ℕ) (xs : List Row) → list_all (λ ks. length ks == length keys) (map (keys_of keys) xs) ≡ true
key_lengths keys [] = refl
key_lengths keys (x ∷ xs) = and_from _ _ (eq-eqb (length (keys_of keys x)) (length keys) (length-map keys (field_of x))) (key_lengths keys xs)

parts_stand : (xs : List Row) (aggs : List Agg) → list_all row_words xs ≡ true → list_all summary_stands (map (λ agg. summary (column xs agg)) aggs) ≡ true
parts_stand xs [] e = refl
parts_stand xs (agg ∷ aggs) e = and_from _ _ (summary_is_fit (column xs agg) (column_words agg xs e)) (parts_stand xs aggs e)

shapes : (fold : Fold) (b : ℤ) (found : List Row) (qs : List (List (Option ℤ))) → list_all row_words found ≡ true → list_all (λ ks. length ks == length fold.keys) qs ≡ true → list_all (group_shape fold) (map (group_at fold b found) qs) ≡ true
shapes fold b found [] e f = refl
shapes fold b found (q ∷ qs) e f =
    let parts = and_parts (length q == length fold.keys) (list_all (λ ks. length ks == length fold.keys) qs) f in
    let mine = with_keys fold q found in
    and_from _ _
    (and_from _ _ (and_from _ _ parts.0 (eq-eqb (length (map (λ agg. summary (column mine agg)) fold.aggs)) (length fold.aggs) (length-map fold.aggs (λ agg. summary (column mine agg)))))
    (parts_stand mine fold.aggs (all_filter row_words _ found e)))
    (shapes fold b found qs e parts.1)

pub groups_have_shape : (fold : Fold) (rows : List Row) (b : ℤ) → list_all row_words rows ≡ true → list_all (group_shape fold) (groups_in fold rows b) ≡ true
groups_have_shape fold rows b e =
    let found = bucket_rows fold b rows in
    let own : list_all row_words found ≡ true = all_filter row_words _ rows e in
    shapes fold b found (key_lists fold found) own (all_once values_cmp (λ ks. length ks == length fold.keys) (map (keys_of fold.keys) found) (key_lengths fold.keys found))

-- ---- rows that fit their table have words

times_are_words : (t : ℤ) → is_time t ≡ true → is_word t ≡ true
times_are_words t e = grind (arith, ints)

vals_are_words : (cols : List Column) (vals : List (Option ℤ)) → values_fit cols vals ≡ true → list_all value_word vals ≡ true
vals_are_words [] [] e = refl
vals_are_words [] (v ∷ vs) e = absurd (true≢false (sym e))
vals_are_words (c ∷ cs) [] e = absurd (true≢false (sym e))
vals_are_words (c ∷ cs) (None ∷ vs) e = vals_are_words cs vs (and_parts (value_fits c None) (values_fit cs vs) e).1
vals_are_words (c ∷ cs) (Some v ∷ vs) e = let parts = and_parts (is_word v) (values_fit cs vs) e in and_from _ _ parts.0 (vals_are_words cs vs parts.1)

of_hyper_words : (def : TableDef) (o : Option HyperInfo) (row : Row) → of_hyper (λ def hyper. row_fits def hyper row) def o ≡ true → row_words row ≡ true
of_hyper_words def None row e = absurd (true≢false (sym e))
of_hyper_words def (Some hyper) row e = let parts = and_parts (is_time row.at) _ e in and_from _ _ (times_are_words row.at parts.0) (vals_are_words _ row.vals parts.1)

of_table_words : (o : Option TableInfo) (row : Row) → of_table (λ def hyper. row_fits def hyper row) o ≡ true → row_words row ≡ true
of_table_words None row e = absurd (true≢false (sym e))
of_table_words (Some info) row e = of_hyper_words info.def info.hyper row e

pub all_words : (r : Roster) (t : ℕ) (xs : List Row) → list_all (fits_table r t) xs ≡ true → list_all row_words xs ≡ true
all_words r t [] e = refl
all_words r t (x ∷ xs) e = let parts = and_parts (fits_table r t x) (list_all (fits_table r t) xs) e in and_from _ _ (of_table_words (table_of r t) x parts.0) (all_words r t xs parts.1)
