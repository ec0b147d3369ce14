-- Rows whose times are replaced by the names of their buckets, with the time as one more column. Grouping them
-- by buckets of one number is grouping the rows by name.
use Rattle.std.proofs.Common.{◌≡◌, ℕ, zero, suc, ◌+◌, ◌&&◌, Bool, true, false, cond, List, [], ◌∷◌, ◌++◌, map, filter, flat_map, sym, ap, refl, ◌∙◌, arith, ℤ, pos, Option, Some}
use Rattle.std.proofs.lemmas.Int.{ints}
use Rattle.std.specs.Ordering.{int_cmp, int_eq, is_eq}
use Rattle.jiff_core.proofs.SignedLemmas.{signed_arith}
use Rattle.ts_num.specs.declared.values.Datum.{Datum}
use Rattle.ts_num.specs.Aggregates.{aggregate, shown_or_null}
use Rattle.ts_num.specs.declared.values.Datum.TheVariants.{Int}
use Rattle.ts_bucket.specs.Bucket.{holds, bucket_of, WidthValue, IsWidth}
use Rattle.ts_schema.specs.declared.rows.Row.{Row}
use Rattle.ts_schema.specs.declared.conditions.Test.{Test}
use Rattle.ts_schema.specs.Rows.{field_of, values_cmp}
use Rattle.ts_schema.specs.Conditions.{passes_all, passes_one, compares}
use Rattle.ts_model.specs.declared.views.Agg.{Agg}
use Rattle.ts_model.specs.declared.views.Fold.{Fold}
use Rattle.ts_model.specs.Scratch.{once, keys_of, cell, key_lists, with_keys, result_row, group_rows, bucket_rows, scratch_of, occurring_buckets, fold_rows}
use Rattle.cal_bucket.specs.Answers.{rows_named, occurring_names, named_rows}
use Rattle.cal_bucket.specs.Rows.{row_shown}

-- ---- moved rows

-- a row with the name of its bucket for its time
abbrev pub moved : (ℤ → ℤ) → Row → Row
moved name row = record { at = name row.at; vals = Some row.at ∷ row.vals }

-- an aggregate and a test whose column is the next one
abbrev pub next_agg : Agg → Agg
next_agg agg = record { fun = agg.fun; col = agg.col + 1 }

abbrev pub next_test : Test → Test
next_test test = record { col = test.col + 1; cmp = test.cmp; num = test.num }

-- the same grouping of moved rows, in buckets of one number
abbrev pub moved_fold : Fold → Fold
moved_fold fold = record {
  width = record { step = pos 1; shift = pos 0 };
  keys = map (λ k. k + 1) fold.keys;
  aggs = map next_agg fold.aggs;
  tests = map next_test fold.tests;
}

-- ---- lists

pub map-map : {X Y Z : Type 0} (g : Y → Z) (f : X → Y) (xs : List X) → map g (map f xs) ≡ map (λ x. g (f x)) xs
map-map g f [] = refl
map-map g f (x ∷ xs) = ap (λ zs. g (f x) ∷ zs) (map-map g f xs)

pub map-by : {X Y : Type 0} (f g : X → Y) → ((x : X) → f x ≡ g x) → (xs : List X) → map f xs ≡ map g xs
map-by f g h [] = refl
map-by f g h (x ∷ xs) = ap (λ y. y ∷ map f xs) (h x) ∙ ap (λ ys. g x ∷ ys) (map-by f g h xs)

flat_map-by : {X Y : Type 0} (f g : X → List Y) → ((x : X) → f x ≡ g x) → (xs : List X) → flat_map f xs ≡ flat_map g xs
flat_map-by f g h [] = refl
flat_map-by f g h (x ∷ xs) = ap (λ ys. ys ++ flat_map f xs) (h x) ∙ ap (λ ys. g x ++ ys) (flat_map-by f g h xs)

filter-by : {X : Type 0} (p q : X → Bool) → ((x : X) → p x ≡ q x) → (xs : List X) → filter p xs ≡ filter q xs
filter-by p q h [] = refl
filter-by p q h (x ∷ xs) = ap (λ t. cond t (x ∷ filter p xs) (filter p xs)) (h x) ∙ ap (λ ys. cond (q x) (x ∷ ys) ys) (filter-by p q h xs)

filter-map : {X Y : Type 0} (p : Y → Bool) (f : X → Y) (xs : List X) → filter p (map f xs) ≡ map f (filter (λ x. p (f x)) xs)
filter-map p f [] = refl
filter-map p f (x ∷ xs) = ap (λ ys. cond (p (f x)) (f x ∷ ys) ys) (filter-map p f xs) ∙ chosen (p (f x))
  where
    chosen : (t : Bool) → cond t (f x ∷ map f (filter (λ x. p (f x)) xs)) (map f (filter (λ x. p (f x)) xs)) ≡ map f (cond t (x ∷ filter (λ x. p (f x)) xs) (filter (λ x. p (f x)) xs))
    chosen true = refl
    chosen false = refl

-- ---- moved rows have the same columns, one place further

pub field-moved : (name : ℤ → ℤ) (row : Row) (c : ℕ) → field_of (moved name row) (c + 1) ≡ field_of row c
field-moved name row zero = refl
field-moved name row (suc c) = let next : suc c + 1 ≡ suc (suc c) = omega arith in ap (field_of (moved name row)) next

pub keys-moved : (name : ℤ → ℤ) (keys : List ℕ) (row : Row) → keys_of (map (λ k. k + 1) keys) (moved name row) ≡ keys_of keys row
keys-moved name keys row = map-map (field_of (moved name row)) (λ k. k + 1) keys ∙ map-by (λ k. field_of (moved name row) (k + 1)) (field_of row) (field-moved name row) keys

pub tests-moved : (name : ℤ → ℤ) (tests : List Test) (row : Row) → passes_all (moved name row) (map next_test tests) ≡ passes_all row tests
tests-moved name [] row = refl
tests-moved name (t ∷ ts) row = ap (λ v. compares t.cmp v t.num && passes_all (moved name row) (map next_test ts)) (field-moved name row t.col) ∙ ap (λ rest. passes_one row t && rest) (tests-moved name ts row)

cell-moved : (name : ℤ → ℤ) (group : List Row) (agg : Agg) → cell (map (moved name) group) (next_agg agg) ≡ cell group agg
cell-moved name group agg = ap (λ column. aggregate agg.fun column) (map-map (λ row. field_of row (agg.col + 1)) (moved name) group ∙ map-by (λ row. field_of (moved name row) (agg.col + 1)) (λ row. field_of row agg.col) (λ row. field-moved name row agg.col) group)

with_keys-moved : (name : ℤ → ℤ) (fold : Fold) (keys : List (Option ℤ)) (group : List Row) → with_keys (moved_fold fold) keys (map (moved name) group) ≡ map (moved name) (with_keys fold keys group)
with_keys-moved name fold keys group =
    filter-map (λ row. is_eq (values_cmp (keys_of (map (λ k. k + 1) fold.keys) row) keys)) (moved name) group
    ∙ ap (map (moved name)) (filter-by (λ row. is_eq (values_cmp (keys_of (map (λ k. k + 1) fold.keys) (moved name row)) keys)) (λ row. is_eq (values_cmp (keys_of fold.keys row) keys)) (λ row. ap (λ ks. is_eq (values_cmp ks keys)) (keys-moved name fold.keys row)) group)

key_lists-moved : (name : ℤ → ℤ) (fold : Fold) (group : List Row) → key_lists (moved_fold fold) (map (moved name) group) ≡ key_lists fold group
key_lists-moved name fold group = ap (once values_cmp) (map-map (keys_of (map (λ k. k + 1) fold.keys)) (moved name) group ∙ map-by (λ row. keys_of (map (λ k. k + 1) fold.keys) (moved name row)) (keys_of fold.keys) (keys-moved name fold.keys) group)

cells-moved : (name : ℤ → ℤ) (aggs : List Agg) (group : List Row) → map (cell (map (moved name) group)) (map next_agg aggs) ≡ map (cell group) aggs
cells-moved name aggs group = map-map (cell (map (moved name) group)) next_agg aggs ∙ map-by (λ agg. cell (map (moved name) group) (next_agg agg)) (cell group) (cell-moved name group) aggs

result_row-moved : (name : ℤ → ℤ) (fold : Fold) (b : ℤ) (group : List Row) (keys : List (Option ℤ)) → result_row (moved_fold fold) b keys (with_keys (moved_fold fold) keys (map (moved name) group)) ≡ result_row fold b keys (with_keys fold keys group)
result_row-moved name fold b group keys =
    ap (result_row (moved_fold fold) b keys) (with_keys-moved name fold keys group)
    ∙ ap (λ cells. Int b ∷ (map shown_or_null keys ++ cells)) (cells-moved name fold.aggs (with_keys fold keys group))

group_rows-moved : (name : ℤ → ℤ) (fold : Fold) (b : ℤ) (group : List Row) → group_rows (moved_fold fold) b (map (moved name) group) ≡ group_rows fold b group
group_rows-moved name fold b group =
    ap (map (λ keys. result_row (moved_fold fold) b keys (with_keys (moved_fold fold) keys (map (moved name) group)))) (key_lists-moved name fold group)
    ∙ map-by (λ keys. result_row (moved_fold fold) b keys (with_keys (moved_fold fold) keys (map (moved name) group))) (λ keys. result_row fold b keys (with_keys fold keys group)) (result_row-moved name fold b group) (key_lists fold group)

-- ---- buckets of one place

abbrev one_number : WidthValue
one_number = record { step = pos 1; shift = pos 0 }

holds-one_number : (p q : ℤ) → holds one_number p q ≡ int_eq q p
holds-one_number p q = grind (arith, ints)

pub bucket_of-one_number : (q : ℤ) → bucket_of one_number q ≡ q
bucket_of-one_number q = omega (arith, signed_arith)

one_number-wide : IsWidth one_number
one_number-wide = record { positive = omega (arith, ints); bounded = omega (arith, ints); from_zero = omega (arith, ints); below_step = omega (arith, ints) }

pub moved_fold-wide : (fold : Fold) → IsWidth (moved_fold fold).width
moved_fold-wide fold = one_number-wide

bucket_rows-moved : (name : ℤ → ℤ) (fold : Fold) (b : ℤ) (rows : List Row) → bucket_rows (moved_fold fold) b (map (moved name) rows) ≡ map (moved name) (rows_named name fold b rows)
bucket_rows-moved name fold b rows =
    filter-map (λ row. holds one_number b row.at && passes_all row (map next_test fold.tests)) (moved name) rows
    ∙ ap (map (moved name)) (filter-by (λ row. holds one_number b (name row.at) && passes_all (moved name row) (map next_test fold.tests)) (λ row. int_eq (name row.at) b && passes_all row fold.tests)
    (λ row. ap (λ t. t && passes_all (moved name row) (map next_test fold.tests)) (holds-one_number b (name row.at))
    ∙ ap (λ t. int_eq (name row.at) b && t) (tests-moved name fold.tests row)) rows)

occurring-moved : (name : ℤ → ℤ) (fold : Fold) (rows : List Row) → occurring_buckets (moved_fold fold) (map (moved name) rows) ≡ occurring_names name fold rows
occurring-moved name fold rows =
    ap (once int_cmp)
    (ap (map (λ row. bucket_of one_number row.at)) (filter-map (λ row. passes_all row (map next_test fold.tests)) (moved name) rows ∙ ap (map (moved name)) (filter-by (λ row. passes_all (moved name row) (map next_test fold.tests)) (λ row. passes_all row fold.tests) (tests-moved name fold.tests) rows))
    ∙ map-map (λ row. bucket_of one_number row.at) (moved name) (filter (λ row. passes_all row fold.tests) rows)
    ∙ map-by (λ row. bucket_of one_number (name row.at)) (λ row. name row.at) (λ row. bucket_of-one_number (name row.at)) (filter (λ row. passes_all row fold.tests) rows))

-- ---- the whole

bucket-moved : (name : ℤ → ℤ) (fold : Fold) (rows : List Row) (b : ℤ) → scratch_of (moved_fold fold) b (map (moved name) rows) ≡ group_rows fold b (rows_named name fold b rows)
bucket-moved name fold rows b =
    ap (group_rows (moved_fold fold) b) (bucket_rows-moved name fold b rows)
    ∙ group_rows-moved name fold b (rows_named name fold b rows)

-- the aggregation from scratch of moved rows is that of the rows by name
pub moved_rows_show : (name : ℤ → ℤ) (fold : Fold) (rows : List Row) → fold_rows (moved_fold fold) (map (moved name) rows) ≡ named_rows name fold rows
moved_rows_show name fold rows =
    flat_map-by (λ b. scratch_of (moved_fold fold) b (map (moved name) rows)) (λ b. group_rows fold b (rows_named name fold b rows)) (bucket-moved name fold rows) (occurring_buckets (moved_fold fold) (map (moved name) rows))
    ∙ ap (flat_map (λ b. group_rows fold b (rows_named name fold b rows))) (occurring-moved name fold rows)

-- rows that are moved one by one
pub moved_each : (name : ℤ → ℤ) (at : ℕ) (lower : List (List Datum)) → map (λ cells. moved name (row_shown at cells)) lower ≡ map (moved name) (map (row_shown at) lower)
moved_each name at lower = sym (map-map (moved name) (row_shown at) lower)
