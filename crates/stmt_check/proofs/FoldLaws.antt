-- Tests and folds that aren't refused fit the columns of their hypertable.
use Rattle.std.proofs.Common.{◌≡◌, ◌∙◌, refl, sym, subst, ap, ℕ, zero, suc, ◌+◌, ◌<◌, ◌≤◌, Bool, true, false, cond, not, ◌&&◌, ◌||◌, List, [], ◌∷◌, ◌++◌, map, length, Option, Some, None, is_some, is_none, arith, ℤ, pos}
use Rattle.std.specs.Prelude.{nat_lt, nat_le, ◌==◌, unwrap_or}
use Rattle.std.specs.Option.{option_map}
use Rattle.std.specs.List.{AllByRecursion, list_all, list_any}
use Rattle.std.specs.Ordering.{int_eq}
use Rattle.std.proofs.lemmas.Bool.{and_parts, and_from, lt-ltb, leb-false, not-true, or_parts}
use Rattle.std.proofs.lemmas.Bool.Decides.{Decides-int_eq, nat_tests}
use Rattle.std.proofs.lemmas.Int.{ints}
use Rattle.std.proofs.lemmas.List.{length-append, append_assoc, append-nil}
use Rattle.std.proofs.lemmas.List.Folds.{list_any-append, list_all-append}
use Rattle.ts_num.specs.declared.values.Fun.{Fun}
use Rattle.ts_num.specs.declared.values.Fun.TheVariants as fun
use Rattle.ts_bucket.specs.Bucket.{IsWidth}
use Rattle.ts_schema.specs.declared.columns.Column.{Column}
use Rattle.ts_schema.specs.declared.conditions.Cmp.{Cmp}
use Rattle.ts_schema.specs.declared.conditions.Cmp.TheVariants as cmp
use Rattle.ts_model.specs.declared.tables.Hyper.{Hyper as HyperInfo}
use Rattle.ts_model.specs.declared.tables.TableInfo.{TableInfo}
use Rattle.ts_model.specs.Roster.{same_name}
use Rattle.ts_model.specs.Sound.{agg_fits, all_apart, fold_fits, is_count_all, test_fits}
use Rattle.ts_model.specs.Sound as allowed
use Rattle.ts_catalog.specs.Columns.{column_from, column_of, hyper_number, number_of}
use Rattle.ts_schema.specs.Names.{is_name}
use Rattle.stmt_syntax.specs.Proper.{IsAlias, IsName, IsProperAgg, IsProperFold, IsProperTest, AreProperTests}
use Rattle.stmt_syntax.specs.Written.{IsWholeTest, IsWholeAgg, IsWholeFold, is_null_test, takes_argument}
use Rattle.stmt_syntax.specs.declared.statements.NamedAgg.{NamedAgg}
use Rattle.stmt_syntax.specs.declared.statements.NamedFold.{NamedFold}
use Rattle.stmt_syntax.specs.declared.statements.NamedTest.{NamedTest}
use Rattle.stmt_check.specs.Refusals.{marked_refusal, refusal_if, refusal_if_none}
use Rattle.stmt_check.specs.Folds.{aggregate_name, aggregate_of, aggregate_refusal, aggregates_refusal, argument_of, argument_refusal, bucket_column, columns_before, fold_of, fold_refusal, function_name, is_aggregate, is_key, is_shift, is_step, is_taken, is_time_column, key_refusal, keys_refusal, number_or_zero, output_count, output_names, rest_refusal, test_of, tests_of, tests_refusal, width_refusal}
use Rattle.stmt_check.proofs.PassedLaws.{neither, not_wrong, not_missing, has_to_be}
use Rattle.stmt_check.proofs.RosterLaws.{HyperIsSound, TableIsSound}

-- ---- columns

column_is_there : (name : List ℕ) (k : ℕ) (cols : List Column) → is_some (column_from name k cols) ≡ true → unwrap_or (column_from name k cols) 0 < k + length cols
column_is_there name k [] e = absurd cc
column_is_there name k (c ∷ cs) e = here k (length cs) (same_name c.name name) (column_from name (k + 1) cs) (column_is_there name (k + 1) cs) e
  where
    here : (k n : ℕ) (same : Bool) (o : Option ℕ) → (is_some o ≡ true → unwrap_or o 0 < k + 1 + n) → is_some (cond same (Some k) o) ≡ true → unwrap_or (cond same (Some k) o) 0 < k + suc n
    here k n true o h e = omega arith
    here k n false o h e = omega (arith, h e)

-- a declared place
pub place_is_there : (name : List ℕ) (cols : List Column) → is_some (column_from name 0 cols) ≡ true → unwrap_or (column_from name 0 cols) 0 < length cols
place_is_there name cols e = omega (arith, column_is_there name 0 cols e)

number_in_range : (at place n : ℕ) → at < n → place < n → hyper_number at place < n
number_in_range at place n a p = grind (arith, nat_tests)

-- the number of a column that is there
numbered : (cols : List Column) (hyper : Option HyperInfo) (o : Option ℕ) → HyperIsSound cols hyper → (is_some o ≡ true → unwrap_or o 0 < length cols) → is_some (option_map (number_of hyper) o) ≡ true → unwrap_or (option_map (number_of hyper) o) 0 < length cols
numbered cols hyper None s h e = absurd cc
numbered cols None (Some p) s h e = h refl
numbered cols (Some hy) (Some p) s h e = number_in_range hy.at p (length cols) s.0 (h refl)

pub column_number : (info : TableInfo) (name : List ℕ) → TableIsSound info → is_some (column_of info name) ≡ true → number_or_zero info name < length info.def.cols
column_number info name s e = numbered info.def.cols info.hyper (column_from name 0 info.def.cols) s.hyper (place_is_there name info.def.cols) e

-- a column that isn't refused has a number below the count of columns
numbered_below : (p code : ℕ) (info : TableInfo) (name : List ℕ) → TableIsSound info → refusal_if_none p code (column_of info name) ≡ None → nat_lt (number_or_zero info name) (length info.def.cols) ≡ true
numbered_below p code info name s e = lt-ltb _ _ (column_number info name s (not_missing p code (column_of info name) e))

-- ---- tests

same_null_test : (c : Cmp) → allowed.is_null_test c ≡ is_null_test c
same_null_test cmp.Eq = refl
same_null_test cmp.Ne = refl
same_null_test cmp.Lt = refl
same_null_test cmp.Le = refl
same_null_test cmp.Gt = refl
same_null_test cmp.Ge = refl
same_null_test cmp.IsNull = refl
same_null_test cmp.NotNull = refl

number_fits : (null : Bool) (z : ℤ) → (null ≡ true → z ≡ pos 0) → (not null || int_eq z (pos 0)) ≡ true
number_fits true z h = (Decides-int_eq z (pos 0)).1 (h refl)
number_fits false z h = refl

one_test : (p code : ℕ) (info : TableInfo) (t : NamedTest) → TableIsSound info → IsWholeTest t → IsProperTest t → refusal_if_none p code (column_of info t.col) ≡ None → test_fits (length info.def.cols) (test_of info t) ≡ true
one_test p code info t s w proper e =
    and_from _ _ (and_from _ _ (numbered_below p code info t.col s e) proper.num)
    (number_fits (allowed.is_null_test t.cmp) t.num (λ null. w.number (sym (same_null_test t.cmp) ∙ null)))

pub tests_fit : (p : ℕ) (info : TableInfo) (tests : List NamedTest) → TableIsSound info → AllByRecursion IsWholeTest tests → AreProperTests tests → tests_refusal p info tests ≡ None → list_all (test_fits (length info.def.cols)) (tests_of info tests) ≡ true
tests_fit p info [] s w proper e = refl
tests_fit p info (t ∷ tests) s w proper e =
    let both = neither (refusal_if_none p 8 (column_of info t.col)) (tests_refusal p info tests) e in
    and_from _ _ (one_test p 8 info t s w.0 proper.0 both.0) (tests_fit p info tests s w.1 proper.1 both.1)

-- the columns of tests that aren't refused are there
pub tests_there : (p : ℕ) (info : TableInfo) (tests : List NamedTest) → TableIsSound info → tests_refusal p info tests ≡ None → list_all (λ t. nat_lt t.col (length info.def.cols)) (tests_of info tests) ≡ true
tests_there p info [] s e = refl
tests_there p info (t ∷ tests) s e =
    let both = neither (refusal_if_none p 8 (column_of info t.col)) (tests_refusal p info tests) e in
    and_from _ _ (numbered_below p 8 info t.col s both.0) (tests_there p info tests s both.1)

-- ---- the width

pub width_fits : (p : ℕ) (info : TableInfo) (f : NamedFold) → width_refusal p info f ≡ None → IsWidth (record { step = f.step; shift = f.shift })
width_fits p info f e =
    let first = neither (refusal_if p 14 (not (is_step f.step))) _ e in
    let second = neither (refusal_if p 8 (not (is_time_column (column_of info f.at)))) _ first.1 in
    let step = has_to_be p 14 0 (is_step f.step) first.0 in
    let shift = has_to_be p 14 0 (is_shift f.step f.shift) second.1 in
    in_range f.step f.shift step shift
  where
    in_range : (step shift : ℤ) → is_step step ≡ true → is_shift step shift ≡ true → IsWidth (record { step = step; shift = shift })
    in_range step shift a b = record { positive = grind (arith, ints); bounded = grind (arith, ints); from_zero = grind (arith, ints); below_step = grind (arith, ints) }

-- ---- keys

-- the keys that aren't refused: their numbers are below the count of columns
keys_fit : (p : ℕ) (distinct : Bool) (count : ℕ) (info : TableInfo) (bucket : List ℕ) (before keys : List (List ℕ)) → TableIsSound info → keys_refusal p distinct count info bucket before keys ≡ None → list_all (λ k. nat_lt k (length info.def.cols)) (map (number_or_zero info) keys) ≡ true
keys_fit p distinct count info bucket before [] s e = refl
keys_fit p distinct count info bucket before (k ∷ keys) s e =
    let parts = neither (key_refusal p count info (columns_before (length before) 0) (distinct && is_key bucket before k) k) _ e in
    let later = neither (refusal_if p 7 (distinct && is_key bucket before k)) _ parts.0 in
    let there = neither (refusal_if_none p 8 (column_of info k)) _ later.1 in
    and_from _ _ (numbered_below p 8 info k s there.0) (keys_fit p distinct count info bucket (before ++ k ∷ []) keys s parts.1)

-- ---- aggregates

same_count_all : (f : Fun) → is_count_all f ≡ not (takes_argument f)
same_count_all fun.CountAll = refl
same_count_all fun.Count = refl
same_count_all fun.Sum = refl
same_count_all fun.Min = refl
same_count_all fun.Max = refl
same_count_all fun.Avg = refl

-- an argument that isn't refused is on a column, and `count(*)`, which has none, is on column 0
argument_in_range : (p : ℕ) (info : TableInfo) (col : Option (List ℕ)) → TableIsSound info → 0 < length info.def.cols → argument_refusal p info col ≡ None → nat_lt (argument_of info col) (length info.def.cols) ≡ true
argument_in_range p info None s some e = lt-ltb _ _ some
argument_in_range p info (Some c) s some e = numbered_below p 8 info c s e

count_all_fits : (info : TableInfo) (f : Fun) (col : Option (List ℕ)) → is_some col ≡ takes_argument f → (not (is_count_all f) || argument_of info col == 0) ≡ true
count_all_fits info fun.CountAll None e = refl
count_all_fits info fun.CountAll (Some c) e = absurd cc
count_all_fits info fun.Count col e = refl
count_all_fits info fun.Sum col e = refl
count_all_fits info fun.Min col e = refl
count_all_fits info fun.Max col e = refl
count_all_fits info fun.Avg col e = refl

-- the facts of an aggregate that isn't refused
record Aggregate (p : ℕ) (info : TableInfo) (others : ℕ) (repeats : Bool) (a : NamedAgg) : Type 0 where
  pub few : others < 16
  pub argument : argument_refusal p info a.col ≡ None
  pub new : repeats ≡ false

either_new : (named repeats : Bool) → (not named && repeats) ≡ false → (named && repeats) ≡ false → repeats ≡ false
either_new true repeats a b = b
either_new false repeats a b = a

none_is : {T : Type 0} (o : Option T) → is_none o ≡ not (is_some o)
none_is None = refl
none_is (Some t) = refl

aggregate_says : (p count : ℕ) (info : TableInfo) (others : ℕ) (repeats : Bool) (a : NamedAgg) → aggregate_refusal p count info others repeats a ≡ None → Aggregate p info others repeats a
aggregate_says p count info others repeats a e =
    let one = neither (refusal_if p 7 (is_none a.name && repeats)) _ e in
    let two = neither (marked_refusal p 21 count (nat_le 16 others)) _ one.1 in
    let three = neither (argument_refusal p info a.col) _ two.1 in
    let unnamed : (is_none a.name && repeats) ≡ false = not_wrong p 7 0 _ one.0 in
    record {
      few = leb-false 16 others (not_wrong p 21 count (nat_le 16 others) two.0);
      argument = three.0;
      new = either_new (is_some a.name) repeats (ap (λ b. b && repeats) (sym (none_is a.name)) ∙ unnamed) (not_wrong p 7 0 _ three.1);
    }

-- the aggregates that aren't refused fit, and with the columns before them they are at most 16
record Aggregates (info : TableInfo) (keys before : ℕ) (aggs : List NamedAgg) : Type 0 where
  pub fit : list_all (agg_fits (length info.def.cols)) (map (aggregate_of info) aggs) ≡ true
  pub few : 0 < length aggs → suc (keys + before + length aggs) ≤ 16

count_is_small : (keys before : ℕ) → columns_before keys before < 16 → suc (keys + before) < 16
count_is_small keys before e = omega arith

aggregates_fit : (p : ℕ) (distinct : Bool) (count : ℕ) (info : TableInfo) (bucket : List ℕ) (keys : List (List ℕ)) (before aggs : List NamedAgg) → TableIsSound info → 0 < length info.def.cols → AllByRecursion IsWholeAgg aggs → aggregates_refusal p distinct count info bucket keys before aggs ≡ None → Aggregates info (length keys) (length before) aggs
aggregates_fit p distinct count info bucket keys before [] s some w e = record { fit = refl; few = λ h. absurd (omega arith) }
aggregates_fit p distinct count info bucket keys before (a ∷ aggs) s some w e =
    let repeats = distinct && is_taken bucket keys before (aggregate_name a) in
    let parts = neither (aggregate_refusal p count info (columns_before (length keys) (length before)) repeats a) _ e in
    let here = aggregate_says p count info (columns_before (length keys) (length before)) repeats a parts.0 in
    let rest = aggregates_fit p distinct count info bucket keys (before ++ a ∷ []) aggs s some w.1 parts.1 in
    let small = count_is_small (length keys) (length before) here.few in
    record {
      fit = and_from _ _ (and_from _ _ (argument_in_range p info a.col s some here.argument) (count_all_fits info a.fun a.col w.0.argument)) rest.fit;
      few = λ _. at_most (length keys) (length before) (length aggs) (length (before ++ a ∷ [])) small (length-append before (a ∷ [])) rest.few;
    }
  where
    at_most : (k b n m : ℕ) → suc (k + b) < 16 → m ≡ b + 1 → (0 < n → suc (k + m + n) ≤ 16) → suc (k + b + suc n) ≤ 16
    at_most k b zero m small e h = omega arith
    at_most k b (suc n) m small e h = omega (arith, h (omega arith))

-- ---- names of output columns

-- a name that none of these is comes after them
pub apart_push : (names : List (List ℕ)) (n : List ℕ) → all_apart names ≡ true → list_any (λ other. same_name other n) names ≡ false → all_apart (names ++ n ∷ []) ≡ true
apart_push [] n a e = refl
apart_push (m ∷ names) n a e =
    let parts = and_parts (not (list_any (same_name m) names)) (all_apart names) a in
    let others = or_parts (same_name m n) (list_any (λ other. same_name other n) names) e in
    and_from _ _
    (ap not (list_any-append (same_name m) names (n ∷ []) ∙ none_of (list_any (same_name m) names) (same_name m n) (not-true _ parts.0) others.0))
    (apart_push names n parts.1 others.1)
  where
    none_of : (x y : Bool) → x ≡ false → y ≡ false → (x || (y || false)) ≡ false
    none_of x y a b = rw (a, b) refl

keys_apart : (p count : ℕ) (info : TableInfo) (bucket : List ℕ) (before keys : List (List ℕ)) → all_apart (bucket ∷ before) ≡ true → keys_refusal p true count info bucket before keys ≡ None → all_apart (bucket ∷ (before ++ keys)) ≡ true
keys_apart p count info bucket before [] a e = subst (λ (ks : List (List ℕ)). all_apart (bucket ∷ ks) ≡ true) (sym (append-nil before)) a
keys_apart p count info bucket before (k ∷ keys) a e =
    let parts = neither (key_refusal p count info (columns_before (length before) 0) (is_key bucket before k) k) _ e in
    let new = not_wrong p 7 0 (is_key bucket before k) (neither (refusal_if p 7 (is_key bucket before k)) _ parts.0).0 in
    let more = keys_apart p count info bucket (before ++ k ∷ []) keys (apart_push (bucket ∷ before) k a new) parts.1 in
    subst (λ (ks : List (List ℕ)). all_apart (bucket ∷ ks) ≡ true) (append_assoc before (k ∷ []) keys) more

-- the name of an earlier aggregate is one of their names
pub any_name : (aggs : List NamedAgg) (name : List ℕ) → is_aggregate aggs name ≡ list_any (λ other. same_name other name) (map aggregate_name aggs)
any_name [] name = refl
any_name (a ∷ aggs) name = ap (λ b. same_name (aggregate_name a) name || b) (any_name aggs name)

aggregates_apart : (p count : ℕ) (info : TableInfo) (bucket : List ℕ) (keys : List (List ℕ)) (before aggs : List NamedAgg) → all_apart ((bucket ∷ keys) ++ map aggregate_name before) ≡ true → aggregates_refusal p true count info bucket keys before aggs ≡ None → all_apart ((bucket ∷ keys) ++ (map aggregate_name before ++ map aggregate_name aggs)) ≡ true
aggregates_apart p count info bucket keys before [] a e =
    subst (λ (ns : List (List ℕ)). all_apart ((bucket ∷ keys) ++ ns) ≡ true) (sym (append-nil (map aggregate_name before))) a
aggregates_apart p count info bucket keys before (g ∷ aggs) a e =
    let name = aggregate_name g in
    let parts = neither (aggregate_refusal p count info (columns_before (length keys) (length before)) (is_taken bucket keys before name) g) _ e in
    let here = aggregate_says p count info (columns_before (length keys) (length before)) (is_taken bucket keys before name) g parts.0 in
    let new : list_any (λ other. same_name other name) ((bucket ∷ keys) ++ map aggregate_name before) ≡ false =
    list_any-append (λ other. same_name other name) (bucket ∷ keys) (map aggregate_name before)
    ∙ ap (λ b. is_key bucket keys name || b) (sym (any_name before name)) ∙ here.new in
    let pushed : all_apart ((bucket ∷ keys) ++ map aggregate_name (before ++ g ∷ [])) ≡ true =
    subst (λ (ns : List (List ℕ)). all_apart ns ≡ true) (joined (bucket ∷ keys) before g) (apart_push ((bucket ∷ keys) ++ map aggregate_name before) name a new) in
    subst (λ (ns : List (List ℕ)). all_apart ((bucket ∷ keys) ++ ns) ≡ true) (shifted before g aggs) (aggregates_apart p count info bucket keys (before ++ g ∷ []) aggs pushed parts.1)
  where
    map_push : (before : List NamedAgg) (g : NamedAgg) → map aggregate_name (before ++ g ∷ []) ≡ map aggregate_name before ++ aggregate_name g ∷ []
    map_push [] g = refl
    map_push (b ∷ before) g = ap (λ ns. aggregate_name b ∷ ns) (map_push before g)

    joined : (ns : List (List ℕ)) (before : List NamedAgg) (g : NamedAgg) → (ns ++ map aggregate_name before) ++ aggregate_name g ∷ [] ≡ ns ++ map aggregate_name (before ++ g ∷ [])
    joined ns before g = append_assoc ns (map aggregate_name before) (aggregate_name g ∷ []) ∙ ap (λ r. ns ++ r) (sym (map_push before g))

    shifted : (before : List NamedAgg) (g : NamedAgg) (aggs : List NamedAgg) → map aggregate_name (before ++ g ∷ []) ++ map aggregate_name aggs ≡ map aggregate_name before ++ (aggregate_name g ∷ map aggregate_name aggs)
    shifted before g aggs = ap (λ r. r ++ map aggregate_name aggs) (map_push before g) ∙ append_assoc (map aggregate_name before) (aggregate_name g ∷ []) (map aggregate_name aggs)

-- ---- folds

-- the facts of a fold that isn't refused
pub record FoldIsSound (info : TableInfo) (f : NamedFold) : Type 0 where
  pub width : IsWidth (record { step = f.step; shift = f.shift })
  pub fits : fold_fits (length info.def.cols) (fold_of info f) ≡ true
  pub few : suc (length f.keys + length f.aggs) ≤ 16

-- the facts of the rest of a fold that isn't refused
pub record RestIsSound (info : TableInfo) (f : NamedFold) : Type 0 where
  pub fits : fold_fits (length info.def.cols) (fold_of info f) ≡ true
  pub few : suc (length f.keys + length f.aggs) ≤ 16

pub rest_is_sound : (p : ℕ) (distinct : Bool) (head : List ℕ) (info : TableInfo) (f : NamedFold) → TableIsSound info → 0 < length info.def.cols → IsWholeFold f → IsProperFold f → rest_refusal p distinct head info f ≡ None → RestIsSound info f
rest_is_sound p distinct head info f s some w proper e =
    let two = neither (keys_refusal p distinct (output_count f) info head [] f.keys) _ e in
    let three = neither (aggregates_refusal p distinct (output_count f) info head f.keys [] f.aggs) _ two.1 in
    let aggs = aggregates_fit p distinct (output_count f) info head f.keys [] f.aggs s some w.aggs three.0 in
    record {
      fits = and_from _ _ (and_from _ _ (keys_fit p distinct (output_count f) info head [] f.keys s two.0) aggs.fit) (tests_fit p info f.tests s w.tests proper.tests three.1);
      few = omega (arith, aggs.few w.some);
    }

pub fold_is_sound : (p : ℕ) (distinct : Bool) (info : TableInfo) (f : NamedFold) → TableIsSound info → 0 < length info.def.cols → IsWholeFold f → IsProperFold f → fold_refusal p distinct info f ≡ None → FoldIsSound info f
fold_is_sound p distinct info f s some w proper e =
    let one = neither (width_refusal p info f) _ e in
    let rest = rest_is_sound p distinct (bucket_column f) info f s some w proper one.1 in
    record { width = width_fits p info f one.0; fits = rest.fits; few = rest.few }

-- a name that is given, or a word that is a name
given_name : (given : Option (List ℕ)) (word : List ℕ) → IsAlias given → is_name word ≡ true → is_name (unwrap_or given word) ≡ true
given_name None word h k = k
given_name (Some x) word h k = h

function_is_name : (f : Fun) → is_name (function_name f) ≡ true
function_is_name fun.CountAll = refl
function_is_name fun.Count = refl
function_is_name fun.Sum = refl
function_is_name fun.Min = refl
function_is_name fun.Max = refl
function_is_name fun.Avg = refl

keys_are_names : (keys : List (List ℕ)) → AllByRecursion IsName keys → list_all is_name keys ≡ true
keys_are_names [] h = refl
keys_are_names (k ∷ keys) h = and_from _ _ h.0 (keys_are_names keys h.1)

aggregates_are_names : (aggs : List NamedAgg) → AllByRecursion IsProperAgg aggs → list_all is_name (map aggregate_name aggs) ≡ true
aggregates_are_names [] h = refl
aggregates_are_names (a ∷ aggs) h = and_from _ _ (given_name a.name (function_name a.fun) h.0.name (function_is_name a.fun)) (aggregates_are_names aggs h.1)

-- the output names of a fold are names
pub outputs_are_names : (f : NamedFold) → IsProperFold f → list_all is_name (output_names f) ≡ true
outputs_are_names f h =
    list_all-append is_name (bucket_column f ∷ f.keys) (map aggregate_name f.aggs)
    ∙ and_from _ _ (and_from _ _ (given_name f.name _ h.name refl) (keys_are_names f.keys h.keys)) (aggregates_are_names f.aggs h.aggs)

-- the output names of an aggregate to be created are different
pub names_apart : (p : ℕ) (info : TableInfo) (f : NamedFold) → fold_refusal p true info f ≡ None → all_apart (output_names f) ≡ true
names_apart p info f e =
    let one = neither (width_refusal p info f) _ e in
    let two = neither (keys_refusal p true (output_count f) info (bucket_column f) [] f.keys) _ one.1 in
    let three = neither (aggregates_refusal p true (output_count f) info (bucket_column f) f.keys [] f.aggs) _ two.1 in
    let keys = keys_apart p (output_count f) info (bucket_column f) [] f.keys refl two.0 in
    aggregates_apart p (output_count f) info (bucket_column f) f.keys [] f.aggs
    (subst (λ (ns : List (List ℕ)). all_apart ns ≡ true) (sym (append-nil (bucket_column f ∷ f.keys))) keys) three.0
