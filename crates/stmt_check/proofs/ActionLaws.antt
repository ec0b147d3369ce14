-- What an unrefused statement requests at an allowed history can be done there.
use Rattle.std.proofs.Common.{◌≡◌, ◌∙◌, refl, sym, subst, ap, ℕ, suc, ◌+◌, ◌*◌, ◌<◌, ◌≤◌, Bool, true, false, not, ◌&&◌, List, [], ◌∷◌, map, length, get_or, Option, Some, None, is_some, is_none, arith, ℤ, pos, negsuc, ◌-ℤ◌, ◌≤ℤ◌, ◌<ℤ◌, ◌-◌, ◌^◌}
use Rattle.std.specs.Prelude.{nat_lt, nat_le, unwrap_or, slice_get, sum_by, int_lt, int_le, IsTrue, option_and_then, option_map}
use Rattle.std.specs.Int.{int_rem_euclid}
use Rattle.std.specs.Option.{ForSome}
use Rattle.std.specs.List.{list_all}
use Rattle.std.proofs.lemmas.Bool.{and_parts, and_from, lt-ltb, ltb-true, leb-true, le-leb, leb-false, eq-eqb}
use Rattle.std.proofs.lemmas.Int.{ints}
use Rattle.std.proofs.lemmas.List.{length-map, length-append}
use Rattle.std.proofs.lemmas.List.Sums.{sum_by-cons, sum_by-append}
use Rattle.std.proofs.lemmas.Option.{get_or_from_slice_get}
use Rattle.ts_num.specs.declared.values.Fun.{Fun}
use Rattle.ts_num.specs.declared.values.Fun.TheVariants as fun
use Rattle.ts_bucket.specs.Bucket.{IsWidth, is_time, max_step, max_time, min_time, is_width}
use Rattle.ts_bucket.specs.Chunks.{chunk_start}
use Rattle.ts_bucket.proofs.Remainders.{remainder_bounds}
use Rattle.ts_model.proofs.FitLaws.{fold_columns}
use Rattle.ts_schema.specs.Names.{is_name}
use Rattle.stmt_syntax.specs.Proper.{IsProperFold, AreProperRows}
use Rattle.ts_schema.specs.declared.columns.Column.{Column}
use Rattle.ts_schema.specs.declared.conditions.Test.{Test}
use Rattle.ts_model.specs.declared.events.Event.{Event}
use Rattle.ts_model.specs.declared.events.Event.TheVariants as events
use Rattle.ts_model.specs.declared.events.Op.{Op}
use Rattle.ts_model.specs.declared.events.Op.TheVariants as ops
use Rattle.ts_model.specs.declared.outcomes.Refusal.{Refusal}
use Rattle.ts_model.specs.declared.queries.Query.TheVariants as queries
use Rattle.ts_model.specs.declared.rosters.Roster.{Roster}
use Rattle.ts_model.specs.declared.tables.Hyper.{Hyper as HyperInfo}
use Rattle.ts_model.specs.declared.tables.TableDef.{TableDef}
use Rattle.ts_model.specs.declared.tables.TableInfo.{TableInfo}
use Rattle.ts_model.specs.declared.views.Agg.{Agg}
use Rattle.ts_model.specs.declared.views.Fold.{Fold}
use Rattle.ts_model.specs.declared.views.ViewDef.{ViewDef}
use Rattle.ts_model.specs.History.{History}
use Rattle.ts_model.specs.Roster.{roster, table_of, hyper_of, is_taken}
use Rattle.ts_model.specs.Limits.{is_word}
use Rattle.ts_model.specs.Sound.{all_apart, columns_fit, hyper_fits, sound_at, op_fits, output_count, rows_fit, test_fits, view_fits}
use Rattle.ts_model.specs.Answers.{can_ask, columns_are_there}
use Rattle.ts_model.specs.Bytes.{event_bytes, name_bytes, op_bytes}
use Rattle.ts_model.specs.Roster.{of_hyper, of_table}
use Rattle.ts_model.specs.Timely.{timely_at}
use Rattle.ts_catalog.specs.Columns.{column_from}
use Rattle.ts_catalog.specs.Relations.{found_in}
use Rattle.ts_catalog.specs.declared.relations.Found.{Found}
use Rattle.ts_catalog.specs.declared.relations.Found.TheVariants as found
use Rattle.stmt_syntax.specs.Heads.{calendar_word}
use Rattle.stmt_syntax.specs.Written.{IsWholeFold, IsWritten, agg_size, alias_size, column_size, fold_size, name_size, row_size, size_of, test_size}
use Rattle.stmt_syntax.specs.declared.statements.NamedAgg.{NamedAgg}
use Rattle.stmt_syntax.specs.declared.statements.NamedFold.{NamedFold}
use Rattle.stmt_syntax.specs.declared.statements.NamedTest.{NamedTest}
use Rattle.stmt_syntax.specs.declared.statements.Stmt.{Stmt}
use Rattle.stmt_syntax.specs.declared.statements.Stmt.TheVariants as stmts
use Rattle.stmt_check.specs.Refusals.{◌⊳◌, finds_nothing, hypertable_refusal, refusal_if_none, name_refusal, number_of, plain_refusal, query_refusal, refusal_if, view_refusal}
use Rattle.stmt_check.specs.Check.{action_of, interval_of, no_table, refusal_of, rows_into, rows_query, rows_query_refusal, table_at, time_of}
use Rattle.stmt_check.specs.Folds.{aggregate_name, aggregate_of, bucket_column, calendar_of, calendar_refusal, fold_of, fold_refusal, function_name, head_name, is_unit, number_or_zero, unit_count, units_refusal, output_names, test_of, tests_of, tests_refusal}
use Rattle.stmt_check.specs.Queries.{bound_refusal, drop_test}
use Rattle.stmt_check.specs.Rows.{insert_refusal, inserted_rows}
use Rattle.stmt_check.specs.Tables.{hyper_refusal, is_interval, table_refusal}
use Rattle.stmt_check.specs.Sound.{MayCome, MayBeMade, IsCalendar, IsOperation, IsWindow, IsSound, ActionsAreSound}
use Rattle.stmt_check.proofs.PassedLaws.{neither, not_wrong, not_missing, has_to_be}
use Rattle.stmt_check.proofs.FoundLaws.{Stands, IsHyper, RelationAt, relation_at, name_is_free}
use Rattle.stmt_check.proofs.FoldLaws.{FoldIsSound, fold_is_sound, rest_is_sound, names_apart, outputs_are_names, place_is_there, tests_fit, tests_there}
use Rattle.stmt_check.proofs.RosterLaws.{interval_is_in_range, HyperIsSound, RosterIsSound, TableIsSound, all_at, roster_is_sound}
use Rattle.stmt_check.proofs.RowLaws.{IsHyperOf, rows_are_sound}
use Rattle.stmt_check.proofs.TableLaws.{table_columns_fit}

-- ---- hypertables

-- table number n
abbrev table_numbered : Roster → ℕ → TableInfo
table_numbered r n = get_or r.tables n no_table

-- table number n is there
record IsTable (r : Roster) (n : ℕ) : Type 0 where
  pub at : slice_get r.tables n ≡ Some (table_numbered r n)
  pub sound : TableIsSound (table_numbered r n)

table_is : (r : Roster) (n : ℕ) (is : Bool) → RosterIsSound r → Stands r.tables n (IsHyper is) → IsTable r n × (is_some (table_numbered r n).hyper ≡ is)
table_is r n is s t =
    let same : table_numbered r n ≡ t.item = get_or_from_slice_get r.tables n t.item no_table t.at in (
      record { at = t.at ∙ ap Some (sym same); sound = subst TableIsSound (sym same) (all_at TableIsSound r.tables n t.item s.tables t.at) },
      ap (λ (i : TableInfo). is_some i.hyper) same ∙ t.is,
    )

record IsHypertable (r : Roster) (n : ℕ) : Type 0 where
  pub table : IsTable r n
  pub hyper : HyperInfo
  pub is : (table_numbered r n).hyper ≡ Some hyper

some_hyper : (o : Option HyperInfo) → is_some o ≡ true → (h : HyperInfo) × (o ≡ Some h)
some_hyper None e = absurd cc
some_hyper (Some h) e = (h, refl)

hypertable_is : (r : Roster) (n : ℕ) → RosterIsSound r → Stands r.tables n (IsHyper true) → IsHypertable r n
hypertable_is r n s t =
    let table = table_is r n true s t in
    let h = some_hyper (table_numbered r n).hyper table.1 in
    record { table = table.0; hyper = h.0; is = h.1 }

-- a test that is true of a hypertable
on_hypertable : (test : TableDef → HyperInfo → Bool) (r : Roster) (n : ℕ) (h : IsHypertable r n) → test (table_numbered r n).def h.hyper ≡ true → of_table test (table_of r n) ≡ true
on_hypertable test r n h e = ap (of_table test) h.table.at ∙ ap (of_hyper test (table_numbered r n).def) h.is ∙ e

-- the columns of a table
record Columns (cols : List Column) : Type 0 where
  pub some : 0 < length cols
  pub few : length cols ≤ 16
  pub apart : all_apart (map (λ c. c.name) cols) ≡ true

columns_of : (cols : List Column) → columns_fit cols ≡ true → Columns cols
columns_of cols e =
    let parts = and_parts (nat_lt 0 (length cols) && nat_le (length cols) 16) _ e in
    let counts = and_parts (nat_lt 0 (length cols)) _ parts.0 in
    record { some = ltb-true _ _ counts.0; few = leb-true _ _ counts.1; apart = (and_parts (list_all is_name (map (λ c. c.name) cols)) _ parts.1).1 }

-- ---- events that may come

-- an event that fits and is short
may_come : (h : History) (e : Event) (n : ℕ) → sound_at h e ≡ true → event_bytes e ≤ n → n < 4294967296 → timely_at h e ≡ true → MayCome h e
may_come h e n fits short small time = record { is_sound = and_from _ _ fits (lt-ltb _ _ (omega arith)); is_timely = time }

-- a free name, if one more relation is allowed
free_and_few : (p : ℕ) (r : Roster) (name : List ℕ) (there : ℕ) → name_refusal p r name there ≡ None → (not (is_taken r name) && nat_lt there 64) ≡ true
free_and_few p r name there e =
    let both = neither (refusal_if p 7 (not (finds_nothing (found_in r name)))) _ e in
    let free = name_is_free r name (has_to_be p 7 0 (finds_nothing (found_in r name)) both.0) in
    let few : there < 64 = leb-false 64 there (not_wrong p 21 65 (nat_le 64 there) both.1) in
    and_from _ _ (ap not free) (lt-ltb _ _ few)

-- one operation
operation : (h : History) (bytes : ℕ) (op : Op) → op_fits (roster h) op ≡ true → op_bytes op ≤ 8 * bytes → bytes ≤ 65536 → IsOperation h bytes op
operation h bytes op fits size short =
    let total : sum_by op_bytes (op ∷ []) ≡ op_bytes op + sum_by op_bytes [] = sum_by-cons op_bytes op [] in
    record {
      event = may_come h (events.Commit (op ∷ [])) 524293 (and_from _ _ refl (and_from _ _ fits refl)) (omega (arith, total)) (omega arith) refl;
      fits = fits;
      size = size;
    }

-- ---- CREATE TABLE

columns_bytes : (cols : List Column) → sum_by (λ c. name_bytes c.name + 1) cols ≤ sum_by column_size cols
columns_bytes [] = omega arith
columns_bytes (c ∷ cols) =
    let a : sum_by (λ c. name_bytes c.name + 1) (c ∷ cols) ≡ name_bytes c.name + 1 + sum_by (λ c. name_bytes c.name + 1) cols = sum_by-cons (λ c. name_bytes c.name + 1) c cols in
    let b : sum_by column_size (c ∷ cols) ≡ column_size c + sum_by column_size cols = sum_by-cons column_size c cols in
    omega (arith, columns_bytes cols)

table_action : (h : History) (p bytes : ℕ) (name : List ℕ) (cols : List Column) → IsWritten bytes (stmts.Table name cols) → bytes ≤ 65536 → table_refusal p (roster h) name cols ≡ None → MayCome h (events.Table (record { name = name; cols = cols }))
table_action h p bytes name cols w short e =
    let both = neither (name_refusal p (roster h) name (length (roster h).tables)) _ e in
    may_come h (events.Table (record { name = name; cols = cols })) 70000
    (and_from _ _ w.proper.0 (table_columns_fit p (length cols) cols w.whole w.proper.1 both.1))
    (omega (arith, columns_bytes cols, w.size)) (omega arith)
    (free_and_few p (roster h) name (length (roster h).tables) both.0)

-- ---- create_hypertable

positive : (n : ℤ) → is_interval n ≡ true → (int_lt (pos 0) n ≡ true) × (int_le n (pos 1125899906842624) ≡ true)
positive n e = (grind (arith, ints), (and_parts (int_le (pos 1) n) _ e).1)

not_hyper : (r : Roster) (n : ℕ) → IsTable r n → is_some (table_numbered r n).hyper ≡ false → is_none (hyper_of r n) ≡ true
not_hyper r n t e =
    ap (λ o. is_none (option_and_then (λ (i : TableInfo). i.hyper) o)) t.at ∙ none_of (table_numbered r n).hyper e
  where
    none_of : (o : Option HyperInfo) → is_some o ≡ false → is_none o ≡ true
    none_of None e = refl
    none_of (Some h) e = absurd cc

hyper_fits_there : (r : Roster) (n : ℕ) (hyper : HyperInfo) → IsTable r n → hyper.at < length (table_numbered r n).def.cols → is_interval hyper.interval ≡ true → hyper_fits hyper (table_of r n) ≡ true
hyper_fits_there r n hyper t at interval =
    let range = positive hyper.interval interval in
    ap (hyper_fits hyper) t.at ∙ and_from _ _ (and_from _ _ (lt-ltb _ _ at) range.0) range.1

hyper_action : (h : History) (p : ℕ) (f : Found) (col : List ℕ) (interval : ℤ) → RosterIsSound (roster h) → RelationAt (roster h) f → (plain_refusal p f ⊳ hyper_refusal p (table_at (roster h) f).def.cols col interval) ≡ None → MayCome h (events.Hyper (number_of f) (record { at = unwrap_or (column_from col 0 (table_at (roster h) f).def.cols) 0; interval = interval }))
hyper_action h p found.None col interval s t e = absurd cc
hyper_action h p (found.Hyper n) col interval s t e = absurd cc
hyper_action h p (found.View n) col interval s t e = absurd cc
hyper_action h p (found.Plain n) col interval s t e =
    let r = roster h in
    let cols = (table_numbered r n).def.cols in
    let both = neither (refusal_if_none p 8 (column_from col 0 cols)) _ e in
    let there = place_is_there col cols (not_missing p 8 (column_from col 0 cols) both.0) in
    let interval-fits = has_to_be p 14 0 (is_interval interval) both.1 in
    let table = table_is r n false s t in
    let hyper : HyperInfo = record { at = unwrap_or (column_from col 0 cols) 0; interval = interval } in
    may_come h (events.Hyper n hyper) 17 (hyper_fits_there r n hyper table.0 there interval-fits) (omega arith) (omega arith) (not_hyper r n table.0 table.1)

-- ---- CREATE MATERIALIZED VIEW

-- a refusal after another, which is refused too
no_more : (a : Option Refusal) (r : Refusal) → (a ⊳ Some r) ≡ None → ⊥
no_more None r e = absurd cc
no_more (Some q) r e = absurd cc

length_sizes : (keys : List (List ℕ)) → (length keys ≤ sum_by name_size keys) × (sum_by name_bytes keys ≡ sum_by name_size keys)
length_sizes [] = (omega arith, refl)
length_sizes (k ∷ keys) =
    let rest = length_sizes keys in
    let a : sum_by name_size (k ∷ keys) ≡ name_size k + sum_by name_size keys = sum_by-cons name_size k keys in
    let b : sum_by name_bytes (k ∷ keys) ≡ name_bytes k + sum_by name_bytes keys = sum_by-cons name_bytes k keys in
    (omega (arith, rest.0), omega (arith, rest.1))

tests_size : (tests : List NamedTest) → length tests ≤ sum_by test_size tests
tests_size [] = omega arith
tests_size (t ∷ tests) =
    let a : sum_by test_size (t ∷ tests) ≡ test_size t + sum_by test_size tests = sum_by-cons test_size t tests in
    omega (arith, tests_size tests)

function_len : (f : Fun) → length (function_name f) ≤ 5
function_len fun.CountAll = omega arith
function_len fun.Count = omega arith
function_len fun.Sum = omega arith
function_len fun.Min = omega arith
function_len fun.Max = omega arith
function_len fun.Avg = omega arith

named_len : (given : Option (List ℕ)) (word : List ℕ) (n : ℕ) → length word ≤ n → length (unwrap_or given word) ≤ n + alias_size given
named_len None word n h = omega arith
named_len (Some x) word n h = omega arith

aggs_size : (aggs : List NamedAgg) → (length aggs ≤ sum_by agg_size aggs) × (sum_by name_bytes (map aggregate_name aggs) ≤ sum_by agg_size aggs)
aggs_size [] = (omega arith, omega arith)
aggs_size (a ∷ aggs) =
    let rest = aggs_size aggs in
    let size : sum_by agg_size (a ∷ aggs) ≡ agg_size a + sum_by agg_size aggs = sum_by-cons agg_size a aggs in
    let bytes : sum_by name_bytes (map aggregate_name (a ∷ aggs)) ≡ name_bytes (aggregate_name a) + sum_by name_bytes (map aggregate_name aggs) = sum_by-cons name_bytes (aggregate_name a) (map aggregate_name aggs) in
    let name : length (aggregate_name a) ≤ 5 + alias_size a.name = named_len a.name (function_name a.fun) 5 (function_len a.fun) in
    (omega (arith, rest.0), omega (arith, rest.1))

names_bytes : (f : NamedFold) → sum_by name_bytes (output_names f) ≤ 12 + fold_size f
names_bytes f =
    let bucket : length (bucket_column f) ≤ 11 + alias_size f.name = named_len f.name _ 11 (omega arith) in
    let front : sum_by name_bytes (bucket_column f ∷ f.keys) ≡ name_bytes (bucket_column f) + sum_by name_bytes f.keys = sum_by-cons name_bytes (bucket_column f) f.keys in
    let whole : sum_by name_bytes (output_names f) ≡ sum_by name_bytes (bucket_column f ∷ f.keys) + sum_by name_bytes (map aggregate_name f.aggs) = sum_by-append name_bytes (bucket_column f ∷ f.keys) (map aggregate_name f.aggs) in
    omega (arith, (length_sizes f.keys).1, (aggs_size f.aggs).1)

-- the definition of an aggregate to be created
abbrev view_of_fold : Roster → ℕ → List ℕ → Bool → NamedFold → ViewDef
view_of_fold r n name only fold = record { name = name; table = n; fold = fold_of (table_numbered r n) fold; names = output_names fold; only = only }

view_bytes : (r : Roster) (n bytes : ℕ) (name : List ℕ) (only filled : Bool) (f : NamedFold) → size_of (stmts.View name only filled f) ≤ bytes → event_bytes (events.View (view_of_fold r n name only f)) ≤ 20 * bytes
view_bytes r n bytes name only filled f size =
    let info = table_numbered r n in
    let keys : length (map (number_or_zero info) f.keys) ≡ length f.keys = length-map f.keys (number_or_zero info) in
    let aggs : length (map (aggregate_of info) f.aggs) ≡ length f.aggs = length-map f.aggs (aggregate_of info) in
    let tests : length (map (test_of info) f.tests) ≡ length f.tests = length-map f.tests (test_of info) in
    omega (arith, names_bytes f, (length_sizes f.keys).0, (aggs_size f.aggs).0, tests_size f.tests)

counted : (info : TableInfo) (f : NamedFold) → output_count (fold_of info f) ≡ suc (length f.keys + length f.aggs)
counted info f =
    let keys : length (map (number_or_zero info) f.keys) ≡ length f.keys = length-map f.keys (number_or_zero info) in
    let aggs : length (map (aggregate_of info) f.aggs) ≡ length f.aggs = length-map f.aggs (aggregate_of info) in
    omega arith

names_counted : (f : NamedFold) → length (output_names f) ≡ suc (length f.keys + length f.aggs)
names_counted f =
    let whole : length (output_names f) ≡ length (bucket_column f ∷ f.keys) + length (map aggregate_name f.aggs) = length-append (bucket_column f ∷ f.keys) (map aggregate_name f.aggs) in
    let aggs : length (map aggregate_name f.aggs) ≡ length f.aggs = length-map f.aggs aggregate_name in
    omega arith

width_is : (step shift : ℤ) → IsWidth (record { step = step; shift = shift }) → is_width (record { step = step; shift = shift }) ≡ true
width_is step shift w =
    let positive : pos 0 <ℤ step = w.positive in
    let bounded : step ≤ℤ max_step = w.bounded in
    let from_zero : pos 0 ≤ℤ shift = w.from_zero in
    let below : shift <ℤ step = w.below_step in
    grind (arith, ints)

view_is_sound : (r : Roster) (n : ℕ) (name : List ℕ) (only : Bool) (f : NamedFold) (hyper : HyperInfo) → is_name name ≡ true → IsWholeFold f → IsProperFold f → FoldIsSound (table_numbered r n) f → all_apart (output_names f) ≡ true → view_fits (view_of_fold r n name only f) (table_numbered r n).def hyper ≡ true
view_is_sound r n name only f hyper named w proper s apart =
    let info = table_numbered r n in
    let aggs : length (map (aggregate_of info) f.aggs) ≡ length f.aggs = length-map f.aggs (aggregate_of info) in
    and_from _ _
    (and_from _ _
    (and_from _ _ (and_from _ _ (and_from _ _ (and_from _ _ named (width_is f.step f.shift s.width)) s.fits) (lt-ltb _ _ (omega (arith, w.some)))) (le-leb _ _ (omega (arith, counted info f, s.few))))
    (eq-eqb _ _ (omega (arith, counted info f, names_counted f))))
    (and_from _ _ (outputs_are_names f proper) apart)

view_action : (h : History) (p bytes : ℕ) (name : List ℕ) (only filled : Bool) (fold : NamedFold) (f : Found) → RosterIsSound (roster h) → RelationAt (roster h) f → IsWritten bytes (stmts.View name only filled fold) → bytes ≤ 65536
    → (name_refusal p (roster h) name (length (roster h).views) ⊳ hypertable_refusal p f ⊳ fold_refusal p true (table_at (roster h) f) fold) ≡ None
    → MayBeMade h (record { name = name; table = number_of f; fold = fold_of (table_at (roster h) f) fold; names = output_names fold; only = only })
view_action h p bytes name only filled fold found.None s t w short e = absurd (no_more (name_refusal p (roster h) name (length (roster h).views)) _ e)
view_action h p bytes name only filled fold (found.Plain n) s t w short e = absurd (no_more (name_refusal p (roster h) name (length (roster h).views)) _ e)
view_action h p bytes name only filled fold (found.View n) s t w short e = absurd (no_more (name_refusal p (roster h) name (length (roster h).views)) _ e)
view_action h p bytes name only filled fold (found.Hyper n) s t w short e =
    let r = roster h in
    let both = neither (name_refusal p r name (length r.views)) _ e in
    let table = hypertable_is r n s t in
    let cols = columns_of (table_numbered r n).def.cols table.table.sound.columns in
    let sound-fold = fold_is_sound p true (table_numbered r n) fold table.table.sound cols.some w.whole w.proper.1 both.1 in
    let fits = view_is_sound r n name only fold table.hyper w.proper.0 w.whole w.proper.1 sound-fold (names_apart p (table_numbered r n) fold both.1) in
    record {
      event = may_come h (events.View (view_of_fold r n name only fold)) 1310720
          (on_hypertable (view_fits (view_of_fold r n name only fold)) r n table fits)
          (omega (arith, view_bytes r n bytes name only filled fold w.size)) (omega arith)
          (free_and_few p r name (length r.views) both.0);
      width = sound-fold.width;
    }

-- ---- INSERT, DELETE and drop_chunks

hyper_of_table : (r : Roster) (n : ℕ) (t : IsHypertable r n) → (t.hyper.at < length (table_numbered r n).def.cols) × (is_interval t.hyper.interval ≡ true)
hyper_of_table r n t = subst (λ (o : Option HyperInfo). HyperIsSound (table_numbered r n).def.cols o) t.is t.table.sound.hyper

insert_fits : (r : Roster) (n p bytes : ℕ) (cols : Option (List (List ℕ))) (rows : List (List (Option ℤ))) (t : IsHypertable r n) → 0 < length rows → AreProperRows rows → 16 + sum_by row_size rows ≤ bytes
    → insert_refusal p (time_of (table_numbered r n).hyper) (table_numbered r n).def.cols cols rows ≡ None
    → (op_fits r (ops.Insert n (rows_into (table_numbered r n) cols rows)) ≡ true) × (op_bytes (ops.Insert n (rows_into (table_numbered r n) cols rows)) ≤ 8 * bytes)
insert_fits r n p bytes cols rows t some proper size e =
    let info = table_numbered r n in
    let c = columns_of info.def.cols t.table.sound.columns in
    let at : time_of info.hyper ≡ t.hyper.at = ap time_of t.is in
    let shape : IsHyperOf t.hyper.at info.def.cols = record { apart = c.apart; few = c.few; time = (hyper_of_table r n t).0 } in
    let sound-rows = rows_are_sound p info.def t.hyper cols rows shape proper (subst (λ (k : ℕ). insert_refusal p k info.def.cols cols rows ≡ None) at e) in
    let made = inserted_rows t.hyper.at info.def.cols cols rows in
    let many : length made ≡ length rows = length-map rows _ in
    let fits : rows_fit info.def t.hyper made ≡ true = and_from _ _ (lt-ltb _ _ (omega (arith, many))) sound-rows.fit in
    subst (λ (k : ℕ). (op_fits r (ops.Insert n (inserted_rows k info.def.cols cols rows)) ≡ true) × (op_bytes (ops.Insert n (inserted_rows k info.def.cols cols rows)) ≤ 8 * bytes)) (sym at)
    (on_hypertable (λ def hyper. rows_fit def hyper made) r n t fits, omega (arith, sound-rows.size))

insert_action : (h : History) (p bytes : ℕ) (name : List ℕ) (cols : Option (List (List ℕ))) (rows : List (List (Option ℤ))) (f : Found) → RosterIsSound (roster h) → RelationAt (roster h) f → IsWritten bytes (stmts.Insert name cols rows) → bytes ≤ 65536
    → (hypertable_refusal p f ⊳ insert_refusal p (time_of (table_at (roster h) f).hyper) (table_at (roster h) f).def.cols cols rows) ≡ None
    → IsOperation h bytes (ops.Insert (number_of f) (rows_into (table_at (roster h) f) cols rows))
insert_action h p bytes name cols rows found.None s t w short e = absurd cc
insert_action h p bytes name cols rows (found.Plain n) s t w short e = absurd cc
insert_action h p bytes name cols rows (found.View n) s t w short e = absurd cc
insert_action h p bytes name cols rows (found.Hyper n) s t w short e =
    let r = roster h in
    let both = insert_fits r n p bytes cols rows (hypertable_is r n s t) w.whole.some w.proper.2 (omega (arith, w.size)) e in
    operation h bytes (ops.Insert n (rows_into (table_numbered r n) cols rows)) both.0 both.1 short

delete_action : (h : History) (p bytes : ℕ) (name : List ℕ) (tests : List NamedTest) (f : Found) → RosterIsSound (roster h) → RelationAt (roster h) f → IsWritten bytes (stmts.Delete name tests) → bytes ≤ 65536
    → (hypertable_refusal p f ⊳ tests_refusal p (table_at (roster h) f) tests) ≡ None
    → IsOperation h bytes (ops.Delete (number_of f) (tests_of (table_at (roster h) f) tests))
delete_action h p bytes name tests found.None s t w short e = absurd cc
delete_action h p bytes name tests (found.Plain n) s t w short e = absurd cc
delete_action h p bytes name tests (found.View n) s t w short e = absurd cc
delete_action h p bytes name tests (found.Hyper n) s t w short e =
    let r = roster h in
    let table = hypertable_is r n s t in
    let fits = tests_fit p (table_numbered r n) tests table.table.sound w.whole w.proper.1 e in
    let many : length (tests_of (table_numbered r n) tests) ≡ length tests = length-map tests (test_of (table_numbered r n)) in
    operation h bytes (ops.Delete n (tests_of (table_numbered r n) tests))
    (on_hypertable (λ def hyper. list_all (test_fits (length def.cols)) (tests_of (table_numbered r n) tests)) r n table fits)
    (omega (arith, many, tests_bytes tests, w.size)) short
  where
    tests_bytes : (tests : List NamedTest) → 5 * length tests ≤ sum_by test_size tests
    tests_bytes [] = omega arith
    tests_bytes (t ∷ tests) =
        let a : sum_by test_size (t ∷ tests) ≡ test_size t + sum_by test_size tests = sum_by-cons test_size t tests in
        omega (arith, tests_bytes tests)

-- a chunk that holds a time begins at a number of 64 bits
start_is_word : (interval t : ℤ) → is_interval interval ≡ true → is_time t ≡ true → is_word (chunk_start interval t) ≡ true
start_is_word interval t i h =
    let one : pos 1 ≤ℤ interval = grind (arith, ints) in
    let most : interval ≤ℤ pos (2 ^ 50) = grind (arith, ints) in
    let low : min_time ≤ℤ t = grind (arith, ints) in
    let high : t ≤ℤ max_time = grind (arith, ints) in
    let bounds = remainder_bounds t interval (let positive : pos 0 <ℤ interval = omega (arith, ints) in positive) in
    let from : pos 0 ≤ℤ int_rem_euclid t interval = bounds.0 in
    let below : int_rem_euclid t interval <ℤ interval = bounds.1 in
    is_between (t -ℤ int_rem_euclid t interval) (omega (arith, ints)) (omega (arith, ints))
  where
    is_between : (z : ℤ) → negsuc (2 ^ 63 - 1) ≤ℤ z → z ≤ℤ pos (2 ^ 63 - 1) → is_word z ≡ true
    is_between z a b = grind (arith, ints)

interval_of_hyper : (info : TableInfo) → TableIsSound info → is_interval (interval_of info.hyper) ≡ true
interval_of_hyper info s = interval_is_in_range info.def.cols info.hyper s.hyper

drop_action : (h : History) (p bytes : ℕ) (name : List ℕ) (below : ℤ) (f : Found) → RosterIsSound (roster h) → RelationAt (roster h) f → IsWritten bytes (stmts.Drop name below) → bytes ≤ 65536
    → (hypertable_refusal p f ⊳ bound_refusal p (Some below)) ≡ None
    → IsOperation h bytes (ops.Delete (number_of f) (drop_test (interval_of (table_at (roster h) f).hyper) below ∷ []))
drop_action h p bytes name below found.None s t w short e = absurd cc
drop_action h p bytes name below (found.Plain n) s t w short e = absurd cc
drop_action h p bytes name below (found.View n) s t w short e = absurd cc
drop_action h p bytes name below (found.Hyper n) s t w short e =
    let r = roster h in
    let table = hypertable_is r n s t in
    let cols = columns_of (table_numbered r n).def.cols table.table.sound.columns in
    let test = drop_test (interval_of (table_numbered r n).hyper) below in
    let interval : is_interval (interval_of (table_numbered r n).hyper) ≡ true = interval_of_hyper (table_numbered r n) table.table.sound in
    let word = start_is_word (interval_of (table_numbered r n).hyper) below interval (has_to_be p 9 0 (is_time below) e) in
    operation h bytes (ops.Delete n (test ∷ []))
    (on_hypertable (λ def hyper. list_all (test_fits (length def.cols)) (test ∷ [])) r n table (and_from _ _ (and_from _ _ (and_from _ _ (lt-ltb _ _ cols.some) word) refl) refl))
    (omega (arith, w.size)) short

-- ---- windows and queries

bound_in_range : (p : ℕ) (o : Option ℤ) → bound_refusal p o ≡ None → ForSome o (λ t. IsTrue (is_time t))
bound_in_range p None e = λ t is. absurd cc
bound_in_range p (Some b) e = λ t is. let same : b ≡ t = cc in subst (λ (z : ℤ). is_time z ≡ true) same (has_to_be p 9 0 (is_time b) e)

window_action : (h : History) (p : ℕ) (lo hi : Option ℤ) (f : Found) → RelationAt (roster h) f → (view_refusal p f ⊳ bound_refusal p lo ⊳ bound_refusal p hi) ≡ None → IsWindow h (number_of f) lo hi
window_action h p lo hi found.None t e = absurd cc
window_action h p lo hi (found.Plain n) t e = absurd cc
window_action h p lo hi (found.Hyper n) t e = absurd cc
window_action h p lo hi (found.View n) t e =
    let both = neither (bound_refusal p lo) (bound_refusal p hi) e in
    record { there = ap is_some t.at; low = bound_in_range p lo both.0; high = bound_in_range p hi both.1 }

mode_action : (h : History) (p : ℕ) (only : Bool) (f : Found) → RelationAt (roster h) f → view_refusal p f ≡ None → MayCome h (events.Mode (number_of f) only)
mode_action h p only found.None t e = absurd cc
mode_action h p only (found.Plain n) t e = absurd cc
mode_action h p only (found.Hyper n) t e = absurd cc
mode_action h p only (found.View n) t e = may_come h (events.Mode n only) 6 (ap is_some t.at) (omega arith) (omega arith) refl

buckets_action : (h : History) (p : ℕ) (fold : NamedFold) (f : Found) → RosterIsSound (roster h) → RelationAt (roster h) f → IsWholeFold fold → IsProperFold fold
    → (hypertable_refusal p f ⊳ fold_refusal p false (table_at (roster h) f) fold) ≡ None
    → can_ask (roster h) (queries.Buckets (number_of f) (fold_of (table_at (roster h) f) fold)) ≡ true
buckets_action h p fold found.None s t w proper e = absurd cc
buckets_action h p fold (found.Plain n) s t w proper e = absurd cc
buckets_action h p fold (found.View n) s t w proper e = absurd cc
buckets_action h p fold (found.Hyper n) s t w proper e =
    let r = roster h in
    let table = hypertable_is r n s t in
    let cols = columns_of (table_numbered r n).def.cols table.table.sound.columns in
    let fits = (fold_is_sound p false (table_numbered r n) fold table.table.sound cols.some w proper e).fits in
    on_hypertable (λ def hyper. columns_are_there (length def.cols) (fold_of (table_numbered r n) fold)) r n table
    (fold_columns (length (table_numbered r n).def.cols) (fold_of (table_numbered r n) fold) fits)

-- units that aren't refused
units_are : (p : ℕ) (info : TableInfo) (number : ℤ) (unit : List ℕ) (f : NamedFold) → units_refusal p info number unit f ≡ None → ((1 ≤ unwrap_or (unit_count number) 0) × (unwrap_or (unit_count number) 0 ≤ 1200)) × (is_unit unit ≡ true)
units_are p info number unit f e =
    let one = neither (refusal_if_none p 29 (unit_count number)) _ e in
    let two = neither (refusal_if p 29 (not (is_unit unit))) _ one.1 in
    (counted_units number (not_missing p 29 (unit_count number) one.0), has_to_be p 29 0 (is_unit unit) two.0)
  where
    counted_units : (n : ℤ) → is_some (unit_count n) ≡ true → (1 ≤ unwrap_or (unit_count n) 0) × (unwrap_or (unit_count n) 0 ≤ 1200)
    counted_units n e = grind (arith, ints)

-- what is among the first columns is among any longer list of them
all_among : {T : Type 0} (col : T → ℕ) (n m : ℕ) (xs : List T) → n ≤ m → list_all (λ x. nat_lt (col x) n) xs ≡ true → list_all (λ x. nat_lt (col x) m) xs ≡ true
all_among col n m [] le e = refl
all_among col n m (x ∷ xs) le e =
    let parts = and_parts (nat_lt (col x) n) (list_all (λ x. nat_lt (col x) n) xs) e in
    let low : col x < n = ltb-true _ _ parts.0 in
    and_from _ _ (lt-ltb _ _ (omega arith)) (all_among col n m xs le parts.1)

columns_among : (n m : ℕ) (fold : Fold) → n ≤ m → columns_are_there n fold ≡ true → columns_are_there m fold ≡ true
columns_among n m fold le e =
    let tests = and_parts (list_all (λ k. nat_lt k n) fold.keys && list_all (λ agg. nat_lt agg.col n) fold.aggs) _ e in
    let keys = and_parts (list_all (λ k. nat_lt k n) fold.keys) _ tests.0 in
    and_from _ _ (and_from _ _ (all_among (λ k. k) n m fold.keys le keys.0) (all_among (λ (a : Agg). a.col) n m fold.aggs le keys.1)) (all_among (λ (t : Test). t.col) n m fold.tests le tests.1)

calendar_action : (h : History) (p : ℕ) (number : ℤ) (unit : List ℕ) (fold : NamedFold) (f : Found) → RosterIsSound (roster h) → RelationAt (roster h) f → IsWholeFold fold → IsProperFold fold
    → (hypertable_refusal p f ⊳ calendar_refusal p (table_at (roster h) f) number unit fold) ≡ None
    → IsCalendar h (number_of f) (unwrap_or (unit_count number) 0) unit (time_of (table_at (roster h) f).hyper) (calendar_of (table_at (roster h) f) fold)
calendar_action h p number unit fold found.None s t w proper e = absurd cc
calendar_action h p number unit fold (found.Plain n) s t w proper e = absurd cc
calendar_action h p number unit fold (found.View n) s t w proper e = absurd cc
calendar_action h p number unit fold (found.Hyper n) s t w proper e =
    let r = roster h in
    let info = table_numbered r n in
    let table = hypertable_is r n s t in
    let cols = columns_of info.def.cols table.table.sound.columns in
    let parts = neither (units_refusal p info number unit fold) _ e in
    let units = units_are p info number unit fold parts.0 in
    let fits = (rest_is_sound p false (head_name calendar_word fold) info fold table.table.sound cols.some w proper parts.1).fits in
    let there = fold_columns (length info.def.cols) (calendar_of info fold) fits in
    record {
      in_range = units.0;
      known = units.1;
      place = ap (λ o. option_map (λ hyper. hyper.at) (option_and_then (λ info. info.hyper) o)) table.table.at ∙ ap (option_map (λ hyper. hyper.at)) table.is ∙ ap Some (sym (ap time_of table.is));
      query = on_hypertable (λ def hyper. columns_are_there (length def.cols) (calendar_of info fold)) r n table there;
      columns = columns_among (length info.def.cols) 16 (calendar_of info fold) cols.few there;
    }

rows_action : (h : History) (p : ℕ) (tests : List NamedTest) (f : Found) → RosterIsSound (roster h) → RelationAt (roster h) f
    → (query_refusal p f ⊳ rows_query_refusal p (roster h) f tests) ≡ None
    → can_ask (roster h) (rows_query (roster h) f tests) ≡ true
rows_action h p tests found.None s t e = absurd cc
rows_action h p tests (found.Plain n) s t e = absurd cc
rows_action h p tests (found.View n) s t e = ap is_some t.at
rows_action h p tests (found.Hyper n) s t e =
    let r = roster h in
    let table = hypertable_is r n s t in
    on_hypertable (λ def hyper. list_all (λ t. nat_lt t.col (length def.cols)) (tests_of (table_numbered r n) tests)) r n table
    (tests_there p (table_numbered r n) tests table.table.sound e)

-- ---- each statement

action_is_sound : (h : History) (p bytes : ℕ) (s : Stmt) → RosterIsSound (roster h) → IsWritten bytes s → bytes ≤ 65536 → refusal_of p (roster h) s ≡ None → IsSound h bytes (action_of (roster h) s)
action_is_sound h p bytes (stmts.Table name cols) r w short e = table_action h p bytes name cols w short e
action_is_sound h p bytes (stmts.Hyper table col interval) r w short e = hyper_action h p (found_in (roster h) table) col interval r (relation_at (roster h) table) e
action_is_sound h p bytes (stmts.View name only filled fold) r w short e = view_action h p bytes name only filled fold (found_in (roster h) fold.table) r (relation_at (roster h) fold.table) w short e
action_is_sound h p bytes (stmts.Mode view only) r w short e = mode_action h p only (found_in (roster h) view) (relation_at (roster h) view) e
action_is_sound h p bytes (stmts.Insert table cols rows) r w short e = insert_action h p bytes table cols rows (found_in (roster h) table) r (relation_at (roster h) table) w short e
action_is_sound h p bytes (stmts.Delete table tests) r w short e = delete_action h p bytes table tests (found_in (roster h) table) r (relation_at (roster h) table) w short e
action_is_sound h p bytes (stmts.Drop table below) r w short e = drop_action h p bytes table below (found_in (roster h) table) r (relation_at (roster h) table) w short e
action_is_sound h p bytes (stmts.Refresh view lo hi) r w short e = window_action h p lo hi (found_in (roster h) view) (relation_at (roster h) view) e
action_is_sound h p bytes (stmts.Cut view lo hi) r w short e = window_action h p lo hi (found_in (roster h) view) (relation_at (roster h) view) e
action_is_sound h p bytes (stmts.Snap cut) r w short e = tt
action_is_sound h p bytes (stmts.Finish cut) r w short e = tt
action_is_sound h p bytes stmts.Begin r w short e = tt
action_is_sound h p bytes stmts.BeginRead r w short e = tt
action_is_sound h p bytes stmts.Commit r w short e = tt
action_is_sound h p bytes stmts.Rollback r w short e = tt
action_is_sound h p bytes (stmts.Buckets fold) r w short e = buckets_action h p fold (found_in (roster h) fold.table) r (relation_at (roster h) fold.table) w.whole w.proper e
action_is_sound h p bytes (stmts.Calendar number unit fold) r w short e = calendar_action h p number unit fold (found_in (roster h) fold.table) r (relation_at (roster h) fold.table) w.whole w.proper.2 e
action_is_sound h p bytes (stmts.Rows table tests) r w short e = rows_action h p tests (found_in (roster h) table) r (relation_at (roster h) table) e

pub actions_are_sound : ActionsAreSound
actions_are_sound h p bytes s a w short e = action_is_sound h p bytes s (roster_is_sound h a) w short e
