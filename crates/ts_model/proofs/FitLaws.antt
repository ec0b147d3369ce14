-- Rows of consistent histories fit their tables: they have times, and the columns of each fold that may be
-- asked.
use Rattle.std.proofs.Common.{◌≡◌, ℕ, suc, ◌≤◌, Bool, true, false, ◌&&◌, not, cond, nat_lt, nat_le, List, [], ◌∷◌, ◌++◌, length, length-append, length-take, length-drop, take, drop, filter, ℤ, Option, Some, None, sym, refl, ap, ◌∙◌, subst, arith}
use Rattle.std.specs.Prelude.{◌==◌, remove}
use Rattle.std.specs.List.{list_all, AllByRecursion}
use Rattle.std.specs.Ordering.{is_gt}
use Rattle.std.proofs.lemmas.Bool.{true≢false, and_parts, and_from, ltb-true, eqb-true}
use Rattle.std.proofs.lemmas.List.Folds.{list_all-append}
use Rattle.ts_bucket.specs.Bucket.{is_time}
use Rattle.ts_schema.specs.declared.columns.Column.{Column}
use Rattle.ts_schema.specs.declared.conditions.Test.{Test}
use Rattle.ts_schema.specs.declared.rows.Row.{Row}
use Rattle.ts_schema.specs.Rows.{row_cmp}
use Rattle.ts_schema.specs.Conditions.{passes_all}
use Rattle.ts_model.specs.declared.events.Event.{Event}
use Rattle.ts_model.specs.declared.events.Event.TheVariants.{Commit}
use Rattle.ts_model.specs.declared.events.Op.{Op}
use Rattle.ts_model.specs.declared.events.Op.TheVariants.{Insert, Delete}
use Rattle.ts_model.specs.declared.queries.Query.TheVariants.{Buckets}
use Rattle.ts_model.specs.declared.rosters.Roster.{Roster}
use Rattle.ts_model.specs.declared.tables.Hyper.{Hyper as HyperInfo}
use Rattle.ts_model.specs.declared.tables.TableDef.{TableDef}
use Rattle.ts_model.specs.declared.tables.TableInfo.{TableInfo}
use Rattle.ts_model.specs.declared.views.Agg.{Agg}
use Rattle.ts_model.specs.declared.views.Fold.{Fold}
use Rattle.ts_model.specs.declared.views.ViewDef.{ViewDef}
use Rattle.ts_model.specs.History.{History, start, resumed, ◌▸◌, prefix}
use Rattle.ts_model.specs.Roster.{roster, table_of, of_hyper, of_table, view_of}
use Rattle.ts_model.specs.Rows.{with_row, with_rows, after_op, after_ops, rows, rows_at}
use Rattle.ts_model.specs.Effect.{appended_by, taken_by, all_appended, all_taken}
use Rattle.ts_model.specs.Saved.{appended_over}
use Rattle.ts_model.specs.Valid.{all_stand, hold_rows, image_roster}
use Rattle.ts_model.specs.Groups.{RowFits, RowsFit}
use Rattle.ts_model.specs.Answers.{columns_are_there, can_ask}
use Rattle.ts_model.specs.Reads.{rows_inserted}
use Rattle.ts_model.specs.Limits.{most_columns}
use Rattle.ts_model.specs.Sound.{are_names, agg_fits, test_fits, fold_fits, output_count, values_fit, row_fits, rows_fit, op_fits, view_fits, sound}
use Rattle.ts_model.specs.Allowed.{all_consistent, consistent}
use Rattle.ts_model.specs.Laws.{KeepsRelations, fits_table, RowsFitTables, RowsAreTimes, RowsHaveColumns}
use Rattle.ts_model.proofs.ValidLaws.{valid_is}
use Rattle.ts_model.proofs.HistoryLaws.{begins_prefix}
use Rattle.ts_model.proofs.RosterLaws.{relations_further, relations_stay}
use Rattle.ts_model.proofs.AllowedLaws.{table_stays, consistent_begins}
use Rattle.ts_model.proofs.SoundLaws.{rosters_are_sound}

-- ---- what is true of each inserted row is true of each existing row, and of each removed one

module _ (p : Row → Bool) where
  pub all_filtered : (q : Row → Bool) (xs : List Row) → list_all p xs ≡ true → list_all p (filter q xs) ≡ true
  all_filtered q [] e = refl
  all_filtered q (row ∷ xs) e =
      let parts = and_parts (p row) (list_all p xs) e in
      elim (q row) as (λ t. list_all p (cond t (row ∷ filter q xs) (filter q xs)) ≡ true) [
        | true ↦ and_from _ _ parts.0 (all_filtered q xs parts.1)
        | false ↦ all_filtered q xs parts.1
      ]

  placed : (row : Row) (xs : List Row) → p row ≡ true → list_all p xs ≡ true → list_all p (with_row row xs) ≡ true
  placed row [] e f = and_from _ _ e refl
  placed row (x ∷ xs) e f =
      let parts = and_parts (p x) (list_all p xs) f in
      elim (is_gt (row_cmp row x)) as (λ t. list_all p (cond t (x ∷ with_row row xs) (row ∷ x ∷ xs)) ≡ true) [
        | true ↦ and_from _ _ parts.0 (placed row xs e parts.1)
        | false ↦ and_from _ _ e f
      ]

  all_placed : (new xs : List Row) → list_all p new ≡ true → list_all p xs ≡ true → list_all p (with_rows new xs) ≡ true
  all_placed [] xs e f = f
  all_placed (row ∷ new) xs e f =
      let parts = and_parts (p row) (list_all p new) e in
      placed row (with_rows new xs) parts.0 (all_placed new xs parts.1 f)

  pub all_joined : (xs ys : List Row) → list_all p xs ≡ true → list_all p ys ≡ true → list_all p (xs ++ ys) ≡ true
  all_joined xs ys e f = list_all-append p xs ys ∙ and_from _ _ e f

  pub all_parted : (xs ys : List Row) → list_all p (xs ++ ys) ≡ true → (list_all p xs ≡ true) × (list_all p ys ≡ true)
  all_parted xs ys e = and_parts (list_all p xs) (list_all p ys) (sym (list_all-append p xs ys) ∙ e)

  by_op : (t : ℕ) (op : Op) (xs : List Row) → list_all p (appended_by t op) ≡ true → list_all p xs ≡ true → (list_all p (taken_by t op xs) ≡ true) × (list_all p (after_op t op xs) ≡ true)
  by_op t (Insert u new) xs fit e = (
    refl,
    elim (u == t) as (λ c. list_all p (cond c new []) ≡ true → list_all p (cond c (with_rows new xs) xs) ≡ true) [ true ↦ λ f. all_placed new xs f e | false ↦ λ _. e ] fit,
  )
  by_op t (Delete u tests) xs fit e = (
    elim (u == t) as (λ c. list_all p (cond c (filter (λ row. passes_all row tests) xs) []) ≡ true) [ true ↦ all_filtered (λ row. passes_all row tests) xs e | false ↦ refl ],
    elim (u == t) as (λ c. list_all p (cond c (filter (λ row. not (passes_all row tests)) xs) xs) ≡ true) [ true ↦ all_filtered (λ row. not (passes_all row tests)) xs e | false ↦ e ],
  )

  pub moved_hold : (t : ℕ) (ops : List Op) (xs : List Row) → list_all p (all_appended t ops) ≡ true → list_all p xs ≡ true → (list_all p (all_taken t ops xs) ≡ true) × (list_all p (after_ops t ops xs) ≡ true)
  moved_hold t [] xs fit e = (refl, e)
  moved_hold t (op ∷ ops) xs fit e =
      let parts = all_parted (appended_by t op) (all_appended t ops) fit in
      let one = by_op t op xs parts.0 e in
      let more = moved_hold t ops (after_op t op xs) parts.1 one.1 in
      (all_joined (taken_by t op xs) (all_taken t ops (after_op t op xs)) one.0 more.0, more.1)

  pub rows_hold : (t : ℕ) (h : History) → list_all p (rows_inserted t h) ≡ true → list_all p (rows t h) ≡ true
  rows_hold t start e = refl
  rows_hold t (resumed i) e = all_placed (appended_over t i.rows) [] e refl
  rows_hold t (h ▸ Commit ops) e = let parts = all_parted (rows_inserted t h) (all_appended t ops) e in (moved_hold t ops (rows t h) parts.1 (rows_hold t h parts.0)).1
  rows_hold t (h ▸ x) e = rows_hold t h e

pub all_implied : (p q : Row → Bool) → ((row : Row) → p row ≡ true → q row ≡ true) → (xs : List Row) → list_all p xs ≡ true → list_all q xs ≡ true
all_implied p q f [] e = refl
all_implied p q f (row ∷ xs) e =
    let parts = and_parts (p row) (list_all p xs) e in
    and_from _ _ (f row parts.0) (all_implied p q f xs parts.1)

-- ---- rows fit their table

fits_stays_in : (r s : Roster) → KeepsRelations r s → (t : ℕ) (xs : List Row) → list_all (fits_table r t) xs ≡ true → list_all (fits_table s t) xs ≡ true
fits_stays_in r s k t xs e = all_implied (fits_table r t) (fits_table s t) (λ row f. table_stays (λ def hyper. row_fits def hyper row) (table_of r t) (table_of s t) (k.tables t) f) xs e

each_of_hyper : (def : TableDef) (o : Option HyperInfo) (new : List Row) → of_hyper (λ def hyper. rows_fit def hyper new) def o ≡ true → list_all (λ row. of_hyper (λ def hyper. row_fits def hyper row) def o) new ≡ true
each_of_hyper def None new e = absurd (true≢false (sym e))
each_of_hyper def (Some hyper) new e = (and_parts (nat_lt 0 (length new)) _ e).1

each_of_table : (o : Option TableInfo) (new : List Row) → of_table (λ def hyper. rows_fit def hyper new) o ≡ true → list_all (λ row. of_table (λ def hyper. row_fits def hyper row) o) new ≡ true
each_of_table None new e = absurd (true≢false (sym e))
each_of_table (Some info) new e = each_of_hyper info.def info.hyper new e

op_rows_fit : (r : Roster) (t : ℕ) (op : Op) → op_fits r op ≡ true → list_all (fits_table r t) (appended_by t op) ≡ true
op_rows_fit r t (Insert u new) fits =
    elim (u == t) as (λ c. (u == t) ≡ c → list_all (fits_table r t) (cond c new []) ≡ true) [
      | true ↦ λ same. subst (λ v. list_all (fits_table r v) new ≡ true) (eqb-true u t same) (each_of_table (table_of r u) new fits)
      | false ↦ λ _. refl
    ] refl
op_rows_fit r t (Delete u tests) fits = refl

pub appended_fit : (r : Roster) (t : ℕ) (ops : List Op) → list_all (op_fits r) ops ≡ true → list_all (fits_table r t) (all_appended t ops) ≡ true
appended_fit r t [] fits = refl
appended_fit r t (op ∷ ops) fits =
    let parts = and_parts (op_fits r op) (list_all (op_fits r) ops) fits in
    all_joined (fits_table r t) (appended_by t op) (all_appended t ops) (op_rows_fit r t op parts.0) (appended_fit r t ops parts.1)

-- the rows of an image fit their tables
over_fit : (r : Roster) (low t : ℕ) (es : List Event) → hold_rows r low es ≡ true → list_all (fits_table r t) (appended_over t es) ≡ true
over_fit r low t [] e = refl
over_fit r low t (Commit (Insert u new ∷ []) ∷ es) e =
    let rest = and_parts _ (hold_rows r (suc u) es) e in
    let stand = and_parts _ (all_stand row_cmp new) rest.0 in
    let fits = and_parts (nat_le low u) (op_fits r (Insert u new)) stand.0 in
    all_joined (fits_table r t) (all_appended t (Insert u new ∷ [])) (appended_over t es) (appended_fit r t (Insert u new ∷ []) (and_from _ _ fits.1 refl)) (over_fit r (suc u) t es rest.1)
over_fit r low t (x ∷ es) e = absurd (true≢false (sym e))

commit_fits : (t : ℕ) (h : History) (ops : List Op) → consistent h (Commit ops) ≡ true → list_all (fits_table (roster h) t) (all_appended t ops) ≡ true
commit_fits t h ops e =
    let is_sound = and_parts (sound h (Commit ops)) _ e in
    let parts = and_parts (nat_lt 0 (length ops) && list_all (op_fits (roster h)) ops) _ is_sound.0 in
    appended_fit (roster h) t ops (and_parts (nat_lt 0 (length ops)) _ parts.0).1

pub inserted_fit : (t : ℕ) (h : History) → all_consistent h ≡ true → list_all (fits_table (roster h) t) (rows_inserted t h) ≡ true
inserted_fit t start ok = refl
inserted_fit t (resumed i) ok = over_fit (image_roster i) 0 t i.rows (valid_is i ok).rows
inserted_fit t (h ▸ Commit ops) ok =
    let parts = and_parts (all_consistent h) (consistent h (Commit ops)) ok in
    all_joined (fits_table (roster h) t) (rows_inserted t h) (all_appended t ops) (inserted_fit t h parts.0) (commit_fits t h ops parts.1)
inserted_fit t (h ▸ x) ok = fits_stays_in (roster h) (roster (h ▸ x)) (relations_further (roster h) x) t (rows_inserted t h) (inserted_fit t h (and_parts (all_consistent h) _ ok).0)

pub rows_at_fit : (t : ℕ) (h : History) (s : ℕ) → all_consistent h ≡ true → list_all (fits_table (roster h) t) (rows_at t h s) ≡ true
rows_at_fit t h s ok =
    let g = prefix h s in
    let before = begins_prefix h s in
    rows_hold (fits_table (roster h) t) t g (fits_stays_in (roster g) (roster h) (relations_stay g h before) t (rows_inserted t g) (inserted_fit t g (consistent_begins before ok)))

pub rows_fit_tables : RowsFitTables
rows_fit_tables = record { inserted = inserted_fit; rows = rows_at_fit }

-- ---- times

time_of_hyper : (def : TableDef) (o : Option HyperInfo) (row : Row) → of_hyper (λ def hyper. row_fits def hyper row) def o ≡ true → is_time row.at ≡ true
time_of_hyper def None row e = absurd (true≢false (sym e))
time_of_hyper def (Some hyper) row e = (and_parts (is_time row.at) _ e).0

time_of_table : (o : Option TableInfo) (row : Row) → of_table (λ def hyper. row_fits def hyper row) o ≡ true → is_time row.at ≡ true
time_of_table None row e = absurd (true≢false (sym e))
time_of_table (Some info) row e = time_of_hyper info.def info.hyper row e

pub all_times : (r : Roster) (t : ℕ) (xs : List Row) → list_all (fits_table r t) xs ≡ true → list_all (λ row. is_time row.at) xs ≡ true
all_times r t xs e = all_implied (fits_table r t) (λ row. is_time row.at) (λ row f. time_of_table (table_of r t) row f) xs e

pub rows_are_times : RowsAreTimes
rows_are_times = record {
  inserted = λ t h ok. all_times (roster h) t (rows_inserted t h) (inserted_fit t h ok);
  rows = λ t h s ok. all_times (roster h) t (rows_at t h s) (rows_at_fit t h s ok);
}

-- ---- columns

pub values_length : (cols : List Column) (vals : List (Option ℤ)) → values_fit cols vals ≡ true → length cols ≡ length vals
values_length [] [] e = refl
values_length [] (v ∷ vs) e = absurd (true≢false (sym e))
values_length (c ∷ cs) [] e = absurd (true≢false (sym e))
values_length (c ∷ cs) (v ∷ vs) e = ap suc (values_length cs vs (and_parts _ (values_fit cs vs) e).1)

pub remove_length : (xs : List Column) (i : ℕ) → length xs ≤ suc (length (remove xs i))
remove_length xs i = omega (arith, length-append (take i xs) (drop (suc i) xs), length-take i xs, length-drop (suc i) xs)

-- each item whose number is below n has a number of at most m, if n is at most m + 1
all_within : {X : Type 0} (f : X → ℕ) (n m : ℕ) → n ≤ suc m → (xs : List X) → list_all (λ x. nat_lt (f x) n) xs ≡ true → AllByRecursion (λ x. f x ≤ m) xs
all_within f n m l [] e = tt
all_within f n m l (x ∷ xs) e =
    let parts = and_parts (nat_lt (f x) n) (list_all (λ x. nat_lt (f x) n) xs) e in
    (omega (arith, ltb-true (f x) n parts.0, l), all_within f n m l xs parts.1)

row_reads : (fold : Fold) (n : ℕ) (row : Row) → is_time row.at ≡ true → n ≤ suc (length row.vals) → columns_are_there n fold ≡ true → RowFits fold row
row_reads fold n row time enough e =
    let tests = and_parts _ (list_all (λ t. nat_lt t.col n) fold.tests) e in
    let keys = and_parts (list_all (λ k. nat_lt k n) fold.keys) (list_all (λ agg. nat_lt agg.col n) fold.aggs) tests.0 in
    record {
      time = time;
      keys = all_within (λ (k : ℕ). k) n (length row.vals) enough fold.keys keys.0;
      aggs = all_within (λ (agg : Agg). agg.col) n (length row.vals) enough fold.aggs keys.1;
      tests = all_within (λ (t : Test). t.col) n (length row.vals) enough fold.tests tests.1;
    }

reads_of_hyper : (fold : Fold) (def : TableDef) (o : Option HyperInfo) (row : Row) → of_hyper (λ def hyper. columns_are_there (length def.cols) fold) def o ≡ true → of_hyper (λ def hyper. row_fits def hyper row) def o ≡ true → RowFits fold row
reads_of_hyper fold def None row a e = absurd (true≢false (sym e))
reads_of_hyper fold def (Some hyper) row a e =
    let parts = and_parts (is_time row.at) (values_fit (remove def.cols hyper.at) row.vals) e in
    let as_many : length (remove def.cols hyper.at) ≡ length row.vals = values_length (remove def.cols hyper.at) row.vals parts.1 in
    let enough : length def.cols ≤ suc (length row.vals) = omega (arith, as_many, remove_length def.cols hyper.at) in
    row_reads fold (length def.cols) row parts.0 enough a

reads_of_table : (fold : Fold) (o : Option TableInfo) (row : Row) → of_table (λ def hyper. columns_are_there (length def.cols) fold) o ≡ true → of_table (λ def hyper. row_fits def hyper row) o ≡ true → RowFits fold row
reads_of_table fold None row a e = absurd (true≢false (sym e))
reads_of_table fold (Some info) row a e = reads_of_hyper fold info.def info.hyper row a e

pub all_read : (r : Roster) (t : ℕ) (fold : Fold) (xs : List Row) → can_ask r (Buckets t fold) ≡ true → list_all (fits_table r t) xs ≡ true → RowsFit fold xs
all_read r t fold [] a e = tt
all_read r t fold (row ∷ xs) a e =
    let parts = and_parts (fits_table r t row) (list_all (fits_table r t) xs) e in
    (reads_of_table fold (table_of r t) row a parts.0, all_read r t fold xs a parts.1)

-- ---- the fold of an aggregate may be asked of its table

agg_columns : (n : ℕ) (aggs : List Agg) → list_all (agg_fits n) aggs ≡ true → list_all (λ agg. nat_lt agg.col n) aggs ≡ true
agg_columns n [] e = refl
agg_columns n (agg ∷ aggs) e =
    let parts = and_parts (agg_fits n agg) (list_all (agg_fits n) aggs) e in
    and_from _ _ (and_parts (nat_lt agg.col n) _ parts.0).0 (agg_columns n aggs parts.1)

pub test_columns : (n : ℕ) (tests : List Test) → list_all (test_fits n) tests ≡ true → list_all (λ t. nat_lt t.col n) tests ≡ true
test_columns n [] e = refl
test_columns n (t ∷ tests) e =
    let parts = and_parts (test_fits n t) (list_all (test_fits n) tests) e in
    let first = and_parts (nat_lt t.col n && _) _ parts.0 in
    and_from _ _ (and_parts (nat_lt t.col n) _ first.0).0 (test_columns n tests parts.1)

pub fold_columns : (n : ℕ) (fold : Fold) → fold_fits n fold ≡ true → columns_are_there n fold ≡ true
fold_columns n fold e =
    let tests = and_parts _ (list_all (test_fits n) fold.tests) e in
    let keys = and_parts (list_all (λ k. nat_lt k n) fold.keys) (list_all (agg_fits n) fold.aggs) tests.0 in
    and_from _ _ (and_from _ _ keys.0 (agg_columns n fold.aggs keys.1)) (test_columns n fold.tests tests.1)

asks_of_hyper : (def : ViewDef) (table : TableDef) (o : Option HyperInfo) → of_hyper (view_fits def) table o ≡ true → of_hyper (λ t hyper. columns_are_there (length t.cols) def.fold) table o ≡ true
asks_of_hyper def table None e = absurd (true≢false (sym e))
asks_of_hyper def table (Some hyper) e =
    let names = and_parts _ (are_names def.names) e in
    let count = and_parts _ (length def.names == output_count def.fold) names.0 in
    let most = and_parts _ (nat_le (output_count def.fold) most_columns) count.0 in
    let some = and_parts _ (nat_lt 0 (length def.fold.aggs)) most.0 in
    fold_columns (length table.cols) def.fold (and_parts _ (fold_fits (length table.cols) def.fold) some.0).1

asks_of_table : (def : ViewDef) (o : Option TableInfo) → of_table (view_fits def) o ≡ true → of_table (λ t hyper. columns_are_there (length t.cols) def.fold) o ≡ true
asks_of_table def None e = absurd (true≢false (sym e))
asks_of_table def (Some info) e = asks_of_hyper def info.def info.hyper e

pub view_asks : (n : ℕ) (def : ViewDef) (h : History) → all_consistent h ≡ true → view_of (roster h) n ≡ Some def → can_ask (roster h) (Buckets def.table def.fold) ≡ true
view_asks n def h ok there = asks_of_table def (table_of (roster h) def.table) ((rosters_are_sound h ok).views n def there)

pub rows_have_columns : RowsHaveColumns
rows_have_columns = record {
  inserted = λ t fold h ok asks. all_read (roster h) t fold (rows_inserted t h) asks (inserted_fit t h ok);
  rows = λ t fold h s ok asks. all_read (roster h) t fold (rows_at t h s) asks (rows_at_fit t h s ok);
  views = view_asks;
}
