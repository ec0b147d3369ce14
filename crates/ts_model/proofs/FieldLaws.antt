-- Each count and each number of a sound event of a consistent history fits its field in a journal.
use Rattle.std.proofs.Common.{◌≡◌, ℕ, suc, ◌+◌, ◌*◌, ◌<◌, ◌≤◌, true, ◌&&◌, nat_lt, nat_le, List, [], ◌∷◌, map, length, length-append, length-take, length-drop, take, drop, pos, int_lt, int_le, Option, Some, None, sym, refl, arith}
use Rattle.std.specs.Prelude.{◌==◌, remove, is_some, sum_by}
use Rattle.std.specs.List.{list_all, fold}
use Rattle.std.proofs.lemmas.Bool.{true≢false, and_parts, and_from, ltb-true, lt-ltb, leb-true, eqb-true}
use Rattle.std.proofs.lemmas.Option.{slice_get_within}
use Rattle.ts_bucket.specs.Bucket.{is_time, is_width}
use Rattle.ts_bucket.specs.Chunks.{max_interval}
use Rattle.ts_bucket.specs.declared.spans.Span.{Span}
use Rattle.ts_schema.specs.Names.{is_name, is_head, is_tail}
use Rattle.ts_schema.specs.declared.columns.Column.{Column}
use Rattle.ts_schema.specs.declared.conditions.Test.{Test}
use Rattle.ts_schema.specs.declared.rows.Row.{Row}
use Rattle.ts_model.specs.declared.events.Event.{Event}
use Rattle.ts_model.specs.declared.events.Event.TheVariants.{Table, Hyper, View, Mode, Commit, Cut, Built}
use Rattle.ts_model.specs.declared.events.Op.{Op}
use Rattle.ts_model.specs.declared.events.Op.TheVariants.{Insert, Delete}
use Rattle.ts_model.specs.declared.rosters.Roster.{Roster}
use Rattle.ts_model.specs.declared.tables.Hyper.{Hyper as HyperInfo}
use Rattle.ts_model.specs.declared.tables.TableDef.{TableDef}
use Rattle.ts_model.specs.declared.tables.TableInfo.{TableInfo}
use Rattle.ts_model.specs.declared.views.Agg.{Agg}
use Rattle.ts_model.specs.declared.views.Fold.{Fold}
use Rattle.ts_model.specs.declared.views.ViewDef.{ViewDef}
use Rattle.ts_model.specs.Roster.{roster, table_of, of_hyper, of_table, view_of}
use Rattle.ts_model.specs.Limits.{most_columns, bytes_limit}
use Rattle.ts_model.specs.Bytes.{op_bytes, row_bytes, fold_bytes, name_bytes, event_bytes}
use Rattle.ts_model.specs.Fields.{fits_byte, fits_four, name_fits_fields, tests_fit_fields, fold_fits_fields, op_fits_fields, fits_fields}
use Rattle.ts_model.specs.Sound.{are_names, test_fits, fold_fits, output_count, values_fit, row_fits, rows_fit, op_fits, columns_fit, hyper_fits, view_fits, span_fits, sound_in, sound_at}
use Rattle.ts_model.specs.Laws.{is_hyper_sound, is_table_sound, IsSoundRoster, CountsFit}
use Rattle.ts_model.proofs.SoundLaws.{rosters_are_sound, sound_in_roster}
use Rattle.ts_model.proofs.FitLaws.{fold_columns, test_columns, values_length}

-- ---- sums

sum_from : {X : Type 0} (f : X → ℕ) (n : ℕ) (xs : List X) → fold (λ a x. a + f x) n xs ≡ n + sum_by f xs
sum_from f n [] = omega arith
sum_from f n (x ∷ xs) = omega (arith, sum_from f (n + f x) xs, sum_from f (0 + f x) xs)

pub sum_cons : {X : Type 0} (f : X → ℕ) (x : X) (xs : List X) → sum_by f (x ∷ xs) ≡ f x + sum_by f xs
sum_cons f x xs = omega (arith, sum_from f (0 + f x) xs)

-- there are at most as many items as the sum, if each adds at least one
counted : {X : Type 0} (f : X → ℕ) → ((x : X) → 1 ≤ f x) → (xs : List X) → length xs ≤ sum_by f xs
counted f least [] = omega arith
counted f least (x ∷ xs) = omega (arith, sum_cons f x xs, counted f least xs, least x)

-- ---- short lists

byte_from : (n most : ℕ) → n ≤ most → most ≤ 255 → fits_byte n ≡ true
byte_from n most l m = lt-ltb n 256 (omega arith)

four_from : (n limit : ℕ) → n < limit → limit ≤ 4294967296 → fits_four n ≡ true
four_from n limit l m = lt-ltb n 4294967296 (omega arith)

name_short : (name : List ℕ) → is_name name ≡ true → name_fits_fields name ≡ true
name_short [] e = absurd (true≢false (sym e))
name_short (b ∷ bs) e =
    let tail = and_parts _ (list_all is_tail bs) e in
    let head = and_parts (nat_le (length (b ∷ bs)) 63) (is_head b) tail.0 in
    byte_from (length (b ∷ bs)) 63 (leb-true (length (b ∷ bs)) 63 head.0) (omega arith)

names_short : (names : List (List ℕ)) → list_all is_name names ≡ true → list_all name_fits_fields names ≡ true
names_short [] e = refl
names_short (name ∷ names) e =
    let parts = and_parts (is_name name) (list_all is_name names) e in
    and_from _ _ (name_short name parts.0) (names_short names parts.1)

-- numbers below a count of at most 16
all_four : {X : Type 0} (f : X → ℕ) (n : ℕ) → n ≤ 16 → (xs : List X) → list_all (λ x. nat_lt (f x) n) xs ≡ true → list_all (λ x. fits_four (f x)) xs ≡ true
all_four f n l [] e = refl
all_four f n l (x ∷ xs) e =
    let parts = and_parts (nat_lt (f x) n) (list_all (λ x. nat_lt (f x) n) xs) e in
    and_from _ _ (four_from (f x) n (ltb-true (f x) n parts.0) (omega (arith, l))) (all_four f n l xs parts.1)

-- ---- tables of a sound roster

few_columns : (cols : List Column) → columns_fit cols ≡ true → length cols ≤ 16
few_columns cols e =
    let names = and_parts _ (are_names (map (λ c. c.name) cols)) e in
    leb-true (length cols) 16 (and_parts (nat_lt 0 (length cols)) (nat_le (length cols) most_columns) names.0).1

column_names : (cols : List Column) → list_all is_name (map (λ (c : Column). c.name) cols) ≡ true → list_all (λ (c : Column). name_fits_fields c.name) cols ≡ true
column_names [] e = refl
column_names (c ∷ cols) e =
    let parts = and_parts (is_name c.name) _ e in
    and_from _ _ (name_short c.name parts.0) (column_names cols parts.1)

columns_of : (info : TableInfo) → is_table_sound info ≡ true → length info.def.cols ≤ 16
columns_of info e =
    let def = and_parts (is_name info.def.name && columns_fit info.def.cols) (is_hyper_sound info info.hyper) e in
    few_columns info.def.cols (and_parts (is_name info.def.name) (columns_fit info.def.cols) def.0).1

module _ (r : Roster) (ok : IsSoundRoster r) where
  table_number : (t : ℕ) (info : TableInfo) → table_of r t ≡ Some info → fits_four t ≡ true
  table_number t info e =
      let few : length r.tables ≤ 64 = ok.few_tables in
      four_from t (length r.tables) (slice_get_within r.tables t info e) (omega arith)

  view_number : (v : ℕ) (o : Option ViewDef) → view_of r v ≡ o → is_some o ≡ true → fits_four v ≡ true
  view_number v None is e = absurd (true≢false (sym e))
  view_number v (Some def) is e =
      let few : length r.views ≤ 64 = ok.few_views in
      four_from v (length r.views) (slice_get_within r.views v def is) (omega arith)

  -- ---- rows and operations

  removed_short : (cols : List Column) (i : ℕ) → length (remove cols i) ≤ length cols
  removed_short cols i = omega (arith, length-append (take i cols) (drop (suc i) cols), length-take i cols, length-drop (suc i) cols)

  rows_short : (def : TableDef) (hyper : HyperInfo) → length def.cols ≤ 16 → (new : List Row) → list_all (row_fits def hyper) new ≡ true → list_all (λ row. fits_byte (length row.vals)) new ≡ true
  rows_short def hyper few [] e = refl
  rows_short def hyper few (row ∷ new) e =
      let parts = and_parts (row_fits def hyper row) (list_all (row_fits def hyper) new) e in
      let as_many : length (remove def.cols hyper.at) ≡ length row.vals = values_length (remove def.cols hyper.at) row.vals (and_parts (is_time row.at) (values_fit (remove def.cols hyper.at) row.vals) parts.0).1 in
      and_from _ _ (byte_from (length row.vals) 16 (omega (arith, as_many, removed_short def.cols hyper.at, few)) (omega arith)) (rows_short def hyper few new parts.1)

  row_bytes_some : (row : Row) → 1 ≤ row_bytes row
  row_bytes_some row = omega arith

  insert_short : (t : ℕ) (new : List Row) (o : Option TableInfo) → table_of r t ≡ o → op_bytes (Insert t new) < 4294967296 → of_table (λ def hyper. rows_fit def hyper new) o ≡ true → op_fits_fields (Insert t new) ≡ true
  insert_short t new None is l e = absurd (true≢false (sym e))
  insert_short t new (Some info) is l e = of_hypers info.hyper e
    where
      of_hypers : (o : Option HyperInfo) → of_hyper (λ def hyper. rows_fit def hyper new) info.def o ≡ true → op_fits_fields (Insert t new) ≡ true
      of_hypers None e = absurd (true≢false (sym e))
      of_hypers (Some hyper) e =
          let fits = and_parts (nat_lt 0 (length new)) (list_all (row_fits info.def hyper) new) e in
          let few : length info.def.cols ≤ 16 = columns_of info (ok.tables t info is) in
          let bytes : 9 + sum_by row_bytes new < 4294967296 = l in
          let many : length new < 4294967296 = omega (arith, counted row_bytes row_bytes_some new, bytes) in
          and_from _ _ (and_from _ _ (table_number t info is) (four_from (length new) 4294967296 many (omega arith))) (rows_short info.def hyper few new fits.1)

  tests_short : (n : ℕ) (tests : List Test) → n ≤ 16 → 13 * length tests < 4294967296 → list_all (test_fits n) tests ≡ true → tests_fit_fields tests ≡ true
  tests_short n tests few l e =
      let many : length tests < 4294967296 = omega (arith, l) in
      and_from _ _ (four_from (length tests) 4294967296 many (omega arith)) (all_four (λ (t : Test). t.col) n few tests (test_columns n tests e))

  delete_short : (t : ℕ) (tests : List Test) (o : Option TableInfo) → table_of r t ≡ o → op_bytes (Delete t tests) < 4294967296 → of_table (λ def hyper. list_all (test_fits (length def.cols)) tests) o ≡ true → op_fits_fields (Delete t tests) ≡ true
  delete_short t tests None is l e = absurd (true≢false (sym e))
  delete_short t tests (Some info) is l e = of_hypers info.hyper e
    where
      of_hypers : (o : Option HyperInfo) → of_hyper (λ def hyper. list_all (test_fits (length def.cols)) tests) info.def o ≡ true → op_fits_fields (Delete t tests) ≡ true
      of_hypers None e = absurd (true≢false (sym e))
      of_hypers (Some hyper) e =
          let bytes : 9 + 13 * length tests < 4294967296 = l in
          and_from _ _ (table_number t info is) (tests_short (length info.def.cols) tests (columns_of info (ok.tables t info is)) (omega (arith, bytes)) e)

  op_short : (op : Op) → op_bytes op < 4294967296 → op_fits r op ≡ true → op_fits_fields op ≡ true
  op_short (Insert t new) l e = insert_short t new (table_of r t) refl l e
  op_short (Delete t tests) l e = delete_short t tests (table_of r t) refl l e

  op_bytes_some : (op : Op) → 1 ≤ op_bytes op
  op_bytes_some (Insert t new) = omega arith
  op_bytes_some (Delete t tests) = omega arith

  ops_short : (ops : List Op) → sum_by op_bytes ops < 4294967296 → list_all (op_fits r) ops ≡ true → list_all op_fits_fields ops ≡ true
  ops_short [] l e = refl
  ops_short (op ∷ ops) l e =
      let parts = and_parts (op_fits r op) (list_all (op_fits r) ops) e in
      and_from _ _ (op_short op (omega (arith, l, sum_cons op_bytes op ops)) parts.0) (ops_short ops (omega (arith, l, sum_cons op_bytes op ops)) parts.1)

  -- ---- aggregates

  fold_short : (n : ℕ) (plan : Fold) → n ≤ 16 → suc (length plan.keys + length plan.aggs) ≤ 16 → fold_bytes plan < 4294967296 → fold_fits n plan ≡ true → fold_fits_fields plan ≡ true
  fold_short n plan few out l e =
      let tests = and_parts _ (list_all (test_fits n) plan.tests) e in
      let columns = fold_columns n plan e in
      let reads = and_parts _ (list_all (λ (t : Test). nat_lt t.col n) plan.tests) columns in
      let keys = and_parts (list_all (λ k. nat_lt k n) plan.keys) (list_all (λ (agg : Agg). nat_lt agg.col n) plan.aggs) reads.0 in
      let bytes : 22 + 4 * length plan.keys + 5 * length plan.aggs + 13 * length plan.tests < 4294967296 = l in
      let key_count = byte_from (length plan.keys) 16 (omega (arith, out)) (omega arith) in
      let agg_count = byte_from (length plan.aggs) 16 (omega (arith, out)) (omega arith) in
      and_from _ _
      (and_from _ _ (and_from _ _ (and_from _ _ key_count (all_four (λ (k : ℕ). k) n few plan.keys keys.0)) agg_count) (all_four (λ (agg : Agg). agg.col) n few plan.aggs keys.1))
      (tests_short n plan.tests few (omega (arith, bytes)) tests.1)

  view_short : (def : ViewDef) (o : Option TableInfo) → table_of r def.table ≡ o → event_bytes (View def) < 4294967296 → of_table (view_fits def) o ≡ true → fits_fields (View def) ≡ true
  view_short def None is l e = absurd (true≢false (sym e))
  view_short def (Some info) is l e = of_hypers info.hyper e
    where
      of_hypers : (o : Option HyperInfo) → of_hyper (view_fits def) info.def o ≡ true → fits_fields (View def) ≡ true
      of_hypers None e = absurd (true≢false (sym e))
      of_hypers (Some hyper) e =
          let names = and_parts _ (are_names def.names) e in
          let count = and_parts _ (length def.names == output_count def.fold) names.0 in
          let most = and_parts _ (nat_le (output_count def.fold) most_columns) count.0 in
          let some = and_parts _ (nat_lt 0 (length def.fold.aggs)) most.0 in
          let plan = and_parts _ (fold_fits (length info.def.cols) def.fold) some.0 in
          let name = and_parts (is_name def.name) (is_width def.fold.width) plan.0 in
          let out : suc (length def.fold.keys + length def.fold.aggs) ≤ 16 = leb-true (output_count def.fold) 16 most.1 in
          let as_many : length def.names ≡ output_count def.fold = eqb-true (length def.names) (output_count def.fold) count.1 in
          let bytes : 7 + name_bytes def.name + fold_bytes def.fold + sum_by name_bytes def.names < 4294967296 = l in
          let short = fold_short (length info.def.cols) def.fold (columns_of info (ok.tables def.table info is)) out (omega (arith, bytes)) plan.1 in
          and_from _ _
          (and_from _ _ (and_from _ _ (and_from _ _ (name_short def.name name.0) (table_number def.table info is)) short) (byte_from (length def.names) 16 (omega (arith, as_many, out)) (omega arith)))
          (names_short def.names (and_parts (list_all is_name def.names) _ names.1).0)

  hyper_short : (t : ℕ) (hyper : HyperInfo) (o : Option TableInfo) → table_of r t ≡ o → hyper_fits hyper o ≡ true → fits_fields (Hyper t hyper) ≡ true
  hyper_short t hyper None is e = absurd (true≢false (sym e))
  hyper_short t hyper (Some info) is e =
      let most = and_parts _ (int_le hyper.interval max_interval) e in
      let place = and_parts (nat_lt hyper.at (length info.def.cols)) (int_lt (pos 0) hyper.interval) most.0 in
      let few : length info.def.cols ≤ 16 = columns_of info (ok.tables t info is) in
      and_from _ _ (table_number t info is) (four_from hyper.at (length info.def.cols) (ltb-true hyper.at (length info.def.cols) place.0) (omega (arith, few)))

  span_some : (span : Span) (o : Option ViewDef) → span_fits span o ≡ true → is_some o ≡ true
  span_some span None e = absurd (true≢false (sym e))
  span_some span (Some def) e = refl

  event_short : (e : Event) → event_bytes e < 4294967296 → sound_in r e ≡ true → fits_fields e ≡ true
  event_short (Table def) l s =
      let parts = and_parts (is_name def.name) (columns_fit def.cols) s in
      let names = and_parts _ (are_names (map (λ (c : Column). c.name) def.cols)) parts.1 in
      let each = and_parts (list_all is_name (map (λ (c : Column). c.name) def.cols)) _ names.1 in
      and_from _ _ (and_from _ _ (name_short def.name parts.0) (byte_from (length def.cols) 16 (few_columns def.cols parts.1) (omega arith))) (column_names def.cols each.0)
  event_short (Hyper t hyper) l s = hyper_short t hyper (table_of r t) refl s
  event_short (View def) l s = view_short def (table_of r def.table) refl l s
  event_short (Mode v only) l s = view_number v (view_of r v) refl s
  event_short (Commit ops) l s =
      let parts = and_parts (nat_lt 0 (length ops)) (list_all (op_fits r) ops) s in
      let bytes : 5 + sum_by op_bytes ops < 4294967296 = l in
      let many : length ops < 4294967296 = omega (arith, counted op_bytes op_bytes_some ops, bytes) in
      and_from _ _ (four_from (length ops) 4294967296 many (omega arith)) (ops_short ops (omega (arith, bytes)) parts.1)
  event_short (Cut v span) l s = view_number v (view_of r v) refl (span_some span (view_of r v) s)
  event_short (Built cut snap) l s = refl

pub counts_fit : CountsFit
counts_fit h e ok s =
    let parts = and_parts (sound_at h e) (nat_lt (event_bytes e) bytes_limit) s in
    event_short (roster h) (rosters_are_sound h ok) e (ltb-true (event_bytes e) bytes_limit parts.1) (sound_in_roster h e parts.0)
