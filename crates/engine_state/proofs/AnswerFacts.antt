-- What a state that represents a history says about a hypertable at the history's position.
use Rattle.std.proofs.Common.{◌≡◌, ℕ, Bool, true, ◌&&◌, List, [], length, map, filter, pos, ◌-ℤ◌, ◌+ℤ◌, int_le, int_lt, nat_lt, Option, Some, None, Result, Ok, Err, IfOk, sym, refl, ap, ◌∙◌, subst, arith}
use Rattle.std.specs.Prelude.{IsSome, is_some, option_and_then}
use Rattle.std.specs.List.{list_all, slice_get}
use Rattle.std.proofs.lemmas.Bool.{true≢false, and_parts}
use Rattle.std.proofs.lemmas.Int.{ints}
use Rattle.ts_bucket.specs.Bucket.{is_time, min_time, max_time}
use Rattle.ts_bucket.specs.Chunks.{IsInterval, max_interval}
use Rattle.ts_schema.specs.declared.rows.Row.{Row}
use Rattle.ts_schema.specs.declared.conditions.Test.{Test}
use Rattle.ts_schema.specs.Conditions.{passes_all}
use Rattle.ts_model.specs.declared.queries.Answer.{Answer}
use Rattle.ts_model.specs.declared.queries.Query.TheVariants.{Rows, Buckets}
use Rattle.ts_model.specs.declared.tables.Hyper.{Hyper}
use Rattle.ts_model.specs.declared.tables.TableDef.{TableDef}
use Rattle.ts_model.specs.declared.tables.TableInfo.{TableInfo}
use Rattle.ts_model.specs.declared.views.Fold.{Fold}
use Rattle.ts_model.specs.History.{History, position, prefix}
use Rattle.ts_model.specs.Allowed.{all_consistent}
use Rattle.ts_model.specs.Roster.{roster, table_of, hyper_of, of_table, of_hyper}
use Rattle.ts_model.specs.Rows.{in_order, rows}
use Rattle.ts_model.specs.Reads.{chunk_within, rows_inserted, rows_near}
use Rattle.ts_model.specs.Answers.{all_columns, answer, passing_rows}
use Rattle.ts_model.specs.Scratch.{fold_rows}
use Rattle.ts_model.specs.Laws.{is_hyper_sound}
use Rattle.ts_model.specs.Sound.{hyper_fits}
use Rattle.ts_model.proofs.ClipLaws.{chunks_are_within}
use Rattle.ts_model.proofs.FitLaws.{rows_are_times}
use Rattle.ts_model.proofs.HistoryLaws.{prefix_end}
use Rattle.ts_model.proofs.RowLaws.{length-with_rows, all-in_order}
use Rattle.ts_model.proofs.SoundLaws.{rosters_are_sound}
use Rattle.row_versions.specs.Histories.{Holds}
use Rattle.row_versions.proofs.HistoryLaws.{held_tables_tell}
use Rattle.realtime_union.specs.Laws.{ChunksAreNear}
use Rattle.engine_state.specs.Scans.{seen_rows, stored_rows}
use Rattle.engine_state.specs.Shown.{IsTableOf}
use Rattle.engine_state.specs.Stands.{StateValue, StandsFor, TableAt}
use Rattle.engine_state.specs.Tables.{TableValue, TableIs, TableStands, table_at}
use Rattle.engine_state.proofs.EachLaws.{each_at, each_of}
use Rattle.engine_state.proofs.StateSteps.{state_there}

-- ---- an existing hypertable

-- a table that is a hypertable has a state
pub table_there : (h : History) (t : ℕ) (s : StateValue) → StandsFor h s → IsSome (hyper_of (roster h) t) → IsSome (table_at s.tables t)
table_there h t s st some = by_info (table_of (roster h) t) refl some
  where
    by_state : (o : Option Hyper) (p : Option TableValue) → slice_get s.tables t ≡ Some p → IsSome o → TableIs h t o p → IsSome (table_at s.tables t)
    by_state None p at some stands = absurd (true≢false (sym some))
    by_state (Some hyper) None at some stands = absurd stands
    by_state (Some hyper) (Some table) at some stands = ap (λ o. is_some (option_and_then (λ x. x) o)) at

    by_info : (o : Option TableInfo) → table_of (roster h) t ≡ o → IsSome (option_and_then (λ i. i.hyper) o) → IsSome (table_at s.tables t)
    by_info None is some = absurd (true≢false (sym some))
    by_info (Some info) is some =
        let found = each_at (TableAt h) t (roster h).tables s.tables info st.tables is in
        by_state info.hyper found.0 found.1 some found.2

long_hyper : (hyper : Hyper) (o : Option TableInfo) → hyper_fits hyper o ≡ true → IsInterval hyper.interval
long_hyper hyper None e = absurd (true≢false (sym e))
long_hyper hyper (Some info) e =
    let parts = and_parts (nat_lt hyper.at (length info.def.cols) && int_lt (pos 0) hyper.interval) (int_le hyper.interval max_interval) e in
    let low : int_lt (pos 0) hyper.interval ≡ true = (and_parts (nat_lt hyper.at (length info.def.cols)) (int_lt (pos 0) hyper.interval) parts.0).1 in
    let high : int_le hyper.interval max_interval ≡ true = parts.1 in
    (grind (arith, ints), grind (arith, ints))

long_there : (h : History) (t : ℕ) (info : TableInfo) (hyper : Hyper) → is_hyper_sound info info.hyper ≡ true → info.hyper ≡ Some hyper → IsInterval hyper.interval
long_there h t info hyper sound is = long_hyper hyper (Some info) (sym (ap (is_hyper_sound info) is) ∙ sound)

-- the interval of a hypertable of a consistent history keeps its bounds
pub interval_there : (h : History) (t : ℕ) (info : TableInfo) (hyper : Hyper) → all_consistent h ≡ true → table_of (roster h) t ≡ Some info → info.hyper ≡ Some hyper → IsInterval hyper.interval
interval_there h t info hyper ok there is = long_there h t info hyper (and_parts _ (is_hyper_sound info info.hyper) ((rosters_are_sound h ok).tables t info there)).1 is

same_all : (test : Row → Bool) (xs ys : List Row) → in_order xs ≡ in_order ys → list_all test ys ≡ true → list_all test xs ≡ true
same_all test xs ys same e = sym (all-in_order test xs) ∙ (ap (list_all test) same ∙ (all-in_order test ys ∙ e))

length-in_order : (xs : List Row) → length (in_order xs) ≡ length xs
length-in_order xs = omega (arith, length-with_rows xs [])

same_length : (xs ys : List Row) → in_order xs ≡ in_order ys → length xs ≡ length ys
same_length xs ys same = sym (length-in_order xs) ∙ (ap length same ∙ length-in_order ys)

pub table_tells : (h : History) (t : ℕ) (s : StateValue) (table : TableValue) → StandsFor h s → table_at s.tables t ≡ Some table → IsTableOf h t s.position table
table_tells h t s table st at =
    let found = each_of (TableAt h) t (roster h).tables s.tables (Some table) st.tables (state_there s.tables t table at) in
    by_hyper found.0 found.1 found.0.hyper refl found.2
  where
    tells : (info : TableInfo) (hyper : Hyper) → table_of (roster h) t ≡ Some info → info.hyper ≡ Some hyper → TableStands h t hyper table → IsTableOf h t s.position table
    tells info hyper is info_hyper stands =
        let held : Holds t h table.rows = stands.rows in
        let hyper_is : hyper_of (roster h) t ≡ Some hyper = ap (option_and_then (λ i. i.hyper)) is ∙ info_hyper in
        let now : prefix h s.position ≡ h = ap (prefix h) st.position ∙ prefix_end h (position h) (omega arith) in
        let sound = (and_parts _ (is_hyper_sound info info.hyper) ((rosters_are_sound h st.consistent).tables t info is)).1 in
        let long : IsInterval hyper.interval = long_there h t info hyper sound info_hyper in
        let within : list_all (chunk_within (min_time -ℤ max_interval) (max_time +ℤ max_interval) hyper.interval) (stored_rows table) ≡ true =
        same_all (chunk_within (min_time -ℤ max_interval) (max_time +ℤ max_interval) hyper.interval) (stored_rows table) (rows_inserted t h) held.stored (chunks_are_within t hyper h st.consistent hyper_is) in
        record {
          hyper = hyper;
          hyper_is = hyper_is;
          stands = stands;
          interval = subst IsInterval (sym stands.interval) long;
          times = sym (all-in_order (λ row. is_time row.at) (seen_rows s.position table)) ∙ (ap (list_all (λ row. is_time row.at)) (held.seen s.position) ∙ rows_are_times.rows t h s.position st.consistent);
          stored_times = same_all (λ row. is_time row.at) (stored_rows table) (rows_inserted t h) held.stored (rows_are_times.inserted t h st.consistent);
          near = subst (λ i. ChunksAreNear i (stored_rows table)) (sym stands.interval) within;
          rows_are = held.seen s.position ∙ ap (rows t) now;
          reads_are = λ spans. (held_tables_tell t h table.rows held).read table.rows.interval spans ∙ ap (λ i. rows_near i (rows_inserted t h) spans) stands.interval;
          count_is = same_length (stored_rows table) (rows_inserted t h) held.stored;
        }

    by_hyper : (info : TableInfo) → table_of (roster h) t ≡ Some info → (o : Option Hyper) → info.hyper ≡ o → TableIs h t o (Some table) → IsTableOf h t s.position table
    by_hyper info is None info_is stands = absurd stands
    by_hyper info is (Some hyper) info_is stands = tells info hyper is info_is stands

pub some_hyper : (h : History) (t position : ℕ) (table : TableValue) → IsTableOf h t position table → IsSome (hyper_of (roster h) t)
some_hyper h t position table is = ap is_some is.hyper_is

-- the combination of two facts of a result
pub both_ok : {T E : Type 0} (r : Result T E) (P Q S : T → Type 0) → ((x : T) → P x → Q x → S x) → IfOk r P → IfOk r Q → IfOk r S
both_ok (Ok x) P Q S f p q = f x p q
both_ok (Err e) P Q S f p q = tt

-- a query that may be asked of a hypertable finds it
pub asked_hyper : (test : TableDef → Hyper → Bool) (o : Option TableInfo) → of_table test o ≡ true → IsSome (option_and_then (λ i. i.hyper) o)
asked_hyper test None asked = absurd (true≢false (sym asked))
asked_hyper test (Some info) asked = of_info info.hyper asked
  where
    of_info : (o : Option Hyper) → of_hyper test info.def o ≡ true → IsSome o
    of_info None asked = absurd (true≢false (sym asked))
    of_info (Some hyper) asked = refl

-- ---- what a query on a hypertable shows

-- the answer has these parts
pub answer_is : (found : Answer) (a : Answer) → found.rows ≡ a.rows → found.stale ≡ a.stale → found ≡ a
answer_is found a shown stale = λ i. record { rows = shown i; stale = stale i }

pub rows_answered : (h : History) (t : ℕ) (tests : List Test) (at position : ℕ) (table : TableValue) (found : Answer) (hyper : Hyper) → hyper_of (roster h) t ≡ Some hyper → at ≡ hyper.at → IsTableOf h t position table
    → found.rows ≡ map (all_columns at) (filter (λ row. passes_all row tests) (in_order (seen_rows position table))) → found.stale ≡ [] → found ≡ answer (Rows t tests) h
rows_answered h t tests at position table found hyper hyper_is at_is tells shown stale =
    answer_is found (answer (Rows t tests) h)
    (shown
    ∙ (ap (λ a. map (all_columns a) (filter (λ row. passes_all row tests) (in_order (seen_rows position table)))) at_is
    ∙ (ap (λ xs. map (all_columns hyper.at) (filter (λ row. passes_all row tests) xs)) tells.rows_are ∙ sym (ap (passing_rows (rows t h) tests) hyper_is))))
    stale

pub buckets_answered : (h : History) (t : ℕ) (fold : Fold) (position : ℕ) (table : TableValue) (found : Answer) → IsTableOf h t position table
    → found.rows ≡ fold_rows fold (in_order (seen_rows position table)) → found.stale ≡ [] → found ≡ answer (Buckets t fold) h
buckets_answered h t fold position table found tells shown stale = answer_is found (answer (Buckets t fold) h) (shown ∙ ap (fold_rows fold) tells.rows_are) stale
