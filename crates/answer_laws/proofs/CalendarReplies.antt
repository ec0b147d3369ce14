-- The reply to a query by calendar buckets.
use Rattle.std.proofs.Common.{◌≡◌, ℕ, zero, suc, ◌≤◌, ◌<◌, Bool, true, false, ◌&&◌, List, [], ◌∷◌, map, length, ℤ, Option, Some, None, sym, refl, ap, ◌∙◌, subst, arith}
use Rattle.std.specs.Prelude.{nat_lt, option_and_then, option_map, slice_get, unwrap_or}
use Rattle.std.specs.List.{AllByRecursion, filter, flat_map, list_all}
use Rattle.std.specs.Ordering.{int_cmp, int_eq}
use Rattle.std.proofs.lemmas.Bool.{and_parts, ltb-true}
use Rattle.std.proofs.lemmas.Cmp.{int_cmp_total}
use Rattle.ts_schema.proofs.Cases.{all_weaker, by_test}
use Rattle.ts_schema.specs.Conditions.{passes_all}
use Rattle.ts_schema.specs.declared.rows.Row.{Row}
use Rattle.ts_num.specs.declared.values.Datum.{Datum}
use Rattle.ts_model.specs.declared.events.Event.TheVariants.{Table as TableEvent}
use Rattle.ts_model.specs.declared.queries.Query.TheVariants.{Rows}
use Rattle.ts_model.specs.declared.tables.Hyper.{Hyper}
use Rattle.ts_model.specs.declared.tables.TableDef.{TableDef}
use Rattle.ts_model.specs.declared.tables.TableInfo.{TableInfo}
use Rattle.ts_model.specs.declared.views.Fold.{Fold}
use Rattle.ts_model.specs.Allowed.{all_consistent}
use Rattle.ts_model.specs.Answers.{all_columns, answer, passing_rows}
use Rattle.ts_model.specs.History.{History, position}
use Rattle.ts_model.specs.Laws.{fits_table, is_hyper_sound}
use Rattle.ts_model.specs.Roster.{hyper_of, no_relations, of_hyper, of_table, roster, table_of}
use Rattle.ts_model.specs.Rows.{rows}
use Rattle.ts_model.specs.Scratch.{group_rows, key_lists, once, result_row, with_keys}
use Rattle.ts_model.specs.Sound.{row_fits, sound_in}
use Rattle.ts_model.proofs.FitLaws.{rows_fit_tables}
use Rattle.ts_model.proofs.HistoryLaws.{prefix_end}
use Rattle.ts_model.proofs.SoundLaws.{rosters_are_sound}
use Rattle.group_fold.proofs.Occurring.{all-flat_map, all-map, all-once, flat_map-same}
use Rattle.cal_bucket.specs.declared.plans.CalPlan.{CalPlan}
use Rattle.cal_bucket.specs.Answers.{named_rows, occurring_names, plan_rows, rows_named, rows_of_plan}
use Rattle.cal_bucket.specs.Buckets.{IsCalendarBucket}
use Rattle.cal_bucket.specs.Laws.{NamesAreOfBuckets}
use Rattle.cal_bucket.specs.Places.{name_of}
use Rattle.cal_bucket.proofs.RowLaws.{columns_show_rows, place_of_fitting}
use Rattle.stmt_check.specs.Sound.{IsCalendar, IsSound}
use Rattle.stmt_check.specs.Check.{action_of, refusal_of}
use Rattle.stmt_check.proofs.ActionLaws.{actions_are_sound}
use Rattle.ts_sessions.specs.declared.queries.Form.TheVariants as forms
use Rattle.ts_sessions.specs.Places.{queue_count}
use Rattle.ts_sessions.specs.Step.{acts, answers, calendar_plan, in_form, named_as, shown_in, unit_of, unless}
use Rattle.answer_laws.specs.Laws.{CalendarsReply, IsOfARow}
use Rattle.answer_laws.proofs.RollUpReplies.{same_roster}

-- ---- rows that match tests

-- filtering by a weaker test first changes nothing
filter_again : (strong weak : Row → Bool) → ((row : Row) → strong row ≡ true → weak row ≡ true) → (xs : List Row) → filter strong (filter weak xs) ≡ filter strong xs
filter_again strong weak weaker [] = refl
filter_again strong weak weaker (x ∷ xs) =
    let rest = filter_again strong weak weaker xs in
    by_test (weak x)
    (λ k. by_test (strong x)
    (λ t. rw k (rw t (ap (λ ys. x ∷ ys) rest)))
    (λ t. rw k (rw t rest)))
    (λ k.
    let no : strong x ≡ false = by_test (strong x) (λ t. absurd (cc (sym (weaker x t) ∙ k))) (λ f. f) in
    rw k (rw no rest))

everywhere : {X : Type 0} (P : X → Type 0) → ((x : X) → P x) → (xs : List X) → AllByRecursion P xs
everywhere P h [] = tt
everywhere P h (x ∷ xs) = (h x, everywhere P h xs)

-- rows that match the tests are grouped like all rows
grouped_again : (name : ℤ → ℤ) (fold : Fold) (xs : List Row) → named_rows name fold (filter (λ row. passes_all row fold.tests) xs) ≡ named_rows name fold xs
grouped_again name fold xs =
    let passes : Row → Bool = λ row. passes_all row fold.tests in
    let ys = filter passes xs in
    ap (λ kept. flat_map (λ b. group_rows fold b (rows_named name fold b ys)) (once int_cmp (map (λ row. name row.at) kept))) (filter_again passes passes (λ row e. e) xs)
    ∙ flat_map-same (λ b. group_rows fold b (rows_named name fold b ys)) (λ b. group_rows fold b (rows_named name fold b xs)) (occurring_names name fold xs)
    (everywhere (λ b. group_rows fold b (rows_named name fold b ys) ≡ group_rows fold b (rows_named name fold b xs))
    (λ b. ap (group_rows fold b) (filter_again (λ row. int_eq (name row.at) b && passes row) passes (λ row e. (and_parts (int_eq (name row.at) b) (passes row) e).1) xs))
    (occurring_names name fold xs))

-- ---- the rows of a hypertable

places_fit : (def : TableDef) (hyper : Hyper) (keeps : Row → Bool) (xs : List Row) → hyper.at < length def.cols → list_all (row_fits def hyper) xs ≡ true → AllByRecursion (λ row. hyper.at ≤ length row.vals) (filter keeps xs)
places_fit def hyper keeps [] there e = tt
places_fit def hyper keeps (x ∷ xs) there e =
    let parts = and_parts (row_fits def hyper x) (list_all (row_fits def hyper) xs) e in
    let rest = places_fit def hyper keeps xs there parts.1 in
    by_test (keeps x)
    (λ k. rw k (place_of_fitting def hyper x there parts.0, rest))
    (λ k. rw k rest)

hyper_grouped : (g : History) (t : ℕ) (cal : CalPlan) (info : TableInfo) (o : Option Hyper) → is_hyper_sound info o ≡ true → option_map (λ hyper. hyper.at) o ≡ Some cal.at → list_all (λ row. of_hyper (λ d hyper. row_fits d hyper row) info.def o) (rows t g) ≡ true → plan_rows cal (passing_rows (rows t g) cal.fold.tests o) ≡ rows_of_plan cal (rows t g)
hyper_grouped g t cal info None s p f = absurd (cc p)
hyper_grouped g t cal info (Some hyper) s p f =
    let bound : hyper.at < length info.def.cols = ltb-true _ _ (and_parts (nat_lt hyper.at (length info.def.cols)) _ (and_parts _ _ s).0).0 in
    let same : hyper.at ≡ cal.at = ap (λ o. unwrap_or o 0) p in
    let passes : Row → Bool = λ row. passes_all row cal.fold.tests in
    let found = filter passes (rows t g) in
    ap (λ x. plan_rows cal (map (all_columns x) found)) same
    ∙ (columns_show_rows cal found (subst (λ x. AllByRecursion (λ row. x ≤ length row.vals) found) same (places_fit info.def hyper passes (rows t g) bound f))
    ∙ grouped_again (name_of cal.unit cal.number) cal.fold (rows t g))

table_grouped : (g : History) (t : ℕ) (cal : CalPlan) (o : Option TableInfo) → all_consistent g ≡ true → table_of (roster g) t ≡ o → option_map (λ hyper. hyper.at) (option_and_then (λ info. info.hyper) o) ≡ Some cal.at → list_all (λ row. of_table (λ d hyper. row_fits d hyper row) o) (rows t g) ≡ true → plan_rows cal (passing_rows (rows t g) cal.fold.tests (option_and_then (λ info. info.hyper) o)) ≡ rows_of_plan cal (rows t g)
table_grouped g t cal None ok e p f = absurd (cc p)
table_grouped g t cal (Some info) ok e p f =
    let sound = and_parts (sound_in no_relations (TableEvent info.def)) (is_hyper_sound info info.hyper) ((rosters_are_sound g ok).tables t info e) in
    hyper_grouped g t cal info info.hyper sound.1 p f

-- ---- names

-- one of these rows
abbrev IsAmong : List Row → Row → Type 0
IsAmong found row = (k : ℕ) × (slice_get found k ≡ Some row)

all_among : (found : List Row) → AllByRecursion (IsAmong found) found
all_among [] = tt
all_among (x ∷ xs) = ((0, refl), all_weaker (IsAmong xs) (IsAmong (x ∷ xs)) (λ row is. (suc is.0, is.1)) xs (all_among xs))

-- the name of the bucket of the time of one of these rows that matches the tests
record IsNameOfARow (cal : CalPlan) (found : List Row) (b : ℤ) : Type 0 where
  place : ℕ
  row : Row
  there : slice_get found place ≡ Some row
  passes : passes_all row cal.fold.tests ≡ true
  bucket : IsCalendarBucket cal.unit cal.number row.at b

module _ (cal : CalPlan) (found : List Row) (some : 0 < cal.number) (names : NamesAreOfBuckets) where
  names_of_rows : (xs : List Row) → AllByRecursion (IsAmong found) xs → AllByRecursion (IsNameOfARow cal found) (map (λ row. name_of cal.unit cal.number row.at) (filter (λ row. passes_all row cal.fold.tests) xs))
  names_of_rows [] all = tt
  names_of_rows (x ∷ xs) all =
      by_test (passes_all x cal.fold.tests)
      (λ e. rw e (record { place = all.0.0; row = x; there = all.0.1; passes = e; bucket = names cal.unit cal.number x.at some }, names_of_rows xs all.1))
      (λ e. rw e (names_of_rows xs all.1))

  rows_are_named : AllByRecursion (IsOfARow cal found) (rows_of_plan cal found)
  rows_are_named =
      let name = name_of cal.unit cal.number in
      all-flat_map (IsNameOfARow cal found) (IsOfARow cal found) (λ b. group_rows cal.fold b (rows_named name cal.fold b found))
      (λ b is. all-map (IsOfARow cal found) (λ keys. result_row cal.fold b keys (with_keys cal.fold keys (rows_named name cal.fold b found)))
      (λ keys. record { place = is.place; row = is.row; there = is.there; passes = is.passes; start = b; named = refl; bucket = is.bucket })
      (key_lists cal.fold (rows_named name cal.fold b found)))
      (occurring_names name cal.fold found)
      (all-once int_cmp int_cmp_total (IsNameOfARow cal found) (map (λ row. name row.at) (filter (λ row. passes_all row cal.fold.tests) found)) (names_of_rows found (all_among found)))

-- ---- the reply

pub calendars_reply : NamesAreOfBuckets → CalendarsReply
calendars_reply names p bytes stmt h t number at unit fold allowed ok written short lower fine act =
    let g = shown_in p.block h in
    let cal : CalPlan = record { number = number; unit = unit_of unit; at = at; fold = fold } in
    let sound : IsSound h bytes (action_of (roster h) stmt) = actions_are_sound h (position h) bytes stmt allowed written short fine in
    let is : IsCalendar h t number unit at fold = subst (IsSound h bytes) act sound in
    let place : option_map (λ hyper. hyper.at) (hyper_of (roster g) t) ≡ Some at = ap (λ r. option_map (λ hyper. hyper.at) (hyper_of r t)) (same_roster p.block h) ∙ is.place in
    let fit : list_all (fits_table (roster g) t) (rows t g) ≡ true = subst (λ x. list_all (fits_table (roster g) t) (rows t x) ≡ true) (prefix_end g (position g) (omega arith)) (rows_fit_tables.rows t g (position g) ok) in
    let grouped = table_grouped g t cal (table_of (roster g) t) ok refl place fit in
    record {
      shown = in_form (roster h) (forms.Calendar cal) (answer (Rows t fold.tests) g);
      replies = record {
        turn = answers p h (calendar_plan t cal);
        ends_so =
            ap (named_as p bytes h stmt) lower
            ∙ (ap (λ r. unless p r (acts p bytes h (action_of (roster h) stmt))) fine
            ∙ ap (acts p bytes h) act);
        queue = queue_count p.block;
        min = (calendar_plan t cal).min;
        says = refl;
      };
      grouped = grouped;
      named = subst (AllByRecursion (IsOfARow cal (rows t g))) (sym grouped) (rows_are_named cal (rows t g) is.in_range.0 names);
      fresh = refl;
    }
