-- A statement that isn't refused isn't refused later, and requests the same.
use Rattle.std.proofs.Common.{◌≡◌, ◌∙◌, refl, sym, ap, ℕ, ◌+◌, Bool, true, false, List, [], ◌∷◌, ◌++◌, Option, Some, None, inl, inr}
use Rattle.std.specs.Prelude.{◌⊎◌, ℤ, length, nat_le, not, ◌==◌, ◌&&◌, unwrap_or}
use Rattle.ts_schema.specs.declared.columns.Column.{Column}
use Rattle.ts_model.specs.declared.events.Op.TheVariants as ops
use Rattle.ts_model.specs.declared.outcomes.Refusal.{Refusal}
use Rattle.ts_model.specs.declared.rosters.Roster.{Roster}
use Rattle.ts_model.specs.declared.tables.TableInfo.{TableInfo}
use Rattle.ts_model.specs.declared.views.ViewDef.{ViewDef}
use Rattle.ts_model.specs.Allowed.{all_allowed}
use Rattle.ts_model.specs.Numbers.{name_taken, no_column, value_count, null_value, bad_width, too_many, bad_unit}
use Rattle.ts_model.specs.History.{History, Begins}
use Rattle.ts_model.specs.Roster.{roster}
use Rattle.ts_catalog.specs.Columns.{column_from, column_of}
use Rattle.ts_catalog.specs.Relations.{found_in}
use Rattle.ts_catalog.specs.declared.relations.Found.{Found}
use Rattle.ts_catalog.specs.declared.relations.Found.TheVariants as found
use Rattle.stmt_syntax.specs.Heads.{calendar_word}
use Rattle.stmt_syntax.specs.declared.statements.NamedAgg.{NamedAgg}
use Rattle.stmt_syntax.specs.declared.statements.NamedFold.{NamedFold}
use Rattle.stmt_syntax.specs.declared.statements.NamedTest.{NamedTest}
use Rattle.stmt_syntax.specs.declared.statements.Stmt.{Stmt}
use Rattle.stmt_syntax.specs.declared.statements.Stmt.TheVariants as stmts
use Rattle.stmt_check.specs.Limits.{most_rows}
use Rattle.stmt_check.specs.declared.actions.Action.TheVariants as actions
use Rattle.stmt_check.specs.declared.inserts.Rule.{Rule}
use Rattle.stmt_check.specs.declared.inserts.Shape.{Shape}
use Rattle.stmt_check.specs.Check.{action_of, interval_of, refusal_of, rows_into, rows_query_refusal, table_at, time_of, view_at}
use Rattle.stmt_check.specs.Folds.{aggregate_name, aggregate_refusal, aggregates_refusal, argument_refusal, bucket_column, calendar_refusal, columns_before, fold_of, fold_refusal, head_name, is_key, is_shift, is_step, is_taken, is_time_column, is_unit, key_refusal, keys_refusal, output_count, output_names, rest_refusal, tests_of, tests_refusal, unit_count, units_refusal, width_refusal}
use Rattle.stmt_check.specs.Queries.{bound_refusal, drop_test, starts_refusal}
use Rattle.stmt_check.specs.Refusals.{◌⊳◌, hypertable_refusal, marked_refusal, refusal_if_none, name_refusal, number_of, plain_refusal, query_refusal, view_refusal}
use Rattle.stmt_check.specs.Rows.{insert_refusal, list_refusal, list_refusal_of, row_refusal, rows_refusal, shape_of, value_refusal, values_refusal}
use Rattle.stmt_check.specs.Tables.{columns_refusal, hyper_refusal}
use Rattle.stmt_check.proofs.PassedLaws.{neither}
use Rattle.stmt_check.proofs.StayLaws.{hyper_info, hyper_stays, plain_def, plain_stays, view_stays}

-- ---- what isn't refused isn't refused at another position

again : (p q code mark : ℕ) (wrong : Bool) → marked_refusal p code mark wrong ≡ None → marked_refusal q code mark wrong ≡ None
again p q code mark true e = absurd cc
again p q code mark false e = refl

there_again : {T : Type 0} (p q code : ℕ) (o : Option T) → refusal_if_none p code o ≡ None → refusal_if_none q code o ≡ None
there_again p q code None e = absurd cc
there_again p q code (Some t) e = refl

both_again : (a b c d : Option Refusal) → (a ≡ None → c ≡ None) → (b ≡ None → d ≡ None) → (a ⊳ b) ≡ None → (c ⊳ d) ≡ None
both_again None b c d f g e = ap (λ x. x ⊳ d) (f refl) ∙ g e
both_again (Some r) b c d f g e = absurd cc

columns_again : (p q count : ℕ) (before cols : List Column) → columns_refusal p count before cols ≡ None → columns_refusal q count before cols ≡ None
columns_again p q count before [] e = refl
columns_again p q count before (c ∷ cols) e = both_again _ _ _ _ (again p q name_taken 0 _) (both_again _ _ _ _ (again p q too_many count _) (columns_again p q count (before ++ c ∷ []) cols)) e

hyper_again : (p q : ℕ) (cols : List Column) (col : List ℕ) (interval : ℤ) → hyper_refusal p cols col interval ≡ None → hyper_refusal q cols col interval ≡ None
hyper_again p q cols col interval e = both_again _ _ _ _ (there_again p q _ _) (again p q _ 0 _) e

tests_again : (p q : ℕ) (info : TableInfo) (tests : List NamedTest) → tests_refusal p info tests ≡ None → tests_refusal q info tests ≡ None
tests_again p q info [] e = refl
tests_again p q info (t ∷ ts) e = both_again _ _ _ _ (there_again p q _ (column_of info t.col)) (tests_again p q info ts) e

starts_again : (p q : ℕ) (def : ViewDef) (tests : List NamedTest) → starts_refusal p def tests ≡ None → starts_refusal q def tests ≡ None
starts_again p q def [] e = refl
starts_again p q def (t ∷ ts) e = both_again _ _ _ _ (again p q _ 0 _) (starts_again p q def ts) e

bound_again : (p q : ℕ) (o : Option ℤ) → bound_refusal p o ≡ None → bound_refusal q o ≡ None
bound_again p q None e = refl
bound_again p q (Some t) e = again p q _ 0 _ e

-- ---- folds

argument_again : (p q : ℕ) (info : TableInfo) (o : Option (List ℕ)) → argument_refusal p info o ≡ None → argument_refusal q info o ≡ None
argument_again p q info None e = refl
argument_again p q info (Some col) e = there_again p q _ (column_of info col) e

aggregate_again : (p q count : ℕ) (info : TableInfo) (others : ℕ) (repeats : Bool) (a : NamedAgg) → aggregate_refusal p count info others repeats a ≡ None → aggregate_refusal q count info others repeats a ≡ None
aggregate_again p q count info others repeats a e =
    both_again _ _ _ _ (again p q name_taken 0 _) (both_again _ _ _ _ (again p q too_many count _) (both_again _ _ _ _ (argument_again p q info a.col) (again p q name_taken 0 _))) e

aggregates_again : (p q : ℕ) (distinct : Bool) (count : ℕ) (info : TableInfo) (bucket : List ℕ) (keys : List (List ℕ)) (before left : List NamedAgg) → aggregates_refusal p distinct count info bucket keys before left ≡ None → aggregates_refusal q distinct count info bucket keys before left ≡ None
aggregates_again p q distinct count info bucket keys before [] e = refl
aggregates_again p q distinct count info bucket keys before (a ∷ left) e =
    both_again _ _ _ _ (aggregate_again p q count info (columns_before (length keys) (length before)) (distinct && is_taken bucket keys before (aggregate_name a)) a) (aggregates_again p q distinct count info bucket keys (before ++ a ∷ []) left) e

key_again : (p q count : ℕ) (info : TableInfo) (others : ℕ) (repeats : Bool) (key : List ℕ) → key_refusal p count info others repeats key ≡ None → key_refusal q count info others repeats key ≡ None
key_again p q count info others repeats key e = both_again _ _ _ _ (again p q name_taken 0 _) (both_again _ _ _ _ (there_again p q _ (column_of info key)) (again p q too_many count _)) e

keys_again : (p q : ℕ) (distinct : Bool) (count : ℕ) (info : TableInfo) (bucket : List ℕ) (before left : List (List ℕ)) → keys_refusal p distinct count info bucket before left ≡ None → keys_refusal q distinct count info bucket before left ≡ None
keys_again p q distinct count info bucket before [] e = refl
keys_again p q distinct count info bucket before (k ∷ left) e =
    both_again _ _ _ _ (key_again p q count info (columns_before (length before) 0) (distinct && is_key bucket before k) k) (keys_again p q distinct count info bucket (before ++ k ∷ []) left) e

width_again : (p q : ℕ) (info : TableInfo) (f : NamedFold) → width_refusal p info f ≡ None → width_refusal q info f ≡ None
width_again p q info f e = both_again _ _ _ _ (again p q bad_width 0 (not (is_step f.step))) (both_again _ _ _ _ (again p q no_column 0 (not (is_time_column (column_of info f.at)))) (again p q bad_width 0 (not (is_shift f.step f.shift)))) e

rest_again : (p q : ℕ) (distinct : Bool) (head : List ℕ) (info : TableInfo) (f : NamedFold) → rest_refusal p distinct head info f ≡ None → rest_refusal q distinct head info f ≡ None
rest_again p q distinct head info f e =
    both_again _ _ _ _ (keys_again p q distinct (output_count f) info head [] f.keys)
    (both_again _ _ _ _ (aggregates_again p q distinct (output_count f) info head f.keys [] f.aggs) (tests_again p q info f.tests)) e

pub fold_again : (p q : ℕ) (distinct : Bool) (info : TableInfo) (f : NamedFold) → fold_refusal p distinct info f ≡ None → fold_refusal q distinct info f ≡ None
fold_again p q distinct info f e = both_again _ _ _ _ (width_again p q info f) (rest_again p q distinct (bucket_column f) info f) e

units_again : (p q : ℕ) (info : TableInfo) (number : ℤ) (unit : List ℕ) (f : NamedFold) → units_refusal p info number unit f ≡ None → units_refusal q info number unit f ≡ None
units_again p q info number unit f e = both_again _ _ _ _ (there_again p q _ (unit_count number)) (both_again _ _ _ _ (again p q bad_unit 0 (not (is_unit unit))) (again p q no_column 0 (not (is_time_column (column_of info f.at))))) e

calendar_again : (p q : ℕ) (info : TableInfo) (number : ℤ) (unit : List ℕ) (f : NamedFold) → calendar_refusal p info number unit f ≡ None → calendar_refusal q info number unit f ≡ None
calendar_again p q info number unit f e = both_again _ _ _ _ (units_again p q info number unit f) (rest_again p q false (head_name calendar_word f) info f) e

-- ---- rows

list_again : (p q : ℕ) (cols : List Column) (before names : List (List ℕ)) → list_refusal p cols before names ≡ None → list_refusal q cols before names ≡ None
list_again p q cols before [] e = refl
list_again p q cols before (n ∷ ns) e = both_again _ _ _ _ (again p q name_taken 0 _) (both_again _ _ _ _ (there_again p q _ _) (list_again p q cols (before ++ n ∷ []) ns)) e

listed_again : (p q : ℕ) (cols : List Column) (names : Option (List (List ℕ))) → list_refusal_of p cols names ≡ None → list_refusal_of q cols names ≡ None
listed_again p q cols None e = refl
listed_again p q cols (Some names) e = list_again p q cols [] names e

value_again : (p q : ℕ) (rule : Rule) (v : Option ℤ) → value_refusal p rule v ≡ None → value_refusal q rule v ≡ None
value_again p q rule None e = again p q _ 0 _ e
value_again p q rule (Some v) e = again p q _ 0 _ e

values_again : (p q : ℕ) (rules : List Rule) (vs : List (Option ℤ)) → values_refusal p rules vs ≡ None → values_refusal q rules vs ≡ None
values_again p q [] vs e = refl
values_again p q (r ∷ rs) [] e = refl
values_again p q (r ∷ rs) (v ∷ vs) e = both_again _ _ _ _ (value_again p q r v) (values_again p q rs vs) e

row_again : (p q : ℕ) (shape : Shape) (k : ℕ) (values : List (Option ℤ)) → row_refusal p shape k values ≡ None → row_refusal q shape k values ≡ None
row_again p q shape k values e =
    both_again _ _ _ _ (again p q too_many shape.count (nat_le most_rows k)) (both_again _ _ _ _ (again p q value_count 0 (not (length values == length shape.rules))) (both_again _ _ _ _ (again p q null_value 0 shape.left_out) (values_again p q shape.rules values))) e

rows_again : (p q : ℕ) (shape : Shape) (k : ℕ) (rows : List (List (Option ℤ))) → rows_refusal p shape k rows ≡ None → rows_refusal q shape k rows ≡ None
rows_again p q shape k [] e = refl
rows_again p q shape k (r ∷ rs) e = both_again _ _ _ _ (row_again p q shape k r) (rows_again p q shape (k + 1) rs) e

insert_again : (p q at : ℕ) (cols : List Column) (names : Option (List (List ℕ))) (rows : List (List (Option ℤ))) → insert_refusal p at cols names rows ≡ None → insert_refusal q at cols names rows ≡ None
insert_again p q at cols names rows e = both_again _ _ _ _ (listed_again p q cols names) (rows_again p q (shape_of at cols names (length rows)) 0 rows) e

-- ---- names

hypertable_again : (p q : ℕ) (f : Found) → hypertable_refusal p f ≡ None → hypertable_refusal q f ≡ None
hypertable_again p q found.None e = absurd cc
hypertable_again p q (found.Plain n) e = absurd cc
hypertable_again p q (found.Hyper n) e = refl
hypertable_again p q (found.View n) e = absurd cc

plain_again : (p q : ℕ) (f : Found) → plain_refusal p f ≡ None → plain_refusal q f ≡ None
plain_again p q found.None e = absurd cc
plain_again p q (found.Plain n) e = refl
plain_again p q (found.Hyper n) e = absurd cc
plain_again p q (found.View n) e = absurd cc

view_again : (p q : ℕ) (f : Found) → view_refusal p f ≡ None → view_refusal q f ≡ None
view_again p q found.None e = absurd cc
view_again p q (found.Plain n) e = absurd cc
view_again p q (found.Hyper n) e = absurd cc
view_again p q (found.View n) e = refl

query_again : (p q : ℕ) (f : Found) → query_refusal p f ≡ None → query_refusal q f ≡ None
query_again p q found.None e = absurd cc
query_again p q (found.Plain n) e = absurd cc
query_again p q (found.Hyper n) e = refl
query_again p q (found.View n) e = refl

name_again : (p q : ℕ) (r : Roster) (name : List ℕ) (many : ℕ) → name_refusal p r name many ≡ None → name_refusal q r name many ≡ None
name_again p q r name many e = both_again _ _ _ _ (again p q name_taken 0 _) (again p q too_many _ _) e

queried_again : (p q : ℕ) (r : Roster) (f : Found) (tests : List NamedTest) → rows_query_refusal p r f tests ≡ None → rows_query_refusal q r f tests ≡ None
queried_again p q r found.None tests e = refl
queried_again p q r (found.Plain n) tests e = refl
queried_again p q r (found.Hyper n) tests e = tests_again p q (table_at r (found.Hyper n)) tests e
queried_again p q r (found.View n) tests e = starts_again p q (view_at r (found.View n)) tests e

-- a statement that isn't refused at one position of a roster isn't refused at any
pub refused_at_none : (p q : ℕ) (r : Roster) (s : Stmt) → refusal_of p r s ≡ None → refusal_of q r s ≡ None
refused_at_none p q r (stmts.Table name cols) e = both_again _ _ _ _ (name_again p q r name (length r.tables)) (columns_again p q (length cols) [] cols) e
refused_at_none p q r (stmts.Hyper table col interval) e = both_again _ _ _ _ (plain_again p q (found_in r table)) (hyper_again p q _ col interval) e
refused_at_none p q r (stmts.View name only filled fold) e =
    both_again _ _ _ _ (name_again p q r name (length r.views)) (both_again _ _ _ _ (hypertable_again p q (found_in r fold.table)) (fold_again p q true (table_at r (found_in r fold.table)) fold)) e
refused_at_none p q r (stmts.Mode view only) e = view_again p q (found_in r view) e
refused_at_none p q r (stmts.Insert table cols rows) e = both_again _ _ _ _ (hypertable_again p q (found_in r table)) (insert_again p q _ _ cols rows) e
refused_at_none p q r (stmts.Delete table tests) e = both_again _ _ _ _ (hypertable_again p q (found_in r table)) (tests_again p q (table_at r (found_in r table)) tests) e
refused_at_none p q r (stmts.Drop table below) e = both_again _ _ _ _ (hypertable_again p q (found_in r table)) (bound_again p q (Some below)) e
refused_at_none p q r (stmts.Refresh view lo hi) e = both_again _ _ _ _ (view_again p q (found_in r view)) (both_again _ _ _ _ (bound_again p q lo) (bound_again p q hi)) e
refused_at_none p q r (stmts.Cut view lo hi) e = both_again _ _ _ _ (view_again p q (found_in r view)) (both_again _ _ _ _ (bound_again p q lo) (bound_again p q hi)) e
refused_at_none p q r (stmts.Snap cut) e = refl
refused_at_none p q r (stmts.Finish cut) e = refl
refused_at_none p q r stmts.Begin e = refl
refused_at_none p q r stmts.BeginRead e = refl
refused_at_none p q r stmts.Commit e = refl
refused_at_none p q r stmts.Rollback e = refl
refused_at_none p q r (stmts.Buckets fold) e = both_again _ _ _ _ (hypertable_again p q (found_in r fold.table)) (fold_again p q false (table_at r (found_in r fold.table)) fold) e
refused_at_none p q r (stmts.Calendar number unit fold) e = both_again _ _ _ _ (hypertable_again p q (found_in r fold.table)) (calendar_again p q (table_at r (found_in r fold.table)) number unit fold) e
refused_at_none p q r (stmts.Rows table tests) e = both_again _ _ _ _ (query_again p q (found_in r table)) (queried_again p q r (found_in r table) tests) e

-- ---- what is needed

hyper_needed : (p : ℕ) (f : Found) → hypertable_refusal p f ≡ None → (n : ℕ) × (f ≡ found.Hyper n)
hyper_needed p found.None e = absurd cc
hyper_needed p (found.Plain n) e = absurd cc
hyper_needed p (found.Hyper n) e = (n, refl)
hyper_needed p (found.View n) e = absurd cc

pub plain_needed : (p : ℕ) (f : Found) → plain_refusal p f ≡ None → (n : ℕ) × (f ≡ found.Plain n)
plain_needed p found.None e = absurd cc
plain_needed p (found.Plain n) e = (n, refl)
plain_needed p (found.Hyper n) e = absurd cc
plain_needed p (found.View n) e = absurd cc

view_needed : (p : ℕ) (f : Found) → view_refusal p f ≡ None → (n : ℕ) × (f ≡ found.View n)
view_needed p found.None e = absurd cc
view_needed p (found.Plain n) e = absurd cc
view_needed p (found.Hyper n) e = absurd cc
view_needed p (found.View n) e = (n, refl)

-- ---- the same at a longer history

-- a statement isn't refused at a longer history, and requests the same there
pub record Stays (g h : History) (s : Stmt) : Type 0 where
  pub passes : (pos : ℕ) → refusal_of pos (roster h) s ≡ None
  pub action : action_of (roster h) s ≡ action_of (roster g) s

-- a name refers to the same table, with the same columns
pub record SameTable (g h : History) (name : List ℕ) : Type 0 where
  pub found : found_in (roster h) name ≡ found_in (roster g) name
  pub info : table_at (roster h) (found_in (roster h) name) ≡ table_at (roster g) (found_in (roster g) name)

pub hypertable_later : (g h : History) (p : ℕ) (name : List ℕ) → Begins g h → hypertable_refusal p (found_in (roster g) name) ≡ None → SameTable g h name
hypertable_later g h p name b e =
    let there = hyper_needed p (found_in (roster g) name) e in
    let stays = hyper_stays name there.0 b there.1 in
    record { found = stays ∙ sym there.1; info = ap (table_at (roster h)) stays ∙ hyper_info name there.0 b there.1 ∙ ap (table_at (roster g)) (sym there.1) }

-- a refusal, and an action, by what a name refers to
of_table : {X : Type 0} (g h : History) (name : List ℕ) (by : Found → TableInfo → X) → SameTable g h name → by (found_in (roster h) name) (table_at (roster h) (found_in (roster h) name)) ≡ by (found_in (roster g) name) (table_at (roster g) (found_in (roster g) name))
of_table g h name by s = ap (λ f. by f (table_at (roster h) (found_in (roster h) name))) s.found ∙ ap (by (found_in (roster g) name)) s.info

pub insert_later : (g h : History) (p : ℕ) (table : List ℕ) (cols : Option (List (List ℕ))) (rows : List (List (Option ℤ))) → Begins g h → refusal_of p (roster g) (stmts.Insert table cols rows) ≡ None → Stays g h (stmts.Insert table cols rows)
insert_later g h p table cols rows b e =
    let s = stmts.Insert table cols rows in
    let at = hypertable_later g h p table b (neither (hypertable_refusal p (found_in (roster g) table)) _ e).0 in
    record {
      passes = λ q. of_table g h table (λ f i. hypertable_refusal q f ⊳ insert_refusal q (time_of i.hyper) i.def.cols cols rows) at ∙ refused_at_none p q (roster g) s e;
      action = of_table g h table (λ f i. actions.Change (ops.Insert (number_of f) (rows_into i cols rows))) at;
    }

pub delete_later : (g h : History) (p : ℕ) (table : List ℕ) (tests : List NamedTest) → Begins g h → refusal_of p (roster g) (stmts.Delete table tests) ≡ None → Stays g h (stmts.Delete table tests)
delete_later g h p table tests b e =
    let s = stmts.Delete table tests in
    let at = hypertable_later g h p table b (neither (hypertable_refusal p (found_in (roster g) table)) _ e).0 in
    record {
      passes = λ q. of_table g h table (λ f i. hypertable_refusal q f ⊳ tests_refusal q i tests) at ∙ refused_at_none p q (roster g) s e;
      action = of_table g h table (λ f i. actions.Change (ops.Delete (number_of f) (tests_of i tests))) at;
    }

pub drop_later : (g h : History) (p : ℕ) (table : List ℕ) (below : ℤ) → Begins g h → refusal_of p (roster g) (stmts.Drop table below) ≡ None → Stays g h (stmts.Drop table below)
drop_later g h p table below b e =
    let s = stmts.Drop table below in
    let at = hypertable_later g h p table b (neither (hypertable_refusal p (found_in (roster g) table)) _ e).0 in
    record {
      passes = λ q. of_table g h table (λ f i. hypertable_refusal q f ⊳ bound_refusal q (Some below)) at ∙ refused_at_none p q (roster g) s e;
      action = of_table g h table (λ f i. actions.Change (ops.Delete (number_of f) (drop_test (interval_of i.hyper) below ∷ []))) at;
    }

-- a name refers to the same aggregate
aggregate_later : (g h : History) (p : ℕ) (name : List ℕ) → Begins g h → all_allowed h ≡ true → view_refusal p (found_in (roster g) name) ≡ None → found_in (roster h) name ≡ found_in (roster g) name
aggregate_later g h p name b ok e =
    let there = view_needed p (found_in (roster g) name) e in
    view_stays name there.0 b ok there.1 ∙ sym there.1

pub mode_later : (g h : History) (p : ℕ) (view : List ℕ) (only : Bool) → Begins g h → all_allowed h ≡ true → refusal_of p (roster g) (stmts.Mode view only) ≡ None → Stays g h (stmts.Mode view only)
mode_later g h p view only b ok e =
    let at = aggregate_later g h p view b ok e in
    record { passes = λ q. ap (view_refusal q) at ∙ view_again p q (found_in (roster g) view) e; action = ap (λ f. actions.Mode (number_of f) only) at }

pub refresh_later : (g h : History) (p : ℕ) (view : List ℕ) (lo hi : Option ℤ) → Begins g h → all_allowed h ≡ true → refusal_of p (roster g) (stmts.Refresh view lo hi) ≡ None → Stays g h (stmts.Refresh view lo hi)
refresh_later g h p view lo hi b ok e =
    let at = aggregate_later g h p view b ok (neither (view_refusal p (found_in (roster g) view)) _ e).0 in
    record {
      passes = λ q. ap (λ f. view_refusal q f ⊳ bound_refusal q lo ⊳ bound_refusal q hi) at ∙ refused_at_none p q (roster g) (stmts.Refresh view lo hi) e;
      action = ap (λ f. actions.Refresh (number_of f) lo hi) at;
    }

pub cut_later : (g h : History) (p : ℕ) (view : List ℕ) (lo hi : Option ℤ) → Begins g h → all_allowed h ≡ true → refusal_of p (roster g) (stmts.Cut view lo hi) ≡ None → Stays g h (stmts.Cut view lo hi)
cut_later g h p view lo hi b ok e =
    let at = aggregate_later g h p view b ok (neither (view_refusal p (found_in (roster g) view)) _ e).0 in
    record {
      passes = λ q. ap (λ f. view_refusal q f ⊳ bound_refusal q lo ⊳ bound_refusal q hi) at ∙ refused_at_none p q (roster g) (stmts.Cut view lo hi) e;
      action = ap (λ f. actions.Cut (number_of f) lo hi) at;
    }

-- ---- relations to be created

-- the columns of a table don't depend on the position at which they are read
pub table_later : (p q : ℕ) (r : Roster) (name : List ℕ) (cols : List Column) → refusal_of p r (stmts.Table name cols) ≡ None → columns_refusal q (length cols) [] cols ≡ None
table_later p q r name cols e = columns_again p q (length cols) [] cols (neither (name_refusal p r name (length r.tables)) _ e).1

-- an aggregate is over the same hypertable, and requests the same
pub record SameFold (g h : History) (name : List ℕ) (only filled : Bool) (fold : NamedFold) : Type 0 where
  pub passes : (pos : ℕ) → (hypertable_refusal pos (found_in (roster h) fold.table) ⊳ fold_refusal pos true (table_at (roster h) (found_in (roster h) fold.table)) fold) ≡ None
  pub action : action_of (roster h) (stmts.View name only filled fold) ≡ action_of (roster g) (stmts.View name only filled fold)

pub aggregate_made_later : (g h : History) (p : ℕ) (name : List ℕ) (only filled : Bool) (fold : NamedFold) → Begins g h → refusal_of p (roster g) (stmts.View name only filled fold) ≡ None → SameFold g h name only filled fold
aggregate_made_later g h p name only filled fold b e =
    let over : Found → TableInfo → ℕ → Option Refusal = λ f i q. hypertable_refusal q f ⊳ fold_refusal q true i fold in
    let F = found_in (roster g) fold.table in
    let I = table_at (roster g) F in
    let rest = (neither (name_refusal p (roster g) name (length (roster g).views)) (over F I p) e).1 in
    let at = hypertable_later g h p fold.table b (neither (hypertable_refusal p F) (fold_refusal p true I fold) rest).0 in
    record {
      passes = λ q. of_table g h fold.table (λ f i. over f i q) at ∙ both_again (hypertable_refusal p F) (fold_refusal p true I fold) (hypertable_refusal q F) (fold_refusal q true I fold) (hypertable_again p q F) (fold_again p q true I fold) rest;
      action = of_table g h fold.table (λ f i. actions.View (record { name = name; table = number_of f; fold = fold_of i fold; names = output_names fold; only = only }) filled) at;
    }

-- a table that is still plain, or became the hypertable with its number
pub data HyperLater (g h : History) (table col : List ℕ) (interval : ℤ) : Type 0 where
  plain : Stays g h (stmts.Hyper table col interval) → HyperLater g h table col interval
  hyper : (n : ℕ) → found_in (roster h) table ≡ found.Hyper n → number_of (found_in (roster g) table) ≡ n → HyperLater g h table col interval

pub hyper_made_later : (g h : History) (p : ℕ) (table col : List ℕ) (interval : ℤ) → Begins g h → refusal_of p (roster g) (stmts.Hyper table col interval) ≡ None → HyperLater g h table col interval
hyper_made_later g h p table col interval b e =
    let F = found_in (roster g) table in
    let cols = (table_at (roster g) F).def.cols in
    let parts = neither (plain_refusal p F) (hyper_refusal p cols col interval) e in
    let there = plain_needed p F parts.0 in
    by_kind there.0 there.1 parts.1 (plain_stays table there.0 b there.1)
  where
    by_kind : (n : ℕ) → found_in (roster g) table ≡ found.Plain n → hyper_refusal p (table_at (roster g) (found_in (roster g) table)).def.cols col interval ≡ None → (found_in (roster h) table ≡ found.Plain n) ⊎ (found_in (roster h) table ≡ found.Hyper n) → HyperLater g h table col interval
    by_kind n is passed (inr now) = hyper n now (ap number_of is)
    by_kind n is passed (inl now) =
        let same_def : (table_at (roster h) (found_in (roster h) table)).def ≡ (table_at (roster g) (found_in (roster g) table)).def = ap (λ f. (table_at (roster h) f).def) now ∙ plain_def table n b is ∙ ap (λ f. (table_at (roster g) f).def) (sym is) in
        let same_found : found_in (roster h) table ≡ found_in (roster g) table = now ∙ sym is in
        plain (record {
          passes = λ q. ap (λ f. plain_refusal q f ⊳ hyper_refusal q (table_at (roster h) (found_in (roster h) table)).def.cols col interval) now ∙ ap (λ d. hyper_refusal q d.cols col interval) same_def ∙ hyper_again p q (table_at (roster g) (found_in (roster g) table)).def.cols col interval passed;
          action = ap (λ f. actions.Hyper (number_of f) (record { at = unwrap_or (column_from col 0 (table_at (roster h) (found_in (roster h) table)).def.cols) 0; interval = interval })) same_found
              ∙ ap (λ d. actions.Hyper (number_of (found_in (roster g) table)) (record { at = unwrap_or (column_from col 0 d.cols) 0; interval = interval })) same_def;
        })
