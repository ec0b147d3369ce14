-- Each statement's reading reads its rule of the grammar.
use Rattle.std.proofs.Common.{◌≡◌, ℕ, Bool, true, false, List, [], ◌∷◌, ◌++◌, Some, None, refl, sym, subst, ap, ◌∙◌, ℤ, inl, inr}
use Rattle.std.specs.Prelude.{codes}
use Rattle.stmt_tokens.specs.Tokens.{Token, number, mark}
use Rattle.stmt_tokens.specs.Scan as scan
use Rattle.stmt_tokens.specs.Scan.{Seen, seen_token}
use Rattle.stmt_tokens.specs.Words.{is_keyword, is_spelled, is_mark, is_number}
use Rattle.stmt_syntax.specs.Heads.{head_name, bucket_word, calendar_word}
use Rattle.stmt_tokens.specs.Streams.{Placed, Stream, onto, plain, heads}
use Rattle.stmt_reader.specs.Reading as read
use Rattle.stmt_reader.specs.Reading.{parts}
use Rattle.stmt_reader.specs.Grammar as rule
use Rattle.stmt_reader.specs.Grammar.{Rule, means, sequence, either}
use Rattle.stmt_reader.specs.declared.folds.Head.{Head}
use Rattle.stmt_tokens.specs.declared.keywords.Keyword.TheVariants as kw
use Rattle.stmt_tokens.specs.declared.tokens.Mark.TheVariants as marks
use Rattle.stmt_reader.specs.declared.phrases.Separator.TheVariants as separators
use Rattle.stmt_syntax.specs.declared.statements.Stmt.{Stmt}
use Rattle.stmt_syntax.specs.declared.statements.Stmt.TheVariants as stmt
use Rattle.stmt_reader.proofs.Placed.{splits, onto-append}
use Rattle.stmt_reader.proofs.Rules.{Reads, none, any, heads-any, Avoids, alike-refl, reads_alike, reads_gives, reads_bind, reads_then}
use Rattle.stmt_reader.proofs.RuleTokens.{behind, Leads, reads_keyword, reads_mark, reads_number, reads_choose, takes_keyword, takes_mark, takes_word, mark_only, avoids_means, avoids_keyword, avoids_spelled, avoids_mark, avoids_number, avoids_sequence, avoids_either}
use Rattle.stmt_reader.proofs.RuleLists.{reads_listed}
use Rattle.stmt_reader.proofs.PartRules.{reads_last, avoids_end, reads_name, reads_quoted, reads_flag, reads_value, reads_row, reads_column, reads_source, on_filters, on_aggregates, on_as, reads_bucket, reads_calendar_bucket, reads_grouping}
use Rattle.stmt_reader.proofs.SelectRules.{reads_select_list, avoids_select_list}

-- a rule after an optional one
avoids_through : {A B : Type 0} (test mid : Seen → Bool) (L : Rule A) (M : A → Rule B) (on : Seen → Bool) → Avoids test L mid → ((a : A) → Avoids mid (M a) on) → Avoids test (sequence L M) on
unfolding sequence
avoids_through test mid L M on first second ts b left (us, vs, a, e, l, m) free =
    let x = splits ts us vs e in
    let between = second a x.back b left (subst (λ y. M a y b) (sym x.back-is) m) free in
    let k = first x.front a (onto x.back left) (subst (λ y. L y a) (sym x.front-is) l) between in
    subst (λ y. heads test (onto y left) ≡ false) (sym x.both) (ap (heads test) (onto-append x.front x.back left) ∙ k)

-- ---- folds

-- the rest of a fold after its head
pub reads_fold_behind : (n : ℕ) (own : List ℕ) (b : Head) → Reads n (read.fold_behind own b) (rule.fold_behind own b) none
unfolding read.fold_behind
reads_fold_behind n own b =
    reads_bind n (reads_select_list n)
    (λ list. reads_bind n (reads_source n)
    (λ from. reads_then n (reads_grouping n (head_name own b.name) list.0) (λ _. reads_gives n _))
    (λ from. avoids_sequence _ _ _ _ (avoids_sequence _ _ _ _ (avoids_keyword on_filters kw.Group _ refl))))
    (λ list. avoids_sequence _ _ _ _ (avoids_sequence _ _ _ _ (avoids_keyword on_aggregates kw.From _ refl)))

reads_fold : (n : ℕ) → Reads n read.fold_rest rule.fold none
unfolding read.fold_rest
reads_fold n =
    reads_bind n (reads_bucket n)
    (λ b. reads_fold_behind n bucket_word b)
    (λ b. avoids_sequence _ _ _ _ (avoids_select_list on_as _ refl))

-- ---- CREATE

abbrev table_rule : Rule Stmt
table_rule = sequence rule.name (λ n. behind (is_mark marks.Open) (sequence (rule.list_rule (rule.mark marks.Comma) rule.column) (λ cols. behind (is_mark marks.Close) (means (stmt.Table n cols)))))

reads_table : (n : ℕ) → Reads n read.table_rest table_rule none
unfolding read.table_rest
reads_table n =
    reads_then n (reads_name n) (λ t. reads_then n (reads_mark n marks.Open) (λ _.
    reads_bind n (reads_listed n separators.Comma (mark marks.Comma) refl refl reads_column (mark_only _ marks.Comma refl))
    (λ cols. reads_then n (reads_mark n marks.Close) (λ _. reads_gives n (stmt.Table t cols)))
    (λ cols. avoids_sequence _ _ _ _ (avoids_mark _ marks.Close _ refl))))

reads_setting : (n : ℕ) → Reads n read.mode_setting rule.mode_setting none
unfolding read.mode_setting
reads_setting n =
    reads_then n (reads_keyword n kw.Timescaledb) (λ _. reads_then n (reads_mark n marks.Point) (λ _. reads_then n (reads_keyword n kw.MaterializedOnly) (λ _. reads_then n (reads_mark n marks.Equal) (λ _. reads_flag n))))

abbrev on_affirmed : Seen → Bool
on_affirmed = any (is_mark marks.Equal) (any none none)

reads_affirmed : (n : ℕ) → Reads n read.equals_true rule.equals_true on_affirmed
unfolding read.equals_true
reads_affirmed n = takes_mark n marks.Equal (λ m. reads_keyword m kw.True) (reads_gives n tt) (avoids_means _ _ _)

abbrev on_mode : Seen → Bool
on_mode = any (is_mark marks.Comma) (any none none)

reads_mode : (n : ℕ) → Reads n read.mode rule.mode on_mode
unfolding read.mode
reads_mode n = takes_mark n marks.Comma reads_setting (reads_gives n true) (avoids_means _ _ _)

reads_options : (n : ℕ) → Reads n read.options rule.options none
unfolding read.options
reads_options n =
    reads_then n (reads_mark n marks.Open) (λ _. reads_then n (reads_keyword n kw.Timescaledb) (λ _. reads_then n (reads_mark n marks.Point) (λ _. reads_then n (reads_keyword n kw.Continuous) (λ _.
    reads_bind n (reads_affirmed n)
    (λ _. reads_bind n (reads_mode n)
    (λ only. reads_then n (reads_mark n marks.Close) (λ _. reads_gives n only))
    (λ only. avoids_sequence _ _ _ _ (avoids_mark on_mode marks.Close _ refl)))
    (λ _. avoids_through on_affirmed on_affirmed rule.mode _ none
    (avoids_either on_affirmed _ _ on_affirmed (avoids_sequence _ _ _ _ (avoids_mark on_affirmed marks.Comma _ refl)) (avoids_end on_affirmed true))
    (λ only. avoids_sequence _ _ _ _ (avoids_mark on_affirmed marks.Close _ refl)))))))

abbrev on_filling : Seen → Bool
on_filling = any (is_keyword kw.With) (any (any (is_keyword kw.No) (any none none)) none)

reads_filling : (n : ℕ) → Reads n read.with_data rule.with_data on_filling
unfolding read.with_data
reads_filling n =
    takes_keyword n kw.With
    (λ m. takes_keyword m kw.No (λ k. reads_then k (reads_keyword k kw.Data) (λ _. reads_gives k false)) (reads_then m (reads_keyword m kw.Data) (λ _. reads_gives m true))
    (avoids_sequence _ _ _ _ (avoids_keyword _ kw.Data _ refl)))
    (reads_gives n true) (avoids_means _ _ _)

abbrev view_rule : Rule Stmt
view_rule = behind (is_keyword kw.View) (sequence rule.name (λ n. behind (is_keyword kw.With) (sequence rule.options (λ only. behind (is_keyword kw.As) (behind (is_keyword kw.Select)
    (sequence rule.fold (λ f. sequence rule.with_data (λ filled. means (stmt.View n only filled f)))))))))

reads_view : (n : ℕ) → Reads n read.view_rest view_rule on_filling
unfolding read.view_rest
reads_view n =
    reads_then n (reads_keyword n kw.View) (λ _. reads_then n (reads_name n) (λ v. reads_then n (reads_keyword n kw.With) (λ _. reads_then n (reads_options n) (λ only.
    reads_then n (reads_keyword n kw.As) (λ _. reads_then n (reads_keyword n kw.Select) (λ _. reads_then n (reads_fold n) (λ f.
    reads_last n (λ filled. stmt.View v only filled f) (reads_filling n))))))))

abbrev on_create : Seen → Bool
on_create = any (is_keyword kw.Materialized) (any on_filling none)

abbrev create_rule : Rule Stmt
create_rule = either (behind (is_keyword kw.Materialized) view_rule) (behind (is_keyword kw.Table) table_rule)

reads_create : (n : ℕ) → Reads n read.create_rest create_rule on_create
unfolding read.create_rest
reads_create n = takes_keyword n kw.Materialized reads_view (reads_then n (reads_keyword n kw.Table) (λ _. reads_table n)) (avoids_sequence _ _ _ _ (avoids_keyword _ kw.Table _ refl))

-- ---- ALTER, INSERT, DELETE

abbrev alter_rule : Rule Stmt
alter_rule = behind (is_keyword kw.Materialized) (behind (is_keyword kw.View) (sequence rule.name (λ n. behind (is_keyword kw.Set) (behind (is_mark marks.Open) (sequence rule.mode_setting (λ only. behind (is_mark marks.Close) (means (stmt.Mode n only))))))))

reads_alter : (n : ℕ) → Reads n read.alter_rest alter_rule none
unfolding read.alter_rest
reads_alter n =
    reads_then n (reads_keyword n kw.Materialized) (λ _. reads_then n (reads_keyword n kw.View) (λ _. reads_then n (reads_name n) (λ v. reads_then n (reads_keyword n kw.Set) (λ _. reads_then n (reads_mark n marks.Open) (λ _.
    reads_then n (reads_setting n) (λ only. reads_then n (reads_mark n marks.Close) (λ _. reads_gives n (stmt.Mode v only))))))))

abbrev on_columns : Seen → Bool
on_columns = any (is_mark marks.Open) (any none none)

reads_column_list : (n : ℕ) → Reads n read.column_list rule.column_list on_columns
unfolding read.column_list
reads_column_list n =
    takes_mark n marks.Open
    (λ m. reads_bind m (reads_listed m separators.Comma (mark marks.Comma) refl refl reads_name (mark_only _ marks.Comma refl))
    (λ cs. reads_then m (reads_mark m marks.Close) (λ _. reads_gives m (Some cs)))
    (λ cs. avoids_sequence _ _ _ _ (avoids_mark _ marks.Close _ refl)))
    (reads_gives n None) (avoids_means _ _ _)

abbrev on_rows : Seen → Bool
on_rows = any (parts separators.Comma) none

abbrev insert_rule : Rule Stmt
insert_rule = behind (is_keyword kw.Into) (sequence rule.name (λ n. sequence rule.column_list (λ cols. behind (is_keyword kw.Values) (sequence (rule.list_rule (rule.mark marks.Comma) rule.row) (λ rows. means (stmt.Insert n cols rows))))))

reads_insert : (n : ℕ) → Reads n read.insert_rest insert_rule on_rows
unfolding read.insert_rest
reads_insert n =
    reads_then n (reads_keyword n kw.Into) (λ _. reads_then n (reads_name n) (λ t.
    reads_bind n (reads_column_list n)
    (λ cols. reads_then n (reads_keyword n kw.Values) (λ _. reads_last n (stmt.Insert t cols) (reads_listed n separators.Comma (mark marks.Comma) refl refl reads_row (mark_only _ marks.Comma refl))))
    (λ cols. avoids_sequence _ _ _ _ (avoids_keyword on_columns kw.Values _ refl))))

reads_delete : (n : ℕ) → Reads n read.delete_rest (sequence rule.source (λ s. means (stmt.Delete s.0 s.1))) on_filters
unfolding read.delete_rest
reads_delete n = reads_last n (λ s. stmt.Delete s.0 s.1) (reads_source n)

-- ---- SELECT

abbrev hyper_rule : Rule Stmt
hyper_rule = behind (is_mark marks.Open) (sequence rule.quoted_name (λ n. behind (is_mark marks.Comma) (sequence rule.quoted_name (λ c. behind (is_mark marks.Comma) (behind (is_keyword kw.ChunkTimeInterval) (behind (is_mark marks.Arrow)
    (sequence rule.number (λ z. behind (is_mark marks.Close) (means (stmt.Hyper n c z))))))))))

reads_hyper : (n : ℕ) → Reads n read.hyper_rest hyper_rule none
unfolding read.hyper_rest
reads_hyper n =
    reads_then n (reads_mark n marks.Open) (λ _. reads_then n (reads_quoted n) (λ t. reads_then n (reads_mark n marks.Comma) (λ _. reads_then n (reads_quoted n) (λ c. reads_then n (reads_mark n marks.Comma) (λ _.
    reads_then n (reads_keyword n kw.ChunkTimeInterval) (λ _. reads_then n (reads_mark n marks.Arrow) (λ _. reads_then n (reads_number n) (λ z. reads_then n (reads_mark n marks.Close) (λ _. reads_gives n (stmt.Hyper t c z))))))))))

abbrev on_older : Seen → Bool
on_older = any (is_keyword kw.OlderThan) (any none none)

reads_older_than : (n : ℕ) → Reads n read.older_than rule.older_than on_older
unfolding read.older_than
reads_older_than n = takes_keyword n kw.OlderThan (λ m. reads_mark m marks.Arrow) (reads_gives n tt) (avoids_means _ _ _)

abbrev drop_rule : Rule Stmt
drop_rule = behind (is_mark marks.Open) (sequence rule.quoted_name (λ n. behind (is_mark marks.Comma) (sequence rule.older_than (λ _. sequence rule.number (λ z. behind (is_mark marks.Close) (means (stmt.Drop n z)))))))

reads_drop : (n : ℕ) → Reads n read.drop_rest drop_rule none
unfolding read.drop_rest
reads_drop n =
    reads_then n (reads_mark n marks.Open) (λ _. reads_then n (reads_quoted n) (λ t. reads_then n (reads_mark n marks.Comma) (λ _.
    reads_bind n (reads_older_than n)
    (λ _. reads_then n (reads_number n) (λ z. reads_then n (reads_mark n marks.Close) (λ _. reads_gives n (stmt.Drop t z))))
    (λ _. avoids_sequence _ _ _ _ (avoids_number on_older _ (λ o. refl))))))

reads_rows : (n : ℕ) → Reads n read.rows_rest (sequence rule.source (λ s. means (stmt.Rows s.0 s.1))) on_filters
unfolding read.rows_rest
reads_rows n = reads_last n (λ s. stmt.Rows s.0 s.1) (reads_source n)

abbrev fold_rule : Rule Stmt
fold_rule = sequence rule.fold (λ f. means (stmt.Buckets f))

avoids_fold : (test on : Seen → Bool) → test (scan.word (codes "time_bucket")) ≡ false → Avoids test fold_rule on
avoids_fold test on h = avoids_sequence _ _ _ _ (avoids_sequence _ _ _ _ (avoids_sequence _ _ _ _ (avoids_keyword test kw.TimeBucket _ h)))

abbrev calendar_rule : Rule Stmt
calendar_rule = sequence rule.calendar_bucket (λ h. sequence (rule.fold_behind calendar_word h.head) (λ f. means (stmt.Calendar h.number h.unit f)))

reads_calendar : (n : ℕ) → Reads n read.calendar_rest calendar_rule none
unfolding read.calendar_rest
reads_calendar n =
    reads_bind n (reads_calendar_bucket n)
    (λ h. reads_last n (stmt.Calendar h.number h.unit) (reads_fold_behind n calendar_word h.head))
    (λ h. avoids_sequence _ _ _ _ (avoids_sequence _ _ _ _ (avoids_select_list on_as _ refl)))

abbrev either_fold : Rule Stmt
either_fold = either (behind (is_spelled calendar_word) calendar_rule) fold_rule

avoids_either_fold : (test on : Seen → Bool) → test (scan.word calendar_word) ≡ false → test (scan.word (codes "time_bucket")) ≡ false → Avoids test either_fold on
avoids_either_fold test on h k = avoids_either _ _ _ _ (avoids_sequence _ _ _ _ (avoids_spelled test calendar_word _ h)) (avoids_fold test on k)

abbrev on_calendar : Seen → Bool
on_calendar = any (is_spelled calendar_word) (any none none)

abbrev on_star : Seen → Bool
on_star = any (is_mark marks.Star) (any on_filters on_calendar)

abbrev on_drop : Seen → Bool
on_drop = any (is_keyword kw.DropChunks) (any none on_star)

abbrev on_select : Seen → Bool
on_select = any (is_keyword kw.CreateHypertable) (any none on_drop)

abbrev select_rule : Rule Stmt
select_rule =
    either (behind (is_keyword kw.CreateHypertable) hyper_rule)
    (either (behind (is_keyword kw.DropChunks) drop_rule)
    (either (behind (is_mark marks.Star) (sequence rule.source (λ s. means (stmt.Rows s.0 s.1)))) either_fold))

reads_select : (n : ℕ) → Reads n read.select_rest select_rule on_select
unfolding read.select_rest
reads_select n =
    takes_keyword n kw.CreateHypertable reads_hyper
    (takes_keyword n kw.DropChunks reads_drop
    (takes_mark n marks.Star reads_rows
    (takes_word n calendar_word reads_calendar (reads_last n stmt.Buckets (reads_fold n)) (avoids_fold _ _ refl))
    (avoids_either_fold _ _ refl refl))
    (avoids_either _ _ _ _ (avoids_sequence _ _ _ _ (avoids_mark _ marks.Star _ refl)) (avoids_either_fold _ _ refl refl)))
    (avoids_either _ _ _ _ (avoids_sequence _ _ _ _ (avoids_keyword _ kw.DropChunks _ refl)) (avoids_either _ _ _ _ (avoids_sequence _ _ _ _ (avoids_mark _ marks.Star _ refl)) (avoids_either_fold _ _ refl refl)))

-- ---- CALL and REFRESH

abbrev on_value : Seen → Bool
on_value = any (is_keyword kw.Null) (any none none)

reads_window : (n : ℕ) → Reads n read.window rule.window on_value
unfolding read.window
reads_window n =
    reads_then n (reads_quoted n) (λ v. reads_then n (reads_mark n marks.Comma) (λ _.
    reads_bind n (reads_value n)
    (λ lo. reads_then n (reads_mark n marks.Comma) (λ _. reads_last n (λ hi. record { view = v; lo = lo; hi = hi }) (reads_value n)))
    (λ lo. avoids_sequence _ _ _ _ (avoids_mark on_value marks.Comma _ refl))))

abbrev call_rule : Rule Stmt
call_rule = behind (is_keyword kw.RefreshContinuousAggregate) (behind (is_mark marks.Open) (sequence rule.window (λ w. behind (is_mark marks.Close) (means (stmt.Refresh w.view w.lo w.hi)))))

reads_call : (n : ℕ) → Reads n read.call_rest call_rule none
unfolding read.call_rest
reads_call n =
    reads_then n (reads_keyword n kw.RefreshContinuousAggregate) (λ _. reads_then n (reads_mark n marks.Open) (λ _.
    reads_bind n (reads_window n)
    (λ w. reads_then n (reads_mark n marks.Close) (λ _. reads_gives n (stmt.Refresh w.view w.lo w.hi)))
    (λ w. avoids_sequence _ _ _ _ (avoids_mark on_value marks.Close _ refl))))

abbrev on_chosen : Seen → Bool
on_chosen = any is_number (any none none)

leads_number : Leads is_number (sequence rule.number (λ z. means (Some z)))
unfolding sequence rule.number
leads_number ts a left (us, vs, z, e, k, m) = number_first ts z vs left (e ∙ ap (λ x. x ++ vs) k)
  where
    number_first : (ts : List Placed) (z : ℤ) (vs : List Token) (left : Stream) → plain ts ≡ number z ∷ vs → heads is_number (onto ts left) ≡ true
    number_first [] z vs left e = absurd cc
    number_first (x ∷ xs) z vs left e = let h : x.token ≡ number z = cc in ap (λ y. is_number (seen_token y)) h

reads_chosen : (n : ℕ) → Reads n read.optional_number rule.optional_number on_chosen
unfolding read.optional_number
reads_chosen n = reads_choose n is_number (reads_last n Some (reads_number n)) (reads_gives n None) leads_number (avoids_means _ _ _)

abbrev cut_rule : Rule Stmt
cut_rule = sequence rule.window (λ w. means (stmt.Cut w.view w.lo w.hi))

abbrev snap_rule : Rule Stmt
snap_rule = sequence rule.optional_number (λ c. means (stmt.Snap c))

abbrev finish_rule : Rule Stmt
finish_rule = sequence rule.optional_number (λ c. means (stmt.Finish c))

abbrev refresh_rule : Rule Stmt
refresh_rule = either (behind (is_keyword kw.Cut) cut_rule) (either (behind (is_keyword kw.Snap) snap_rule) (behind (is_keyword kw.Finish) finish_rule))

abbrev on_snap : Seen → Bool
on_snap = any (is_keyword kw.Snap) (any on_chosen on_chosen)

abbrev on_refresh : Seen → Bool
on_refresh = any (is_keyword kw.Cut) (any on_value on_snap)

reads_refresh : (n : ℕ) → Reads n read.refresh_rest refresh_rule on_refresh
unfolding read.refresh_rest
reads_refresh n =
    takes_keyword n kw.Cut (λ m. reads_last m (λ w. stmt.Cut w.view w.lo w.hi) (reads_window m))
    (takes_keyword n kw.Snap (λ m. reads_last m stmt.Snap (reads_chosen m))
    (reads_then n (reads_keyword n kw.Finish) (λ _. reads_last n stmt.Finish (reads_chosen n)))
    (avoids_sequence _ _ _ _ (avoids_keyword _ kw.Finish _ refl)))
    (avoids_either _ _ _ _ (avoids_sequence _ _ _ _ (avoids_keyword _ kw.Snap _ refl)) (avoids_sequence _ _ _ _ (avoids_keyword _ kw.Finish _ refl)))

-- ---- BEGIN, COMMIT, ROLLBACK

abbrev on_begin : Seen → Bool
on_begin = any (is_keyword kw.Read) (any none none)

abbrev begin_rule : Rule Stmt
begin_rule = either (behind (is_keyword kw.Read) (behind (is_keyword kw.Only) (means stmt.BeginRead))) (means stmt.Begin)

reads_begin : (n : ℕ) → Reads n read.begin_rest begin_rule on_begin
unfolding read.begin_rest
reads_begin n = takes_keyword n kw.Read (λ m. reads_then m (reads_keyword m kw.Only) (λ _. reads_gives m stmt.BeginRead)) (reads_gives n stmt.Begin) (avoids_means _ _ _)

abbrev end_rule : Rule Stmt
end_rule = either (behind (is_keyword kw.Commit) (means stmt.Commit)) (behind (is_keyword kw.Rollback) (means stmt.Rollback))

abbrev block_rule : Rule Stmt
block_rule = either (behind (is_keyword kw.Begin) begin_rule) end_rule

abbrev on_block : Seen → Bool
on_block = any (is_keyword kw.Begin) (any on_begin (any (is_keyword kw.Commit) (any none none)))

reads_block : (n : ℕ) → Reads n read.block block_rule on_block
unfolding read.block
reads_block n =
    takes_keyword n kw.Begin reads_begin
    (takes_keyword n kw.Commit (λ m. reads_gives m stmt.Commit) (reads_then n (reads_keyword n kw.Rollback) (λ _. reads_gives n stmt.Rollback)) (avoids_sequence _ _ _ _ (avoids_keyword _ kw.Rollback _ refl)))
    (avoids_either _ _ _ _ (avoids_sequence _ _ _ _ (avoids_keyword _ kw.Commit _ refl)) (avoids_sequence _ _ _ _ (avoids_keyword _ kw.Rollback _ refl)))

avoids_block : (test on : Seen → Bool) → test (scan.word (codes "begin")) ≡ false → test (scan.word (codes "commit")) ≡ false → test (scan.word (codes "rollback")) ≡ false → Avoids test block_rule on
avoids_block test on a b c =
    avoids_either _ _ _ _ (avoids_sequence _ _ _ _ (avoids_keyword test kw.Begin _ a)) (avoids_either _ _ _ _ (avoids_sequence _ _ _ _ (avoids_keyword test kw.Commit _ b)) (avoids_sequence _ _ _ _ (avoids_keyword test kw.Rollback _ c)))

-- ---- all of them

abbrev from_refresh : Rule Stmt
from_refresh = either (behind (is_keyword kw.Refresh) refresh_rule) block_rule

abbrev from_call : Rule Stmt
from_call = either (behind (is_keyword kw.Call) call_rule) from_refresh

abbrev from_delete : Rule Stmt
from_delete = either (behind (is_keyword kw.Delete) (sequence rule.source (λ s. means (stmt.Delete s.0 s.1)))) from_call

abbrev from_insert : Rule Stmt
from_insert = either (behind (is_keyword kw.Insert) insert_rule) from_delete

abbrev from_alter : Rule Stmt
from_alter = either (behind (is_keyword kw.Alter) alter_rule) from_insert

abbrev from_select : Rule Stmt
from_select = either (behind (is_keyword kw.Select) select_rule) from_alter

abbrev form_rule : Rule Stmt
form_rule = either (behind (is_keyword kw.Create) create_rule) from_select

avoids_from_refresh : (test on : Seen → Bool) → test (scan.word (codes "refresh")) ≡ false → Avoids test block_rule on → Avoids test from_refresh on
avoids_from_refresh test on h rest = avoids_either _ _ _ _ (avoids_sequence _ _ _ _ (avoids_keyword test kw.Refresh _ h)) rest

avoids_from_call : (test on : Seen → Bool) → test (scan.word (codes "call")) ≡ false → Avoids test from_refresh on → Avoids test from_call on
avoids_from_call test on h rest = avoids_either _ _ _ _ (avoids_sequence _ _ _ _ (avoids_keyword test kw.Call _ h)) rest

avoids_from_delete : (test on : Seen → Bool) → test (scan.word (codes "delete")) ≡ false → Avoids test from_call on → Avoids test from_delete on
avoids_from_delete test on h rest = avoids_either _ _ _ _ (avoids_sequence _ _ _ _ (avoids_keyword test kw.Delete _ h)) rest

avoids_from_insert : (test on : Seen → Bool) → test (scan.word (codes "insert")) ≡ false → Avoids test from_delete on → Avoids test from_insert on
avoids_from_insert test on h rest = avoids_either _ _ _ _ (avoids_sequence _ _ _ _ (avoids_keyword test kw.Insert _ h)) rest

avoids_from_alter : (test on : Seen → Bool) → test (scan.word (codes "alter")) ≡ false → Avoids test from_insert on → Avoids test from_alter on
avoids_from_alter test on h rest = avoids_either _ _ _ _ (avoids_sequence _ _ _ _ (avoids_keyword test kw.Alter _ h)) rest

avoids_from_select : (test on : Seen → Bool) → test (scan.word (codes "select")) ≡ false → Avoids test from_alter on → Avoids test from_select on
avoids_from_select test on h rest = avoids_either _ _ _ _ (avoids_sequence _ _ _ _ (avoids_keyword test kw.Select _ h)) rest

abbrev on_from_refresh : Seen → Bool
on_from_refresh = any (is_keyword kw.Refresh) (any on_refresh on_block)

reads_from_refresh : (n : ℕ) → Reads n (read.takes (is_keyword kw.Refresh) read.refresh_rest read.block) from_refresh on_from_refresh
reads_from_refresh n = takes_keyword n kw.Refresh reads_refresh (reads_block n) (avoids_block _ _ refl refl refl)

abbrev on_from_call : Seen → Bool
on_from_call = any (is_keyword kw.Call) (any none on_from_refresh)

reads_from_call : (n : ℕ) → Reads n (read.takes (is_keyword kw.Call) read.call_rest (read.takes (is_keyword kw.Refresh) read.refresh_rest read.block)) from_call on_from_call
reads_from_call n = takes_keyword n kw.Call reads_call (reads_from_refresh n) (avoids_from_refresh _ _ refl (avoids_block _ _ refl refl refl))

abbrev on_from_delete : Seen → Bool
on_from_delete = any (is_keyword kw.Delete) (any on_filters on_from_call)

abbrev on_from_insert : Seen → Bool
on_from_insert = any (is_keyword kw.Insert) (any on_rows on_from_delete)

abbrev on_from_alter : Seen → Bool
on_from_alter = any (is_keyword kw.Alter) (any none on_from_insert)

abbrev on_from_select : Seen → Bool
on_from_select = any (is_keyword kw.Select) (any on_select on_from_alter)

abbrev pub on_form : Seen → Bool
on_form = any (is_keyword kw.Create) (any on_create on_from_select)

reads_form_rule : (n : ℕ) → Reads n read.form form_rule on_form
unfolding read.form
reads_form_rule n =
    takes_keyword n kw.Create reads_create
    (takes_keyword n kw.Select reads_select
    (takes_keyword n kw.Alter reads_alter
    (takes_keyword n kw.Insert reads_insert
    (takes_keyword n kw.Delete reads_delete (reads_from_call n) (avoids_from_call _ _ refl (avoids_from_refresh _ _ refl (avoids_block _ _ refl refl refl))))
    (avoids_from_delete _ _ refl (avoids_from_call _ _ refl (avoids_from_refresh _ _ refl (avoids_block _ _ refl refl refl)))))
    (avoids_from_insert _ _ refl (avoids_from_delete _ _ refl (avoids_from_call _ _ refl (avoids_from_refresh _ _ refl (avoids_block _ _ refl refl refl))))))
    (avoids_from_alter _ _ refl (avoids_from_insert _ _ refl (avoids_from_delete _ _ refl (avoids_from_call _ _ refl (avoids_from_refresh _ _ refl (avoids_block _ _ refl refl refl)))))))
    (avoids_from_select _ _ refl (avoids_from_alter _ _ refl (avoids_from_insert _ _ refl (avoids_from_delete _ _ refl (avoids_from_call _ _ refl (avoids_from_refresh _ _ refl (avoids_block _ _ refl refl refl)))))))

-- ---- the forms as they are in the grammar

form_to : (ts : List Token) (a : Stmt) → form_rule ts a → rule.form ts a
unfolding rule.form sequence either
form_to ts a (inl (us, vs, u, e, k, inl m)) = inr (inr (inl (us, vs, u, e, k, m)))
form_to ts a (inl (us, vs, u, e, k, inr m)) = inl (us, vs, u, e, k, m)
form_to ts a (inr (inl (us, vs, u, e, k, inl m))) = inr (inl (us, vs, u, e, k, m))
form_to ts a (inr (inl (us, vs, u, e, k, inr (inl m)))) = inr (inr (inr (inr (inr (inr (inl (us, vs, u, e, k, m)))))))
form_to ts a (inr (inl (us, vs, u, e, k, inr (inr (inl m))))) = inr (inr (inr (inr (inr (inr (inr (inr (inr (inr (inr (inr (inr (inr (inr (inr (inr (us, vs, u, e, k, m)))))))))))))))))
form_to ts a (inr (inl (us, vs, u, e, k, inr (inr (inr (inl m)))))) = inr (inr (inr (inr (inr (inr (inr (inr (inr (inr (inr (inr (inr (inr (inr (inr (inl (us, vs, u, e, k, m)))))))))))))))))
form_to ts a (inr (inl (us, vs, u, e, k, inr (inr (inr (inr m)))))) = inr (inr (inr (inr (inr (inr (inr (inr (inr (inr (inr (inr (inr (inr (inr (inl (us, vs, u, e, k, m))))))))))))))))
form_to ts a (inr (inr (inl m))) = inr (inr (inr (inl m)))
form_to ts a (inr (inr (inr (inl m)))) = inr (inr (inr (inr (inl m))))
form_to ts a (inr (inr (inr (inr (inl m))))) = inr (inr (inr (inr (inr (inl m)))))
form_to ts a (inr (inr (inr (inr (inr (inl m)))))) = inr (inr (inr (inr (inr (inr (inr (inl m)))))))
form_to ts a (inr (inr (inr (inr (inr (inr (inl (us, vs, u, e, k, inl m)))))))) = inr (inr (inr (inr (inr (inr (inr (inr (inl (us, vs, u, e, k, m)))))))))
form_to ts a (inr (inr (inr (inr (inr (inr (inl (us, vs, u, e, k, inr (inl m))))))))) = inr (inr (inr (inr (inr (inr (inr (inr (inr (inl (us, vs, u, e, k, m))))))))))
form_to ts a (inr (inr (inr (inr (inr (inr (inl (us, vs, u, e, k, inr (inr m))))))))) = inr (inr (inr (inr (inr (inr (inr (inr (inr (inr (inl (us, vs, u, e, k, m)))))))))))
form_to ts a (inr (inr (inr (inr (inr (inr (inr (inl (us, vs, u, e, k, inl m))))))))) = inr (inr (inr (inr (inr (inr (inr (inr (inr (inr (inr (inr (inl (us, vs, u, e, k, m)))))))))))))
form_to ts a (inr (inr (inr (inr (inr (inr (inr (inl (us, vs, u, e, k, inr m))))))))) = inr (inr (inr (inr (inr (inr (inr (inr (inr (inr (inr (inl (us, vs, u, e, k, m))))))))))))
form_to ts a (inr (inr (inr (inr (inr (inr (inr (inr (inl m))))))))) = inr (inr (inr (inr (inr (inr (inr (inr (inr (inr (inr (inr (inr (inl m)))))))))))))
form_to ts a (inr (inr (inr (inr (inr (inr (inr (inr (inr m))))))))) = inr (inr (inr (inr (inr (inr (inr (inr (inr (inr (inr (inr (inr (inr (inl m))))))))))))))

form_back : (ts : List Token) (a : Stmt) → rule.form ts a → form_rule ts a
unfolding rule.form sequence either
form_back ts a (inl (us, vs, u, e, k, m)) = inl (us, vs, u, e, k, inr m)
form_back ts a (inr (inl (us, vs, u, e, k, m))) = inr (inl (us, vs, u, e, k, inl m))
form_back ts a (inr (inr (inl (us, vs, u, e, k, m)))) = inl (us, vs, u, e, k, inl m)
form_back ts a (inr (inr (inr (inl m)))) = inr (inr (inl m))
form_back ts a (inr (inr (inr (inr (inl m))))) = inr (inr (inr (inl m)))
form_back ts a (inr (inr (inr (inr (inr (inl m)))))) = inr (inr (inr (inr (inl m))))
form_back ts a (inr (inr (inr (inr (inr (inr (inl (us, vs, u, e, k, m)))))))) = inr (inl (us, vs, u, e, k, inr (inl m)))
form_back ts a (inr (inr (inr (inr (inr (inr (inr (inl m)))))))) = inr (inr (inr (inr (inr (inl m)))))
form_back ts a (inr (inr (inr (inr (inr (inr (inr (inr (inl (us, vs, u, e, k, m)))))))))) = inr (inr (inr (inr (inr (inr (inl (us, vs, u, e, k, inl m)))))))
form_back ts a (inr (inr (inr (inr (inr (inr (inr (inr (inr (inl (us, vs, u, e, k, m))))))))))) = inr (inr (inr (inr (inr (inr (inl (us, vs, u, e, k, inr (inl m))))))))
form_back ts a (inr (inr (inr (inr (inr (inr (inr (inr (inr (inr (inl (us, vs, u, e, k, m)))))))))))) = inr (inr (inr (inr (inr (inr (inl (us, vs, u, e, k, inr (inr m))))))))
form_back ts a (inr (inr (inr (inr (inr (inr (inr (inr (inr (inr (inr (inl (us, vs, u, e, k, m))))))))))))) = inr (inr (inr (inr (inr (inr (inr (inl (us, vs, u, e, k, inr m))))))))
form_back ts a (inr (inr (inr (inr (inr (inr (inr (inr (inr (inr (inr (inr (inl (us, vs, u, e, k, m)))))))))))))) = inr (inr (inr (inr (inr (inr (inr (inl (us, vs, u, e, k, inl m))))))))
form_back ts a (inr (inr (inr (inr (inr (inr (inr (inr (inr (inr (inr (inr (inr (inl m)))))))))))))) = inr (inr (inr (inr (inr (inr (inr (inr (inl m))))))))
form_back ts a (inr (inr (inr (inr (inr (inr (inr (inr (inr (inr (inr (inr (inr (inr (inl m))))))))))))))) = inr (inr (inr (inr (inr (inr (inr (inr (inr m))))))))
form_back ts a (inr (inr (inr (inr (inr (inr (inr (inr (inr (inr (inr (inr (inr (inr (inr (inl (us, vs, u, e, k, m))))))))))))))))) = inr (inl (us, vs, u, e, k, inr (inr (inr (inr m)))))
form_back ts a (inr (inr (inr (inr (inr (inr (inr (inr (inr (inr (inr (inr (inr (inr (inr (inr (inl (us, vs, u, e, k, m)))))))))))))))))) = inr (inl (us, vs, u, e, k, inr (inr (inr (inl m)))))
form_back ts a (inr (inr (inr (inr (inr (inr (inr (inr (inr (inr (inr (inr (inr (inr (inr (inr (inr (us, vs, u, e, k, m)))))))))))))))))) = inr (inl (us, vs, u, e, k, inr (inr (inl m))))

pub reads_form : (n : ℕ) → Reads n read.form rule.form on_form
reads_form n = reads_alike n read.form read.form form_rule rule.form on_form on_form (λ s. refl) (record { to = form_to; back = form_back }) (λ s h. h) (reads_form_rule n)

-- ---- with a semicolon

abbrev on_semicolon : Seen → Bool
on_semicolon = any (is_mark marks.Semicolon) (any none none)

reads_semicolon : (n : ℕ) → Reads n read.semicolon rule.semicolon on_semicolon
unfolding read.semicolon
reads_semicolon n = takes_mark n marks.Semicolon (λ m. reads_gives m tt) (reads_gives n tt) (avoids_means _ _ _)

-- the tokens that may continue a statement
abbrev pub on_statement : Seen → Bool
on_statement = any on_form on_semicolon

-- a statement with its semicolon
abbrev pub whole : read.Parser Stmt
whole = read.bind read.form (λ a. read.bind read.semicolon (λ _. read.gives a))

heads_first : (s : Stream) → heads on_statement s ≡ false → heads on_form s ≡ false
heads_first s e = (heads-any on_form on_semicolon s e).0

heads_second : (s : Stream) → heads on_statement s ≡ false → heads on_semicolon s ≡ false
heads_second s e = (heads-any on_form on_semicolon s e).1

avoids_semicolon : (a : Stmt) → Avoids on_form (sequence rule.semicolon (λ _. means a)) on_statement
avoids_semicolon a =
    avoids_through on_form on_form rule.semicolon (λ _. means a) on_statement
    (avoids_either on_form _ _ on_form (avoids_sequence _ _ _ _ (avoids_mark on_form marks.Semicolon _ refl)) (avoids_end on_form tt))
    (λ _ ts b left m free. avoids_end on_form a ts b left m (heads_first left free))

pub reads_whole : (n : ℕ) → Reads n whole rule.statement on_statement
unfolding rule.statement
reads_whole n =
    reads_bind n (reads_form n)
    (λ a. reads_alike n (read.bind read.semicolon (λ _. read.gives a)) (read.bind read.semicolon (λ _. read.gives a)) (sequence rule.semicolon (λ _. means a)) (sequence rule.semicolon (λ _. means a)) on_semicolon on_statement
    (λ s. refl) (alike-refl _) heads_second (reads_last n (λ _. a) (reads_semicolon n)))
    avoids_semicolon
