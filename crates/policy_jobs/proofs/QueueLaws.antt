-- What is queued in the write block of a session: the session itself sees it as if it were committed, and no other does.
use Rattle.std.proofs.Common.{◌≡◌, ◌∙◌, ℕ, Bool, true, false, cond, ℤ, List, [], ◌∷◌, ◌++◌, append-nil, length, map, take, Option, Some, None, refl, sym, ap, subst}
use Rattle.std.specs.Prelude.{nat_le, not, unwrap_or}
use Rattle.std.proofs.lemmas.Bool.{le-ltb, true≢false}
use Rattle.ts_model.specs.declared.events.Op.{Op}
use Rattle.ts_model.specs.declared.outcomes.Refusal.{Refusal}
use Rattle.ts_model.specs.declared.queries.Answer.{Answer}
use Rattle.ts_model.specs.declared.queries.Query.{Query}
use Rattle.ts_model.specs.declared.queries.Query.TheVariants as queries
use Rattle.ts_model.specs.declared.rosters.Roster.{Roster}
use Rattle.ts_model.specs.declared.views.ViewDef.{ViewDef}
use Rattle.ts_model.specs.Answers.{answer, with_queue}
use Rattle.ts_model.specs.History.{History, position}
use Rattle.ts_model.specs.Limits.{most_columns}
use Rattle.ts_model.specs.Numbers.{bad_rollup, bad_width, line_long, no_column, too_many}
use Rattle.ts_model.specs.Roster.{roster}
use Rattle.ts_schema.specs.Counts.{raised_by}
use Rattle.ts_catalog.specs.Columns.{view_column_of}
use Rattle.ts_catalog.specs.Relations.{found_in}
use Rattle.ts_catalog.specs.declared.relations.Found.{Found}
use Rattle.ts_catalog.specs.declared.relations.Found.TheVariants as found
use Rattle.stmt_syntax.specs.Limits.{longest_line}
use Rattle.stmt_syntax.specs.declared.statements.NamedAgg.{NamedAgg}
use Rattle.stmt_syntax.specs.declared.statements.NamedFold.{NamedFold}
use Rattle.stmt_syntax.specs.declared.statements.NamedTest.{NamedTest}
use Rattle.stmt_syntax.specs.declared.statements.Stmt.{Stmt}
use Rattle.stmt_syntax.specs.declared.statements.Stmt.TheVariants as stmts
use Rattle.stmt_tokens.specs.Lines.{line_kind, session_name}
use Rattle.stmt_tokens.specs.Streams.{stream}
use Rattle.stmt_reader.specs.Reading.{statement}
use Rattle.stmt_check.specs.Check.{action_of, refusal_of, rows_query, table_at, time_of}
use Rattle.stmt_check.specs.Folds.{calendar_of, columns_before, fold_of, is_shift, is_step, output_count, unit_count}
use Rattle.stmt_check.specs.Queries.{is_bucket_column}
use Rattle.stmt_check.specs.Refusals.{◌⊳◌, marked_refusal, number_of, refusal_if_none}
use Rattle.stmt_check.specs.declared.actions.Action.TheVariants as actions
use Rattle.stmt_check.proofs.LaterLaws.{refused_at_none}
use Rattle.hier_agg.specs.Reads.{fold_read, plan_of as upper_plan_of, read_as, upper_read, view_numbered}
use Rattle.hier_agg.specs.Refusals.{agg_named, agg_refusal, aggs_refusal, argument_refusal, divides_evenly, key_named, key_refusal, keys_refusal, tests_refusal, upper_refusal, width_refusal}
use Rattle.hier_agg.specs.declared.plans.UpperPlan.{UpperPlan}
use Rattle.hier_agg.specs.declared.reads.UpperRead.TheVariants as uppers
use Rattle.ts_num.specs.declared.values.Fun.{Fun}
use Rattle.result_text.specs.Replies.{reply_text}
use Rattle.result_text.specs.declared.replies.Said.{Said}
use Rattle.result_text.specs.declared.replies.Said.TheVariants as said
use Rattle.ts_sessions.specs.declared.kinds.StatementKind.TheVariants.{Asks}
use Rattle.ts_sessions.specs.declared.queries.Plan.{Plan}
use Rattle.ts_sessions.specs.Places.{Block, Places, Turn, enters, none, refuses, writing}
use Rattle.ts_sessions.specs.Procedures.{Procedure, ends, ending_as}
use Rattle.ts_sessions.specs.Script.{LineResult, ScriptState, executes, executes_as, executes_kind, has_fault, places_of, refused_line, takes_turn, text_of}
use Rattle.ts_sessions.specs.Step.{acts, answers, as_read, block_refusal, calendar_plan, in_form, kind_of, makes_event, named_as, named_first, named_here, passes_block, plan_of, refusal_outside, refusal_writing, roll_up_plan, step, turn_of_names, unit_of, unless}
use Rattle.ts_sessions.specs.Walks.{end_of_walk}
use Rattle.policy_jobs.specs.Laws.{policy_sessions}
use Rattle.policy_jobs.specs.Queues.{AnswersAlike, IsQueryLine, OthersSeeNoQueue, QueriesShowTheQueue, ShowsAlike, after_commit, in_block}
use Rattle.policy_jobs.specs.Reading.{statement as policy_statement}
use Rattle.policy_jobs.specs.Turns.{PolicyPlaces, beside, policy_does, reads_as}
use Rattle.policy_jobs.specs.Words.{begins}
use Rattle.policy_jobs.proofs.AloneLaws.{ending_then}
use Rattle.policy_jobs.proofs.OtherLines.{IsStatement, statements_begin_otherwise}
use Rattle.policy_jobs.proofs.PlaceLaws.{found as placed, lines_see_their_own_places}

-- ---- a roll-up that isn't refused at one position is refused at none

again : (p q code mark : ℕ) (wrong : Bool) → marked_refusal p code mark wrong ≡ None → marked_refusal q code mark wrong ≡ None
again p q code mark true e = absurd cc
again p q code mark false e = refl

there_again : {T : Type 0} (p q code : ℕ) (o : Option T) → refusal_if_none p code o ≡ None → refusal_if_none q code o ≡ None
there_again p q code None e = absurd cc
there_again p q code (Some t) e = refl

both_again : (a b c d : Option Refusal) → (a ≡ None → c ≡ None) → (b ≡ None → d ≡ None) → (a ⊳ b) ≡ None → (c ⊳ d) ≡ None
both_again None b c d f g e = ap (λ x. x ⊳ d) (f refl) ∙ g e
both_again (Some r) b c d f g e = absurd cc

width_again : (p q : ℕ) (def : ViewDef) (f : NamedFold) → width_refusal p def f ≡ None → width_refusal q def f ≡ None
width_again p q def f e =
    both_again _ _ _ _ (again p q bad_width 0 (not (is_step f.step)))
    (both_again _ _ _ _ (again p q bad_width 0 (not (divides_evenly f.step def.fold.width.step)))
    (both_again _ _ _ _ (again p q no_column 0 (not (is_bucket_column (view_column_of def f.at))))
    (both_again _ _ _ _ (again p q bad_width 0 (not (is_shift f.step f.shift))) (again p q bad_width 0 _)))) e

key_again : (p q : ℕ) (def : ViewDef) (count others : ℕ) (name : List ℕ) → key_refusal p def count others name ≡ None → key_refusal q def count others name ≡ None
key_again p q def count others name e = both_again _ _ _ _ (there_again p q no_column (key_named def name)) (again p q too_many count (nat_le most_columns others)) e

keys_again : (p q : ℕ) (def : ViewDef) (count others : ℕ) (names : List (List ℕ)) → keys_refusal p def count others names ≡ None → keys_refusal q def count others names ≡ None
keys_again p q def count others [] e = refl
keys_again p q def count others (k ∷ names) e = both_again _ _ _ _ (key_again p q def count others k) (keys_again p q def count (raised_by 1 others) names) e

argument_again : (p q : ℕ) (def : ViewDef) (fun : Fun) (o : Option (List ℕ)) → argument_refusal p def fun o ≡ None → argument_refusal q def fun o ≡ None
argument_again p q def fun None e = again p q bad_rollup 0 true e
argument_again p q def fun (Some name) e = both_again _ _ _ _ (there_again p q no_column (agg_named def name)) (again p q bad_rollup 0 _) e

agg_again : (p q : ℕ) (def : ViewDef) (count others : ℕ) (a : NamedAgg) → agg_refusal p def count others a ≡ None → agg_refusal q def count others a ≡ None
agg_again p q def count others a e = both_again _ _ _ _ (again p q too_many count (nat_le most_columns others)) (argument_again p q def a.fun a.col) e

aggs_again : (p q : ℕ) (def : ViewDef) (count others : ℕ) (aggs : List NamedAgg) → aggs_refusal p def count others aggs ≡ None → aggs_refusal q def count others aggs ≡ None
aggs_again p q def count others [] e = refl
aggs_again p q def count others (a ∷ aggs) e = both_again _ _ _ _ (agg_again p q def count others a) (aggs_again p q def count (raised_by 1 others) aggs) e

tests_again : (p q : ℕ) (def : ViewDef) (tests : List NamedTest) → tests_refusal p def tests ≡ None → tests_refusal q def tests ≡ None
tests_again p q def [] e = refl
tests_again p q def (t ∷ tests) e = both_again _ _ _ _ (there_again p q no_column (key_named def t.col)) (tests_again p q def tests) e

upper_again : (p q : ℕ) (def : ViewDef) (f : NamedFold) → upper_refusal p def f ≡ None → upper_refusal q def f ≡ None
upper_again p q def f e =
    both_again _ _ _ _ (width_again p q def f)
    (both_again _ _ _ _ (keys_again p q def (output_count f) 1 f.keys)
    (both_again _ _ _ _ (aggs_again p q def (output_count f) (columns_before (length f.keys) 0) f.aggs) (tests_again p q def f.tests))) e

-- ---- two turns

-- the same answer was said at two positions, and the first reply counts queued operations
record AnsweredAlike (queued at later : ℕ) (y z : Turn Places) : Type 0 where
  answer : Answer
  min : ℤ
  inside : y.said ≡ said.Answered answer at (Some queued) min ∷ []
  after : z.said ≡ said.Answered answer later None min ∷ []

-- or both times a refusal
record TurnsAlike (queued at later : ℕ) (y z : Turn Places) : Type 0 where
  fault : has_fault y.said ≡ has_fault z.said
  reads : y.reads ≡ z.reads
  answered : has_fault y.said ≡ false → AnsweredAlike queued at later y z

-- a queue leaves the tables and aggregates as they are
roster_with : (ops : List Op) (h : History) → roster (with_queue ops h) ≡ roster h
roster_with [] h = refl
roster_with (op ∷ ops) h = refl

-- a session in a write block with a queue, and outside directly after a commit of it
module _ (q : Places) (bytes text_bytes : ℕ) (h : History) where
  abbrev inside : List Op → Places
  inside ops = enters (writing ops bytes) q

  abbrev outside : Places
  outside = enters none q

  abbrev Alike : List Op → Turn Places → Turn Places → Type 0
  Alike ops y z = TurnsAlike (length ops) (position h) (position (with_queue ops h)) y z

  plan_alike : (ops : List Op) (plan : Plan) → Alike ops (answers (inside ops) h plan) (answers outside (with_queue ops h) plan)
  plan_alike [] plan = record { fault = refl; reads = refl; answered = λ _. record { answer = in_form (roster h) plan.form (answer plan.query h); min = plan.min; inside = refl; after = refl } }
  plan_alike (op ∷ ops) plan = record { fault = refl; reads = refl; answered = λ _. record { answer = in_form (roster h) plan.form (answer plan.query (with_queue (op ∷ ops) h)); min = plan.min; inside = refl; after = refl } }

  module _ (ops : List Op) where
    abbrev g : History
    g = with_queue ops h

    abbrev same : roster g ≡ roster h
    same = roster_with ops h

    -- what two procedures end with is alike
    abbrev EndsAlike : Procedure (Turn Places) → Procedure (Turn Places) → Type 0
    EndsAlike d e = Alike ops (end_of_walk d h) (end_of_walk e g)

    refused : (r s : Refusal) → EndsAlike (ends (refuses (inside ops) r)) (ends (refuses outside s))
    refused r s = record { fault = refl; reads = refl; answered = λ no. absurd (true≢false no) }

    unless_alike : (x y : Option Refusal) (d e : Procedure (Turn Places)) → (x ≡ None → y ≡ None) → (y ≡ None → x ≡ None) → EndsAlike d e → EndsAlike (unless (inside ops) x d) (unless outside y e)
    unless_alike None None d e there back both = both
    unless_alike None (Some s) d e there back both = let never : Some s ≡ None = there refl in absurd (cc never)
    unless_alike (Some r) None d e there back both = let never : Some r ≡ None = back refl in absurd (cc never)
    unless_alike (Some r) (Some s) d e there back both = refused r s

    -- names that pass there pass here, and the other way round
    passes_there : (stmt : Stmt) → refusal_of (position h) (roster h) stmt ≡ None → refusal_of (position g) (roster g) stmt ≡ None
    passes_there stmt e = ap (λ r. refusal_of (position g) r stmt) same ∙ refused_at_none (position h) (position g) (roster h) stmt e

    passes_here : (stmt : Stmt) → refusal_of (position g) (roster g) stmt ≡ None → refusal_of (position h) (roster h) stmt ≡ None
    passes_here stmt e = refused_at_none (position g) (position h) (roster h) stmt (sym (ap (λ r. refusal_of (position g) r stmt) same) ∙ e)

    abbrev acted : Stmt → Procedure (Turn Places)
    acted stmt = acts (inside ops) text_bytes h (action_of (roster h) stmt)

    abbrev acted_after : Roster → Stmt → Procedure (Turn Places)
    acted_after r stmt = acts outside text_bytes g (action_of r stmt)

    checked : (stmt : Stmt) → EndsAlike (acted stmt) (acted_after (roster h) stmt)
        → EndsAlike (unless (inside ops) (refusal_of (position h) (roster h) stmt) (acted stmt)) (unless outside (refusal_of (position g) (roster g) stmt) (acted_after (roster g) stmt))
    checked stmt both =
        unless_alike (refusal_of (position h) (roster h) stmt) (refusal_of (position g) (roster g) stmt) (acted stmt) (acted_after (roster g) stmt) (passes_there stmt) (passes_here stmt)
        (subst (λ r. EndsAlike (acted stmt) (acted_after r stmt)) (sym same) both)

    asked : (query : Query) → EndsAlike (acts (inside ops) text_bytes h (actions.Ask query)) (acts outside text_bytes g (actions.Ask query))
    asked query = subst (λ r. Alike ops (answers (inside ops) h (plan_of (roster h) query)) (answers outside g (plan_of r query))) (sym same) (plan_alike ops (plan_of (roster h) query))

    -- a roll-up
    rolled : (stmt : Stmt) (x y : Option Refusal) (plan : UpperPlan) → (x ≡ None → y ≡ None) → (y ≡ None → x ≡ None)
        → EndsAlike (named_as (inside ops) text_bytes h stmt (read_as x plan)) (named_as outside text_bytes g stmt (read_as y plan))
    rolled stmt None None plan there back = plan_alike ops (roll_up_plan plan)
    rolled stmt None (Some s) plan there back = let never : Some s ≡ None = there refl in absurd (cc never)
    rolled stmt (Some r) None plan there back = let never : Some r ≡ None = back refl in absurd (cc never)
    rolled stmt (Some r) (Some s) plan there back = refused r s

    folded : (fold : NamedFold) (f : Found) → EndsAlike (acted (stmts.Buckets fold)) (acted_after (roster h) (stmts.Buckets fold))
        → EndsAlike (named_as (inside ops) text_bytes h (stmts.Buckets fold) (fold_read (position h) (roster h) fold f)) (named_as outside text_bytes g (stmts.Buckets fold) (fold_read (position g) (roster h) fold f))
    folded fold found.None both = checked (stmts.Buckets fold) both
    folded fold (found.Plain n) both = checked (stmts.Buckets fold) both
    folded fold (found.Hyper n) both = checked (stmts.Buckets fold) both
    folded fold (found.View n) both =
        let def = view_numbered (roster h) n in
        rolled (stmts.Buckets fold) (upper_refusal (position h) def fold) (upper_refusal (position g) def fold) (upper_plan_of n def fold) (upper_again (position h) (position g) def fold) (upper_again (position g) (position h) def fold)

    -- a query by its names
    named_alike : (stmt : Stmt) → kind_of stmt ≡ Asks → EndsAlike (turn_of_names (inside ops) text_bytes stmt h) (turn_of_names outside text_bytes stmt g)
    named_alike (stmts.Buckets fold) e =
        subst (λ r. EndsAlike (turn_of_names (inside ops) text_bytes (stmts.Buckets fold) h) (named_as outside text_bytes g (stmts.Buckets fold) (fold_read (position g) r fold (found_in r fold.table)))) (sym same)
        (folded fold (found_in (roster h) fold.table) (asked (queries.Buckets (number_of (found_in (roster h) fold.table)) (fold_of (table_at (roster h) (found_in (roster h) fold.table)) fold))))
    named_alike (stmts.Calendar number unit fold) e =
        let f = found_in (roster h) fold.table in
        let info = table_at (roster h) f in
        checked (stmts.Calendar number unit fold)
        (plan_alike ops (calendar_plan (number_of f) (record { number = unwrap_or (unit_count number) 0; unit = unit_of unit; at = time_of info.hyper; fold = calendar_of info fold })))
    named_alike (stmts.Rows table tests) e = checked (stmts.Rows table tests) (asked (rows_query (roster h) (found_in (roster h) table) tests))
    named_alike (stmts.Table name cols) e = absurd cc
    named_alike (stmts.Hyper table col interval) e = absurd cc
    named_alike (stmts.View name only filled fold) e = absurd cc
    named_alike (stmts.Mode view only) e = absurd cc
    named_alike (stmts.Insert table cols rows) e = absurd cc
    named_alike (stmts.Delete table tests) e = absurd cc
    named_alike (stmts.Drop table below) e = absurd cc
    named_alike (stmts.Refresh view lo hi) e = absurd cc
    named_alike (stmts.Cut view lo hi) e = absurd cc
    named_alike (stmts.Snap cut) e = absurd cc
    named_alike (stmts.Finish cut) e = absurd cc
    named_alike stmts.Begin e = absurd cc
    named_alike stmts.BeginRead e = absurd cc
    named_alike stmts.Commit e = absurd cc
    named_alike stmts.Rollback e = absurd cc

    -- a query that the block lets pass
    passed_inside : (stmt : Stmt) → kind_of stmt ≡ Asks → end_of_walk (passes_block (inside ops) text_bytes stmt) h ≡ end_of_walk (turn_of_names (inside ops) text_bytes stmt h) h
    passed_inside stmt asks = ap (λ k. end_of_walk (unless (inside ops) (refusal_writing k) (named_here (inside ops) text_bytes stmt)) h) asks

    passed_outside : (stmt : Stmt) → kind_of stmt ≡ Asks → end_of_walk (passes_block outside text_bytes stmt) g ≡ end_of_walk (turn_of_names outside text_bytes stmt g) g
    passed_outside stmt asks = ap (λ k. end_of_walk (unless outside (refusal_outside k) (cond (makes_event k) (named_first outside text_bytes stmt) (named_here outside text_bytes stmt))) g) asks

    passed_alike : (stmt : Stmt) → kind_of stmt ≡ Asks → EndsAlike (passes_block (inside ops) text_bytes stmt) (passes_block outside text_bytes stmt)
    passed_alike stmt asks =
        subst (λ y. Alike ops y (end_of_walk (passes_block outside text_bytes stmt) g)) (sym (passed_inside stmt asks))
        (subst (λ z. Alike ops (end_of_walk (turn_of_names (inside ops) text_bytes stmt h) h) z) (sym (passed_outside stmt asks)) (named_alike stmt asks))

-- ---- a line

module _ (name line : List ℕ) (is : IsQueryLine name line) where
  abbrev text : List ℕ
  text = take is.end line

  -- it is performed by the session in the session with policies
  query_does : (q : PolicyPlaces Places) → policy_does step (λ p. p.block) q text is.skip ≡ ending_as (beside q.policies) (passes_block q.inner (length text) is.stmt)
  query_does q =
      let other = statements_begin_otherwise (stream text is.skip) (subst IsStatement (sym is.read) tt) in
      ap (λ t. cond t (reads_as step q q.inner.block (policy_statement (stream text is.skip))) (ending_as (beside q.policies) (step q.inner text is.skip))) other
      ∙ ap (λ r. ending_as (beside q.policies) (as_read q.inner (passes_block q.inner (length text)) r)) is.read

  query_taken : (s : ScriptState (PolicyPlaces Places)) (n : ℕ) (q : PolicyPlaces Places) → places_of name s.sessions ≡ Some q → executes policy_sessions s n line ≡ takes_turn s name (ending_as (beside q.policies) (passes_block q.inner (length text) is.stmt))
  query_taken s n q there =
      ap (λ t. cond t (refused_line s n line_long) (executes_kind policy_sessions s n line (line_kind line))) (le-ltb longest_line (length line) is.short)
      ∙ ap (executes_kind policy_sessions s n line) is.kind
      ∙ ap (λ who. executes_as policy_sessions s who text is.skip (places_of who s.sessions)) is.session
      ∙ ap (executes_as policy_sessions s name text is.skip) there
      ∙ ap (takes_turn s name) (query_does q)

  -- what is written is what the session says
  abbrev turn_in : (s : ScriptState (PolicyPlaces Places)) → PolicyPlaces Places → Turn Places
  turn_in s q = end_of_walk (passes_block q.inner (length text) is.stmt) s.history

  record IsTurn (result : LineResult (PolicyPlaces Places)) (y : Turn Places) : Type 0 where
    text_is : result.text ≡ text_of name y.said
    fault_is : result.fault ≡ has_fault y.said
    reads_is : result.reads ≡ y.reads

  query_turn : (s : ScriptState (PolicyPlaces Places)) (n : ℕ) (q : PolicyPlaces Places) → places_of name s.sessions ≡ Some q → IsTurn (executes policy_sessions s n line) (turn_in s q)
  query_turn s n q there =
      let taken = query_taken s n q there in
      let end = ending_then (passes_block q.inner (length text) is.stmt) (λ y. ends (beside q.policies y)) s.history in
      record {
        text_is = ap (λ r. r.text) taken ∙ ap (λ y. text_of name y.said) end;
        fault_is = ap (λ r. r.fault) taken ∙ ap (λ y. has_fault y.said) end;
        reads_is = ap (λ r. r.reads) taken ∙ ap (λ y. y.reads) end;
      }

  one_said : (a : Answer) (at : ℕ) (queued : Option ℕ) (min : ℤ) (y : Turn Places) → y.said ≡ said.Answered a at queued min ∷ [] → text_of name y.said ≡ reply_text name (said.Answered a at queued min)
  one_said a at queued min y is_said = ap (text_of name) is_said ∙ append-nil (reply_text name (said.Answered a at queued min))

  shows : (queued at later : ℕ) (inside_line after_line : LineResult (PolicyPlaces Places)) (y z : Turn Places) → IsTurn inside_line y → IsTurn after_line z → TurnsAlike queued at later y z → ShowsAlike name queued at later inside_line after_line
  shows queued at later inside_line after_line y z first second alike = record {
    fault = first.fault_is ∙ alike.fault ∙ sym second.fault_is;
    reads = first.reads_is ∙ alike.reads ∙ sym second.reads_is;
    answered = λ no.
        let both = alike.answered (sym first.fault_is ∙ no) in
        record {
          answer = both.answer;
          min = both.min;
          inside_text = first.text_is ∙ one_said both.answer at (Some queued) both.min y both.inside;
          after_text = second.text_is ∙ one_said both.answer later None both.min z both.after;
        };
  }

pub queries_show_the_queue : QueriesShowTheQueue
queries_show_the_queue s n name line p ops bytes is there =
    let after = after_commit s name p ops in
    shows name line is (length ops) (position s.history) (position (with_queue ops s.history)) (executes policy_sessions s n line) (executes policy_sessions after n line)
    (turn_in name line is s (in_block (writing ops bytes) p)) (turn_in name line is after (in_block none p))
    (query_turn name line is s n (in_block (writing ops bytes) p) there)
    (query_turn name line is after n (in_block none p) (placed name (in_block none p) s.sessions))
    (passed_alike p.inner bytes (length (take is.end line)) s.history ops is.stmt is.asks)

pub others_see_no_queue : OthersSeeNoQueue
others_see_no_queue other p ops bytes s n lines apart there = lines_see_their_own_places policy_sessions other p (in_block (writing ops bytes) p) s n lines apart there
