use Rattle.std.proofs.Common.{◌≡◌, subst}
use Rattle.ts_schema.specs.Counts.{Ticks}
use Rattle.ts_model.specs.declared.queries.Query.TheVariants.{Buckets}
use Rattle.ts_model.specs.Answers.{answer}
use Rattle.ts_model.specs.Rows.{in_order}
use Rattle.ts_model.specs.Scratch.{fold_rows}
use Rattle.engine_state.specs.Scans.{seen_rows}
use Rattle.engine_state.proofs.AnswerFacts.{both_ok, buckets_answered}
use Rattle.engine_state.proofs.parts.StateParts.buckets_shown.Goals as goal

pub buckets_answer-requires-clause-interval : goal.buckets_answer-requires-clause-interval
buckets_answer-requires-clause-interval g c = λ _ _. (c.table_seen-rows.ensures.table c.requires.stands.history c.requires.stands.stands).interval

pub buckets_answer-requires-clause-times : goal.buckets_answer-requires-clause-times
buckets_answer-requires-clause-times g c = λ _ _. (c.table_seen-rows.ensures.table c.requires.stands.history c.requires.stands.stands).times

pub buckets_answer-requires-clause-stored : goal.buckets_answer-requires-clause-stored
buckets_answer-requires-clause-stored g c = λ _ _. (c.table_seen-rows.ensures.table c.requires.stands.history c.requires.stands.stands).stored_times

pub returns-clause-shown : goal.returns-clause-shown
returns-clause-shown g c = λ h st.
    let rows = c.table_seen-rows.result in
    both_ok c.buckets_answer.result
    (λ found. found.rows ≡ fold_rows c.args.fold.now (in_order (seen_rows rows.position rows.table.now))) _ (λ found. found ≡ answer (Buckets c.args.table c.args.fold.now) h)
    (λ found shown stale. buckets_answered h c.args.table c.args.fold.now rows.position rows.table.now found (c.table_seen-rows.ensures.table h st) shown stale)
    c.buckets_answer.ensures.rows c.buckets_answer.ensures.stale

pub returns-clause-read : goal.returns-clause-read
returns-clause-read g c = λ h st.
    subst (λ n. Ticks c.buckets_answer.result n c.args.steps.now c.buckets_answer.new.steps)
    (c.table_seen-rows.ensures.table h st).count_is c.buckets_answer.ensures.read
