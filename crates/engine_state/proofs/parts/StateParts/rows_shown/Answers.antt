use Rattle.std.proofs.Common.{◌≡◌, Some, refl, subst}
use Rattle.std.specs.Prelude.{filter, map}
use Rattle.ts_schema.specs.Conditions.{passes_all}
use Rattle.ts_schema.specs.Counts.{Ticks}
use Rattle.ts_model.specs.declared.queries.Query.TheVariants.{Rows}
use Rattle.ts_model.specs.Answers.{all_columns, answer}
use Rattle.ts_model.specs.Roster.{hyper_of, roster}
use Rattle.ts_model.specs.Rows.{in_order}
use Rattle.engine_state.specs.Scans.{seen_rows}
use Rattle.engine_state.proofs.AnswerFacts.{both_ok, rows_answered}
use Rattle.engine_state.proofs.parts.StateParts.rows_shown.Goals as goal

pub rows_answer-requires-clause-interval : goal.rows_answer-requires-clause-interval
rows_answer-requires-clause-interval g c = (c.table_seen-rows.ensures.table c.requires.stands.history c.requires.stands.stands).interval

pub rows_answer-requires-clause-times : goal.rows_answer-requires-clause-times
rows_answer-requires-clause-times g c = (c.table_seen-rows.ensures.table c.requires.stands.history c.requires.stands.stands).times

pub rows_answer-requires-clause-stored : goal.rows_answer-requires-clause-stored
rows_answer-requires-clause-stored g c = (c.table_seen-rows.ensures.table c.requires.stands.history c.requires.stands.stands).stored_times

pub returns-clause-shown : goal.returns-clause-shown
returns-clause-shown g c = λ h st.
    let rows = c.table_seen-rows.result in
    let tells = c.table_seen-rows.ensures.table h st in
    let hyper_is : hyper_of (roster h) c.args.table ≡ Some c.hyper-at.result = subst (λ r. hyper_of r c.args.table ≡ Some c.hyper-at.result) st.roster c.hyper-at.ensures.hyper in
    both_ok c.rows_answer.result
    (λ found. found.rows ≡ map (all_columns c.hyper-at.result.at) (filter (λ row. passes_all row c.args.tests.now) (in_order (seen_rows rows.position rows.table.now)))) _ (λ found. found ≡ answer (Rows c.args.table c.args.tests.now) h)
    (λ found shown stale. rows_answered h c.args.table c.args.tests.now c.hyper-at.result.at rows.position rows.table.now found c.hyper-at.result hyper_is refl tells shown stale)
    c.rows_answer.ensures.rows c.rows_answer.ensures.stale

pub returns-clause-read : goal.returns-clause-read
returns-clause-read g c = λ h st.
    subst (λ n. Ticks c.rows_answer.result n c.args.steps.now c.rows_answer.new.steps)
    (c.table_seen-rows.ensures.table h st).count_is c.rows_answer.ensures.read
