use Rattle.std.proofs.Common.{◌≡◌, subst}
use Rattle.std.proofs.lemmas.Result.{IfOk-weaker}
use Rattle.ts_schema.specs.Counts.{Ticks}
use Rattle.ts_model.specs.declared.queries.Query.TheVariants.{Aggregate}
use Rattle.ts_model.specs.Answers.{answer}
use Rattle.engine_state.specs.Scans.{seen_rows}
use Rattle.engine_state.specs.Shown.{IsShown}
use Rattle.engine_state.proofs.ShownFacts.{view_answered, view_asks, view_read}
use Rattle.engine_state.proofs.parts.StateParts.view_shown.Goals as goal

pub view_answer-requires-clause-width : goal.view_answer-requires-clause-width
view_answer-requires-clause-width g c = λ _ _. (view_asks c.requires.stands.history c.args.view c.view_seen-seen.result.rows.position c.view_seen-seen.result.def.now c.view_seen-seen.result.state.now c.view_seen-seen.result.rows.table.now c.requires.stands.stands.consistent (c.view_seen-seen.ensures.view c.requires.stands.history c.requires.stands.stands)).width

pub view_answer-requires-clause-mark : goal.view_answer-requires-clause-mark
view_answer-requires-clause-mark g c = λ _ _. (view_asks c.requires.stands.history c.args.view c.view_seen-seen.result.rows.position c.view_seen-seen.result.def.now c.view_seen-seen.result.state.now c.view_seen-seen.result.rows.table.now c.requires.stands.stands.consistent (c.view_seen-seen.ensures.view c.requires.stands.history c.requires.stands.stands)).mark

pub view_answer-requires-clause-within : goal.view_answer-requires-clause-within
view_answer-requires-clause-within g c = λ _ _. (view_asks c.requires.stands.history c.args.view c.view_seen-seen.result.rows.position c.view_seen-seen.result.def.now c.view_seen-seen.result.state.now c.view_seen-seen.result.rows.table.now c.requires.stands.stands.consistent (c.view_seen-seen.ensures.view c.requires.stands.history c.requires.stands.stands)).within

pub view_answer-requires-clause-times : goal.view_answer-requires-clause-times
view_answer-requires-clause-times g c = λ _ _. (c.view_seen-seen.ensures.view c.requires.stands.history c.requires.stands.stands).table_is.times

pub view_answer-requires-clause-near : goal.view_answer-requires-clause-near
view_answer-requires-clause-near g c = λ _ _. (c.view_seen-seen.ensures.view c.requires.stands.history c.requires.stands.stands).table_is.near

pub returns-clause-shown : goal.returns-clause-shown
returns-clause-shown g c = λ h st.
    let seen = c.view_seen-seen.result in
    let is = c.view_seen-seen.ensures.view h st in
    IfOk-weaker c.view_answer.result (IsShown seen.def.now seen.state.now seen.rows.table.now.log.entries c.args.starts (seen_rows seen.rows.position seen.rows.table.now)) (λ found. found ≡ answer (Aggregate c.args.view c.args.starts) h)
    (λ found shown. view_answered h c.args.view seen.def.now seen.rows.table.now seen.state.now st.consistent is.there is.stands c.args.starts seen.rows.position found is.table_is.rows_are shown)
    c.view_answer.ensures.shown

pub returns-clause-read : goal.returns-clause-read
returns-clause-read g c = λ h st.
    let seen = c.view_seen-seen.result in
    let is = c.view_seen-seen.ensures.view h st in
    subst (λ n. Ticks c.view_answer.result n c.args.steps.now c.view_answer.new.steps)
    (view_read h c.args.view seen.def.now seen.rows.table.now seen.state.now st.consistent is.there is.stands c.args.starts seen.rows.position is.table_is)
    c.view_answer.ensures.read
