use Rattle.std.proofs.Common.{subst}
use Rattle.std.specs.Prelude.{IsTrue}
use Rattle.ts_model.specs.declared.queries.Query.{Query}
use Rattle.ts_model.specs.Answers.{can_ask}
use Rattle.ts_model.specs.Roster.{table_of}
use Rattle.engine_state.proofs.AnswerFacts.{asked_hyper}
use Rattle.engine_state.proofs.parts.StateParts.answer.Goals as goal

pub rows_shown-requires-clause-asks : goal.rows_shown-requires-clause-asks
rows_shown-requires-clause-asks g c =
    let roster = c.args.self.now.roster in
    asked_hyper _ (table_of roster c.in-Rows.table) (subst (λ (q : Query). IsTrue (can_ask roster q)) c.in-Rows.is c.requires.asks)

pub buckets_shown-requires-clause-asks : goal.buckets_shown-requires-clause-asks
buckets_shown-requires-clause-asks g c = λ _ _.
    let roster = c.args.self.now.roster in
    asked_hyper _ (table_of roster c.in-Buckets.table) (subst (λ (q : Query). IsTrue (can_ask roster q)) c.in-Buckets.is c.requires.asks)

pub view_shown-requires-clause-asks : goal.view_shown-requires-clause-asks
view_shown-requires-clause-asks g c = λ _ _.
    let roster = c.args.self.now.roster in
    subst (λ (q : Query). IsTrue (can_ask roster q)) c.in-Aggregate.is c.requires.asks
