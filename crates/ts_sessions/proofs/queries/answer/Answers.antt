use Rattle.std.proofs.Common.{◌∙◌, ap, sym, subst}
use Rattle.result_text.specs.declared.replies.Said.TheVariants as said
use Rattle.ts_model.specs.Answers.{answer, with_queue}
use Rattle.ts_model.specs.History.{position}
use Rattle.ts_model.specs.Roster.{roster}
use Rattle.ts_sessions.specs.Deeds.{IsFormed}
use Rattle.ts_sessions.specs.Held.{block_of}
use Rattle.ts_sessions.specs.Places.{queue_in}
use Rattle.ts_sessions.specs.Step.{in_form, shown_in}
use Rattle.ts_sessions.specs.ResolvedNames.{answered_line}
use Rattle.ts_sessions.proofs.LeftLaws.{says_line}
use Rattle.ts_sessions.proofs.FirstLaws.{answer_opens}
use Rattle.ts_sessions.proofs.FormLaws.{form_fits}
use Rattle.ts_sessions.proofs.QueueLaws.{fits_each, queue_consistent, queue_roster}
use Rattle.ts_sessions.proofs.queries.answer.Goals as goal

pub ask-requires-clause-fits : goal.ask-requires-clause-fits
ask-requires-clause-fits g c = λ _ _ h stands.
    let s = c.requires.stands in
    fits_each c.roster-roster.result.now (queue_in (block_of c.args.block.now)) s.history h (c.roster-roster.ensures s.history s.holds) (c.roster-roster.ensures h stands) s.fits

pub in_form-requires : goal.in_form-requires
in_form-requires g c =
    let s = c.requires.stands in
    let queue = queue_in (block_of c.args.block.now) in
    let form = c.args.plan.form in
    let same = sym (queue_roster queue s.history) in
    form_fits c.roster-roster.result.now (with_queue queue s.history) form c.args.plan c.in_ok-answer.answer (c.roster-roster.ensures s.history s.holds ∙ same) (queue_consistent queue s.history s.allowed s.fits) (subst (λ r. IsFormed r c.args.plan form) same (c.requires.formed s.history s.holds s.allowed)) (c.in_ok-answer.ensures.shown s.history s.holds)

pub returns-clause-opens : goal.returns-clause-opens
returns-clause-opens g c = λ h stands p bytes alone s in_block.
    let form = c.args.plan.form in
    let shown = c.in_ok-shown.ensures ∙ ap (λ r. in_form r form c.in_ok-answer.answer) (c.roster-roster.ensures h stands) ∙ ap (in_form (roster h) form) (c.in_ok-answer.ensures.shown h stands) in
    answer_opens g.T.Shown bytes alone s h p (block_of c.args.block.now) c.args.plan c.in_ok-shown.shown c.position.result c.queue_count.result c.answer_line-said.result c.say.result _ _ c.requires.counts in_block shown (c.position.ensures h stands) c.queue_count.ensures c.answer_line-said.ensures c.say.ensures (c.in_ok-answer.ensures.read h stands)

pub returns-clause-says : goal.returns-clause-says
returns-clause-says g c = λ h stands.
    let form = c.args.plan.form in
    let b = block_of c.args.block.now in
    let min = c.args.plan.min in
    let shown = c.in_ok-shown.ensures ∙ ap (λ r. in_form r form c.in_ok-answer.answer) (c.roster-roster.ensures h stands) ∙ ap (in_form (roster h) form) (c.in_ok-answer.ensures.shown h stands) in
    says_line c.say.result c.answer_line-said.result (answered_line b h c.args.plan) c.say.ensures
    (c.answer_line-said.ensures ∙ ap (λ a. said.Answered a c.position.result c.queue_count.result min) shown ∙ ap (λ n. said.Answered (in_form (roster h) form (answer c.args.plan.query (shown_in b h))) n c.queue_count.result min) (c.position.ensures h stands) ∙ ap (λ q. said.Answered (in_form (roster h) form (answer c.args.plan.query (shown_in b h))) (position h) q min) c.queue_count.ensures)
