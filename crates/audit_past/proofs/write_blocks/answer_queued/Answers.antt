use Rattle.std.proofs.Common.{◌∙◌, ap, subst, sym, Some}
use Rattle.ts_model.specs.Answers.{answer, with_queue}
use Rattle.ts_model.specs.History.{position}
use Rattle.ts_model.specs.Roster.{roster}
use Rattle.result_text.specs.declared.replies.Said.TheVariants as said
use Rattle.ts_sessions.specs.Deeds.{IsFormed}
use Rattle.ts_sessions.specs.Places.{writing}
use Rattle.ts_sessions.specs.Step.{in_form}
use Rattle.ts_sessions.specs.ResolvedNames.{answered_line}
use Rattle.ts_sessions.proofs.FormLaws.{form_fits}
use Rattle.ts_sessions.proofs.LeftLaws.{says_line}
use Rattle.ts_sessions.proofs.QueueLaws.{fits_each, queue_consistent, queue_roster}
use Rattle.audit_past.proofs.write_blocks.answer_queued.Goals as goal

pub answer_with-requires-clause-fits : goal.answer_with-requires-clause-fits
answer_with-requires-clause-fits g c = λ h stands.
    let s = c.requires.stands in
    fits_each c.roster-roster.result.now c.args.queue.now.ops s.history h (c.roster-roster.ensures s.history s.holds) (c.roster-roster.ensures h stands) s.fits

pub in_form-requires : goal.in_form-requires
in_form-requires g c =
    let s = c.requires.stands in
    let queue = c.args.queue.now.ops in
    let form = c.args.plan.form in
    let same = sym (queue_roster queue s.history) in
    form_fits c.roster-roster.result.now (with_queue queue s.history) form c.args.plan c.in_ok-answer.answer (c.roster-roster.ensures s.history s.holds ∙ same) (queue_consistent queue s.history s.allowed s.fits) (subst (λ r. IsFormed r c.args.plan form) same (c.requires.formed s.history s.holds s.allowed)) (c.in_ok-answer.ensures.shown s.history s.holds)

pub returns : goal.returns
returns g c = λ h stands.
    let queue = c.args.queue.now in
    let form = c.args.plan.form in
    let min = c.args.plan.min in
    let q = c.args.plan.query in
    let shown = c.in_ok-shown.ensures ∙ ap (λ r. in_form r form c.in_ok-answer.answer) (c.roster-roster.ensures h stands) ∙ ap (in_form (roster h) form) (c.in_ok-answer.ensures.shown h stands) in
    says_line c.say.result c.answer_line-said.result (answered_line (writing queue.ops queue.bytes) h c.args.plan) c.say.ensures
    (c.answer_line-said.ensures ∙ ap (λ a. said.Answered a c.position.result (Some c.len-count.result) min) shown
    ∙ ap (λ n. said.Answered (in_form (roster h) form (answer q (with_queue queue.ops h))) n (Some c.len-count.result) min) (c.position.ensures h stands)
    ∙ ap (λ n. said.Answered (in_form (roster h) form (answer q (with_queue queue.ops h))) (position h) (Some n) min) c.len-count.ensures.len)
