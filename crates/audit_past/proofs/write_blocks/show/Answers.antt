use Rattle.ts_model.specs.History.{position}
use Rattle.ts_model.specs.Roster.{roster}
use Rattle.ts_sessions.specs.Places.{writing}
use Rattle.ts_sessions.proofs.MeantLaws.{plan_fits}
use Rattle.ts_sessions.proofs.SoundLaws.{is_numbered}
use Rattle.audit_past.proofs.TellQueues.{asks_only, shown_refused, shown_shows}
use Rattle.audit_past.proofs.write_blocks.show.Goals as goal

pub resolve-requires-clause-numbered : goal.resolve-requires-clause-numbered
resolve-requires-clause-numbered g c =
    let s = c.requires.stands in
    is_numbered s.history c.roster.result.now (c.roster.ensures s.history s.holds) s.allowed

pub answer_queued-requires-clause-formed : goal.answer_queued-requires-clause-formed
answer_queued-requires-clause-formed g c = λ _ _ h stands ok.
    let s = c.requires.stands in
    (plan_fits g.T.Shown c.args.bytes c.args.stmt.now s.history c.requires.sound s.allowed h _ _ c.in_ok-meant.meant c.in-Shows.plan (c.position.ensures s.history s.holds) (c.roster.ensures s.history s.holds) (c.roster.ensures h stands) c.in_ok-meant.ensures c.in-Shows.is).formed

pub answer_queued-requires-clause-asks : goal.answer_queued-requires-clause-asks
answer_queued-requires-clause-asks g c = λ _ _ h stands.
    let s = c.requires.stands in
    (plan_fits g.T.Shown c.args.bytes c.args.stmt.now s.history c.requires.sound s.allowed h _ _ c.in_ok-meant.meant c.in-Shows.plan (c.position.ensures s.history s.holds) (c.roster.ensures s.history s.holds) (c.roster.ensures h stands) c.in_ok-meant.ensures c.in-Shows.is).asks

pub returns-in-Refused : goal.returns-in-Refused
returns-in-Refused g c = λ h stands.
    shown_refused (writing c.args.queue.now.ops c.args.queue.now.bytes) h _ _ c.args.stmt.now c.in_ok-meant.meant c.in-Refused.refusal c.say.result (c.position.ensures h stands) (c.roster.ensures h stands) c.in_ok-meant.ensures c.in-Refused.is c.say.ensures

pub returns-in-Shows : goal.returns-in-Shows
returns-in-Shows g c = λ h stands.
    shown_shows (writing c.args.queue.now.ops c.args.queue.now.bytes) h _ _ c.args.stmt.now c.in_ok-meant.meant c.in-Shows.plan c.answer_queued.result (c.position.ensures h stands) (c.roster.ensures h stands) c.in_ok-meant.ensures c.in-Shows.is (c.answer_queued.ensures h stands)
