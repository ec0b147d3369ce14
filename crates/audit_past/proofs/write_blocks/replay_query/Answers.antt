use Rattle.std.proofs.Common.{◌∙◌, ap, sym}
use Rattle.std.specs.List.{list_all}
use Rattle.ts_model.specs.History.{prefix}
use Rattle.ts_model.specs.Roster.{roster}
use Rattle.ts_model.specs.Sound.{op_fits}
use Rattle.ts_model.proofs.HistoryLaws.{begins_prefix}
use Rattle.ts_sessions.specs.Holding.{fits_on_hypertables}
use Rattle.ts_sessions.proofs.QueueLaws.{queue_fits}
use Rattle.ts_sessions.proofs.SoundLaws.{allowed_prefix}
use Rattle.audit_past.proofs.FittingLaws.{fits_if_there}
use Rattle.audit_past.proofs.TellQueues.{query_missed, query_nowhere, query_told_as}
use Rattle.audit_past.proofs.write_blocks.replay_query.Goals as goal

pub returns-in-None : goal.returns-in-None
returns-in-None g c = λ p block.
    let all = g.P.Past.all c.args.past.now in
    query_nowhere p c.args.bytes c.args.stmt.now _ _ block c.requires.asks all c.args.point.at c.args.point.looks.now (sym c.next_look.ensures ∙ c.in-None.is) (fits_on_hypertables (roster all) c.args.queue.now.ops c.requires.waits.fits)

pub returns-then-not-all_fit : goal.returns-then-not-all_fit
returns-then-not-all_fit g c = λ p block.
    let all = g.P.Past.all c.args.past.now in
    let look = c.in-Some.look in
    let h = prefix all look in
    let ops = c.args.queue.now.ops in
    let tested = c.all_fit.ensures ∙ ap (list_all (op_fits c.roster.result.now)) c.items.ensures.items ∙ ap (λ r. list_all (op_fits r) ops) (c.roster.ensures h c.in_ok-shot-in-Some.ensures) in
    let there = fits_if_there h all (begins_prefix all look) ops c.requires.waits.fits ∙ sym tested ∙ c.if-not-all_fit.true in
    query_missed p c.args.bytes c.args.stmt.now _ _ block c.requires.asks all c.args.point.at look c.args.point.looks.now (sym c.next_look.ensures ∙ c.in-Some.is) there (fits_on_hypertables (roster all) ops c.requires.waits.fits)

pub show-requires-clause-stands : goal.show-requires-clause-stands
show-requires-clause-stands g c κs within =
    let all = g.P.Past.all c.args.past.now in
    let h = prefix all c.in-Some.look in
    let queue = c.args.queue.now in
    let tested = c.all_fit.ensures ∙ ap (list_all (op_fits c.roster.result.now)) c.items.ensures.items ∙ ap (λ r. list_all (op_fits r) queue.ops) (c.roster.ensures h c.in_ok-shot-in-Some.ensures) in
    record {
      history = h;
      holds = c.in_ok-shot-in-Some.ensures;
      allowed = allowed_prefix all c.in-Some.look c.requires.allowed;
      fits = queue_fits h queue.bytes queue.ops c.requires.room (record { fits = sym tested ∙ c.if-not-all_fit.false; size = c.requires.waits.size });
    }

pub returns-in_ok-next-in-Some : goal.returns-in_ok-next-in-Some
returns-in_ok-next-in-Some g c = λ p block.
    let all = g.P.Past.all c.args.past.now in
    let look = c.in-Some.look in
    let h = prefix all look in
    let ops = c.args.queue.now.ops in
    let tested = c.all_fit.ensures ∙ ap (list_all (op_fits c.roster.result.now)) c.items.ensures.items ∙ ap (λ r. list_all (op_fits r) ops) (c.roster.ensures h c.in_ok-shot-in-Some.ensures) in
    let there = fits_if_there h all (begins_prefix all look) ops c.requires.waits.fits ∙ sym tested ∙ c.if-not-all_fit.false in
    query_told_as p c.args.bytes c.args.stmt.now _ _ block c.requires.asks g.P.Shot.Shown all c.args.point.at look c.args.point.looks.now c.in_ok-next-in-Some.next c.end_of_statement.result (sym c.next_look.ensures ∙ c.in-Some.is) there
    (c.in_ok-next-in-Some.ensures h c.in_ok-shot-in-Some.ensures) c.end_of_statement.ensures
