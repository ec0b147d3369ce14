-- A session's first line is added after all others, or its name is refused.
use Rattle.std.proofs.Common.{◌<◌, ◌≤◌, ◌++◌, length, ◌∙◌, arith}
use Rattle.std.proofs.lemmas.Result.{on_ok_weaker}
use Rattle.result_text.specs.declared.replies.Said.TheVariants as said
use Rattle.result_text.specs.Replies.{reply_text}
use Rattle.par_lines.proofs.Adding.{added_new, refused_new}
use Rattle.par_lines.proofs.Numbering.{numbered_push}
use Rattle.par_lines.proofs.sorting.SortedLines.add_new.Goals as goal

pub returns-in_ok-push-clause-sorted : goal.returns-in_ok-push-clause-sorted
returns-in_ok-push-clause-sorted c = λ input.
    let sessions = c.args.self.now.sessions in
    let few : length sessions.items < 64 = omega (arith, sessions.ok, c.len.ensures, c.if-len-lt-MOST_SESSIONS.true) in
    added_new c.args.name.now input c.args.line c.args.self.now.refusals.items sessions.items c.push.new.self.items (record { name = c.in_ok-name.name; number = c.len-number.result; lines = c.in_ok-lines.lines }) c.requires.absent few
    c.in_ok-push.ensures.items c.in_ok-name.ensures.same c.in_ok-lines.ensures.items

pub returns-else-len-lt-MOST_SESSIONS-clause-sorted : goal.returns-else-len-lt-MOST_SESSIONS-clause-sorted
returns-else-len-lt-MOST_SESSIONS-clause-sorted c =
    let sessions = c.args.self.now.sessions in
    let many : 64 ≤ length sessions.items = omega (arith, sessions.ok, c.len.ensures, c.if-len-lt-MOST_SESSIONS.false) in
    on_ok_weaker c.put_reply.result
    (λ put input.
    refused_new c.args.name.now input c.args.line c.args.self.now.refusals.items c.put_reply.new.out.items sessions.items c.requires.absent many
    (put ∙ (λ i. c.args.self.now.refusals.items ++ reply_text (c.in_ok-name.ensures.same i) (said.Fault (c.bare.ensures i)))))
    c.put_reply.ensures.appended

pub returns-in_ok-push-clause-numbered : goal.returns-in_ok-push-clause-numbered
returns-in_ok-push-clause-numbered c =
    let sessions = c.args.self.now.sessions in
    numbered_push sessions.items c.push.new.self.items (record { name = c.in_ok-name.name; number = c.len-number.result; lines = c.in_ok-lines.lines }) c.in_ok-push.ensures.items
    (omega (arith, sessions.ok, c.len-number.ensures, c.len.ensures))
