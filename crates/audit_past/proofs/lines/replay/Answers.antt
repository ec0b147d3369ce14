use Rattle.std.proofs.Common.{length}
use Rattle.ts_sessions.specs.Held.{places_in}
use Rattle.ts_sessions.specs.Replies.{reply_to}
use Rattle.audit_past.specs.ReplaySteps.{state_of}
use Rattle.ts_sessions.proofs.HoldLaws.{change_fits}
use Rattle.audit_past.proofs.TellLines.{line_told, nothing_told, reached_is}
use Rattle.audit_past.proofs.lines.replay.Goals as goal

pub returns-in-None-clause-told : goal.returns-in-None-clause-told
returns-in-None-clause-told g c =
    let p = places_in c.args.session.now in
    nothing_told g.T.Shown (length c.args.text.now) (g.P.Past.all c.args.past.now) c.args.point.at (reply_to p c.args.text.now c.args.skip) c.args.point.looks.now p c.in_ok-replay_line.field-0 c.in-None.is c.in_ok-replay_line.ensures

pub replay_reply-requires : goal.replay_reply-requires
replay_reply-requires g c =
    let p = places_in c.args.session.now in
    let all = g.P.Past.all c.args.past.now in
    let i = reached_is g.T.Shown (length c.args.text.now) all c.args.point.at (reply_to p c.args.text.now c.args.skip) c.args.point.looks.now p c.in_ok-replay_line.field-0 c.in-Some.reached c.in-Some.is c.in_ok-replay_line.ensures in
    change_fits g.T.Shown (length c.args.text.now) all c.in-Some.reached.completion.change p.block c.requires.room i.stands.change

pub returns-in_ok-line-in-Some-clause-told : goal.returns-in_ok-line-in-Some-clause-told
returns-in_ok-line-in-Some-clause-told g c =
    let p = places_in c.args.session.now in
    let q = places_in c.replay_reply.new.session in
    let all = g.P.Past.all c.args.past.now in
    let procedure = reply_to p c.args.text.now c.args.skip in
    let i = reached_is g.T.Shown (length c.args.text.now) all c.args.point.at procedure c.args.point.looks.now p c.in_ok-replay_line.field-0 c.in-Some.reached c.in-Some.is c.in_ok-replay_line.ensures in
    line_told g.T.Shown (length c.args.text.now) all c.args.point.at procedure c.args.point.looks.now p q c.in-Some.reached c.args.session.now.name c.in_ok-line-in-Some.line i c.in_ok-line-in-Some.ensures.replies

pub returns-in_ok-line-in-Some-clause-holds : goal.returns-in_ok-line-in-Some-clause-holds
returns-in_ok-line-in-Some-clause-holds g c =
    let p = places_in c.args.session.now in
    let all = g.P.Past.all c.args.past.now in
    let i = reached_is g.T.Shown (length c.args.text.now) all c.args.point.at (reply_to p c.args.text.now c.args.skip) c.args.point.looks.now p c.in_ok-replay_line.field-0 c.in-Some.reached c.in-Some.is c.in_ok-replay_line.ensures in
    c.in_ok-line-in-Some.ensures.holds (state_of all) (length c.args.text.now) c.requires.holds i.stands.change
