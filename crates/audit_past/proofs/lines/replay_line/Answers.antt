use Rattle.std.proofs.Common.{◌∙◌, ap, length, sym}
use Rattle.stmt_reader.specs.Reading.{statement}
use Rattle.stmt_tokens.specs.Streams.{stream}
use Rattle.stmt_reader.specs.declared.faults.Fault.TheVariants as faults
use Rattle.ts_sessions.specs.Held.{places_in}
use Rattle.ts_sessions.specs.Replies.{reply_to}
use Rattle.ts_sessions.specs.Step.{block_refusal}
use Rattle.ts_sessions.proofs.SoundLaws.{asks_soundly}
use Rattle.audit_past.proofs.TellLines.{line_barred, line_misread, refused_told}
use Rattle.audit_past.proofs.lines.replay_line.Goals as goal

pub replay_statement-requires-clause-sound : goal.replay_statement-requires-clause-sound
replay_statement-requires-clause-sound g c κs within = asks_soundly (length c.args.text.now) c.in-Stmt.stmt c.requires.short c.in-Stmt.ensures.written

pub returns-in-Some : goal.returns-in-Some
returns-in-Some g c =
    let p = places_in c.args.session.now in
    let n = length c.args.text.now in
    let barred = ap (block_refusal p.block) (sym c.kind_of.ensures) ∙ sym c.barrier.ensures ∙ c.in-Some.is in
    refused_told g.T.Shown n (g.P.Past.all c.args.past.now) c.args.point.at c.args.point.looks.now p (reply_to p c.args.text.now c.args.skip) c.in-Some.refusal c.refuse_at.result c.requires.reached (line_barred p n c.in-Stmt.stmt c.in-Some.refusal (statement (stream c.args.text.now c.args.skip)) c.in-Stmt.ensures.exact barred) c.refuse_at.ensures

pub returns-in-NoToken : goal.returns-in-NoToken
returns-in-NoToken g c =
    let p = places_in c.args.session.now in
    let n = length c.args.text.now in
    refused_told g.T.Shown n (g.P.Past.all c.args.past.now) c.args.point.at c.args.point.looks.now p (reply_to p c.args.text.now c.args.skip) c.text_refusal.result c.refuse_at-in-NoToken.result c.requires.reached (line_misread p n (faults.NoToken c.in-NoToken.place) c.text_refusal.result (statement (stream c.args.text.now c.args.skip)) c.in-NoToken.ensures.exact c.text_refusal.ensures) c.refuse_at-in-NoToken.ensures

pub returns-in-Syntax : goal.returns-in-Syntax
returns-in-Syntax g c =
    let p = places_in c.args.session.now in
    let n = length c.args.text.now in
    refused_told g.T.Shown n (g.P.Past.all c.args.past.now) c.args.point.at c.args.point.looks.now p (reply_to p c.args.text.now c.args.skip) c.text_refusal-in-Syntax.result c.refuse_at-in-Syntax.result c.requires.reached (line_misread p n (faults.Syntax c.in-Syntax.place) c.text_refusal-in-Syntax.result (statement (stream c.args.text.now c.args.skip)) c.in-Syntax.ensures.exact c.text_refusal-in-Syntax.ensures) c.refuse_at-in-Syntax.ensures

pub returns-in-BadNumber : goal.returns-in-BadNumber
returns-in-BadNumber g c =
    let p = places_in c.args.session.now in
    let n = length c.args.text.now in
    refused_told g.T.Shown n (g.P.Past.all c.args.past.now) c.args.point.at c.args.point.looks.now p (reply_to p c.args.text.now c.args.skip) c.text_refusal-in-BadNumber.result c.refuse_at-in-BadNumber.result c.requires.reached (line_misread p n (faults.BadNumber c.in-BadNumber.place) c.text_refusal-in-BadNumber.result (statement (stream c.args.text.now c.args.skip)) c.in-BadNumber.ensures.exact c.text_refusal-in-BadNumber.ensures) c.refuse_at-in-BadNumber.ensures
