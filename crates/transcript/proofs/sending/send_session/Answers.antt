use Rattle.std.proofs.Common.{codes, false, refl, subst, ◌++◌}
use Rattle.serde_json.specs.Written.{items_text}
use Rattle.transcript.specs.Pieces.{talk_head}
use Rattle.transcript.specs.Text.{exchanges_data}
use Rattle.ts_io.specs.Whole.{AppendsPart}
use Rattle.transcript.specs.Sending.{Sends}
use Rattle.transcript.proofs.SendingParts.{talk_parts}
use Rattle.transcript.proofs.Sequel.{first_failed, then_sent}
use Rattle.transcript.proofs.sending.send_session.Goals as goal

pub returns-in-Err-clause-sent : goal.returns-in-Err-clause-sent
returns-in-Err-clause-sent g c =
    subst (λ text. AppendsPart (g.K.Sink.written c.args.sink.now) (g.K.Sink.written c.send_session_head.new.sink) (c.args.page.now.items ++ text)) (talk_parts c.args.talk.now c.args.later c.items.result.now c.args.talk.now.replies c.items.ensures.items refl)
    (first_failed (g.K.Sink.written c.args.sink.now) (g.K.Sink.written c.send_session_head.new.sink) c.args.page.now.items (talk_head c.args.later c.items.result.now) (items_text false (exchanges_data c.args.talk.now.replies) ++ codes "}") c.in-Err.ensures.sent)

pub returns-in-Ok-clause-sent : goal.returns-in-Ok-clause-sent
returns-in-Ok-clause-sent g c = subst (Sends c.send_session_rest.result _ _ _ _) (talk_parts c.args.talk.now c.args.later _ _ c.items.ensures.items c.items-in-Ok.ensures.items) (then_sent _ _ _ _ _ _ _ _ c.send_session_rest.result c.in-Ok.ensures.sent c.send_session_rest.ensures.sent)
