use Rattle.std.proofs.Common.{◌≡◌, Ok, ap, ◌∙◌, subst}
use Rattle.std.specs.Prelude.{IsTrue}
use Rattle.std.proofs.lemmas.Result.{IfOk-weaker}
use Rattle.ts_sessions.specs.Held.{places_in}
use Rattle.ts_sessions.specs.Replies.{reply_to}
use Rattle.ts_sessions.specs.Script.{SessionLine}
use Rattle.audit_past.specs.ReplaySteps.{LineTells}
use Rattle.audit_looks.specs.Replies.{looks_in}
use Rattle.audit.specs.ReplayedSessions.{GoesBehind, IsAt, RetellsTo}
use Rattle.audit.proofs.RetellLaws.{goes_on, retells_none, retells_some}
use Rattle.audit.proofs.replayed_session.ReplayedSession.replay_line.Goals as goal

pub returns-in-Some-clause-retold : goal.returns-in-Some-clause-retold
returns-in-Some-clause-retold g c =
    let all = g.P.Past.all c.args.past.now in
    let old = c.args.self.now in
    let line : SessionLine = record { text = c.line_of-line.result.text.now; skip = c.line_of-line.result.skip } in
    let looks_are : c.as_slice.result.now ≡ looks_in c.args.self.now.session.name c.items-reply.result.now = c.as_slice.ensures.value ∙ c.in_ok-looks.ensures ∙ ap (λ n. looks_in n c.items-reply.result.now) c.bytes.ensures.bytes in
    let told = subst (λ o. LineTells all c.args.self.now.at (reply_to (places_in c.args.self.now.session) c.line_of-line.result.text.now c.line_of-line.result.skip) c.as_slice.result.now c.args.self.now.session.name (places_in c.replay.new.session) (Ok o)) c.in-Some.is c.in_ok-told.ensures.told in
    IfOk-weaker c.follow.result (λ t. GoesBehind c.in-Some.told c.items-reply.result.now (record { session = c.replay.new.session; at = c.args.self.now.at; named = c.args.self.now.named }) t c.follow.new.self) (λ t. RetellsTo all c.args.exchange.now c.args.self.now t c.follow.new.self)
    (λ t b. retells_some all c.requires.allowed c.args.exchange.now old c.bytes.ensures.name c.requires.based line c.line_of-line.ensures.line c.as_slice.result.now c.items-reply.result.now looks_are c.items-reply.ensures.items c.replay.new.session c.in-Some.told told t c.follow.new.self c.follow.ensures.session b)
    c.follow.ensures.behind

pub returns-in-Some-clause-at : goal.returns-in-Some-clause-at
returns-in-Some-clause-at g c = λ start at.
    let all = g.P.Past.all c.args.past.now in
    let old = c.args.self.now in
    let line : SessionLine = record { text = c.line_of-line.result.text.now; skip = c.line_of-line.result.skip } in
    let looks_are : c.as_slice.result.now ≡ looks_in c.args.self.now.session.name c.items-reply.result.now = c.as_slice.ensures.value ∙ c.in_ok-looks.ensures ∙ ap (λ n. looks_in n c.items-reply.result.now) c.bytes.ensures.bytes in
    let told = subst (λ o. LineTells all c.args.self.now.at (reply_to (places_in c.args.self.now.session) c.line_of-line.result.text.now c.line_of-line.result.skip) c.as_slice.result.now c.args.self.now.session.name (places_in c.replay.new.session) (Ok o)) c.in-Some.is c.in_ok-told.ensures.told in
    IfOk-weaker c.follow.result (λ t. GoesBehind c.in-Some.told c.items-reply.result.now (record { session = c.replay.new.session; at = c.args.self.now.at; named = c.args.self.now.named }) t c.follow.new.self) (λ t. IsTrue t → IsAt g.T.Shown all start c.args.self.now.session.name c.follow.new.self)
    (λ t b. goes_on all c.requires.allowed c.args.exchange.now old c.bytes.ensures.name c.requires.based line c.line_of-line.ensures.line c.as_slice.result.now c.items-reply.result.now looks_are c.items-reply.ensures.items c.replay.new.session c.in-Some.told told g.T.Shown start t c.follow.new.self at c.follow.ensures.session c.in_ok-told.ensures.name c.in_ok-told.ensures.holds b)
    c.follow.ensures.behind

pub returns-clause-retold : goal.returns-clause-retold
returns-clause-retold g c =
    let all = g.P.Past.all c.args.past.now in
    let old = c.args.self.now in
    let line : SessionLine = record { text = c.line_of-line.result.text.now; skip = c.line_of-line.result.skip } in
    let looks_are : c.as_slice.result.now ≡ looks_in c.args.self.now.session.name c.items-reply.result.now = c.as_slice.ensures.value ∙ c.in_ok-looks.ensures ∙ ap (λ n. looks_in n c.items-reply.result.now) c.bytes.ensures.bytes in
    let told = subst (λ o. LineTells all c.args.self.now.at (reply_to (places_in c.args.self.now.session) c.line_of-line.result.text.now c.line_of-line.result.skip) c.as_slice.result.now c.args.self.now.session.name (places_in c.replay.new.session) (Ok o)) c.in-None.is c.in_ok-told.ensures.told in
    retells_none all c.requires.allowed c.args.exchange.now old c.bytes.ensures.name c.requires.based line c.line_of-line.ensures.line c.as_slice.result.now c.items-reply.result.now looks_are c.items-reply.ensures.items old told
