-- A new session begins unless there are too many.
use Rattle.std.proofs.Common.{true, None, arith, inl, length, refl, subst}
use Rattle.ts_model.specs.Numbers.{too_many_sessions}
use Rattle.result_text.specs.declared.replies.Said.TheVariants.{Fault}
use Rattle.result_text.specs.Replies.{reply_text}
use Rattle.ts_sessions.specs.declared.replies.StepEnd.TheVariants.{NoMemory}
use Rattle.ts_sessions.specs.Step.{bare}
use Rattle.ts_sessions.specs.Script.{executes_as, line_of_refusal}
use Rattle.script_run.specs.Sessions.{script_state_of}
use Rattle.script_run.specs.LineEnds.{Replies}
use Rattle.script_run.proofs.SessionLaws.{length-sessions}
use Rattle.script_run.proofs.LineLaws.{as_few, as_many, not_executed, refusal_executed, session_begins, taken_as, unchanged}
use Rattle.script_run.proofs.sessions.find_or_begin.Goals as goal

pub returns-in-Err : goal.returns-in-Err
returns-in-Err g c =
    let state = g.B.Backend.state c.args.backend.now in
    let entries = c.args.sessions.now.entries in
    let script_state = script_state_of g.A.Actor.places state.history entries in
    let whole = executes_as g.A.Actor.semantics script_state c.args.name.now c.args.text.now c.args.skip None in
    unchanged g.A.Actor g.B.Backend c.args.backend.now entries (length c.args.text.now) whole NoMemory g.B.Backend.alone c.args.steps.now c.requires.ready
    (inl (not_executed whole state c.args.steps.now c.requires.ready.going (session_begins g.A.Actor.semantics script_state c.args.name.now c.args.text.now c.args.skip None)))

pub returns-else-len-lt-MOST_SESSIONS : goal.returns-else-len-lt-MOST_SESSIONS
returns-else-len-lt-MOST_SESSIONS g c =
    let state = g.B.Backend.state c.args.backend.now in
    let steps = c.args.steps.now in
    let entries = c.args.sessions.now.entries in
    let script_state = script_state_of g.A.Actor.places state.history entries in
    let text = reply_text c.args.name.now (Fault (bare too_many_sessions)) in
    let replied = subst (λ n. Replies (reply_text n (Fault (bare too_many_sessions))) true c.refuse_session.result) c.in-Ok.ensures c.refuse_session.ensures in
    unchanged g.A.Actor g.B.Backend c.args.backend.now entries (length c.args.text.now) (executes_as g.A.Actor.semantics script_state c.args.name.now c.args.text.now c.args.skip None) c.step_end_of.result g.B.Backend.alone steps c.requires.ready
    (as_many c.step_end_of.result state state script_state steps steps g.A.Actor.semantics script_state c.args.name.now c.args.text.now c.args.skip (omega (arith, length-sessions g.A.Actor.places entries))
    (rw c.step_end_of.ensures (refusal_executed c.refuse_session.result (line_of_refusal script_state text) state script_state steps c.requires.ready.counts c.requires.ready.going replied refl refl refl)))

pub returns-then-len-lt-MOST_SESSIONS : goal.returns-then-len-lt-MOST_SESSIONS
returns-then-len-lt-MOST_SESSIONS g c =
    let places = g.A.Actor.places in
    let state = g.B.Backend.state c.args.backend.now in
    let entries = c.args.sessions.now.entries in
    let script_state = script_state_of places state.history entries in
    let new = c.begin_session.new.backend in
    let then = c.begin_session.new.sessions.entries in
    let end = c.begin_session.result in
    let bytes = length c.args.text.now in
    taken_as g.A.Actor g.B.Backend c.args.backend.now entries bytes (executes_as g.A.Actor.semantics script_state c.args.name.now c.args.text.now c.args.skip None) end bytes _ new then _ _ (omega arith)
    (as_few end state (g.B.Backend.state new) (script_state_of places (g.B.Backend.state new).history then) c.args.steps.now _ g.A.Actor.semantics script_state c.args.name.now c.in-Ok.session c.args.text.now c.args.skip c.in-Ok.ensures (omega (arith, length-sessions places entries)))
    c.begin_session.ensures
