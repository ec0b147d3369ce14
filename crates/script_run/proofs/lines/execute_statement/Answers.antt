-- A line is the statement of its session.
use Rattle.std.proofs.Common.{◌≡◌, suc, ◌-◌, ◌∙◌, ap, arith, drop, length, length-take, subst, take}
use Rattle.ts_sessions.specs.Script.{executes_as, places_of}
use Rattle.script_run.specs.LineEnds.{LineExecuted}
use Rattle.script_run.specs.Sessions.{script_state_of}
use Rattle.script_run.proofs.LineLaws.{ready_for, taken_as}
use Rattle.script_run.proofs.lines.execute_statement.Goals as goal

pub execute_in_session-requires-clause-ready : goal.execute_in_session-requires-clause-ready
execute_in_session-requires-clause-ready g c κs within =
    ready_for g.A.Actor g.B.Backend.alone (g.B.Backend.state c.args.backend.now) c.args.sessions.now.entries (length c.args.line.now) _ c.args.steps.now (omega (arith, length-take c.args.end c.args.line.now)) c.requires.ready

pub returns : goal.returns
returns g c =
    let state = g.B.Backend.state c.args.backend.now in
    let entries = c.args.sessions.now.entries in
    let script_state = script_state_of g.A.Actor.places state.history entries in
    let new = c.execute_in_session.new.backend in
    let then = c.execute_in_session.new.sessions.entries in
    let end = c.execute_in_session.result in
    let text = take c.args.end c.args.line.now in
    let from : c.args.skip - 1 - c.args.name_len ≡ c.args.skip - suc c.args.name_len = omega arith in
    let named = c.name_at-name.ensures ∙ ap (λ k. take c.args.name_len (drop k c.args.line.now)) from in
    taken_as g.A.Actor g.B.Backend c.args.backend.now entries (length c.args.line.now) _ end (length text) _ new then c.args.steps.now c.execute_in_session.new.steps (omega (arith, length-take c.args.end c.args.line.now))
    (subst (λ name. LineExecuted end (executes_as g.A.Actor.semantics script_state name text c.args.skip (places_of name script_state.sessions)) state (g.B.Backend.state new) (script_state_of g.A.Actor.places (g.B.Backend.state new).history then) c.args.steps.now c.execute_in_session.new.steps) named)
    c.execute_in_session.ensures
