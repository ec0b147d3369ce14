-- A line that no session answers changes nothing, and any other is a line of its session.
use Rattle.std.proofs.Common.{arith, length, refl, sym}
use Rattle.stmt_tokens.specs.declared.lines.LineKind.TheVariants.{Blank, NotAscii, NoSession, Stmt}
use Rattle.ts_sessions.specs.declared.replies.StepEnd.TheVariants.{Reply}
use Rattle.ts_sessions.specs.Script.{executes_kind}
use Rattle.script_run.specs.Sessions.{script_state_of}
use Rattle.script_run.proofs.LineLaws.{as_kind, refusal_executed, same_answered, taken_as, unchanged}
use Rattle.stmt_tokens.proofs.StatementLines.{statement_line}
use Rattle.script_run.proofs.lines.execute_line.Goals as goal

pub execute_statement-requires-clause-statement_line : goal.execute_statement-requires-clause-statement_line
execute_statement-requires-clause-statement_line g c κs within = statement_line c.args.line.now c.in-Stmt.name_len c.in-Stmt.skip c.in-Stmt.end (sym c.in-Stmt.ensures.kind)

pub returns-in-Blank : goal.returns-in-Blank
returns-in-Blank g c =
    let state = g.B.Backend.state c.args.backend.now in
    let steps = c.args.steps.now in
    let entries = c.args.sessions.now.entries in
    let script_state = script_state_of g.A.Actor.places state.history entries in
    let line = c.args.line.now in
    let whole = executes_kind g.A.Actor.semantics script_state c.args.number line Blank in
    unchanged g.A.Actor g.B.Backend c.args.backend.now entries (length line) _ (Reply c.silence.result) g.B.Backend.alone steps c.requires.ready
    (as_kind (Reply c.silence.result) state state script_state steps steps g.A.Actor.semantics script_state c.args.number line Blank c.requires.ready.short c.in-Blank.ensures.kind
    (same_answered whole c.silence.result state script_state steps c.requires.ready.counts c.requires.ready.going c.silence.ensures refl refl))

pub returns-in-NotAscii : goal.returns-in-NotAscii
returns-in-NotAscii g c =
    let state = g.B.Backend.state c.args.backend.now in
    let steps = c.args.steps.now in
    let entries = c.args.sessions.now.entries in
    let script_state = script_state_of g.A.Actor.places state.history entries in
    let line = c.args.line.now in
    let whole = executes_kind g.A.Actor.semantics script_state c.args.number line NotAscii in
    unchanged g.A.Actor g.B.Backend c.args.backend.now entries (length line) _ c.step_end_of.result g.B.Backend.alone steps c.requires.ready
    (as_kind c.step_end_of.result state state script_state steps steps g.A.Actor.semantics script_state c.args.number line NotAscii c.requires.ready.short c.in-NotAscii.ensures.kind
    (rw c.step_end_of.ensures (refusal_executed c.refuse_line.result whole state script_state steps c.requires.ready.counts c.requires.ready.going c.refuse_line.ensures refl refl refl)))

pub returns-in-NoSession : goal.returns-in-NoSession
returns-in-NoSession g c =
    let state = g.B.Backend.state c.args.backend.now in
    let steps = c.args.steps.now in
    let entries = c.args.sessions.now.entries in
    let script_state = script_state_of g.A.Actor.places state.history entries in
    let line = c.args.line.now in
    let whole = executes_kind g.A.Actor.semantics script_state c.args.number line NoSession in
    unchanged g.A.Actor g.B.Backend c.args.backend.now entries (length line) _ c.step_end_of-in-NoSession.result g.B.Backend.alone steps c.requires.ready
    (as_kind c.step_end_of-in-NoSession.result state state script_state steps steps g.A.Actor.semantics script_state c.args.number line NoSession c.requires.ready.short c.in-NoSession.ensures.kind
    (rw c.step_end_of-in-NoSession.ensures (refusal_executed c.refuse_line-in-NoSession.result whole state script_state steps c.requires.ready.counts c.requires.ready.going c.refuse_line-in-NoSession.ensures refl refl refl)))

pub returns-in-Stmt : goal.returns-in-Stmt
returns-in-Stmt g c =
    let state = g.B.Backend.state c.args.backend.now in
    let steps = c.args.steps.now in
    let entries = c.args.sessions.now.entries in
    let script_state = script_state_of g.A.Actor.places state.history entries in
    let line = c.args.line.now in
    let new = c.execute_statement.new.backend in
    let then = c.execute_statement.new.sessions.entries in
    let end = c.execute_statement.result in
    taken_as g.A.Actor g.B.Backend c.args.backend.now entries (length line) _ end (length line) _ new then _ _ (omega arith)
    (as_kind end state (g.B.Backend.state new) (script_state_of g.A.Actor.places (g.B.Backend.state new).history then) steps _ g.A.Actor.semantics script_state c.args.number line (Stmt c.in-Stmt.name_len c.in-Stmt.skip c.in-Stmt.end) c.requires.ready.short c.in-Stmt.ensures.kind)
    c.execute_statement.ensures
