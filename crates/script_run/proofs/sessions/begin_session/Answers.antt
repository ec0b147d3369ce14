-- A new session comes last.
use Rattle.std.proofs.Common.{◌≡◌, length, ◌∙◌, arith, inl, subst, sym}
use Rattle.ts_sessions.specs.declared.replies.StepEnd.TheVariants.{NoMemory}
use Rattle.ts_sessions.specs.Script.{takes_turn}
use Rattle.script_run.specs.Executing.{HaveTaken}
use Rattle.script_run.specs.Sessions.{sessions_of, script_state_of}
use Rattle.script_run.proofs.SessionLaws.{at_ok, length-sessions, put_kept, sessions_put_kept, waiting_put_kept}
use Rattle.script_run.proofs.LineLaws.{answered_so, first_executed, not_executed, stepped_goes, turn_begins, unchanged}
use Rattle.script_run.proofs.sessions.begin_session.Goals as goal

pub returns-in-Err : goal.returns-in-Err
returns-in-Err g c =
    let entries = c.args.sessions.now.entries in
    let state = g.B.Backend.state c.args.backend.now in
    let script_state = script_state_of g.A.Actor.places state.history entries in
    let procedure = g.A.Actor.semantics.does (g.A.Actor.semantics.opening (length script_state.sessions)) c.args.text.now c.args.skip in
    let whole = takes_turn script_state c.args.session procedure in
    subst (λ es. HaveTaken g.A.Actor g.B.Backend c.args.backend.now entries (length c.args.text.now) whole NoMemory c.args.backend.now es c.args.steps.now c.args.steps.now) (sym c.make_room.ensures.kept)
    (unchanged g.A.Actor g.B.Backend c.args.backend.now entries (length c.args.text.now) whole NoMemory g.B.Backend.alone c.args.steps.now c.requires.ready
    (inl (not_executed whole state c.args.steps.now c.requires.ready.going (turn_begins script_state c.args.session procedure))))

pub returns : goal.returns
returns g c =
    let places = g.A.Actor.places in
    let entries = c.args.sessions.now.entries in
    let actor = c.take_turn-end.new.actor in
    let old = g.B.Backend.state c.args.backend.now in
    let after = g.B.Backend.state c.take_turn-end.new.backend in
    let end = c.take_turn-end.result in
    let inserted = at_ok c.insert.result c.unwrap.result _ c.unwrap.ensures c.insert.ensures.entries in
    let went = stepped_goes g.B.Backend.alone old _ _ end after _ _ _ c.take_turn-end.ensures.stepped in
    let number : g.A.Actor.numbered actor ≡ length entries = omega (arith, c.take_turn-end.ensures.number, c.begin-actor.ensures.number) in
    let put = λ (has : g.A.Actor.holds actor after). sessions_put_kept g.A.Actor g.met.A.Actor.holds_on old after went
    places c.args.session entries c.make_room.new.sessions.entries c.insert.new.self.entries c.in-Ok.key actor c.make_room.ensures.kept c.in-Ok.ensures.key inserted
    c.requires.ready.sessions c.requires.absent (c.take_turn-end.ensures.name ∙ c.begin-actor.ensures.name) number has in
    record {
      executed = first_executed g.A.Actor.semantics c.args.text.now c.args.skip _ (places c.begin-actor.result) g.B.Backend.alone c.requires.ready.by_itself old c.requires.ready.going
          (sessions_of places entries) (sessions_of places c.insert.new.self.entries) (g.A.Actor.named c.begin-actor.result) c.args.session c.begin-actor.ensures.name
          end after (places actor) c.args.steps.now c.take_turn-end.new.steps c.requires.ready.counts
          c.begin-actor.ensures.places (omega (arith, length-sessions places entries)) c.take_turn-end.ensures.stepped
          (put_kept places c.args.session entries c.make_room.new.sessions.entries c.insert.new.self.entries c.in-Ok.key actor
          c.make_room.ensures.kept c.in-Ok.ensures.key inserted);
      sessions = answered_so end (g.A.Actor.holds actor after) _ put c.take_turn-end.ensures.holds;
      waiting = waiting_put_kept g.A.Actor.waiting entries c.make_room.new.sessions.entries c.insert.new.self.entries c.in-Ok.key actor _
          c.make_room.ensures.kept inserted (omega (arith, c.take_turn-end.ensures.waiting, c.begin-actor.ensures.waiting));
      kin = c.take_turn-end.ensures.kin;
    }
