-- A session that has appeared takes its turn at the index of its name.
use Rattle.std.proofs.Common.{ℕ, length, sym, ◌∙◌, arith}
use Rattle.std.specs.Global.{Vec}
use Rattle.ts_sessions.specs.Script.{places_of}
use Rattle.script_run.specs.Sessions.{sessions_of, script_state_of}
use Rattle.script_run.proofs.SessionLaws.{name_found, places_at, no_places_found, set_sessions, sessions_at, sessions_set, waiting_at, waiting_set}
use Rattle.script_run.proofs.LineLaws.{answered_so, as_found, as_missing, stepped_goes, taken_as, turn_executed}
use Rattle.script_run.proofs.sessions.execute_in_session.Goals as goal

pub take_turn-requires-clause-room : goal.take_turn-requires-clause-room
take_turn-requires-clause-room g c κs within =
    let entry : Vec ℕ × g.row.A.Denot = (c.pair_mut-actor.result.0.now, c.pair_mut-actor.result.1.now) in
    omega (arith, waiting_at g.A.Actor.waiting c.args.sessions.now.entries c.in-Some.place entry c.pair_mut-actor.ensures.value, c.requires.ready.room)

pub take_turn-requires-clause-holds : goal.take_turn-requires-clause-holds
take_turn-requires-clause-holds g c κs within =
    let entry : Vec ℕ × g.row.A.Denot = (c.pair_mut-actor.result.0.now, c.pair_mut-actor.result.1.now) in
    (sessions_at g.A.Actor (g.B.Backend.state c.args.backend.now) 0 c.args.sessions.now.entries c.in-Some.place entry c.requires.ready.sessions c.pair_mut-actor.ensures.value).holds_well

pub find_or_begin-requires-clause-absent : goal.find_or_begin-requires-clause-absent
find_or_begin-requires-clause-absent g c κs within = no_places_found g.A.Actor.places c.args.name.now c.args.sessions.now.entries (sym c.in-None.ensures.found)

pub returns-in-Some : goal.returns-in-Some
returns-in-Some g c =
    let places = g.A.Actor.places in
    let entries = c.args.sessions.now.entries in
    let name = c.args.name.now in
    let place = c.in-Some.place in
    let old = g.B.Backend.state c.args.backend.now in
    let after = g.B.Backend.state c.take_turn.new.backend in
    let actor = c.take_turn.new.actor in
    let entry : Vec ℕ × g.row.A.Denot = (c.pair_mut-actor.result.0.now, c.pair_mut-actor.result.1.now) in
    let index = sym c.in-Some.ensures.index in
    let at = c.pair_mut-actor.ensures.value in
    let known = sessions_at g.A.Actor old 0 entries place entry c.requires.ready.sessions at in
    let own = known.name ∙ sym (name_found name entries place entry index at) in
    let went = stepped_goes g.B.Backend.alone old _ _ c.take_turn.result after _ _ _ c.take_turn.ensures.stepped in
    let set = λ (has : g.A.Actor.holds actor after). sessions_set g.A.Actor g.met.A.Actor.holds_on old after went 0 entries place entry actor
    c.requires.ready.sessions at c.take_turn.ensures.name c.take_turn.ensures.number has in
    record {
      executed = as_found c.take_turn.result old after _ c.args.steps.now c.take_turn.new.steps g.A.Actor.semantics (script_state_of places old.history entries) name c.args.text.now c.args.skip
          _ (places entry.1) (places_at name entries place entry places index at)
          (turn_executed g.B.Backend.alone c.requires.ready.by_itself old c.requires.ready.going (sessions_of places entries) _ _ _ name own c.take_turn.result
          after (places actor) c.args.steps.now c.take_turn.new.steps c.requires.ready.counts c.take_turn.ensures.stepped
          (set_sessions places name entries place entry actor index at));
      sessions = answered_so c.take_turn.result (g.A.Actor.holds actor after) _ set c.take_turn.ensures.holds;
      waiting = waiting_set g.A.Actor.waiting entries place entry actor _ at c.take_turn.ensures.waiting;
      kin = c.take_turn.ensures.kin;
    }

pub returns-in-None : goal.returns-in-None
returns-in-None g c =
    let places = g.A.Actor.places in
    let name = c.args.name.now in
    let old = g.B.Backend.state c.args.backend.now in
    let new = c.find_or_begin.new.backend in
    let entries = c.args.sessions.now.entries in
    let then = c.find_or_begin.new.sessions.entries in
    let script_state = script_state_of places old.history entries in
    taken_as g.A.Actor g.B.Backend c.args.backend.now entries (length c.args.text.now) _ c.find_or_begin.result (length c.args.text.now) _ new then _ _ (omega arith)
    (as_missing c.find_or_begin.result old (g.B.Backend.state new) (script_state_of places (g.B.Backend.state new).history then) c.args.steps.now c.find_or_begin.new.steps g.A.Actor.semantics script_state name c.args.text.now c.args.skip
    (places_of name script_state.sessions) (no_places_found places name entries (sym c.in-None.ensures.found)))
    c.find_or_begin.ensures
