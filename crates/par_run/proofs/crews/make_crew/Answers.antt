use Rattle.std.proofs.Common.{◌∙◌, ◌+◌, None, length, map, sym, ap, subst, rules, map-id}
use Rattle.std.proofs.lemmas.List.{length_push}
use Rattle.std.proofs.lemmas.Iterator.Consumers.{YieldsList-end, YieldsList-turn}
use Rattle.std.proofs.lemmas.Iterator.Adapters.{YieldsList-from_vec}
use Rattle.par_lines.specs.Places.{scripts_of, IsWithin}
use Rattle.par_lines.specs.declared.sessions.SessionLines.{SessionLines}
use Rattle.par_workers.specs.Slots.{workers_of}
use Rattle.par_run.specs.Crews.{IsCrew}
use Rattle.par_run.specs.Workers.{number_of}
use Rattle.par_run.proofs.CrewLaws.{crew_begun, crew_more, numbers_more}
use Rattle.par_run.proofs.crews.make_crew.Goals as goal

pub loop-session-init : goal.loop-session-init
loop-session-init g c = record {
  can = tt;
  finite = tt;
  crew = crew_begun g.A.Actor c.args.input.now c.new-crew.result.items c.new-crew.ensures.items;
  numbers = ap (λ crew. map (number_of g.A.Actor.numbered) (workers_of crew)) c.new-crew.ensures.items;
  each = ap length c.new-crew.ensures.items;
}

pub new-requires-clause-within : goal.new-requires-clause-within
new-requires-clause-within g c =
    let t = YieldsList-turn (YieldsList-from_vec {s = c.into_iter-session-iterator.result} c.args.sessions.items (search rules) (search rules))
    c.loop-session.yielded c.loop-session.session-iterator c.loop-session.yielded_by c.next.result c.next.new.self c.in-Some.session c.in-Some.is c.next.ensures.steps in
    subst (IsWithin (length c.args.input.now)) (sym t.1) (c.requires.within (length c.loop-session.yielded) c.in-Some.session t.0)

pub loop-session-preserved : goal.loop-session-preserved
loop-session-preserved g c = record {
  can = tt;
  finite = tt;
  crew = crew_more g.A.Actor c.args.input.now c.loop-session.yielded c.loop-session.crew.items
      c.in-Some.session (c.new.result, None) c.push.new.self.items c.loop-session.invariant.crew c.new.ensures.script c.new.ensures.ready c.in_ok-push.ensures.items;
  numbers = numbers_more g.A.Actor.numbered c.loop-session.yielded c.loop-session.crew.items c.in-Some.session (c.new.result, None) c.push.new.self.items c.loop-session.invariant.numbers c.new.ensures.number c.in_ok-push.ensures.items;
  each = ap length c.in_ok-push.ensures.items ∙ length_push c.loop-session.crew.items (c.new.result, None) ∙ ap (λ n. n + 1) c.loop-session.invariant.each ∙ sym (length_push c.loop-session.yielded c.in-Some.session);
}

pub returns-clause-crew : goal.returns-clause-crew
returns-clause-crew g c =
    let end = YieldsList-end (YieldsList-from_vec {s = c.into_iter-session-iterator.result} c.args.sessions.items (search rules) (search rules))
    c.loop-session.yielded c.loop-session.session-iterator c.loop-session.yielded_by c.next.result c.next.new.self c.in-None.is c.next.ensures.steps in
    subst (λ xs. IsCrew g.A.Actor (scripts_of c.args.input.now xs) c.loop-session.crew.items)
    (sym (map-id c.loop-session.yielded) ∙ end.0) c.loop-session.invariant.crew

pub returns-clause-numbers : goal.returns-clause-numbers
returns-clause-numbers g c =
    let end = YieldsList-end (YieldsList-from_vec {s = c.into_iter-session-iterator.result} c.args.sessions.items (search rules) (search rules))
    c.loop-session.yielded c.loop-session.session-iterator c.loop-session.yielded_by c.next.result c.next.new.self c.in-None.is c.next.ensures.steps in
    c.loop-session.invariant.numbers ∙ ap (map (λ (session : SessionLines). session.number)) (sym (map-id c.loop-session.yielded) ∙ end.0)

pub returns-clause-each : goal.returns-clause-each
returns-clause-each g c =
    let end = YieldsList-end (YieldsList-from_vec {s = c.into_iter-session-iterator.result} c.args.sessions.items (search rules) (search rules))
    c.loop-session.yielded c.loop-session.session-iterator c.loop-session.yielded_by c.next.result c.next.new.self c.in-None.is c.next.ensures.steps in
    c.loop-session.invariant.each ∙ end.1
