use Rattle.std.proofs.Common.{◌∙◌, All, length, refl, arith, ap, subst}
use Rattle.std.specs.Option.{option_to_list}
use Rattle.par_lines.specs.Places.{script_of, scripts_of}
use Rattle.par_lines.specs.Sorted.{Sorted, at_once, final, only, setup, sorted_lines, HasNumber}
use Rattle.par_lines.proofs.Numbering.{has_number}
use Rattle.par_lines.proofs.PhaseLaws.{only_script, scripts_at_once}
use Rattle.par_run.proofs.CrewLaws.{numbered_phase, of_phase, one_listed, within_listed}
use Rattle.par_run.proofs.crews.make_crews.Goals as goal

pub make_crew-requires-clause-within : goal.make_crew-requires-clause-within
make_crew-requires-clause-within g c =
    let n = length c.args.input.now in
    within_listed n c.into_phases-phases.result.setup c.in_ok-setup_session.setup_session.items c.in_ok-setup_session.ensures (c.into_phases-phases.ensures.within n c.in_ok-lines.ensures.within).setup

pub make_crew-requires-2-clause-within : goal.make_crew-requires-2-clause-within
make_crew-requires-2-clause-within g c = (c.into_phases-phases.ensures.within (length c.args.input.now) c.in_ok-lines.ensures.within).at_once

pub make_crew-requires-3-clause-within : goal.make_crew-requires-3-clause-within
make_crew-requires-3-clause-within g c =
    let n = length c.args.input.now in
    within_listed n c.into_phases-phases.result.last c.in_ok-last_session.last_session.items c.in_ok-last_session.ensures (c.into_phases-phases.ensures.within n c.in_ok-lines.ensures.within).last

pub returns-clause-lines : goal.returns-clause-lines
returns-clause-lines g c =
    let input = c.args.input.now in
    let lines = c.in_ok-lines.lines in
    let phases = c.into_phases-phases in
    let sorted_so = c.in_ok-lines.ensures.sorted in
    record {
      refusals = ap (λ s. s.refusals) sorted_so;
      setup_is = of_phase g.A.Actor.named input lines (only setup) (option_to_list phases.result.setup) c.in_ok-setup_session.setup_session.items c.in_ok-setup.setup.items c.in_ok-setup.ensures.crew.scripts c.in_ok-setup_session.ensures (ap (scripts_of input) phases.ensures.setup ∙ only_script lines.sessions.items input setup) sorted_so;
      at_once_are = of_phase g.A.Actor.named input lines at_once phases.result.at_once.items phases.result.at_once.items c.in_ok-at_once.at_once.items c.in_ok-at_once.ensures.crew.scripts refl (ap (scripts_of input) phases.ensures.at_once ∙ scripts_at_once lines.sessions.items input) sorted_so;
      last_is = of_phase g.A.Actor.named input lines (only final) (option_to_list phases.result.last) c.in_ok-last_session.last_session.items c.in_ok-last.last.items c.in_ok-last.ensures.crew.scripts c.in_ok-last_session.ensures (ap (scripts_of input) phases.ensures.last ∙ only_script lines.sessions.items input final) sorted_so;
    }

pub returns-clause-numbered : goal.returns-clause-numbered
returns-clause-numbered g c =
    let input = c.args.input.now in
    let actors = g.A.Actor in
    let sessions = c.in_ok-lines.lines.sessions.items in
    let phases = c.into_phases-phases.ensures in
    let appeared = (sorted_lines input).sessions in
    let each : All (λ session. HasNumber appeared (script_of input session) session.number) sessions =
    subst (λ scripts. All (λ session. HasNumber scripts (script_of input session) session.number) sessions) (ap (λ (s : Sorted). s.sessions) c.in_ok-lines.ensures.sorted) (has_number input sessions c.in_ok-lines.ensures.numbered) in
    record {
      setup_is = numbered_phase actors.named actors.numbered input appeared _ sessions c.in_ok-setup_session.setup_session.items c.in_ok-setup.setup.items each (c.in_ok-setup_session.ensures ∙ phases.setup) c.in_ok-setup.ensures.crew.scripts c.in_ok-setup.ensures.numbers;
      at_once_are = numbered_phase actors.named actors.numbered input appeared _ sessions c.into_phases-phases.result.at_once.items c.in_ok-at_once.at_once.items each phases.at_once c.in_ok-at_once.ensures.crew.scripts c.in_ok-at_once.ensures.numbers;
      last_is = numbered_phase actors.named actors.numbered input appeared _ sessions c.in_ok-last_session.last_session.items c.in_ok-last.last.items each (c.in_ok-last_session.ensures ∙ phases.last) c.in_ok-last.ensures.crew.scripts c.in_ok-last.ensures.numbers;
    }

pub returns-clause-ready : goal.returns-clause-ready
returns-clause-ready g c = record {
  setup_is = c.in_ok-setup.ensures.crew.ready;
  at_once_are = c.in_ok-at_once.ensures.crew.ready;
  last_is = c.in_ok-last.ensures.crew.ready;
}

pub returns-clause-few : goal.returns-clause-few
returns-clause-few g c = record {
  setup_is = omega (arith, c.in_ok-setup.ensures.each, one_listed c.into_phases-phases.result.setup c.in_ok-setup_session.setup_session.items c.in_ok-setup_session.ensures);
  at_once_are = omega (arith, c.in_ok-at_once.ensures.each, c.into_phases-phases.ensures.few, c.in_ok-lines.ensures.few);
  last_is = omega (arith, c.in_ok-last.ensures.each, one_listed c.into_phases-phases.result.last c.in_ok-last_session.last_session.items c.in_ok-last_session.ensures);
}
