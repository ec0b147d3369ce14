use Rattle.std.proofs.Common.{◌∷◌, [], ap, subst, sym}
use Rattle.shared_store.specs.Wrapped.{GoesOn}
use Rattle.shared_store.proofs.GoesOnLaws.{goes_nowhere}
use Rattle.par_lines.specs.Sorted.{at_once, final, only, setup, sorted_lines}
use Rattle.par_laws.proofs.BrokenLaws.{none_began, far_of_same}
use Rattle.par_run.specs.Crews.{scripts_in}
use Rattle.par_run.specs.Outputs.{output_of}
use Rattle.par_run.proofs.RunLaws.{ran_of_same}
use Rattle.par_run.proofs.runs.par.Goals as goal
use Rattle.ts_schema.proofs.Cases.{none_there}

pub run_over-requires-clause-going : goal.run_over-requires-clause-going
run_over-requires-clause-going g c κs within = none_there (g.B.Backend.state c.args.backend).failed c.requires.going

pub returns-in-Ok-clause-ran : goal.returns-in-Ok-clause-ran
returns-in-Ok-clause-ran g c = λ other.
    let crews = c.in-Ok.crews in
    let sorted_input = sorted_lines c.args.input.now in
    let end = c.run_over.result in
    ran_of_same g.A.Actor.replies (g.A.Actor.semantics.opening 0) (g.B.Backend.state c.args.backend).history crews.refusals.items sorted_input.refusals
    (scripts_in g.A.Actor.named crews.setup.items) (only setup sorted_input.sessions) (scripts_in g.A.Actor.named crews.at_once.items) (at_once sorted_input.sessions) (scripts_in g.A.Actor.named crews.last.items) (only final sorted_input.sessions)
    (g.B.Backend.state end.backend) (output_of end) end.reads
    c.in-Ok.ensures.lines.refusals c.in-Ok.ensures.lines.setup_is c.in-Ok.ensures.lines.at_once_are c.in-Ok.ensures.lines.last_is (c.run_over.ensures.ran other)

pub returns-in-Ok-clause-as_far : goal.returns-in-Ok-clause-as_far
returns-in-Ok-clause-as_far g c =
    let actors = g.A.Actor in
    let crews = c.in-Ok.crews in
    let sessions = (sorted_lines c.args.input.now).sessions in
    let end = c.run_over.result in
    far_of_same actors.within actors.semantics.does (actors.semantics.opening 0) (g.B.Backend.state c.args.backend).history
    (scripts_in actors.named crews.setup.items) (only setup sessions) (scripts_in actors.named crews.at_once.items) (at_once sessions) (scripts_in actors.named crews.last.items) (only final sessions)
    (g.B.Backend.state end.backend) end.reads
    c.in-Ok.ensures.lines.setup_is c.in-Ok.ensures.lines.at_once_are c.in-Ok.ensures.lines.last_is c.run_over.ensures.as_far

pub returns-in-Err-clause-as_far : goal.returns-in-Err-clause-as_far
returns-in-Err-clause-as_far g c =
    let actors = g.A.Actor in
    let sessions = (sorted_lines c.args.input.now).sessions in
    none_began actors.within actors.semantics.does (actors.semantics.opening 0) (only setup sessions ∷ at_once sessions ∷ only final sessions ∷ [])
    (g.B.Backend.state c.args.backend) (g.B.Backend.state c.end_run.result.backend) c.end_run.result.reads (ap g.B.Backend.state c.end_run.ensures.backend) c.end_run.ensures.reads

pub returns-in-Err-clause-goes_on : goal.returns-in-Err-clause-goes_on
returns-in-Err-clause-goes_on g c =
    let first = g.B.Backend.state c.args.backend in
    subst (λ b. GoesOn first (g.B.Backend.state b)) (sym c.end_run.ensures.backend) (goes_nowhere first (none_there first.failed c.requires.going))
