use Rattle.std.proofs.Common.{◌∙◌, ◌∷◌, [], ap, subst, sym}
use Rattle.shared_store.specs.Wrapped.{GoesOn}
use Rattle.shared_store.proofs.GoesOnLaws.{goes_nowhere}
use Rattle.par_laws.proofs.BrokenLaws.{none_began}
use Rattle.par_run.specs.Crews.{CrewsRan, CrewsRanAsFar, scripts_in}
use Rattle.par_run.specs.Outputs.{output_of}
use Rattle.par_run.proofs.runs.run_over.Goals as goal

pub returns-in-Made-clause-ran : goal.returns-in-Made-clause-ran
returns-in-Made-clause-ran g c = λ other.
    let state = g.B.Backend.state in
    let end = c.run_crews.result in
    subst (λ b. CrewsRan g.A.Actor (state b).history c.args.crews (state end.backend) (output_of end) end.reads) c.in-Made.ensures.store_backend (c.run_crews.ensures.ran other)

pub returns-in-Made-clause-as_far : goal.returns-in-Made-clause-as_far
returns-in-Made-clause-as_far g c =
    let state = g.B.Backend.state in
    let end = c.run_crews.result in
    subst (λ b. CrewsRanAsFar g.A.Actor (state b).history c.args.crews (state end.backend) end.reads) c.in-Made.ensures.store_backend c.run_crews.ensures.as_far

pub returns-in-NoMemory-clause-as_far : goal.returns-in-NoMemory-clause-as_far
returns-in-NoMemory-clause-as_far g c =
    let state = g.B.Backend.state in
    let actors = g.A.Actor in
    let crews = c.args.crews in
    none_began actors.within actors.semantics.does (actors.semantics.opening 0)
    (scripts_in actors.named crews.setup.items ∷ scripts_in actors.named crews.at_once.items ∷ scripts_in actors.named crews.last.items ∷ [])
    (state c.args.backend) (state c.end_run.result.backend) c.end_run.result.reads (ap state (c.end_run.ensures.backend ∙ c.in-NoMemory.ensures)) c.end_run.ensures.reads

pub returns-in-NoMemory-clause-goes_on : goal.returns-in-NoMemory-clause-goes_on
returns-in-NoMemory-clause-goes_on g c =
    let first = g.B.Backend.state c.args.backend in
    subst (λ b. GoesOn first (g.B.Backend.state b)) (sym (c.end_run.ensures.backend ∙ c.in-NoMemory.ensures)) (goes_nowhere first c.requires.going)
