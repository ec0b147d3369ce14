use Rattle.policy_jobs.proofs.RunLaws.{run_then}
use Rattle.policy_jobs.proofs.runs.run_one.Goals as goal

pub returns-clause-ran : goal.returns-clause-ran
returns-clause-ran g c = λ s before first short r.
    run_then g.A.Actor.semantics.does g.B.Backend.alone s first (g.A.Actor.named c.args.actor.now) c.args.run c.act-end.result c.goes_on.result (g.B.Backend.state c.args.backend.now) (g.A.Actor.places c.args.actor.now) c.args.text.now
    (g.B.Backend.state c.act-end.new.backend) (g.A.Actor.places c.act-end.new.self) before c.args.steps.now c.act-end.new.steps short r c.act-end.ensures.stepped c.goes_on.ensures
