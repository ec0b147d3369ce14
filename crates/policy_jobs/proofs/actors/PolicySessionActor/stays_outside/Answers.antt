use Rattle.policy_jobs.proofs.ActorLaws.{stays_outside}
use Rattle.policy_jobs.proofs.actors.PolicySessionActor.stays_outside.Goals as goal

pub returns : goal.returns
returns g c = stays_outside g.A.Actor.within g.A.Actor.semantics.does c.stays_outside.ensures
