use Rattle.policy_jobs.proofs.ActorLaws.{policies_tell}
use Rattle.policy_jobs.proofs.actors.PolicySessionActor.tells_replies.Goals as goal

pub returns : goal.returns
returns g c = policies_tell g.A.Actor.within g.A.Actor.semantics.does g.A.Actor.replies c.tells_replies.ensures
