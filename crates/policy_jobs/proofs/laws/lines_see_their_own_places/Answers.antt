use Rattle.policy_jobs.proofs.PlaceLaws.{lines_see_their_own_places}
use Rattle.policy_jobs.proofs.laws.lines_see_their_own_places.Goals as goal

pub returns : goal.returns
returns g c = lines_see_their_own_places
