use Rattle.image_runs.proofs.PolicyLaws.{PolicyFits, policy_lines}
use Rattle.image_runs.proofs.ScriptLaws.{scripts_go_on}
use Rattle.image_runs.proofs.laws.policy_scripts_go_on_from_images.Goals as goal
use Rattle.policy_jobs.specs.Laws.{policy_sessions}

pub returns : goal.returns
returns g c = scripts_go_on policy_sessions PolicyFits (policy_lines c.stays_outside.ensures)
