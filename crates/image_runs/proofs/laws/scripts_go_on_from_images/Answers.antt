use Rattle.image_runs.proofs.LineLaws.{session_lines}
use Rattle.image_runs.proofs.PlaceLaws.{PlacesFit}
use Rattle.image_runs.proofs.ScriptLaws.{scripts_go_on}
use Rattle.image_runs.proofs.laws.scripts_go_on_from_images.Goals as goal
use Rattle.ts_sessions.specs.Script.{session_semantics}

pub returns : goal.returns
returns c = scripts_go_on session_semantics PlacesFit session_lines
