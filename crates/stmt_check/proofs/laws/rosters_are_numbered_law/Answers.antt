use Rattle.stmt_check.proofs.RosterLaws.{rosters_are_numbered}
use Rattle.stmt_check.proofs.laws.rosters_are_numbered_law.Goals as goal

pub returns : goal.returns
returns c = rosters_are_numbered
