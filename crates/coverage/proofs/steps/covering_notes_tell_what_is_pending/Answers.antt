use Rattle.coverage.proofs.TellLaws.{covered_tells as proved}
use Rattle.coverage.proofs.steps.covering_notes_tell_what_is_pending.Goals as goal

pub returns : goal.returns
returns c = proved
