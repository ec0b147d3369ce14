use Rattle.coverage.proofs.TellLaws.{covered_tells_fed as proved}
use Rattle.coverage.proofs.steps.covering_notes_tell_what_is_fed.Goals as goal

pub returns : goal.returns
returns c = proved
