use Rattle.ts_model.proofs.MarkLaws.{marks_are_ends as proved}
use Rattle.ts_model.proofs.laws.marks_are_ends.Goals as goal

pub returns : goal.returns
returns c = proved
