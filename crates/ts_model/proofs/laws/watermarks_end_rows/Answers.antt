use Rattle.ts_model.proofs.RowMarkLaws.{marks_end_rows as proved}
use Rattle.ts_model.proofs.laws.watermarks_end_rows.Goals as goal

pub returns : goal.returns
returns c = proved
