use Rattle.cal_bucket.proofs.RowLaws.{fitting_rows_are_shown}
use Rattle.cal_bucket.proofs.laws.fitting_rows_are_shown.Goals as goal

pub returns : goal.returns
returns c = fitting_rows_are_shown
