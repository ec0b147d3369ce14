use Rattle.cal_bucket.proofs.RowLaws.{columns_show_rows}
use Rattle.cal_bucket.proofs.laws.columns_show_rows.Goals as goal

pub returns : goal.returns
returns c = columns_show_rows
