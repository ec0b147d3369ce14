use Rattle.cal_bucket.proofs.JiffLaws.{months_start_with_first_dates}
use Rattle.cal_bucket.proofs.laws.months_start_with_first_dates.Goals as goal

pub returns : goal.returns
returns c = months_start_with_first_dates
