use Rattle.cal_bucket.proofs.WidthLaws.{days_have_a_width, weeks_have_a_width, weeks_start_on_mondays}
use Rattle.cal_bucket.proofs.laws.weeks_start_on_mondays.Goals as goal

pub returns-clause-days : goal.returns-clause-days
returns-clause-days c = days_have_a_width

pub returns-clause-weeks : goal.returns-clause-weeks
returns-clause-weeks c = weeks_have_a_width

pub returns-clause-mondays : goal.returns-clause-mondays
returns-clause-mondays c = weeks_start_on_mondays
