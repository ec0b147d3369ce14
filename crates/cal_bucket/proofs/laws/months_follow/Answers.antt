use Rattle.cal_bucket.proofs.JiffLaws.{january_2000, months_follow}
use Rattle.cal_bucket.proofs.laws.months_follow.Goals as goal

pub returns-clause-first : goal.returns-clause-first
returns-clause-first c = january_2000

pub returns-clause-next : goal.returns-clause-next
returns-clause-next c = months_follow
