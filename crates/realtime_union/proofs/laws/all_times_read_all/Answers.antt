use Rattle.realtime_union.proofs.NearLaws.{all_times_read_all}
use Rattle.realtime_union.proofs.laws.all_times_read_all.Goals as goal

pub returns : goal.returns
returns c = all_times_read_all
