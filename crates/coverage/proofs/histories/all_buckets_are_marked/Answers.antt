use Rattle.coverage.proofs.WholeLaws.{all_buckets_are as proved}
use Rattle.coverage.proofs.histories.all_buckets_are_marked.Goals as goal

pub returns : goal.returns
returns c = proved
