use Rattle.ts_model.proofs.UntouchedLaws.{spans_keep_groups as proved}
use Rattle.ts_model.proofs.laws.spans_keep_groups.Goals as goal

pub returns : goal.returns
returns c = proved
