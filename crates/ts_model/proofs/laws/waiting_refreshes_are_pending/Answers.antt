use Rattle.ts_model.proofs.WaitingLaws.{waiting_is_pending as proved}
use Rattle.ts_model.proofs.laws.waiting_refreshes_are_pending.Goals as goal

pub returns : goal.returns
returns c = proved
