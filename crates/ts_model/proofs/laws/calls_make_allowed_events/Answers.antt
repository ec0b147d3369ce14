use Rattle.ts_model.proofs.MadeLaws.{calls_make_allowed as proved}
use Rattle.ts_model.proofs.laws.calls_make_allowed_events.Goals as goal

pub returns : goal.returns
returns c = proved
