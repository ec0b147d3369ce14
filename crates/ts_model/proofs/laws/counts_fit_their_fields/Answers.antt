use Rattle.ts_model.proofs.FieldLaws.{counts_fit as proved}
use Rattle.ts_model.proofs.laws.counts_fit_their_fields.Goals as goal

pub returns : goal.returns
returns c = proved
