use Rattle.image_laws.proofs.EndLaws.{histories_end as proved}
use Rattle.image_laws.proofs.laws.histories_end.Goals as goal

pub returns : goal.returns
returns c = proved
