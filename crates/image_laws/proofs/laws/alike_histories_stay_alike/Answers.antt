use Rattle.image_laws.proofs.AlikeLaws.{alike_stays as proved}
use Rattle.image_laws.proofs.laws.alike_histories_stay_alike.Goals as goal

pub returns : goal.returns
returns c = proved
