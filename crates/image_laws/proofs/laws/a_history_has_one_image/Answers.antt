use Rattle.image_laws.proofs.OneImage.{one_image as proved}
use Rattle.image_laws.proofs.laws.a_history_has_one_image.Goals as goal

pub returns : goal.returns
returns c = proved
