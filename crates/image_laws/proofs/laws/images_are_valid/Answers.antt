use Rattle.image_laws.proofs.ValidImages.{images_are_valid as proved}
use Rattle.image_laws.proofs.laws.images_are_valid.Goals as goal

pub returns : goal.returns
returns c = proved
