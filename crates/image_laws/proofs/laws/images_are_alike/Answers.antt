use Rattle.image_laws.proofs.ImageLaws.{images_are_alike as proved}
use Rattle.image_laws.proofs.laws.images_are_alike.Goals as goal

pub returns : goal.returns
returns c = proved
