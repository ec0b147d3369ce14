use Rattle.refresh_list.proofs.ImageLaws.{images_stand}
use Rattle.refresh_list.proofs.laws.images_stand.Goals as goal

pub returns : goal.returns
returns c = images_stand
