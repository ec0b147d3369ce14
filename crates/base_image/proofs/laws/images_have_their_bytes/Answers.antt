use Rattle.base_image.proofs.Counts.{bytes_counted}
use Rattle.base_image.proofs.laws.images_have_their_bytes.Goals as goal

pub returns : goal.returns
returns c = bytes_counted
