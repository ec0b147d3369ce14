use Rattle.refresh_list.proofs.ImageLaws.{done_are}
use Rattle.refresh_list.proofs.laws.done_are.Goals as goal

pub returns : goal.returns
returns c = done_are
