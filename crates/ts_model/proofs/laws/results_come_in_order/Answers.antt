use Rattle.ts_model.proofs.OrderLaws.{results_come_in_order as proved}
use Rattle.ts_model.proofs.laws.results_come_in_order.Goals as goal

pub returns : goal.returns
returns c = proved
