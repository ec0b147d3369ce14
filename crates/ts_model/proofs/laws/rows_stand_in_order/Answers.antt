use Rattle.ts_model.proofs.OrderLaws.{rows_stand_in_order as proved}
use Rattle.ts_model.proofs.laws.rows_stand_in_order.Goals as goal

pub returns : goal.returns
returns c = proved
