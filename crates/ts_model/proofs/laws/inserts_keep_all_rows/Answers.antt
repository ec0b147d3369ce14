use Rattle.ts_model.proofs.CountLaws.{inserts_keep_all as proved}
use Rattle.ts_model.proofs.laws.inserts_keep_all_rows.Goals as goal

pub returns : goal.returns
returns c = proved
