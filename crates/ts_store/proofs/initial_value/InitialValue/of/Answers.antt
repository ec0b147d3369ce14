use Rattle.std.proofs.Common.{[]}
use Rattle.ts_store.proofs.NoteLaws.{first_is}
use Rattle.ts_store.proofs.initial_value.InitialValue.of.Goals as goal

pub returns : goal.returns
returns g c = record { value = first_is _ _ c.args.value.now [] (c.open_row-seen.ensures).1 }
