-- A store at its start.
use Rattle.std.proofs.Common.{refl, arith}
use Rattle.ts_model.specs.History.{position}
use Rattle.ts_model.proofs.HistoryLaws.{prefix_end}
use Rattle.engine_core.specs.Histories.{history_of}
use Rattle.engine_core.specs.Values.{EngineValue}
use Rattle.txn_journal.specs.Calls.{Logged}
use Rattle.ts_store.specs.Starts.{IsNew}
use Rattle.ts_store.specs.Stores.{store_at_start}

pub new_at_start : {D : Type 0} (engine : EngineValue) (journal : Logged D) (begun : D) → IsNew begun (store_at_start engine journal begun)
new_at_start engine journal begun = record { begun = refl; goes_on = refl; unarmed = refl; opened = refl; whole = prefix_end (history_of engine.past) (position (history_of engine.past)) (omega arith) }
