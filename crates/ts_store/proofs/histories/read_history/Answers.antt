-- A file that doesn't begin like a journal is damaged before any event.
use Rattle.ts_model.specs.History.{start}
use Rattle.ts_store.proofs.HistoryLaws.{sound_start}
use Rattle.ts_store.proofs.ReplayLaws.{damaged_short}
use Rattle.ts_store.proofs.histories.read_history.Goals as goal

pub returns-in-Damaged-clause-reads : goal.returns-in-Damaged-clause-reads
returns-in-Damaged-clause-reads g c = λ file told. damaged_short file start c.in-Damaged.at sound_start (c.in-Damaged.ensures.opens file told)
