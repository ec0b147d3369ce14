use Rattle.std.proofs.Common.{◌≡◌, Some, subst}
use Rattle.ts_disk.specs.CrashImage.{Only}
use Rattle.ts_model.specs.History.{start}
use Rattle.ts_store.proofs.HistoryLaws.{sound_start}
use Rattle.ts_store.proofs.ReplayLaws.{damaged_short}
use Rattle.ts_store.proofs.stores.Store.start.Goals as goal

pub from_replayed-requires-clause-tells : goal.from_replayed-requires-clause-tells
from_replayed-requires-clause-tells g c = λ file told.
    let told_there = subst (λ (d : g.row.D.Denot). g.D.Disk.bytes d ≡ Some file) c.of-begun.ensures.value told in
    c.replay.ensures.tells file (c.in-Reading.ensures.opens file told_there)

pub from_replayed-requires-clause-at_rest : goal.from_replayed-requires-clause-at_rest
from_replayed-requires-clause-at_rest g c = λ file told durable.
    let told_there = subst (λ (d : g.row.D.Denot). g.D.Disk.bytes d ≡ Some file) c.of-begun.ensures.value told in
    let durable_there = subst (λ (d : g.row.D.Denot). Only file (g.D.Disk.may_leave d)) c.of-begun.ensures.value durable in
    c.replay.ensures.at_rest file (c.in-Reading.ensures.opens file told_there) (λ image left. durable_there image (c.in-Reading.ensures.kept.leaves image left))

pub returns-in-Damaged-clause-starts : goal.returns-in-Damaged-clause-starts
returns-in-Damaged-clause-starts g c = λ file told. damaged_short file start c.in-Damaged.at sound_start (c.in-Damaged.ensures.opens file told)
