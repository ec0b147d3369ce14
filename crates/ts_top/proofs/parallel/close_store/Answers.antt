-- The file of a store that created no event represents the opening history.
use Rattle.std.proofs.Common.{ap, subst}
use Rattle.ts_store.specs.Images.{IsBetween, StandsForEither, latest}
use Rattle.ts_store.specs.Stands.{Stands}
use Rattle.ts_store.specs.Stores.{history_seen}
use Rattle.ts_top.proofs.OutcomeLaws.{the_one}
use Rattle.ts_top.proofs.ParallelLaws.{only_one}
use Rattle.ts_disk.proofs.Told.{some_also}
use Rattle.ts_top.proofs.parallel.close_store.Goals as goal

pub returns-clause-holds : goal.returns-clause-holds
returns-clause-holds g c d =
    let store = c.args.store in
    some_also (g.D.Disk.bytes c.close.result) (StandsForEither (history_seen store) (latest (history_seen store) store.failed)) (λ file. Stands file (history_seen store))
    (λ file either. the_one (history_seen store) store.failed file c.requires.goes_on either) (c.close.ensures.shown d)

pub returns-clause-images : goal.returns-clause-images
returns-clause-images g c x image =
    let store = c.args.store in
    only_one (history_seen store) store.failed x c.requires.goes_on (subst (λ h. IsBetween h (history_seen store) store.failed x) c.requires.whole (c.close.ensures.images image.0 x image.1))

pub returns-clause-header : goal.returns-clause-header
returns-clause-header g c d = c.close.ensures.header c.requires.armed c.requires.goes_on d

pub returns-clause-counted : goal.returns-clause-counted
returns-clause-counted g c = ap g.D.Disk.faults c.close.ensures.disk

pub returns-clause-lasting : goal.returns-clause-lasting
returns-clause-lasting g c = c.close.ensures.rests c.requires.goes_on
