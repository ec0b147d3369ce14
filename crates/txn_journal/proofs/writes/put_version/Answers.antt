use Rattle.std.proofs.Common.{◌∷◌, []}
use Rattle.ts_disk.specs.CrashImage.{Torn, file_after_write}
use Rattle.ts_disk.proofs.Told.{some_also}
use Rattle.txn_journal.specs.Contents.{content_of_version_2}
use Rattle.txn_journal.specs.Frames.{StandsForEither}
use Rattle.txn_journal.proofs.FrameLaws.{torn_raise, written_raise}
use Rattle.txn_journal.proofs.Moments.{on_ok, weaker}
use Rattle.txn_journal.proofs.writes.put_version.Goals as goal

pub returns-clause-any_moment : goal.returns-clause-any_moment
returns-clause-any_moment g c = λ end content rests.
    weaker g.D.Disk.moment g.D.Disk.left_since c.args.disk.now c.write_synced.new.disk (Torn 7 1 rests.tells.file) (StandsForEither content (content_of_version_2 content))
    (c.write_synced.ensures.crash rests.tells.file rests.tells.told rests.durable)
    (λ image torn. torn_raise rests.tells.file image end content rests.tells.lies torn)

pub returns-clause-shown : goal.returns-clause-shown
returns-clause-shown g c = λ end content tells.
    some_also (g.D.Disk.bytes c.write_synced.new.disk) (Torn 7 1 tells.file) (StandsForEither content (content_of_version_2 content))
    (λ now torn. torn_raise tells.file now end content tells.lies torn)
    (c.write_synced.ensures.shown tells.file tells.told)

pub returns-clause-done : goal.returns-clause-done
returns-clause-done g c = on_ok _ _ c.write_synced.result c.write_synced.ensures.done (λ done end content tells.
    let last = done tells.file tells.told in
    record {
      tells = record { file = file_after_write tells.file 7 (50 ∷ []); told = last.told; lies = written_raise tells.file end content tells.lies };
      durable = last.durable;
    })
