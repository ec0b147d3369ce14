use Rattle.engine_core.specs.Histories.{history_of}
use Rattle.ts_store.specs.Stands.{content_of}
use Rattle.ts_store.proofs.CheckpointLaws.{counts_raised, saves_done, saves_run, saves_shown}
use Rattle.ts_store.proofs.checkpoints.write_image.Goals as goal

pub returns-in-Done-clause-any_moment : goal.returns-in-Done-clause-any_moment
returns-in-Done-clause-any_moment g c = λ rest.
    let h = history_of c.args.recorder.now.engine.past in
    saves_run g.D.Disk.bytes g.D.Disk.may_leave g.D.Disk.moment g.D.Disk.left_since h c.in-Framed.frame c.args.recorder.now.journal.disk c.put_base.new.journal.disk c.requires.history c.in-Framed.ensures.saves.0
    (c.put_base.ensures.any_moment (content_of h) rest (counts_raised h))

pub returns-in-Done-clause-shown : goal.returns-in-Done-clause-shown
returns-in-Done-clause-shown g c = λ tells.
    let h = history_of c.args.recorder.now.engine.past in
    saves_shown g.D.Disk.bytes g.D.Disk.may_leave g.D.Disk.moment g.D.Disk.left_since h c.in-Framed.frame (g.D.Disk.bytes c.put_base.new.journal.disk) c.requires.history c.in-Framed.ensures.saves.0
    (c.put_base.ensures.shown (content_of h) tells (counts_raised h))

pub returns-in-Done-clause-done : goal.returns-in-Done-clause-done
returns-in-Done-clause-done g c = λ tells.
    let h = history_of c.args.recorder.now.engine.past in
    saves_done g.D.Disk.bytes g.D.Disk.may_leave g.D.Disk.moment g.D.Disk.left_since h c.in-Framed.frame c.put_base.new.journal c.in-Framed.ensures.saves.0 (c.in-Done.ensures.done (content_of h) tells)

pub returns-in-DiskFault-clause-any_moment : goal.returns-in-DiskFault-clause-any_moment
returns-in-DiskFault-clause-any_moment g c = λ rest.
    let h = history_of c.args.recorder.now.engine.past in
    saves_run g.D.Disk.bytes g.D.Disk.may_leave g.D.Disk.moment g.D.Disk.left_since h c.in-Framed.frame c.args.recorder.now.journal.disk c.put_base.new.journal.disk c.requires.history c.in-Framed.ensures.saves.0
    (c.put_base.ensures.any_moment (content_of h) rest (counts_raised h))

pub returns-in-DiskFault-clause-shown : goal.returns-in-DiskFault-clause-shown
returns-in-DiskFault-clause-shown g c = λ tells.
    let h = history_of c.args.recorder.now.engine.past in
    saves_shown g.D.Disk.bytes g.D.Disk.may_leave g.D.Disk.moment g.D.Disk.left_since h c.in-Framed.frame (g.D.Disk.bytes c.put_base.new.journal.disk) c.requires.history c.in-Framed.ensures.saves.0
    (c.put_base.ensures.shown (content_of h) tells (counts_raised h))
