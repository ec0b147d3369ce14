-- The header exists, or the disk failed during its write.
use Rattle.std.proofs.Common.{inr, true, sym, ap, ◌∙◌, subst}
use Rattle.ts_io.specs.Faults.{Counted}
use Rattle.ts_model.specs.History.{prefix}
use Rattle.engine_core.specs.Histories.{history_of}
use Rattle.ts_store.specs.Stands.{Stands}
use Rattle.ts_store.specs.Stores.{history_seen}
use Rattle.ts_top.specs.Outcomes.{Holds}
use Rattle.ts_top.proofs.OutcomeLaws.{never_some}
use Rattle.ts_top.proofs.openings.write_header.Goals as goal

pub returns-in-Done-clause-begun : goal.returns-in-Done-clause-begun
returns-in-Done-clause-begun g c = c.in-Done.ensures.begun

pub returns-in-Done-clause-history : goal.returns-in-Done-clause-history
returns-in-Done-clause-history g c = ap (λ e. history_of e.past) c.in-Done.ensures.engine

pub returns-in-Done-clause-goes_on : goal.returns-in-Done-clause-goes_on
returns-in-Done-clause-goes_on g c = c.in-Done.ensures.ends.1

pub returns-in-Done-clause-armed : goal.returns-in-Done-clause-armed
returns-in-Done-clause-armed g c = c.in-Done.ensures.armed

pub returns-in-Done-clause-whole : goal.returns-in-Done-clause-whole
returns-in-Done-clause-whole g c =
    ap (λ n. prefix (history_seen c.arm.new.self) n) c.in-Done.ensures.opened
    ∙ ap (λ e. prefix (history_of e.past) c.args.store.opened) c.in-Done.ensures.engine
    ∙ c.requires.whole
    ∙ sym (ap (λ e. history_of e.past) c.in-Done.ensures.engine)

pub returns-in-Done-clause-rests : goal.returns-in-Done-clause-rests
returns-in-Done-clause-rests g c rests d = c.in-Done.ensures.done (rests d)

pub returns-in-Done-clause-tells : goal.returns-in-Done-clause-tells
returns-in-Done-clause-tells g c tells some = c.in-Done.ensures.tells (tells some)

pub returns-in-Done-clause-images : goal.returns-in-Done-clause-images
returns-in-Done-clause-images g c rests kept x image =
    let D = g.D.Disk in
    subst (λ h. Stands x h) (sym (ap (λ e. history_of e.past) c.in-Done.ensures.engine))
    ((c.in-Done.ensures.any_moment (rests image.0)).each x (subst (λ t. D.left_since c.arm.new.self.journal.disk t x) (sym kept.at_moment) image.1))

pub returns-in-Done-clause-counted : goal.returns-in-Done-clause-counted
returns-in-Done-clause-counted g c = c.in-Done.ensures.counted

pub returns-in-DiskFault-clause-ended : goal.returns-in-DiskFault-clause-ended
returns-in-DiskFault-clause-ended g c before stood tells rests kept =
    let D = g.D.Disk in
    let old = c.args.store in
    let new = c.arm.new.self in
    inr (record {
      opening = history_seen old;
      stood = stood;
      holds = λ some. subst (λ disk. Holds (D.bytes disk) (history_seen old)) (sym c.close.ensures.disk) (c.in-DiskFault.ensures.shown (tells some));
      images = λ x image. (c.in-DiskFault.ensures.any_moment (rests image.0)).each x
          (subst (λ t. D.left_since new.journal.disk t x) (sym kept.at_moment) (subst (λ disk. D.left_since disk (D.moment old.begun) x) c.close.ensures.disk image.1));
    })

pub returns-in-DiskFault-clause-disk : goal.returns-in-DiskFault-clause-disk
returns-in-DiskFault-clause-disk g c = subst (λ disk. Counted (g.D.Disk.faults c.args.store.journal.disk) (g.D.Disk.faults disk) true) (sym c.close.ensures.disk) c.in-DiskFault.ensures.counted

pub returns-in-Stopped : goal.returns-in-Stopped
returns-in-Stopped g c = absurd (never_some c.args.store.failed c.requires.goes_on c.in-Stopped.ensures.ends.0)
