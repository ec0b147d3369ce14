use Rattle.std.proofs.Common.{inl, refl, ◌∙◌, subst}
use Rattle.txn_journal.specs.Reading.{BeginsAt, StartsAs}
use Rattle.txn_journal.specs.declared.heads.Start.{Start}
use Rattle.txn_journal.specs.declared.journals.JournalState.TheVariants.{Bare, Ready}
use Rattle.txn_journal.specs.declared.versions.Version.TheVariants.{One}
use Rattle.txn_journal.proofs.HeadLaws.{told_length}
use Rattle.txn_journal.proofs.ReadingLaws.{opens_at}
use Rattle.txn_journal.proofs.readers.Reader.open.Goals as goal

pub returns-in-Bare-clause-opens : goal.returns-in-Bare-clause-opens
returns-in-Bare-clause-opens g c = λ file told.
    let there = c.in-Ok.ensures.kept.same ∙ told in
    opens_at g.D.Disk.bytes c.start.result c.find_start.new.disk Bare One c.in-Ok.found.beginning.size c.in-Ok.found.beginning.at file c.start.ensures.made there
    (told_length (g.D.Disk.bytes c.find_start.new.disk) file c.in-Ok.found.beginning.size there c.in-Ok.ensures.size)
    (subst (λ (s : Start). BeginsAt s file c.in-Ok.found.beginning.at) c.in-Bare.is (c.in-Ok.ensures.found file told).1)

pub returns-in-Journal-clause-opens : goal.returns-in-Journal-clause-opens
returns-in-Journal-clause-opens g c = λ file told.
    let there = c.in-Ok.ensures.kept.same ∙ told in
    opens_at g.D.Disk.bytes c.start-in-Journal.result c.find_start.new.disk Ready c.in-Journal.version c.in-Ok.found.beginning.size c.in-Ok.found.beginning.at file c.start-in-Journal.ensures.made there
    (told_length (g.D.Disk.bytes c.find_start.new.disk) file c.in-Ok.found.beginning.size there c.in-Ok.ensures.size)
    (subst (λ (s : Start). BeginsAt s file c.in-Ok.found.beginning.at) c.in-Journal.is (c.in-Ok.ensures.found file told).1)

pub returns-in-Foreign-clause-opens : goal.returns-in-Foreign-clause-opens
returns-in-Foreign-clause-opens g c = λ file told.
    let starts = subst (λ (s : Start). StartsAs s file) c.in-Foreign.is (c.in-Ok.ensures.found file told).0 in
    record { long = starts.0; broken = inl (record { begins = starts.1; none = refl; place = refl }) }
