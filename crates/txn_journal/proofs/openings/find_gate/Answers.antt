use Rattle.std.proofs.Common.{◌≡◌, length, sym, subst, arith}
use Rattle.txn_journal.specs.Contents.{nothing}
use Rattle.txn_journal.specs.Reading.{ReadsTo, StartsAs}
use Rattle.txn_journal.specs.declared.heads.Start.TheVariants.{Journal}
use Rattle.txn_journal.specs.declared.versions.Version.{Version}
use Rattle.txn_journal.proofs.HeadLaws.{told_length}
use Rattle.txn_journal.proofs.ReadingLaws.{begins_one}
use Rattle.txn_journal.proofs.openings.find_gate.Goals as goal

pub returns-in-One-clause-found : goal.returns-in-One-clause-found
returns-in-One-clause-found g c = λ file told starts.
    let size : c.args.size ≡ length file = told_length (g.D.Disk.bytes c.args.disk.now) file c.args.size told c.requires.size in
    subst (λ (v : Version). ReadsTo file v 8 nothing) (sym c.in-One.is)
    (begins_one file (omega (arith, size, c.requires.gate)) (subst (λ (v : Version). StartsAs (Journal v) file) c.in-One.is starts))
