use Rattle.std.proofs.Common.{ℕ, List, Option, IsSomeAnd, length, sym, subst}
use Rattle.ts_disk.specs.CrashImage.{Torn}
use Rattle.ts_disk.proofs.Told.{torn_after}
use Rattle.txn_journal.proofs.writes.write_synced.Goals as goal

pub returns-in_err-write_at-clause-shown : goal.returns-in_err-write_at-clause-shown
returns-in_err-write_at-clause-shown g c = λ file told.
    torn_after (g.D.Disk.bytes c.args.disk.now) (g.D.Disk.bytes c.write_at.new.self) c.args.at c.args.piece.now file c.write_at.result told c.requires.range c.write_at.ensures.written

pub returns-clause-shown : goal.returns-clause-shown
returns-clause-shown g c = λ file told.
    subst (λ (o : Option (List ℕ)). IsSomeAnd o (Torn c.args.at (length c.args.piece.now) file)) (sym c.sync.ensures.same)
    (torn_after (g.D.Disk.bytes c.args.disk.now) (g.D.Disk.bytes c.write_at.new.self) c.args.at c.args.piece.now file c.write_at.result told c.requires.range c.write_at.ensures.written)
