use Rattle.std.proofs.Common.{◌≢◌}
use Rattle.txn_journal.specs.declared.journals.JournalState.TheVariants.{Bare}
use Rattle.journal_tests.proofs.journals.append_ten.Given as goal

abbrev pub invariant-loop-n : goal.invariant-loop-n
invariant-loop-n g l = l.journal.standing ≢ Bare
