use Rattle.txn_journal.proofs.UniqueLaws.{stands_once, damaged_or_not, damaged_once}
use Rattle.txn_journal.proofs.laws.files_are_read_in_one_way.Goals as goal

pub returns-clause-one : goal.returns-clause-one
returns-clause-one c = stands_once

pub returns-clause-apart : goal.returns-clause-apart
returns-clause-apart c = damaged_or_not

pub returns-clause-one_damage : goal.returns-clause-one_damage
returns-clause-one_damage c = damaged_once
