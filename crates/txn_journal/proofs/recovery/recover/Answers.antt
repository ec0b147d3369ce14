use Rattle.txn_journal.specs.Contents.{nothing}
use Rattle.txn_journal.proofs.PlacedLaws.{are_listed, none_listed}
use Rattle.txn_journal.proofs.recovery.recover.Goals as goal

pub returns-in-Reading-clause-tells : goal.returns-in-Reading-clause-tells
returns-in-Reading-clause-tells g c = λ file told. c.read_all.ensures.tells file (c.in-Reading.ensures.opens file told)

pub returns-in-Reading-clause-at_rest : goal.returns-in-Reading-clause-at_rest
returns-in-Reading-clause-at_rest g c = λ file told only.
    c.read_all.ensures.at_rest file (c.in-Reading.ensures.opens file told) (λ image left. only image (c.in-Reading.ensures.kept.leaves image left))

pub returns-in-Damaged-clause-recovers : goal.returns-in-Damaged-clause-recovers
returns-in-Damaged-clause-recovers g c = λ file told. (nothing, are_listed file c.new.result nothing 8 (none_listed file c.new.result 8 c.new.ensures.items), c.in-Damaged.ensures.opens file told)
