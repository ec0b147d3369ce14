use Rattle.stmt_check.proofs.statements.resolve.Goals as goal

pub returns-in-Insert : goal.returns-in-Insert
returns-in-Insert c = rw c.in-Insert.is c.insert.ensures
