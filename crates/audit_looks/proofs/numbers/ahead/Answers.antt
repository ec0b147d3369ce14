use Rattle.audit_looks.proofs.ByteLaws.{none_is, place_is}
use Rattle.audit_looks.proofs.numbers.ahead.Goals as goal

pub returns-in-Some : goal.returns-in-Some
returns-in-Some c = (place_is c.args.byte c.args.text.now c.in-Some.at c.in-Some.ensures).ahead

pub returns-in-None : goal.returns-in-None
returns-in-None c = (none_is c.args.byte c.args.text.now c.in-None.ensures).ahead
