use Rattle.std.proofs.Common.{◌+◌, ◌∙◌}
use Rattle.std.proofs.lemmas.List.{take_rest}
use Rattle.audit_looks.proofs.ByteLaws.{none_is, place_is}
use Rattle.audit_looks.proofs.numbers.behind.Goals as goal

pub returns-in-Some : goal.returns-in-Some
returns-in-Some c = take_rest c.args.text.now (c.in-Some.at + 1) ∙ (place_is c.args.byte c.args.text.now c.in-Some.at c.in-Some.ensures).behind

pub returns-in-None : goal.returns-in-None
returns-in-None c = (none_is c.args.byte c.args.text.now c.in-None.ensures).behind
