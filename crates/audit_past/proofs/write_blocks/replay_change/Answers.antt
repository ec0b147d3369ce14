use Rattle.audit_past.proofs.TellQueues.{change_refused, change_waits_to}
use Rattle.audit_past.proofs.write_blocks.replay_change.Goals as goal

pub returns-in-Some : goal.returns-in-Some
returns-in-Some g c = λ p ops n block.
    change_refused p c.args.bytes c.args.stmt.now ops n block c.requires.changes g.P.Shot.Shown (g.P.Past.all c.args.past.now) c.args.point.at c.args.point.looks.now c.in_ok-reached.field-0 c.in-Some.reached c.in_ok-reached.ensures c.in-Some.is

pub returns-in-None : goal.returns-in-None
returns-in-None g c = λ p ops n block.
    change_waits_to p c.args.bytes c.args.stmt.now ops n block c.requires.changes g.P.Shot.Shown (g.P.Past.all c.args.past.now) c.args.point.at c.args.point.looks.now c.in_ok-reached.field-0 c.wait.result c.requires.within c.requires.allowed c.requires.sound c.in_ok-reached.ensures c.in-None.is c.wait.ensures
