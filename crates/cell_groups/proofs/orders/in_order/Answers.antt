use Rattle.std.proofs.Common.{sym}
use Rattle.group_fold.proofs.Gathers.{ordered_already}
use Rattle.cell_groups.specs.Groups.{as_groups}
use Rattle.cell_groups.proofs.orders.in_order.Goals as goal

pub returns-then-gathered-clause-groups : goal.returns-then-gathered-clause-groups
returns-then-gathered-clause-groups c = sym (ordered_already (as_groups c.args.shape.now c.args.gathered.groups.items) (c.requires.order c.if-gathered.true))
