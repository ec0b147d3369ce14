-- The value after some edges is that of the last of them.
use Rattle.std.proofs.Common.{None, rules}
use Rattle.span_map.proofs.EdgeLaws.{last_value-count}
use Rattle.span_map.proofs.edges.value_after.Goals as goal

pub returns-else-count-eq0 : goal.returns-else-count-eq0
returns-else-count-eq0 c = last_value-count None c.args.edges.now c.args.count _ (search rules) c.requires
