-- The value after some edges is that of the last of them.
use Rattle.std.proofs.Common.{None, ◌∙◌, ap, rules}
use Rattle.span_map.specs.declared.edges.Edge.{Edge}
use Rattle.span_map.proofs.EdgeLaws.{last_value-count}
use Rattle.span_map.proofs.search.value_before.Goals as goal

pub returns-else-count-eq0 : goal.returns-else-count-eq0
returns-else-count-eq0 c =
    ap (λ (e : Edge). e.value) c.get.ensures.item
    ∙ last_value-count None c.args.edges.now.items c.args.count c.get.result.now (search rules) c.requires
