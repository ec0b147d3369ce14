-- The value after all edges is that of the last of them.
use Rattle.std.proofs.Common.{◌≡◌, ◌≢◌, ◌∙◌, length, take_all, refl, ap, arith}
use Rattle.span_map.specs.Edges.{last_value}
use Rattle.span_map.proofs.EdgeLaws.{last_value-count}
use Rattle.span_map.proofs.patches.last_of.Goals as goal

pub returns-else-is_empty : goal.returns-else-is_empty
returns-else-is_empty c =
    let some : length c.args.edges.now ≢ 0 = λ none. grind (arith, c.is_empty.ensures, c.if-is_empty.false, none) in
    last_value-count c.args.before c.args.edges.now (length c.args.edges.now) _ some (omega arith) ∙ ap (last_value c.args.before) (take_all (length c.args.edges.now) c.args.edges.now (omega arith))
