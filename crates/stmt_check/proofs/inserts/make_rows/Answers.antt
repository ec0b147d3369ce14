use Rattle.std.proofs.Common.{◌≡◌, ◌<◌, ◌^◌, ◌∙◌, ◌++◌, ◌∷◌, [], length, ap, pos, arith, rules}
use Rattle.std.specs.Prelude.{unwrap_or}
use Rattle.std.specs.Arc.{arc_value}
use Rattle.stmt_check.specs.Rows.{others_of, value_at, row_of, rows_of}
use Rattle.stmt_check.proofs.Steps.{next_values, row_made}
use Rattle.stmt_check.proofs.inserts.make_rows.Goals as goal

pub overflow_add-to : goal.overflow_add-to
overflow_add-to c =
    let part = next_values c.args.shape.now (arc_value c.in_ok-block.block) c.loop-values.values-iterator c.in-Some.values.now c.next.new.self c.loop-values.from c.len-in-loop-values.result c.loop-values.invariant.0 c.loop-values.invariant.1 c.in-Some.ensures.steps c.len-in-loop-values.ensures.len in
    let total : c.len-total.result ≡ length (arc_value c.in_ok-block.block) = search rules in
    let fits : c.len-total.result < 2 ^ 64 = search rules in
    omega (arith, part.within, total, fits)

pub part-requires-clause-within : goal.part-requires-clause-within
part-requires-clause-within c =
    let part = next_values c.args.shape.now (arc_value c.in_ok-block.block) c.loop-values.values-iterator c.in-Some.values.now c.next.new.self c.loop-values.from c.len-in-loop-values.result c.loop-values.invariant.0 c.loop-values.invariant.1 c.in-Some.ensures.steps c.len-in-loop-values.ensures.len in
    part.within

pub loop-values-preserved : goal.loop-values-preserved
loop-values-preserved c =
    let part = next_values c.args.shape.now (arc_value c.in_ok-block.block) c.loop-values.values-iterator c.in-Some.values.now c.next.new.self c.loop-values.from c.len-in-loop-values.result c.loop-values.invariant.0 c.loop-values.invariant.1 c.in-Some.ensures.steps c.len-in-loop-values.ensures.len in
    let vals : c.in_ok-part.field-0 ≡ others_of c.args.shape.now c.in-Some.values.now = c.in_ok-part.ensures.items ∙ part.items in
    let row : record { at = unwrap_or (value_at c.in-Some.values.now c.args.shape.now.time) (pos 0); vals = c.in_ok-part.field-0 } ≡ row_of c.args.shape.now.time c.args.shape.now.others c.in-Some.values.now =
    ap (λ vs. record { at = unwrap_or (value_at c.in-Some.values.now c.args.shape.now.time) (pos 0); vals = vs }) vals in
    let more : c.push.new.self.items ≡ c.loop-values.made.items ++ record { at = unwrap_or (value_at c.in-Some.values.now c.args.shape.now.time) (pos 0); vals = c.in_ok-part.field-0 } ∷ [] = search rules in
    (part.within, part.left, row_made c.args.shape.now c.loop-values.made.items c.push.new.self.items (rows_of c.args.shape.now c.args.rows.now) c.loop-values.values-iterator c.in-Some.values.now c.next.new.self _ c.loop-values.invariant.2 c.in-Some.ensures.steps row more)
