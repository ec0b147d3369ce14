use Rattle.std.proofs.Common.{sym, ap₂, ◌∙◌, arith}
use Rattle.std.specs.Ordering.{nat_cmp}
use Rattle.ts_schema.specs.Rows.{value_cmp}
use Rattle.ts_schema.proofs.ValueLaws.{ended_first}
use Rattle.ts_schema.proofs.rows.order_of_values.Goals as goal

pub returns : goal.returns
returns c =
    let ended = ended_first value_cmp c.loop-i.i c.args.a.now c.args.b.now (omega (arith, c.loop-i.auto.i-end, c.loop-i-test.false, c.min-i-end.ensures, c.len.ensures.len, c.len-2.ensures.len)) in
    record { order = c.cmp.ensures ∙ ap₂ nat_cmp c.len-3.ensures.len c.len-4.ensures.len ∙ sym ended ∙ c.loop-i.invariant }
