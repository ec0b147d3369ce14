use Rattle.std.proofs.Common.{refl, arith}
use Rattle.row_versions.proofs.TableLaws.{leads_step, leads_table, leads_effect}
use Rattle.row_versions.proofs.tables.Table.apply.Goals as goal

pub loop-left-preserved : goal.loop-left-preserved
loop-left-preserved c =
    leads_step c.args.table c.args.pos c.args.ops.now c.args.self.now c.op-item.result c.loop-left.left.now _ c.loop-left.done.table c.in_ok-done.done.table c.loop-left.done.effect c.in_ok-done.done.effect
    (omega (arith, c.in-len1-up.len_at_least)) refl c.op-item.is c.loop-left.invariant c.in_ok-done.ensures.table c.in_ok-done.ensures.effect

pub returns-clause-table : goal.returns-clause-table
returns-clause-table c =
    leads_table c.args.table c.args.pos c.args.ops.now c.args.self.now c.loop-left.left.now c.loop-left.done.table c.loop-left.done.effect (omega (arith, c.in_default.len_below)) c.loop-left.invariant

pub returns-clause-effect : goal.returns-clause-effect
returns-clause-effect c =
    leads_effect c.args.table c.args.pos c.args.ops.now c.args.self.now c.loop-left.left.now c.loop-left.done.table c.loop-left.done.effect (omega (arith, c.in_default.len_below)) c.loop-left.invariant
