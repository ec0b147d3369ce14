-- One more table was updated.
use Rattle.std.proofs.Common.{take, sym, subst, ap, ◌∙◌, ◌+◌}
use Rattle.engine_state.specs.Lists.{Each}
use Rattle.engine_state.specs.Steps.{AsksIf, GoesIf, appended_to, sum_from, taken_from}
use Rattle.engine_state.proofs.TakenLaws.{all_at, each_taken, sum_taken}
use Rattle.engine_state.proofs.commits.all_after.Goals as goal

pub after_ops_if-requires : goal.after_ops_if-requires
after_ops_if-requires c = all_at (AsksIf c.args.ops.now c.args.pos) c.args.tables.now c.loop-i.i c.index-tables-i.result c.requires.asks c.loop-i-test.true c.index-tables-i.is

pub loop-i-preserved : goal.loop-i-preserved
loop-i-preserved c =
    let tables = c.args.tables.now in
    let goes = GoesIf c.args.ops.now c.args.pos in
    let appended = appended_to c.args.ops.now in
    let taken = taken_from c.args.ops.now c.args.pos in
    let moved = c.in_ok-moved.ensures in (
      subst (Each goes (take (c.loop-i.i + 1) tables)) (sym c.in_ok-push.ensures.pushed) (each_taken goes tables c.loop-i.after c.loop-i.i c.index-tables-i.result c.in_ok-moved.moved.made c.loop-i-test.true c.index-tables-i.is c.loop-i.invariant.0 moved.goes),
      c.in_ok-inserted.ensures ∙ ap (λ n. n + c.in_ok-moved.moved.inserted) c.loop-i.invariant.1 ∙ ap (λ n. sum_from appended 0 (take c.loop-i.i tables) + n) moved.inserted ∙ sym (sum_taken appended tables c.loop-i.i c.index-tables-i.result c.loop-i-test.true c.index-tables-i.is),
      c.in_ok-removed.ensures ∙ ap (λ n. n + c.in_ok-moved.moved.removed) c.loop-i.invariant.2 ∙ ap (λ n. sum_from taken 0 (take c.loop-i.i tables) + n) moved.removed ∙ sym (sum_taken taken tables c.loop-i.i c.index-tables-i.result c.loop-i-test.true c.index-tables-i.is),
    )
