use Rattle.std.proofs.Common.{◌∙◌, ◌+◌, ◌-◌, ◌++◌, length, take, drop, refl, ap, arith}
use Rattle.group_fold.specs.Grouping.{all_rows}
use Rattle.group_fold.proofs.ScanLaws.{last_piece, piece_step}
use Rattle.group_fold.proofs.scans.cut.Goals as goal

pub loop-from-init : goal.loop-from-init
loop-from-init c = record {
  low = omega arith;
  rows = refl;
}

pub loop-from-preserved : goal.loop-from-preserved
loop-from-preserved c = record {
  low = omega (arith, c.loop-from.invariant.low, c.loop-from-test.true);
  rows = piece_step c.loop-from.pieces c.push.new.self c.in_ok-part_of.field-0 c.args.found (all_rows c.args.pieces.now ++ c.args.found)
      c.loop-from.from (c.loop-from.from + 4096) (omega arith)
      (c.in_ok-part_of.ensures.items ∙ ap (λ whole. take (c.loop-from.from + 4096 - c.loop-from.from) (drop c.loop-from.from whole)) c.in_ok-whole.ensures.items)
      c.in_ok-push.ensures.pushed c.loop-from.invariant.rows;
}

pub returns : goal.returns
returns c = record {
  rows = last_piece c.loop-from.pieces c.push-2.new.self c.in_ok-part_of-2.field-0 c.args.found (all_rows c.args.pieces.now ++ c.args.found)
      c.loop-from.from c.len-count.result c.loop-from.invariant.low (omega (arith, c.len-count.ensures.len, ap length c.in_ok-whole.ensures.items))
      (c.in_ok-part_of-2.ensures.items ∙ ap (λ whole. take (c.len-count.result - c.loop-from.from) (drop c.loop-from.from whole)) c.in_ok-whole.ensures.items)
      c.in_ok-push-2.ensures.pushed c.loop-from.invariant.rows;
}
