use Rattle.std.proofs.Common.{◌≡◌, ◌∙◌, arith}
use Rattle.std.proofs.lemmas.Result.{IfOk-weaker}
use Rattle.ts_model.specs.Groups.{groups_of}
use Rattle.group_fold.specs.Grouping.{all_rows}
use Rattle.group_fold.specs.Spans.{near_each, rows_in}
use Rattle.group_fold.proofs.ScanLaws.{found_groups, found_times, pieces_are_times, ended, raised_whole}
use Rattle.group_fold.proofs.spans.fold_spans.Goals as goal

pub fold_pieces-requires-after_bounds : goal.fold_pieces-requires-after_bounds
fold_pieces-requires-after_bounds g c κs within =
    pieces_are_times c.in_ok-pieces.pieces (found_times c.args.spans.now c.in_ok-pieces.pieces (g.W.RowsAt.visible c.args.rows.now c.args.table) c.in_ok-pieces.ensures.rows c.requires.times)

pub returns-clause-groups : goal.returns-clause-groups
returns-clause-groups g c =
    IfOk-weaker c.fold_pieces.result (λ groups. groups ≡ groups_of c.args.plan.now (all_rows c.in_ok-pieces.pieces)) (λ groups. groups ≡ groups_of c.args.plan.now (rows_in c.args.spans.now (g.W.RowsAt.visible c.args.rows.now c.args.table)))
    (λ groups is. is ∙ found_groups c.args.plan.now c.fold_pieces.ensures.bounds c.args.spans.now c.in_ok-pieces.pieces (g.W.RowsAt.visible c.args.rows.now c.args.table) c.in_ok-pieces.ensures.rows) c.fold_pieces.ensures.groups

pub returns-clause-read : goal.returns-clause-read
returns-clause-read g c =
    ended c.fold_pieces.result c.in_ok-pieces.ensures.read
    (raised_whole (near_each (g.W.RowsAt.interval c.args.rows.now c.args.table) (g.W.RowsAt.stored c.args.rows.now c.args.table) c.args.spans.now) c.args.steps.now c.scan_spans.new.steps
    (omega (arith, c.count-so_far.type_inv, c.count-so_far.ensures.count)) c.in_ok-pieces.ensures.read)
