use Rattle.std.proofs.Common.{◌≡◌, ◌∙◌, ◌∷◌, [], map, ap, subst, arith}
use Rattle.std.proofs.lemmas.Result.{IfOk-weaker}
use Rattle.ts_bucket.specs.declared.spans.Span.{Span}
use Rattle.ts_schema.specs.Counts.{Ticks}
use Rattle.ts_model.specs.Groups.{cells_of, groups_of}
use Rattle.ts_model.specs.Reads.{rows_near}
use Rattle.ts_model.specs.Rows.{in_order}
use Rattle.ts_model.specs.Scratch.{fold_rows}
use Rattle.group_fold.specs.Spans.{near_each, rows_in}
use Rattle.realtime_union.specs.Live.{all_times}
use Rattle.realtime_union.proofs.LiveLaws.{all_shown}
use Rattle.realtime_union.proofs.tables.all_groups.Goals as goal

pub returns-clause-shown : goal.returns-clause-shown
returns-clause-shown g c =
    let visible = g.W.RowsAt.visible c.args.rows.now c.args.table in
    IfOk-weaker c.fold_spans.result (λ groups. groups ≡ groups_of c.args.plan.now (rows_in (c.whole_time.result ∷ []) visible)) (λ groups. map (cells_of c.args.plan.now) groups ≡ fold_rows c.args.plan.now (in_order visible))
    (λ groups is. all_shown c.args.plan.now c.fold_spans.ensures.bounds visible groups c.requires.times (is ∙ ap (λ (s : Span). groups_of c.args.plan.now (rows_in (s ∷ []) visible)) c.whole_time.ensures)) c.fold_spans.ensures.groups

pub returns-clause-read : goal.returns-clause-read
returns-clause-read g c =
    let interval = g.W.RowsAt.interval c.args.rows.now c.args.table in
    let stored = g.W.RowsAt.stored c.args.rows.now c.args.table in
    let one : near_each interval stored (all_times ∷ []) ≡ rows_near interval stored (all_times ∷ []) = omega arith in
    let same : near_each interval stored (c.whole_time.result ∷ []) ≡ rows_near interval stored (all_times ∷ []) = ap (λ (s : Span). near_each interval stored (s ∷ [])) c.whole_time.ensures ∙ one in
    subst (λ n. Ticks c.fold_spans.result n c.args.steps.now c.fold_spans.new.steps) same c.fold_spans.ensures.read
