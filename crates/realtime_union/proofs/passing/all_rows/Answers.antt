use Rattle.std.proofs.Common.{◌≡◌, ◌∙◌, ◌∷◌, [], filter, ap, subst}
use Rattle.std.proofs.lemmas.Result.{IfOk-weaker}
use Rattle.ts_bucket.specs.Spans.{in_span}
use Rattle.ts_bucket.specs.declared.spans.Span.{Span}
use Rattle.ts_schema.specs.Counts.{Ticks}
use Rattle.ts_model.specs.Reads.{rows_near}
use Rattle.ts_model.specs.Rows.{in_order}
use Rattle.realtime_union.specs.Live.{all_times}
use Rattle.realtime_union.proofs.LiveLaws.{all_scanned}
use Rattle.realtime_union.proofs.passing.all_rows.Goals as goal

pub returns-clause-rows : goal.returns-clause-rows
returns-clause-rows g c =
    let visible = g.W.RowsAt.visible c.args.rows.now c.args.table in
    let whole : filter (λ row. in_span c.whole_time.result row.at) visible ≡ visible = ap (λ (s : Span). filter (λ row. in_span s row.at) visible) c.whole_time.ensures ∙ all_scanned visible c.requires.times in
    IfOk-weaker c.scan.result (λ found. in_order found ≡ in_order (filter (λ row. in_span c.whole_time.result row.at) visible)) (λ found. in_order found ≡ in_order visible)
    (λ found is. is ∙ ap in_order whole) c.scan.ensures.rows

pub returns-clause-read : goal.returns-clause-read
returns-clause-read g c =
    let interval = g.W.RowsAt.interval c.args.rows.now c.args.table in
    let stored = g.W.RowsAt.stored c.args.rows.now c.args.table in
    let same : rows_near interval stored (c.whole_time.result ∷ []) ≡ rows_near interval stored (all_times ∷ []) = ap (λ (s : Span). rows_near interval stored (s ∷ [])) c.whole_time.ensures in
    subst (λ n. Ticks c.scan.result n c.args.steps.now c.scan.new.steps) same c.scan.ensures.read
