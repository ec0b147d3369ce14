use Rattle.std.proofs.Common.{◌≡◌, ◌∙◌, ◌∷◌, [], ap, subst}
use Rattle.std.specs.List.{filter}
use Rattle.std.proofs.lemmas.Result.{IfOk-weaker}
use Rattle.ts_bucket.specs.Spans.{in_span}
use Rattle.ts_schema.specs.Counts.{Ticks}
use Rattle.ts_model.specs.Reads.{rows_near}
use Rattle.ts_model.specs.Rows.{in_order}
use Rattle.seg_rows.specs.Versions.{rows_of}
use Rattle.chunk_catalog.specs.Chunks.{ChunksValue}
use Rattle.row_versions.specs.Tables.{visible_rows}
use Rattle.engine_state.proofs.ScanFacts.{filter_both}
use Rattle.engine_state.proofs.scans.RowsInSpanRowsAt.scan.Goals as goal

pub returns-clause-rows : goal.returns-clause-rows
returns-clause-rows g c =
    let seen = λ (t : ChunksValue). visible_rows c.args.self.now.rows.position t.versions in
    IfOk-weaker c.scan_part.result (λ found. found ≡ filter (λ row. in_span c.both-part.result row.at) (seen c.rows.result.now)) (λ found. in_order found ≡ in_order (filter (λ row. in_span c.args.span row.at) (filter (λ row. in_span c.args.self.now.times row.at) (seen c.args.self.now.rows.table.now.rows))))
    (λ found is. ap in_order (is ∙ ap (λ (t : ChunksValue). filter (λ row. in_span c.both-part.result row.at) (seen t)) c.rows.ensures.rows
    ∙ filter_both (λ row. in_span c.args.span row.at) (λ row. in_span c.args.self.now.times row.at) (λ row. in_span c.both-part.result row.at) (seen c.args.self.now.rows.table.now.rows) (λ row. c.both-part.ensures row.at)))
    c.scan_part.ensures.rows

pub returns-clause-read : goal.returns-clause-read
returns-clause-read g c =
    subst (λ (t : ChunksValue). Ticks c.scan_part.result (rows_near t.interval (rows_of t.versions) (c.args.span ∷ [])) c.args.steps.now c.scan_part.new.steps)
    c.rows.ensures.rows c.scan_part.ensures.read
