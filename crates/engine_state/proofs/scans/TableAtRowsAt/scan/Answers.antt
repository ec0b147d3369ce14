use Rattle.std.proofs.Common.{◌≡◌, ◌∙◌, ◌∷◌, [], filter, ap, subst}
use Rattle.std.proofs.lemmas.Result.{IfOk-weaker}
use Rattle.ts_bucket.specs.Spans.{in_span}
use Rattle.ts_schema.specs.Counts.{Ticks}
use Rattle.ts_model.specs.Reads.{rows_near}
use Rattle.ts_model.specs.Rows.{in_order}
use Rattle.seg_rows.specs.Versions.{rows_of}
use Rattle.chunk_catalog.specs.Chunks.{ChunksValue}
use Rattle.row_versions.specs.Tables.{visible_rows}
use Rattle.engine_state.proofs.scans.TableAtRowsAt.scan.Goals as goal

pub returns-clause-rows : goal.returns-clause-rows
returns-clause-rows g c =
    let seen = λ (t : ChunksValue). filter (λ row. in_span c.args.span row.at) (visible_rows c.args.self.now.position t.versions) in
    IfOk-weaker c.scan.result (λ found. found ≡ seen c.rows.result.now) (λ found. in_order found ≡ in_order (seen c.args.self.now.table.now.rows))
    (λ found is. ap in_order (is ∙ ap seen c.rows.ensures.rows)) c.scan.ensures.rows

pub returns-clause-read : goal.returns-clause-read
returns-clause-read g c =
    subst (λ (t : ChunksValue). Ticks c.scan.result (rows_near t.interval (rows_of t.versions) (c.args.span ∷ [])) c.args.steps.now c.scan.new.steps)
    c.rows.ensures.rows c.scan.ensures.read
