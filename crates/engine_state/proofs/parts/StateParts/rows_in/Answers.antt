use Rattle.std.proofs.Common.{◌≡◌, Some, sym, ap, ◌∙◌}
use Rattle.std.specs.Prelude.{option_copied}
use Rattle.std.proofs.lemmas.Result.{IfOk-weaker}
use Rattle.ts_model.specs.Rows.{in_order}
use Rattle.row_versions.specs.Tables.{rows_of_span, visible_rows}
use Rattle.base_image.specs.Outlines.{rows_in}
use Rattle.engine_state.specs.ChunkParts.{state_rows}
use Rattle.engine_state.specs.Scans.{seen_rows}
use Rattle.engine_state.specs.Stands.{StateValue}
use Rattle.engine_state.specs.Tables.{table_at}
use Rattle.engine_state.proofs.PartedLaws.{span_of}
use Rattle.engine_state.proofs.parts.StateParts.rows_in.Goals as goal

pub returns-in_ok-found-in-Some : goal.returns-in_ok-found-in-Some
returns-in_ok-found-in-Some c =
    let s = c.args.self.now in
    let table = c.in-Some.state.now in
    let at : table_at c.args.self.now.tables c.args.table ≡ Some c.in-Some.state.now = sym c.table_if.ensures.table ∙ ap option_copied c.in-Some.is in
    let position : c.self.inside.position ≡ c.args.self.now.position = ap (λ (s : StateValue). s.position) c.self.view_is in
    let found : c.in_ok-found-in-Some.found ≡ rows_of_span c.args.span (seen_rows c.args.self.now.position c.in-Some.state.now) =
    c.in_ok-found-in-Some.ensures.rows ∙ (λ i. rows_of_span c.args.span (visible_rows (position i) (c.rows.ensures.rows i).versions)) in
    record {
      rows = IfOk-weaker c.sort_rows.result (λ sorted. sorted ≡ in_order c.in_ok-found-in-Some.found) (λ found. found ≡ rows_in c.args.span (state_rows c.args.self.now c.args.table))
          (λ sorted is. span_of s c.args.table table c.args.span c.in_ok-found-in-Some.found sorted at found is) c.sort_rows.ensures;
    }
