-- A hypertable returns the rows that its position sees, and any other table none.
use Rattle.std.proofs.Common.{◌≡◌, ◌∙◌, Some, ap, sym}
use Rattle.std.specs.Prelude.{option_copied}
use Rattle.ts_model.specs.Rows.{in_order, rows}
use Rattle.row_versions.specs.Tables.{rows_of_span, visible_rows}
use Rattle.std.proofs.lemmas.Result.{IfOk-weaker}
use Rattle.realtime_union.specs.Live.{all_times}
use Rattle.engine_state.specs.Scans.{seen_rows}
use Rattle.engine_state.specs.Stands.{StateValue}
use Rattle.engine_state.specs.Tables.{table_at}
use Rattle.engine_state.proofs.ImageFacts.{no_rows, rows_taken}
use Rattle.engine_state.proofs.parts.StateParts.rows.Goals as goal

pub returns-in-None : goal.returns-in-None
returns-in-None c = record {
  rows = λ h st.
      c.new.ensures.items ∙ no_rows h c.args.table c.args.self.now st (sym c.table_if.ensures.table ∙ ap option_copied c.in-None.is);
}

pub returns-in_ok-scan-in-Some : goal.returns-in_ok-scan-in-Some
returns-in_ok-scan-in-Some c = record {
  rows = λ h st.
      let s = c.args.self.now in
      let table = c.in-Some.state.now in
      let at : table_at c.args.self.now.tables c.args.table ≡ Some c.in-Some.state.now = sym c.table_if.ensures.table ∙ ap option_copied c.in-Some.is in
      let position : c.self.inside.position ≡ c.args.self.now.position = ap (λ (s : StateValue). s.position) c.self.view_is in
      let found : c.in_ok-scan-in-Some.field-0 ≡ rows_of_span all_times (seen_rows c.args.self.now.position c.in-Some.state.now) =
      c.in_ok-scan-in-Some.ensures.rows ∙ (λ i. rows_of_span (c.all_times.ensures i) (visible_rows (position i) (c.rows.ensures.rows i).versions)) in
      IfOk-weaker c.sort_rows.result (λ sorted. sorted ≡ in_order c.in_ok-scan-in-Some.field-0) (λ sorted. sorted ≡ rows c.args.table h)
      (λ sorted is. rows_taken h c.args.table s table c.in_ok-scan-in-Some.field-0 sorted st at found is) c.sort_rows.ensures;
}
