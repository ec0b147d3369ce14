-- The state has the rows of the history.
use Rattle.std.proofs.Common.{◌≡◌, IfOk, ap, subst}
use Rattle.ts_model.specs.Rows.{rows}
use Rattle.base_image.specs.Outlines.{span_rows}
use Rattle.engine_core.specs.Histories.{history_of}
use Rattle.engine_core.proofs.images.EngineImaged.spans.Goals as goal

pub returns : goal.returns
returns c = record {
  spans =
      let same = c.spans.ensures.held (history_of c.args.self.now.past) c.state.ensures.stands in
      subst (λ all. IfOk c.spans.result (λ spans. span_rows all spans ≡ all)) same c.spans.ensures.spans;
  held = λ h st. ap (rows c.args.table) st;
}
