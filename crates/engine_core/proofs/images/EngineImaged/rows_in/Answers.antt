-- The state has the rows of the history.
use Rattle.std.proofs.Common.{◌≡◌, IfOk, subst}
use Rattle.base_image.specs.Outlines.{rows_in}
use Rattle.engine_core.specs.Histories.{history_of}
use Rattle.engine_state.proofs.PartedLaws.{held_is}
use Rattle.engine_core.proofs.images.EngineImaged.rows_in.Goals as goal

pub returns : goal.returns
returns c =
    let same = held_is (history_of c.args.self.now.past) c.args.table c.state.result.now c.state.ensures.stands in
    record { rows = subst (λ all. IfOk c.rows_in.result (λ found. found ≡ rows_in c.args.span all)) same c.rows_in.ensures.rows }
