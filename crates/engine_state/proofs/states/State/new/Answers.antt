-- Before any event the parts are those of no event.
use Rattle.ts_model.specs.History.{start}
use Rattle.engine_state.proofs.StateSteps.{state_begins}
use Rattle.engine_state.proofs.states.State.new.Goals as goal

pub invariant_of-result : goal.invariant_of-result
invariant_of-result c =
    let none = c.in_ok-none.ensures in
    record {
      history = start;
      stands = state_begins c.in_ok-none.field-0 none.position none.roster none.tables none.views none.refreshes;
    }
