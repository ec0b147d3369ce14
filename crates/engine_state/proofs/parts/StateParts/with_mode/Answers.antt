-- A mode changes the roster only.
use Rattle.engine_state.proofs.ModeFacts.{mode_steps}
use Rattle.engine_state.proofs.parts.StateParts.with_mode.Goals as goal

pub returns : goal.returns
returns c =
    let made = c.with_roster.ensures in
    record { stands = mode_steps c.with_roster.result c.args.self.now c.args.event.now made.position made.roster made.tables made.views made.refreshes }
