-- The state has the roster of the history.
use Rattle.std.proofs.Common.{◌∙◌, ap, refl, sym}
use Rattle.ts_model.specs.Roster.{view_of}
use Rattle.engine_core.specs.Histories.{history_of}
use Rattle.engine_core.proofs.images.EngineImaged.groups.Goals as goal

pub groups-requires-clause-whole : goal.groups-requires-clause-whole
groups-requires-clause-whole c = λ h def st there.
    let own = c.state.ensures.stands in
    c.requires.whole (history_of c.args.self.now.past) def refl (ap (λ r. view_of r c.args.view) (sym own.roster ∙ st.roster) ∙ there)
