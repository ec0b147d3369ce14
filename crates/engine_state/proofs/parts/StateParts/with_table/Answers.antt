-- A table that isn't a hypertable has no state.
use Rattle.std.proofs.Common.{◌∙◌, ◌++◌, ◌∷◌, [], List, Option, None, ap}
use Rattle.std.proofs.lemmas.Bool.{and_from}
use Rattle.ts_model.specs.Roster.{roster_after}
use Rattle.engine_state.specs.Stands.{StateValue}
use Rattle.engine_state.specs.Tables.{TableValue}
use Rattle.engine_state.proofs.StateSteps.{state_of_table}
use Rattle.engine_state.proofs.parts.StateParts.with_table.Goals as goal

pub returns : goal.returns
returns c = record {
  stands = λ def is h st ok.
      let s = c.args.self.now in
      state_of_table h def s _ (and_from _ _ st.consistent ok) st
      (ap (λ (s : StateValue). s.position) c.new.view_is ∙ c.in_ok-new.ensures.position)
      (ap (λ (s : StateValue). s.roster) c.new.view_is ∙ c.in_ok-new.ensures.roster ∙ ap (roster_after s.roster) is)
      (c.in_ok-push.ensures.pushed ∙ ap (λ (tables : List (Option TableValue)). tables ++ (None ∷ [])) (ap (λ (s : StateValue). s.tables) c.new.view_is ∙ c.in_ok-new.ensures.tables))
      (ap (λ (s : StateValue). s.views) c.new.view_is ∙ c.in_ok-new.ensures.views)
      (ap (λ (s : StateValue). s.refreshes) c.new.view_is ∙ c.in_ok-new.ensures.refreshes);
}
