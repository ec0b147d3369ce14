-- The aggregate has a state that begins.
use Rattle.std.proofs.Common.{◌≡◌, ◌∙◌, ◌++◌, ◌∷◌, [], suc, cond, Some, None, List, ap}
use Rattle.std.proofs.lemmas.Bool.{and_from}
use Rattle.ts_bucket.specs.Spans.{in_span}
use Rattle.ts_bucket.specs.WholeSpans.{whole_span}
use Rattle.ts_model.specs.Roster.{roster_after}
use Rattle.engine_state.specs.Stands.{StateValue}
use Rattle.engine_state.specs.Views.{ViewValue}
use Rattle.engine_state.proofs.RefreshSteps.{state_of_view}
use Rattle.engine_state.proofs.parts.StateParts.with_view.Goals as goal

pub returns : goal.returns
returns c = record {
  stands = λ h st ok.
      let s = c.args.self.now in
      let def = c.args.def.now in
      let view = c.in_ok-view.view in
      let made = c.in_ok-view.ensures in
      let position : c.new.inside.position ≡ suc s.position = ap (λ (s : StateValue). s.position) c.new.view_is ∙ c.in_ok-new.ensures.position in
      state_of_view h def s _ view (and_from _ _ st.consistent ok) st made.table made.width
      (λ b. made.pending b ∙ ap (λ p. cond (in_span (whole_span def.fold.width) b) (Some p) None) position)
      made.refreshed made.groups made.mark position
      (ap (λ (s : StateValue). s.roster) c.new.view_is ∙ c.in_ok-new.ensures.roster ∙ ap (roster_after s.roster) c.requires.event)
      (ap (λ (s : StateValue). s.tables) c.new.view_is ∙ c.in_ok-new.ensures.tables)
      (c.in_ok-push.ensures.pushed ∙ ap (λ (views : List ViewValue). views ++ (view ∷ [])) (ap (λ (s : StateValue). s.views) c.new.view_is ∙ c.in_ok-new.ensures.views))
      (ap (λ (s : StateValue). s.refreshes) c.new.view_is ∙ c.in_ok-new.ensures.refreshes);
}
