use Rattle.std.proofs.Common.{◌≡◌, ◌∙◌, ap, subst}
use Rattle.std.specs.Prelude.{IfOk, List}
use Rattle.ts_model.specs.declared.images.Finished.{Finished}
use Rattle.ts_model.specs.History.{position}
use Rattle.image_laws.specs.Images.{finished_upto}
use Rattle.refresh_list.specs.Refreshes.{CutsRise, done_in}
use Rattle.refresh_list.proofs.ImageLaws.{done_are}
use Rattle.engine_state.specs.Stands.{StateValue}
use Rattle.engine_state.proofs.parts.StateParts.done.Goals as goal

pub returns : goal.returns
returns c = record {
  done = λ h st.
      let s = c.args.self.now in
      let rise : CutsRise 0 c.args.self.now.refreshes = subst (λ (s : StateValue). CutsRise 0 s.refreshes) c.self.view_is c.done.ensures.rise in
      let all : done_in c.self.inside.refreshes ≡ finished_upto h (position h) = ap (λ (s : StateValue). done_in s.refreshes) c.self.view_is ∙ done_are h s.refreshes rise st.refreshes in
      subst (λ (fs : List Finished). IfOk c.done.result (λ found. found ≡ fs)) all c.done.ensures.done;
}
