-- The groups of the aggregate are those that the last refreshes stored.
use Rattle.std.proofs.Common.{◌≡◌, ◌∙◌, ◌∷◌, [], List, map, ap, subst}
use Rattle.std.specs.Prelude.{IfOk}
use Rattle.partial_agg.specs.declared.groups.Group.{Group}
use Rattle.mat_rows.specs.Replacing.{within}
use Rattle.base_image.specs.Taking.{AreLeft}
use Rattle.ts_model.specs.declared.views.ViewDef.{ViewDef}
use Rattle.ts_model.specs.Roster.{roster}
use Rattle.engine_state.specs.Images.{saved_group}
use Rattle.engine_state.proofs.ImageFacts.{groups_taken, mapped_ok, one_def}
use Rattle.engine_state.proofs.parts.StateParts.groups.Goals as goal

pub returns : goal.returns
returns c = record {
  groups = λ h def st there.
      let seen = c.view_seen-seen.result in
      let is = c.view_seen-seen.ensures.view h st in
      let same = one_def (roster h) c.args.view seen.def.now def is.there there in
      let kept : c.iter.result ≡ within c.args.span seen.state.now.groups = c.iter.ensures.items ∙ (c.in_ok-left.ensures.groups ∙ ap (within c.args.span) c.groups.ensures.groups) in
      let made : IfOk c.saved_groups.result (λ saved. saved ≡ map saved_group (within c.args.span seen.state.now.groups)) = subst (λ (gs : List Group). IfOk c.saved_groups.result (λ saved. saved ≡ map saved_group gs)) kept c.saved_groups.ensures in
      mapped_ok c.saved_groups.result saved_group (within c.args.span seen.state.now.groups) (AreLeft c.args.view def h (c.args.span ∷ []))
      (subst (λ (d : ViewDef). AreLeft c.args.view d h (c.args.span ∷ []) (map saved_group (within c.args.span seen.state.now.groups))) same (groups_taken h c.args.view seen.rows.position seen.def.now seen.state.now seen.rows.table.now c.args.span is)) made;
}
