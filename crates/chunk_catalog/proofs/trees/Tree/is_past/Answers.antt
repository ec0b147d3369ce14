use Rattle.std.proofs.Common.{◌≡◌, Some, ◌∙◌, ap, sym, subst, rules}
use Rattle.std.specs.Prelude.{FitsSigned}
use Rattle.std.specs.Int.{w64}
use Rattle.std.proofs.lemmas.Int.{to_z-of_z}
use Rattle.chunk_catalog.specs.Places.{StartsIn}
use Rattle.chunk_catalog.specs.Levels.{IsOver}
use Rattle.chunk_catalog.specs.Trees.{tree_view, IsTree}
use Rattle.chunk_catalog.proofs.PlaceLaws.{past_all}
use Rattle.chunk_catalog.proofs.trees.Tree.is_past.Goals as goal

pub returns-in-Fork : goal.returns-in-Fork
returns-in-Fork c =
    let shown = ap (λ d. d.0) (sym c.self.view_is) ∙ ap (λ n. (tree_view n).0) c.in-Fork.is in
    let over : IsOver _ _ _ c.in-Fork.starts _ _ = subst IsTree c.in-Fork.is c.self.invariant in
    let inside : StartsIn (Some c.in-Fork.starts) c.args.self.now.0 = subst (StartsIn (Some c.in-Fork.starts)) (sym shown) over.starts_in in
    let fits_interval : FitsSigned w64 c.args.interval = c.ranges.interval in
    let fits_most : FitsSigned w64 c.starts.inside.most = search rules in
    let most_is : c.starts.inside.most ≡ c.in-Fork.starts.most = ap (λ h. h.most) c.starts.view_is in
    record {
      past = λ past pos.
          past_all c.args.interval c.args.best c.in-Fork.starts c.args.self.now.0 c.requires.interval
          (rw (← most_is) (simp to_z-of_z at (c.is_past.ensures.past past))) inside c.requires.placed pos;
    }
