use Rattle.std.proofs.Common.{Some, ◌∙◌, ap, sym, subst}
use Rattle.std.proofs.lemmas.Bool.{not-true}
use Rattle.chunk_catalog.specs.Places.{StartsIn}
use Rattle.chunk_catalog.specs.Levels.{IsOver}
use Rattle.chunk_catalog.specs.Trees.{tree_view, IsTree}
use Rattle.chunk_catalog.proofs.PlaceLaws.{apart_out}
use Rattle.chunk_catalog.proofs.trees.Tree.misses.Goals as goal

pub returns-in-Fork : goal.returns-in-Fork
returns-in-Fork c =
    let shown = ap (λ d. d.0) (sym c.self.view_is) ∙ ap (λ n. (tree_view n).0) c.in-Fork.is in
    let over : IsOver _ _ _ c.in-Fork.starts _ _ = subst IsTree c.in-Fork.is c.self.invariant in
    let inside : StartsIn (Some c.in-Fork.starts) c.args.self.now.0 = subst (StartsIn (Some c.in-Fork.starts)) (sym shown) over.starts_in in
    record {
      out = λ apart. apart_out c.args.reach c.in-Fork.starts c.args.self.now.0 (c.meets.ensures.apart (not-true c.meets.result apart)) inside;
    }
