use Rattle.std.proofs.Common.{◌≡◌, ◌∷◌, ◌++◌, [], sym, subst, rules}
use Rattle.refresh_list.specs.Refreshes.{CutsBelow, CutsRise, newly_cut}
use Rattle.refresh_list.proofs.PlaceLaws.{rise_pushed}
use Rattle.refresh_list.proofs.lists.Refreshes.with_cut.Goals as goal

pub invariant_of-result : goal.invariant_of-result
invariant_of-result c =
    let new : c.in_ok-share.field-0.items ≡ c.self.inside.list.items ++ (newly_cut c.args.cut c.args.view c.args.span ∷ []) = search rules in
    subst (CutsRise 0) (sym new) (rise_pushed 0 c.self.inside.list.items (newly_cut c.args.cut c.args.view c.args.span) c.self.invariant (subst (CutsBelow c.args.cut) (sym c.self.view_is) c.requires.after) c.requires.some)
