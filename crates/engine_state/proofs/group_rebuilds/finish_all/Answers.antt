-- One more is finished.
use Rattle.std.proofs.Common.{[], ◌∷◌, ◌++◌, List, sym, ap, ◌∙◌, subst, append_assoc}
use Rattle.std.specs.List.{AllByRecursion, AllZip}
use Rattle.partial_agg.specs.declared.groups.Group.{Group}
use Rattle.engine_state.specs.GroupRebuilds.{CanTake, Makes}
use Rattle.engine_state.proofs.RefoldLaws.{zip_pushed}
use Rattle.engine_state.proofs.group_rebuilds.finish_all.Goals as goal

pub loop-refold-preserved : goal.loop-refold-preserved
loop-refold-preserved c =
    let inv = c.loop-refold.invariant in
    let was = inv.made in
    let first = c.in-Some.ensures.items in
    let one = c.in-Some.refold ∷ [] in
    record {
      can = (subst (AllByRecursion CanTake) first inv.can).1;
      made = (
        was.0 ++ one,
        append_assoc was.0 one c.pop_front.new.self.items ∙ ap (λ more. was.0 ++ more) (sym first) ∙ was.1,
        subst (λ (made : List (List Group)). AllZip Makes (was.0 ++ one) made) (sym c.in_ok-push.ensures.pushed) (zip_pushed Makes was.0 c.loop-refold.made c.in-Some.refold c.in_ok-finish_refold.field-0 was.2 c.in_ok-finish_refold.ensures),
      );
    }
