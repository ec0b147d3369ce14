use Rattle.std.proofs.Common.{◌≡◌, sym, subst}
use Rattle.std.specs.List.{AllByRecursion}
use Rattle.ts_bucket.specs.Ranges.{IsWholeRange, RiseApart}
use Rattle.base_image.specs.Taking.{AreLeft}
use Rattle.base_image.proofs.TakingLaws.{saved_is}
use Rattle.base_image.proofs.capture.saved_view.Goals as goal

pub groups_of_span-requires-clause-whole : goal.groups_of_span-requires-clause-whole
groups_of_span-requires-clause-whole g c = λ h def stands is.
    subst (AllByRecursion (IsWholeRange def.fold.width)) (sym c.items.ensures.items) (c.in_ok-dirty.ensures.dirty h def stands is).whole

pub groups_of_span-requires-clause-rise : goal.groups_of_span-requires-clause-rise
groups_of_span-requires-clause-rise g c = λ h def stands is.
    subst RiseApart (sym c.items.ensures.items) (c.in_ok-dirty.ensures.dirty h def stands is).rise

pub returns : goal.returns
returns g c = record {
  saved = λ h def stands is.
      let left = subst (λ ss. AreLeft c.args.view def h ss c.in_ok-groups.groups) c.items.ensures.items (c.in_ok-groups.ensures.groups h def stands is) in
      saved_is c.args.view def h _ _ _ _ (c.in_ok-lasts.ensures.lasts h def stands is) (c.in_ok-dirty.ensures.dirty h def stands is) left (c.mark.ensures.mark h def stands is);
}
