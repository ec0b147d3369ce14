use Rattle.std.proofs.Common.{◌≡◌, rules}
use Rattle.std.proofs.lemmas.Fn.{always_returns_same}
use Rattle.std.specs.Ordering.{is_lt}
use Rattle.partial_agg.specs.Groups.{group_cmp}
use Rattle.partial_agg.proofs.GroupLaws.{group_cmp_total}
use Rattle.ts_model.specs.Saved.{group_of}
use Rattle.base_image.proofs.Neighbours.{rises}
use Rattle.base_image.proofs.orders.groups_rise.Goals as goal

pub returns : goal.returns
returns c = rises group_cmp group_of group_cmp_total c.args.groups.now c.is_sorted_by.result (c.is_sorted_by.ensures.cases (λ x y. is_lt (group_cmp (group_of x) (group_of y))) (always_returns_same _ (λ a r. r ≡ is_lt (group_cmp (group_of a.0.now) (group_of a.1.0.now))) _ (λ a r q k. search rules)))
