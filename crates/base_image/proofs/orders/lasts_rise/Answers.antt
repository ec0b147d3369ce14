use Rattle.std.proofs.Common.{◌≡◌, rules}
use Rattle.std.proofs.lemmas.Fn.{always_returns_same}
use Rattle.std.proofs.Common.{int_le}
use Rattle.base_image.proofs.Neighbours.{lasts_stand}
use Rattle.base_image.proofs.orders.lasts_rise.Goals as goal

pub returns : goal.returns
returns c = lasts_stand c.args.lasts.now c.is_sorted_by.result (c.is_sorted_by.ensures.cases (λ x y. int_le x.span.hi y.span.lo) (always_returns_same _ (λ a r. r ≡ int_le a.0.now.span.hi a.1.0.now.span.lo) _ (λ a r q k. search rules)))
