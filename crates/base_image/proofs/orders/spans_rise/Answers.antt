use Rattle.std.proofs.Common.{◌≡◌, rules}
use Rattle.std.proofs.lemmas.Fn.{always_returns_same}
use Rattle.std.proofs.Common.{int_le}
use Rattle.base_image.proofs.Neighbours.{spans_stand}
use Rattle.base_image.proofs.orders.spans_rise.Goals as goal

pub returns : goal.returns
returns c = spans_stand c.args.spans.now c.is_sorted_by.result (c.is_sorted_by.ensures.cases (λ x y. int_le x.hi y.lo) (always_returns_same _ (λ a r. r ≡ int_le a.0.now.hi a.1.0.now.lo) _ (λ a r q k. search rules)))
