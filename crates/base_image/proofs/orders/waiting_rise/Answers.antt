use Rattle.std.proofs.Common.{◌≡◌, rules}
use Rattle.std.proofs.lemmas.Fn.{always_returns_same}
use Rattle.std.proofs.Common.{nat_lt}
use Rattle.ts_model.specs.declared.refreshes.Waiting.{Waiting}
use Rattle.base_image.proofs.Neighbours.{cuts_rise}
use Rattle.base_image.proofs.orders.waiting_rise.Goals as goal

pub returns : goal.returns
returns c = cuts_rise (λ (x : Waiting). x.cut) c.args.waiting.now c.is_sorted_by.result (c.is_sorted_by.ensures.cases (λ x y. nat_lt x.cut y.cut) (always_returns_same _ (λ a r. r ≡ nat_lt a.0.now.cut a.1.0.now.cut) _ (λ a r q k. search rules)))
