-- The later of the last touches of the two halves.
use Rattle.std.proofs.Common.{◌≡◌, ◌∙◌, ◌++◌, ◌/◌, length, take, ap, sym}
use Rattle.std.proofs.lemmas.List.{take-append-drop}
use Rattle.std.proofs.lemmas.Result.{IfOk-weaker}
use Rattle.ts_bucket.specs.Positions.{later}
use Rattle.span_map.specs.Maps.{MapValue, at}
use Rattle.mat_log.specs.Touching.{touch_at}
use Rattle.mat_log.proofs.FeedLaws.{touch_at-append}
use Rattle.mat_log.proofs.touches.+latest.Goals as goal

pub returns : goal.returns
returns t c =
    let front = c.split_at.result.0.now in
    let back = c.split_at.result.1.now in
    let whole : front ++ back ≡ c.args.entries.now = ap (λ xs. xs ++ back) c.split_at.ensures.front ∙ ap (λ ys. take (length c.args.entries.now / 2) c.args.entries.now ++ ys) c.split_at.ensures.back ∙ take-append-drop (length c.args.entries.now / 2) c.args.entries.now in
    IfOk-weaker c.combine.result _ _ (λ (both : MapValue) e n.
    e n
    ∙ ap (λ v. later v (at c.in_ok-second.second n)) (c.in_ok-first.ensures n)
    ∙ ap (later (touch_at c.args.w front n)) (c.in_ok-second.ensures n)
    ∙ sym (touch_at-append c.args.w front back n)
    ∙ ap (λ es. touch_at c.args.w es n) whole)
    c.combine.ensures.values
