use Rattle.std.proofs.Common.{◌≡◌, ◌-◌, [], take, sym, ap, ◌∙◌, subst, arith, rules}
use Rattle.ts_bucket.specs.Bucket.{IsWidth}
use Rattle.hier_agg.specs.Stale.{AreUpperRanges, upper_stale, widened_onto, with_range}
use Rattle.hier_agg.proofs.Widening.{onto_back, widened}
use Rattle.hier_agg.proofs.stale.widen.Goals as goal

pub loop-left-preserved : goal.loop-left-preserved
loop-left-preserved c = record {
  within = omega (arith, c.loop-left.invariant.within);
  onto =
      ap (widened_onto c.args.width.now (take (c.loop-left.left - 1) c.args.stale.now)) (c.in_ok-put_first.ensures ∙ ap (λ r. with_range r c.loop-left.found.items) c.in_ok-widen_range.ensures)
      ∙ sym (onto_back c.args.width.now c.args.stale.now c.loop-left.found.items c.loop-left.left c.get.result.now (omega (arith, c.loop-left-test.true)) c.loop-left.invariant.within c.get.ensures.item)
      ∙ c.loop-left.invariant.onto;
}

pub returns : goal.returns
returns c =
    let wide : IsWidth c.args.width.now = search rules in
    let none_left : c.loop-left.left ≡ 0 = omega (arith, c.loop-left-test.false) in
    let whole : c.loop-left.found.items ≡ widened_onto c.args.width.now c.args.stale.now [] =
    ap (λ n. widened_onto c.args.width.now (take n c.args.stale.now) c.loop-left.found.items) (sym none_left) ∙ c.loop-left.invariant.onto in
    let made : c.of.result ≡ upper_stale c.args.width.now c.args.stale.now = c.of.ensures.items ∙ (c.from.ensures.0 ∙ whole) in
    record {
      ranges = made;
      stale = subst (AreUpperRanges c.args.width.now c.args.stale.now) (sym made) (widened c.args.width.now wide c.args.stale.now c.requires);
    }
