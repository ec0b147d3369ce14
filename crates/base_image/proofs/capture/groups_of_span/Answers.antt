use Rattle.std.proofs.Common.{◌≡◌, ◌-◌, ◌∷◌, List, length, take, drop, refl, arith}
use Rattle.ts_bucket.specs.declared.spans.Span.{Span}
use Rattle.base_image.proofs.ListLaws.{front, none_left}
use Rattle.base_image.proofs.TakingLaws.{left_begins, left_first_whole, left_goes_on, left_ends}
use Rattle.base_image.proofs.capture.groups_of_span.Goals as goal

pub loop-left-init : goal.loop-left-init
loop-left-init g c = λ h def stands is. left_begins c.args.view def h c.args.ranges.now _ (c.requires.whole h def stands is) (c.requires.rise h def stands is) c.new-groups.ensures.items

pub groups-requires-clause-whole : goal.groups-requires-clause-whole
groups-requires-clause-whole g c = λ h def stands is.
    let rest : List Span = take (length c.loop-left.left.now - 1) (drop 1 c.loop-left.left.now) in
    let whole : c.loop-left.left.now ≡ c.range-item.result ∷ rest = front c.loop-left.left.now rest c.range-item.result (omega (arith, c.in-len1-up.len_at_least)) refl c.range-item.is in
    left_first_whole c.args.view def h c.args.ranges.now c.loop-left.left.now rest c.range-item.result _ whole (c.loop-left.invariant h def stands is)

pub loop-left-preserved : goal.loop-left-preserved
loop-left-preserved g c = λ h def stands is.
    let rest : List Span = take (length c.loop-left.left.now - 1) (drop 1 c.loop-left.left.now) in
    let whole : c.loop-left.left.now ≡ c.range-item.result ∷ rest = front c.loop-left.left.now rest c.range-item.result (omega (arith, c.in-len1-up.len_at_least)) refl c.range-item.is in
    rw (c.in_ok-append.ensures.items, c.into_items-more.ensures.items) (left_goes_on c.args.view def h c.args.ranges.now c.loop-left.left.now rest c.range-item.result _ _ whole (c.loop-left.invariant h def stands is) (c.in_ok-groups.ensures.groups h def stands is))

pub returns : goal.returns
returns g c = record {
  groups = λ h def stands is.
      rw c.of.ensures.items (left_ends c.args.view def h c.args.ranges.now c.loop-left.left.now _ (none_left c.loop-left.left.now c.in_default.len_below) (c.loop-left.invariant h def stands is));
}
