use Rattle.std.proofs.Common.{◌≡◌, subst, sym}
use Rattle.std.specs.Prelude.{MatchOption}
use Rattle.std.specs.List.Sorted.{IsNonDecreasing}
use Rattle.turn_lock.specs.Positions.{positions_between}
use Rattle.audit.specs.Answers.{IsLost}
use Rattle.audit.specs.ReplayedReplies.{LieBetween}
use Rattle.audit.proofs.LostLaws.{sorted_lie, sorted_lost, sorted_rise}
use Rattle.audit.proofs.numbers.first_lost.Goals as goal

pub first_gap-requires-clause-lie : goal.first_gap-requires-clause-lie
first_gap-requires-clause-lie c =
    subst (LieBetween c.args.start c.args.end) (sym c.as_slice.ensures.value)
    (sorted_lie c.args.start c.args.end c.args.numbers c.into_items-numbers.result.items c.sort_unstable.new.self.items c.into_items-numbers.ensures.items c.sort_unstable.ensures.permutation c.requires.lie)

pub first_gap-requires-clause-rise : goal.first_gap-requires-clause-rise
first_gap-requires-clause-rise c = subst IsNonDecreasing (sym c.as_slice.ensures.value) (sorted_rise c.sort_unstable.new.self.items c.sort_unstable.ensures.sorted)

pub returns : goal.returns
returns c =
    let sorted = c.sort_unstable.new.self.items in
    let found = subst (λ ns. MatchOption c.first_gap.result (ns ≡ positions_between c.args.start c.args.end) (IsLost ns c.args.start c.args.end)) c.as_slice.ensures.value c.first_gap.ensures.lost in
    record {
      lost = sorted_lost c.first_gap.result c.args.start c.args.end c.args.numbers c.into_items-numbers.result.items sorted c.into_items-numbers.ensures.items c.sort_unstable.ensures.permutation found;
    }
