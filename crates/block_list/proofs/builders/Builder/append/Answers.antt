-- One run more is appended.
use Rattle.std.proofs.Common.{◌-◌, ◌<◌, ◌∙◌, ◌++◌, take, drop, ap, arith}
use Rattle.std.proofs.lemmas.List.{append_assoc}
use Rattle.block_list.proofs.RunLaws.{taken_run}
use Rattle.block_list.proofs.builders.Builder.append.Goals as goal

pub loop-at-preserved : goal.loop-at-preserved
loop-at-preserved g c =
    let more : c.loop-at.at < c.in_ok-at.at = c.in_ok-at.ensures.more in
    let all = c.args.list.now.items in
    record {
      from = omega arith;
      upto = c.in_ok-at.ensures.within;
      done =
          c.in_ok-at.ensures.pushed
          ∙ ap (λ xs. xs ++ take (c.in_ok-at.at - c.loop-at.at) (drop c.loop-at.at all)) c.loop-at.invariant.done
          ∙ append_assoc c.args.self.now (take (c.loop-at.at - c.args.from) (drop c.args.from all)) (take (c.in_ok-at.at - c.loop-at.at) (drop c.loop-at.at all))
          ∙ ap (λ xs. c.args.self.now ++ xs) (taken_run all c.args.from c.loop-at.at c.in_ok-at.at c.loop-at.invariant.from (omega arith));
    }
