-- One more entry is fed.
use Rattle.std.proofs.Common.{◌≡◌, ◌∙◌, ◌+◌, length, drop, sym, ap, arith}
use Rattle.std.proofs.lemmas.List.{drop_all}
use Rattle.mat_log.specs.Feeding.{pending_after_all}
use Rattle.mat_log.specs.Logs.{pending_at, last_at}
use Rattle.mat_log.proofs.FeedLaws.{fed_one}
use Rattle.mat_log.proofs.logs.MatLog.fed_in_turn.Goals as goal

pub loop-entry-preserved : goal.loop-entry-preserved
loop-entry-preserved c = record {
  width = c.in_ok-fed-2.ensures.width ∙ c.loop-entry.invariant.width;
  refreshed = λ b. c.in_ok-fed-2.ensures.refreshed b ∙ c.loop-entry.invariant.refreshed b;
  pending = λ b q.
      fed_one c.args.self.now c.loop-entry.fed c.in_ok-fed-2.fed b c.args.entries.now c.loop-entry.entry-index c.entry-item.result c.loop-entry-test.true c.entry-item.is c.loop-entry.invariant.width (c.loop-entry.invariant.refreshed b)
      (c.in_ok-fed-2.ensures.pending b) q
      ∙ c.loop-entry.invariant.pending b q;
}

pub returns : goal.returns
returns c = record {
  fed = record {
    width = c.loop-entry.invariant.width;
    refreshed = c.loop-entry.invariant.refreshed;
    pending = λ b q.
        sym (ap (λ es. pending_after_all c.args.self.now.width b (last_at c.args.self.now b) es (pending_at c.loop-entry.fed b)) (drop_all c.loop-entry.entry-index c.args.entries.now c.loop-entry-test.false))
        ∙ c.loop-entry.invariant.pending b q;
  };
}
