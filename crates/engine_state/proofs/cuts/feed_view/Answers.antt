-- The entries were fed in the form in which they were noted.
use Rattle.std.proofs.Common.{ap, ◌∙◌}
use Rattle.engine_state.proofs.FeedSteps.{fed_view}
use Rattle.engine_state.proofs.cuts.feed_view.Goals as goal

pub returns : goal.returns
returns c = record { fed = fed_view c.with_entries.result c.entries.result.now.items c.args.table.now c.args.view.now (c.entries.ensures.entries ∙ ap (λ l. l.entries) c.log.ensures.log) c.with_entries.ensures.table c.with_entries.ensures.groups c.with_entries.ensures.mark c.with_entries.ensures.fed }
