-- The lists are the same as slices.
use Rattle.std.proofs.Common.{sym, subst}
use Rattle.std.specs.List.{All}
use Rattle.mat_log.specs.Feeding.{AreWithin}
use Rattle.refresh_cut.proofs.cuts.cut.Goals as goal

pub fed_logs-requires : goal.fed_logs-requires
fed_logs-requires c =
    subst (λ entries. All (AreWithin entries) c.items.result.now) (sym c.entries.ensures.entries)
    (subst (All (AreWithin c.args.log.now.entries)) (sym c.items.ensures.items) c.requires)
