use Rattle.std.proofs.Common.{◌≡◌}
use Rattle.ts_model.specs.History.{History}
use Rattle.image_laws.specs.Images.{row_events}
use Rattle.base_image.specs.Outlines.{commits, tallies}
use Rattle.base_image.proofs.tallies.table_tallies.Given as goal

abbrev pub invariant-loop-table : goal.invariant-loop-table
invariant-loop-table g l =
    (l.all ≡ tallies (g.I.Imaged.held l.of) 0 l.table)
    × ((h : History) → g.I.Imaged.stands l.of h → commits (g.I.Imaged.held l.of) 0 l.table ≡ row_events h 0 l.table)
