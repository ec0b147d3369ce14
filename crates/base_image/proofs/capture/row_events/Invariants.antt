use Rattle.std.proofs.Common.{◌≡◌}
use Rattle.ts_model.specs.History.{History}
use Rattle.image_laws.specs.Images.{row_events}
use Rattle.base_image.proofs.capture.row_events.Given as goal

abbrev pub invariant-loop-table : goal.invariant-loop-table
invariant-loop-table g l = (h : History) → g.I.Imaged.stands l.of h → l.events ≡ row_events h 0 l.table
