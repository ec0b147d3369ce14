use Rattle.std.proofs.Common.{◌≡◌, Some, length}
use Rattle.ts_model.specs.declared.views.ViewDef.{ViewDef}
use Rattle.ts_model.specs.History.{History}
use Rattle.ts_model.specs.Roster.{roster, view_of}
use Rattle.base_image.proofs.TakingLaws.{IsLeftSoFar}
use Rattle.base_image.proofs.capture.groups_of_span.Given as goal

abbrev pub invariant-loop-left : goal.invariant-loop-left
invariant-loop-left g l =
    (h : History) (def : ViewDef) → g.I.Imaged.stands l.of h → view_of (roster h) l.view ≡ Some def
    → IsLeftSoFar l.view def h l.ranges l.left l.groups.items

abbrev pub decreases-loop-left : goal.decreases-loop-left
decreases-loop-left g l = length l.left
