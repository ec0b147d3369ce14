use Rattle.ts_model.specs.History.{History}
use Rattle.base_image.specs.Taking.{AreKept}
use Rattle.base_image.proofs.capture.saved_views.Given as goal

abbrev pub invariant-loop-view : goal.invariant-loop-view
invariant-loop-view g l = (h : History) → g.I.Imaged.stands l.of h → AreKept h l.view l.views
