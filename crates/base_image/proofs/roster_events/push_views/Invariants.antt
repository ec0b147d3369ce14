use Rattle.std.proofs.Common.{◌≡◌, ◌++◌, map, take}
use Rattle.ts_model.specs.declared.events.Event.TheVariants.{View}
use Rattle.base_image.proofs.roster_events.push_views.Given as goal

abbrev pub invariant-loop-def : goal.invariant-loop-def
invariant-loop-def l = l.events ≡ l.fn.events ++ map View (take l.def-index l.views)
