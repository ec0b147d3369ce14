use Rattle.std.proofs.Common.{take}
use Rattle.ts_model.specs.History.{resumed}
use Rattle.engine_state.specs.Lists.{Each}
use Rattle.engine_state.specs.Stands.{ViewAt}
use Rattle.engine_state.proofs.image_views.views_from_image.Given as goal

abbrev pub invariant-loop-view : goal.invariant-loop-view
invariant-loop-view l = Each (ViewAt (resumed l.image) l.parts.tables) (take l.view l.parts.roster.views) l.views
