use Rattle.std.proofs.Common.{◌≡◌, map, take}
use Rattle.ts_model.specs.declared.images.SavedLast.{SavedLast}
use Rattle.engine_state.proofs.image_views.spans_of.Given as goal

abbrev pub invariant-loop-last : goal.invariant-loop-last
invariant-loop-last l = l.spans ≡ map (λ (x : SavedLast). x.span) (take l.last-index l.lasts)
