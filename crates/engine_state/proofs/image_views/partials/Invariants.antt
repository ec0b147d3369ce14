use Rattle.std.proofs.Common.{◌≡◌, map, take}
use Rattle.ts_model.specs.Saved.{summary_of}
use Rattle.engine_state.proofs.image_views.partials.Given as goal

abbrev pub invariant-loop-sum : goal.invariant-loop-sum
invariant-loop-sum l = l.parts ≡ map summary_of (take l.sum-index l.sums)
