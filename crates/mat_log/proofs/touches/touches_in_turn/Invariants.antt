use Rattle.std.proofs.Common.{◌≡◌, ℤ, drop}
use Rattle.ts_bucket.specs.Positions.{later}
use Rattle.span_map.specs.Maps.{at}
use Rattle.mat_log.specs.Touching.{touch_at}
use Rattle.mat_log.proofs.touches.touches_in_turn.Given as goal

abbrev pub invariant-loop-entry : goal.invariant-loop-entry
invariant-loop-entry l = (t : ℤ) → later (at l.touches t) (touch_at l.fn.w (drop l.entry-index l.entries) t) ≡ touch_at l.fn.w l.entries t
