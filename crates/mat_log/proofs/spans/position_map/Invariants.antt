use Rattle.std.proofs.Common.{◌≡◌, ℤ, Some, None, cond, take}
use Rattle.ts_bucket.specs.Ranges.{lies_in}
use Rattle.span_map.specs.Maps.{at}
use Rattle.mat_log.proofs.spans.position_map.Given as goal

abbrev pub invariant-loop-span : goal.invariant-loop-span
invariant-loop-span l = (t : ℤ) → at l.map t ≡ cond (lies_in (take l.span-index l.spans) t) (Some l.fn.pos) None
