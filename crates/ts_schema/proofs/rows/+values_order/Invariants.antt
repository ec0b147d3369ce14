use Rattle.std.proofs.Common.{length}
use Rattle.ts_schema.proofs.rows.«+values_order».Given as goal

abbrev pub decreases-values_order : goal.decreases-values_order
decreases-values_order l = length l.a.now
