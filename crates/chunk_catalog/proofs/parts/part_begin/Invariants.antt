use Rattle.std.proofs.Common.{◌<◌, length, drop}
use Rattle.chunk_catalog.specs.Parts.{AreIn}
use Rattle.chunk_catalog.proofs.parts.part_begin.Given as goal

abbrev pub invariant-loop-from : goal.invariant-loop-from
invariant-loop-from l = record {
  within : l.from < length l.rows;
  here : AreIn l.interval l.start (drop l.from l.rows);
}

abbrev pub decreases-loop-from : goal.decreases-loop-from
decreases-loop-from l = l.from
