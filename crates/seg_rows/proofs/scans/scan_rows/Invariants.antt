use Rattle.std.proofs.Common.{◌≡◌, ◌++◌, take}
use Rattle.ts_schema.specs.Counts.{raised_by}
use Rattle.seg_rows.specs.Lives.{versions_of}
use Rattle.seg_rows.specs.Versions.{rows_at}
use Rattle.seg_rows.proofs.scans.scan_rows.Given as goal

abbrev pub invariant-loop-i : goal.invariant-loop-i
invariant-loop-i g l = record {
  rows : l.out ≡ l.initial.out ++ rows_at l.pos l.span (take l.i (versions_of l.rows l.lives));
  ticks : l.steps ≡ raised_by l.i l.initial.steps;
}
