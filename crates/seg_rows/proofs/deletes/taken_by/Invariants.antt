use Rattle.std.proofs.Common.{◌≡◌, length, take}
use Rattle.seg_rows.specs.Hulls.{hull_of}
use Rattle.seg_rows.specs.Lives.{versions_of}
use Rattle.seg_rows.specs.Versions.{taken_at}
use Rattle.seg_rows.proofs.deletes.taken_by.Given as goal

abbrev pub invariant-loop-i : goal.invariant-loop-i
invariant-loop-i l = record {
  removed : l.taken.removed ≡ length (taken_at l.pos l.tests (take l.i (versions_of l.rows l.lives)));
  hull : l.taken.hull ≡ hull_of (taken_at l.pos l.tests (take l.i (versions_of l.rows l.lives)));
}
