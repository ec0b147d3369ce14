use Rattle.std.proofs.Common.{◌≡◌, length, map, take}
use Rattle.seg_rows.specs.Lives.{versions_of, with_lives}
use Rattle.seg_rows.specs.Versions.{after_kill}
use Rattle.seg_rows.proofs.deletes.lives_after.Given as goal

abbrev pub invariant-loop-i : goal.invariant-loop-i
invariant-loop-i l = record {
  count : length l.after.items ≡ l.i;
  after : with_lives (take l.i l.rows) l.after.items ≡ map (after_kill l.pos l.tests) (take l.i (versions_of l.rows l.lives));
}
