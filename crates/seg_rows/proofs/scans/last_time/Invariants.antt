use Rattle.std.proofs.Common.{◌≡◌, take}
use Rattle.seg_rows.specs.Lives.{versions_of}
use Rattle.seg_rows.specs.Versions.{latest_at}
use Rattle.seg_rows.proofs.scans.last_time.Given as goal

abbrev pub invariant-loop-i : goal.invariant-loop-i
invariant-loop-i l = l.last ≡ latest_at l.pos (take l.i (versions_of l.rows l.lives))
