use Rattle.std.proofs.Common.{◌≡◌, ◌-◌, ◌≤◌, ◌++◌, length, map, take}
use Rattle.seg_rows.specs.Versions.{AsOften, newborn}
use Rattle.chunk_catalog.proofs.catalog.Chunks.put_shared.Given as goal

-- the rows in front are inserted
abbrev pub invariant-pieces : goal.invariant-pieces
invariant-pieces l = record {
  interval : l.chunks.interval ≡ l.self.interval;
  within : l.from ≤ length l.rows;
  put : AsOften l.chunks.versions (l.self.versions ++ map (newborn l.pos) (take l.from l.rows));
}

abbrev pub decreases-pieces : goal.decreases-pieces
decreases-pieces l = length l.rows - l.from
