use Rattle.std.proofs.Common.{◌≡◌, ◌+◌, ◌<◌, ◌^◌, Bool, length}
use Rattle.std.specs.List.{count_by}
use Rattle.chunk_catalog.specs.Chunks.{HaveTimes}
use Rattle.chunk_catalog.specs.Places.{Placed}
use Rattle.chunk_catalog.specs.Parts.{placed_rows}
use Rattle.chunk_catalog.proofs.parts.put_rows.Given as goal

abbrev pub invariant-loop-alloc : goal.invariant-loop-alloc
invariant-loop-alloc l = record {
  times : HaveTimes l.left;
  countable : length l.tree.0 + length l.left < 2 ^ 64;
  versions : (test : Placed → Bool) → count_by test l.tree.0 + count_by test (placed_rows l.interval l.pos l.left) ≡ count_by test l.initial.tree.0 + count_by test (placed_rows l.interval l.pos l.initial.left);
}

abbrev pub decreases-loop-alloc : goal.decreases-loop-alloc
decreases-loop-alloc l = length l.left
