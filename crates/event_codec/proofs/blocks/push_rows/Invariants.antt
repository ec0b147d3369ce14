use Rattle.std.proofs.Common.{◌≡◌, ◌++◌, ◌≤◌, drop, length}
use Rattle.std.specs.Arc.{arc_value}
use Rattle.cell_rows.specs.Parts.{AreParts, parts}
use Rattle.event_codec.specs.Blocks.{timed_rows}
use Rattle.event_codec.proofs.blocks.push_rows.Given as goal

-- the rows so far, and those of the times and values that are left
abbrev pub invariant-loop-at : goal.invariant-loop-at
invariant-loop-at l =
    (l.from ≤ length (arc_value l.block))
    × AreParts l.from l.at-iterator.b.rest.now (drop l.from (arc_value l.block))
    × (l.into.items ++ timed_rows l.at-iterator.a.rest.now (parts l.from l.at-iterator.b.rest.now (drop l.from (arc_value l.block)))
    ≡ l.fn.into.items ++ timed_rows l.times (parts 0 l.ends l.fn.values))
