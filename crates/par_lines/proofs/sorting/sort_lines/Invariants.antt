-- The lines sorted so far, and then those that are left, are the whole input sorted.
use Rattle.std.proofs.Common.{◌≡◌, ◌+◌, ◌-◌, ◌≤◌, length, drop}
use Rattle.std.specs.List.{All}
use Rattle.ts_io.specs.Lines.{lines_of}
use Rattle.par_lines.specs.Sorted.{sorted_lines, sorts_all}
use Rattle.par_lines.specs.Places.{sorted_of, AreNumbered, IsWithin}
use Rattle.par_lines.proofs.sorting.sort_lines.Given as goal

abbrev pub invariant-loop-from : goal.invariant-loop-from
invariant-loop-from l = record {
  place : l.from ≤ length l.input + 1;
  count : l.number ≤ l.from + 1;
  left : sorts_all l.number (lines_of (drop l.from l.input)) (sorted_of l.input l.lines) ≡ sorted_lines l.input;
  within : All (IsWithin (l.from - 1)) l.lines.sessions.items;
  numbered : AreNumbered l.lines.sessions.items;
}

abbrev pub decreases-loop-from : goal.decreases-loop-from
decreases-loop-from l = length l.input - l.from
