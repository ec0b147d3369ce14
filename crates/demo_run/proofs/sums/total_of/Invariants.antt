use Rattle.std.proofs.Common.{◌≡◌, ◌+ℤ◌}
use Rattle.demo_run.specs.Sums.{total_of}
use Rattle.demo_run.proofs.sums.total_of.Given as goal

-- the rows added so far and those that are left are all rows
abbrev pub invariant-loop-row : goal.invariant-loop-row
invariant-loop-row l = (l.total +ℤ total_of l.row-iterator) ≡ total_of l.rows
