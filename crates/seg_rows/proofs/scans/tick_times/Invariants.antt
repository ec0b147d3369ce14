use Rattle.std.proofs.Common.{◌≡◌}
use Rattle.ts_schema.specs.Counts.{raised_by}
use Rattle.seg_rows.proofs.scans.tick_times.Given as goal

abbrev pub invariant-loop : goal.invariant-loop
invariant-loop g l = l.count ≡ raised_by l.counter l.fn.count
