-- The reader continues, and knows whether the source has reported its end.
use Rattle.std.proofs.Common.{◌≡◌, true, Some}
use Rattle.ts_io.specs.Reader.{Follows}
use Rattle.statement_tests.proofs.inputs.lines.takes_times.Given as goal

abbrev pub invariant-loop : goal.invariant-loop
invariant-loop g l = (l.lines.is_open ≡ true) × Follows l.lines l.source.ended (Some l.source.left)
