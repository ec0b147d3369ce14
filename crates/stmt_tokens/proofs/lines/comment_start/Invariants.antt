use Rattle.std.proofs.Common.{◌≡◌, ◌≤◌, ◌+◌, ◌-◌, length, drop}
use Rattle.stmt_tokens.specs.Lines.{comment_at}
use Rattle.stmt_tokens.proofs.lines.comment_start.Given as goal

abbrev pub invariant-loop-skipped : goal.invariant-loop-skipped
invariant-loop-skipped l = record { within : l.at ≤ length l.line; start : l.at + comment_at (drop l.at l.line) ≡ comment_at l.line }

abbrev pub decreases-loop-skipped : goal.decreases-loop-skipped
decreases-loop-skipped l = length l.line - l.at
