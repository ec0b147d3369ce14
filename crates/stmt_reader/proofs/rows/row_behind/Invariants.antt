-- What was read of the row, and where its next value begins.
use Rattle.std.proofs.Common.{◌≡◌, ◌≤◌, length}
use Rattle.stmt_tokens.specs.Streams.{stream, size}
use Rattle.stmt_reader.specs.Reading.{row}
use Rattle.stmt_reader.proofs.RowBytes.{from_value}
use Rattle.stmt_reader.proofs.rows.row_behind.Given as goal

abbrev pub invariant-loop-value : goal.invariant-loop-value
invariant-loop-value l = record {
  within : l.at ≤ length l.text;
  read : row (stream l.text l.fn.skip) ≡ from_value l.values.items (stream l.text l.at);
}

abbrev pub decreases-loop-value : goal.decreases-loop-value
decreases-loop-value l = size (stream l.text l.at)
