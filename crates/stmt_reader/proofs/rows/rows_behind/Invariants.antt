-- The rows so far and those to come are the rows at the start and those read after them.
use Rattle.std.proofs.Common.{◌≡◌, ◌≤◌, length}
use Rattle.stmt_tokens.specs.Streams.{stream, size}
use Rattle.stmt_reader.specs.Reading.{more, parts, row}
use Rattle.stmt_reader.specs.declared.phrases.Separator.TheVariants.{Comma}
use Rattle.stmt_reader.proofs.rows.rows_behind.Given as goal

abbrev pub invariant-loop-begin : goal.invariant-loop-begin
invariant-loop-begin l = record {
  within : l.at ≤ length l.text;
  forward : size (stream l.text l.at) ≤ size (stream l.text l.fn.skip);
  read : more (parts Comma) row l.rows (stream l.text l.at) ≡ more (parts Comma) row l.initial.rows (stream l.text l.fn.skip);
}

abbrev pub decreases-loop-begin : goal.decreases-loop-begin
decreases-loop-begin l = size (stream l.text l.at)
