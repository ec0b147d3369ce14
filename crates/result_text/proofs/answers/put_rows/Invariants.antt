use Rattle.std.proofs.Common.{◌≡◌, ◌++◌}
use Rattle.result_text.specs.Answers.{rows_text}
use Rattle.result_text.proofs.answers.put_rows.Given as goal

-- the text written and the text left are the whole, and what was before is kept
abbrev pub invariant-loop-row : goal.invariant-loop-row
invariant-loop-row l = record {
  written : l.initial.text.after ++ rows_text l.fn.rows ≡ l.text.after ++ rows_text l.row-iterator;
  kept : l.text.before ≡ l.initial.text.before;
}
