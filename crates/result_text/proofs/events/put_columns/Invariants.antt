use Rattle.std.proofs.Common.{◌≡◌, ◌++◌, drop}
use Rattle.result_text.specs.Events.{columns_text}
use Rattle.result_text.proofs.events.put_columns.Given as goal

-- the text written and the text left are the whole, and what was before is kept
abbrev pub invariant-loop-column : goal.invariant-loop-column
invariant-loop-column l = record {
  written : l.initial.text.after ++ columns_text l.fn.columns ≡ l.text.after ++ columns_text (drop l.column-index l.fn.columns);
  kept : l.text.before ≡ l.initial.text.before;
}
