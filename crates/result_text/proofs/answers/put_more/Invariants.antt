use Rattle.std.proofs.Common.{◌≡◌, ◌++◌, drop}
use Rattle.result_text.specs.Answers.{more_cells}
use Rattle.result_text.proofs.answers.put_more.Given as goal

-- the text written and the text left are the whole, and what was before is kept
abbrev pub invariant-loop-datum : goal.invariant-loop-datum
invariant-loop-datum l = record {
  written : l.initial.text.after ++ more_cells l.fn.more ≡ l.text.after ++ more_cells (drop l.datum-index l.fn.more);
  kept : l.text.before ≡ l.initial.text.before;
}
