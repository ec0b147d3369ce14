use Rattle.std.proofs.Common.{◌≡◌, ◌++◌, length}
use Rattle.ts_model.specs.Groups.{shown_each}
use Rattle.result_text.specs.Answers.{more_cells}
use Rattle.result_text.proofs.answers.put_parts.Given as goal

-- the text written and the text left are the whole, and what was before is kept
abbrev pub invariant-loop-aggs_left : goal.invariant-loop-aggs_left
invariant-loop-aggs_left l = record {
  written : l.initial.text.after ++ more_cells (shown_each l.aggs l.parts) ≡ l.text.after ++ more_cells (shown_each l.aggs_left l.parts_left);
  kept : l.text.before ≡ l.initial.text.before;
}

abbrev pub decreases-loop-aggs_left : goal.decreases-loop-aggs_left
decreases-loop-aggs_left l = length l.aggs_left
