use Rattle.std.proofs.Common.{◌≡◌, ◌++◌, drop}
use Rattle.ts_model.specs.Chosen.{chosen_cells}
use Rattle.ts_model.specs.Results.{group_cells}
use Rattle.result_text.specs.Answers.{more_cells}
use Rattle.result_text.proofs.answers.put_more_chosen.Given as goal

-- the text written and the text left are the whole, and what was before is kept
abbrev pub invariant-loop-place : goal.invariant-loop-place
invariant-loop-place l = record {
  written :
      l.initial.text.after ++ more_cells (chosen_cells l.fn.more (group_cells l.fn.row))
      ≡ l.text.after ++ more_cells (chosen_cells (drop l.place-index l.fn.more) (group_cells l.fn.row));
  kept : l.text.before ≡ l.initial.text.before;
}
