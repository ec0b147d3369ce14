use Rattle.std.proofs.Common.{◌≡◌, ◌++◌, drop, map}
use Rattle.ts_num.specs.Aggregates.{shown_or_null}
use Rattle.result_text.specs.Answers.{more_cells}
use Rattle.result_text.proofs.answers.put_keys.Given as goal

-- the text written and the text left are the whole, and what was before is kept
abbrev pub invariant-loop-key : goal.invariant-loop-key
invariant-loop-key l = record {
  written : l.initial.text.after ++ more_cells (map shown_or_null l.fn.keys) ≡ l.text.after ++ more_cells (map shown_or_null (drop l.key-index l.fn.keys));
  kept : l.text.before ≡ l.initial.text.before;
}
