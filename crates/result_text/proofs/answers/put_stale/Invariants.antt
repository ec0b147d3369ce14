use Rattle.std.proofs.Common.{◌≡◌, ◌++◌, drop}
use Rattle.result_text.specs.Answers.{stale_text}
use Rattle.result_text.proofs.answers.put_stale.Given as goal

-- the text written and the text left are the whole, and what was before is kept
abbrev pub invariant-loop-span : goal.invariant-loop-span
invariant-loop-span l = record {
  written : l.initial.text.after ++ stale_text l.fn.min l.fn.stale ≡ l.text.after ++ stale_text l.fn.min (drop l.span-index l.fn.stale);
  kept : l.text.before ≡ l.initial.text.before;
}
