use Rattle.std.proofs.Common.{◌≡◌, ◌++◌, drop}
use Rattle.ts_sessions.specs.Script.{text_of}
use Rattle.ts_sessions.proofs.replies.put_lines.Given as goal

-- the text written and that of the lines left are the whole text
abbrev pub invariant-loop-line : goal.invariant-loop-line
invariant-loop-line l = l.initial.text.items ++ text_of l.fn.name l.fn.said ≡ l.text.items ++ text_of l.fn.name (drop l.line-index l.fn.said)
