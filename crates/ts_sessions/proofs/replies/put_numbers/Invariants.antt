use Rattle.std.proofs.Common.{◌≡◌, ◌++◌, drop}
use Rattle.ts_sessions.specs.Made.{made_in}
use Rattle.ts_sessions.proofs.replies.put_numbers.Given as goal

-- the numbers appended and those of the lines left are all numbers
abbrev pub invariant-loop-line : goal.invariant-loop-line
invariant-loop-line l = l.initial.events ++ made_in l.fn.said ≡ l.events ++ made_in (drop l.line-index l.fn.said)
