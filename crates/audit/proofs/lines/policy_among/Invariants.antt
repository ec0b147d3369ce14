use Rattle.std.proofs.Common.{◌≡◌, ◌<◌, ℕ, false, get_or}
use Rattle.transcript.specs.declared.transcripts.Exchange.{Exchange}
use Rattle.audit.specs.Lines.{asks_policies, line_of}
use Rattle.audit.proofs.lines.policy_among.Given as goal

-- no line so far
abbrev pub invariant-loop-place : goal.invariant-loop-place
invariant-loop-place l = (k : ℕ) (d : Exchange) → k < l.place → asks_policies (line_of (get_or l.exchanges k d)) ≡ false
