use Rattle.std.proofs.Common.{◌≡◌, ◌<◌, ℕ, None, get_or}
use Rattle.transcript.specs.declared.transcripts.SessionTranscript.{SessionTranscript}
use Rattle.audit.specs.Lines.{policy_among}
use Rattle.audit.proofs.lines.first_policy.Given as goal

-- no line of the sessions so far
abbrev pub invariant-loop-session : goal.invariant-loop-session
invariant-loop-session l = (k : ℕ) (d : SessionTranscript) → k < l.session → policy_among (get_or l.talks k d).replies ≡ None
