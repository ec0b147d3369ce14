-- Lines within the limit of a line.
use Rattle.std.specs.Prelude.{◌≤◌, All, List, length}
use Rattle.stmt_syntax.specs.Limits.{longest_line}
use Rattle.transcript.specs.declared.transcripts.Exchange.{Exchange}
use Rattle.transcript.specs.declared.transcripts.SessionTranscript.{SessionTranscript}

abbrev pub AreShort : List Exchange → Type 0
AreShort exchanges = All (λ e. length e.line ≤ longest_line) exchanges

-- the lines of all sessions are within the limit
abbrev pub AreShortTalks : List SessionTranscript → Type 0
AreShortTalks talks = All (λ talk. AreShort talk.replies) talks
