-- The lines of a transcript, as sessions execute them.
use Rattle.std.specs.Prelude.{ℕ, suc, Bool, List, [], ◌∷◌, map, position, take, Option, Some, None}
use Rattle.stmt_tokens.specs.Lines.{line_kind}
use Rattle.stmt_tokens.specs.Streams.{stream}
use Rattle.stmt_tokens.specs.declared.lines.LineKind.{LineKind}
use Rattle.stmt_tokens.specs.declared.lines.LineKind.TheVariants.{Blank, NotAscii, NoSession, Stmt}
use Rattle.policy_jobs.specs.Words.{begins}
use Rattle.ts_sessions.specs.Script.{SessionLine}
use Rattle.transcript.specs.declared.transcripts.Exchange.{Exchange}
use Rattle.transcript.specs.declared.transcripts.SessionTranscript.{SessionTranscript}
use Rattle.audit.specs.declared.lines.Place.{Place}

-- the part of a line of this kind that a session executes: its bytes before the comment. No session speaks in a line of
-- another kind
abbrev pub line_as : List ℕ → LineKind → SessionLine
line_as line Blank = record { text = []; skip = 0 }
line_as line NotAscii = record { text = []; skip = 0 }
line_as line NoSession = record { text = []; skip = 0 }
line_as line (Stmt len skip end) = record { text = take end line; skip = skip }

-- the same for a line of a transcript
abbrev pub line_of : Exchange → SessionLine
line_of exchange = line_as exchange.line (line_kind exchange.line)

abbrev pub lines_of : List Exchange → List SessionLine
lines_of exchanges = map line_of exchanges

-- ---- statements on policies

-- a line begins as a statement on policies
abbrev pub asks_policies : SessionLine → Bool
asks_policies line = begins (stream line.text line.skip)

-- the index of the first such line of a session
abbrev pub policy_among : List Exchange → Option ℕ
policy_among exchanges = position (λ exchange. asks_policies (line_of exchange)) exchanges

-- the place of the first such line, by its index in the first session, or its place in the later ones
abbrev pub found_first : Option ℕ → Option Place → Option Place
found_first (Some line) later = Some (record { session = 0; reply = line })
found_first None (Some place) = Some (record { session = suc place.session; reply = place.reply })
found_first None None = None

-- the place of the first such line of all sessions
abbrev pub first_policy : List SessionTranscript → Option Place
first_policy [] = None
first_policy (talk ∷ talks) = found_first (policy_among talk.replies) (first_policy talks)
