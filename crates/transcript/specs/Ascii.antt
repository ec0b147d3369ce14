-- Transcripts of which every text is ASCII.
use Rattle.std.specs.Prelude.{ℕ, Bool, ◌&&◌, List}
use Rattle.std.specs.List.{list_all}
use Rattle.std.specs.Char.{is_ascii}
use Rattle.transcript.specs.declared.transcripts.Exchange.{Exchange}
use Rattle.transcript.specs.declared.transcripts.SessionTranscript.{SessionTranscript}
use Rattle.transcript.specs.declared.transcripts.Transcript.{Transcript}

abbrev pub is_ascii_text : List ℕ → Bool
is_ascii_text bytes = list_all is_ascii bytes

-- the line and the reply are ASCII
abbrev pub is_ascii_exchange : Exchange → Bool
is_ascii_exchange e = is_ascii_text e.line && is_ascii_text e.reply

-- the name, and all lines and replies, are ASCII
abbrev pub is_ascii_talk : SessionTranscript → Bool
is_ascii_talk t = is_ascii_text t.name && list_all is_ascii_exchange t.replies

abbrev pub is_ascii_transcript : Transcript → Bool
is_ascii_transcript t = list_all is_ascii_talk t.sessions
