-- When the names and lines of a transcript are sound.
use Rattle.std.specs.Prelude.{ℕ, Bool, false, true, not, ◌&&◌, ◌==◌, List, [], ◌∷◌, length, map, bytes_eq, nat_le}
use Rattle.std.specs.List.{list_all, list_any}
use Rattle.stmt_syntax.specs.Limits.{longest_line}
use Rattle.stmt_tokens.specs.Lines.{begins_session, continues_session, line_kind, session_name}
use Rattle.stmt_tokens.specs.declared.lines.LineKind.{LineKind}
use Rattle.stmt_tokens.specs.declared.lines.LineKind.TheVariants.{Blank, NotAscii, NoSession, Stmt}
use Rattle.transcript.specs.declared.transcripts.SessionTranscript.{SessionTranscript}
use Rattle.transcript.specs.declared.transcripts.Transcript.{Transcript}

-- ---- the name of a session

-- a letter, then letters, digits and _, 1 to 16 bytes in all
abbrev pub is_session_name : List ℕ → Bool
is_session_name [] = false
is_session_name (b ∷ bytes) = begins_session b && list_all continues_session bytes && nat_le (length bytes) 15

-- the name is among these
abbrev pub is_among : List ℕ → List (List ℕ) → Bool
is_among name names = list_any (bytes_eq name) names

-- no name comes twice
abbrev pub are_apart : List (List ℕ) → Bool
are_apart [] = true
are_apart (name ∷ names) = not (is_among name names) && are_apart names

-- ---- its lines

-- the text has no line feed
abbrev pub is_one_line : List ℕ → Bool
is_one_line text = list_all (λ b. not (b == 10)) text

-- the session with this name speaks in a line, which is of this kind
abbrev pub speaks_in : List ℕ → List ℕ → LineKind → Bool
speaks_in name line Blank = false
speaks_in name line NotAscii = false
speaks_in name line NoSession = false
speaks_in name line (Stmt len skip end) = bytes_eq (session_name line len skip) name

-- the text is one line of at most 65,536 bytes in which the session speaks, classified like the lines of an input. It
-- may have a comment, which the session doesn't say
abbrev pub is_line_of : List ℕ → List ℕ → Bool
is_line_of name line = nat_le (length line) longest_line && is_one_line line && speaks_in name line (line_kind line)

-- ---- a transcript

-- a valid name, and lines of that session
abbrev pub is_sound_talk : SessionTranscript → Bool
is_sound_talk t = is_session_name t.name && list_all (λ e. is_line_of t.name e.line) t.replies

-- every session has its own valid name and only lines of that session
abbrev pub is_sound : Transcript → Bool
is_sound t = list_all is_sound_talk t.sessions && are_apart (map (λ s. s.name) t.sessions)
