-- The transcript that a text is read as, and the lines that a session of a transcript may have.
use Rattle.std.specs.Prelude.{◌≡◌, ◌≤◌, ◌<◌, ◌^◌, ℕ, List, length, take, IsTrue}
use Rattle.stmt_syntax.specs.Limits.{longest_line}
use Rattle.stmt_tokens.specs.Lines.{line_kind, session_name}
use Rattle.stmt_tokens.specs.declared.lines.LineKind.TheVariants.{Stmt}
use Rattle.transcript.specs.Ascii.{is_ascii_text, is_ascii_transcript}
use Rattle.transcript.specs.Reading.{IsReading}
use Rattle.transcript.specs.Shape.{is_session_name, is_one_line, is_line_of, is_sound}
use Rattle.transcript.specs.Text.{transcript_text, IsWritable}
use Rattle.transcript.specs.declared.transcripts.Transcript.{Transcript}

-- the text of a sound transcript, whose lines and replies are UTF-8, is read as that transcript
abbrev pub ReadsBack : Type 0
ReadsBack = (t : Transcript) → t.start < 2 ^ 64 → IsWritable t → IsTrue (is_sound t) → IsReading (transcript_text t) t

-- the text of a sound transcript whose texts are ASCII is read as that transcript
abbrev pub AsciiReadsBack : Type 0
AsciiReadsBack =
    (t : Transcript) → t.start < 2 ^ 64 → IsTrue (is_ascii_transcript t) → IsTrue (is_sound t)
    → IsReading (transcript_text t) t

-- a text is read as at most one transcript
abbrev pub ReadsAsOne : Type 0
ReadsAsOne = (text : List ℕ) (t u : Transcript) → IsReading text t → IsReading text u → t ≡ u

-- the name of a session is valid. The line of an input in which it speaks is one of its lines up to the comment: ASCII,
-- and of the same kind as the whole line
pub record IsSoundLine (line : List ℕ) (len skip end : ℕ) : Type 0 where
  pub named : IsTrue (is_session_name (session_name line len skip))
  pub spoken : IsTrue (is_line_of (session_name line len skip) (take end line))
  pub ascii : IsTrue (is_ascii_text (take end line))
  pub kind : line_kind (take end line) ≡ Stmt len skip end

-- the same for every line in which a session speaks
abbrev pub LinesAreSound : Type 0
LinesAreSound =
    (line : List ℕ) (len skip end : ℕ) → length line ≤ longest_line → IsTrue (is_one_line line)
    → line_kind line ≡ Stmt len skip end → IsSoundLine line len skip end
