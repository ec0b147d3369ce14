-- Laws of the transcripts of runs, each in one sentence.
use Rattle.std.specs.Prelude.{ℕ, List, IsTrue}
use Rattle.ts_model.specs.History.{History}
use Rattle.ts_model.specs.States.{State}
use Rattle.ts_sessions.specs.Places.{Turn}
use Rattle.ts_sessions.specs.Procedures.{Procedure}
use Rattle.par_lines.specs.Sorted.{sorted_lines}
use Rattle.par_run.specs.Crews.{LinesRan}
use Rattle.par_run.specs.Outputs.{Output, transcript_in}
use Rattle.transcript.specs.Ascii.{is_ascii_transcript}
use Rattle.transcript.specs.Shape.{is_sound}

-- the transcript of a run of an input is sound, whatever its lines mean: each session has its own valid name, and only
-- lines of that session
abbrev pub RunsAreSound : Type 0 → Type 0
RunsAreSound P =
    (reply : P → List ℕ → ℕ → Procedure (Turn P)) (p : P) (opening : History) (input : List ℕ) (new : State)
    (out : Output) (reads start : ℕ)
    → LinesRan reply p opening (sorted_lines input) new out reads → IsTrue (is_sound (transcript_in start out))

-- and ASCII: each name, line and reply in it
abbrev pub RunsAreAscii : Type 0 → Type 0
RunsAreAscii P =
    (reply : P → List ℕ → ℕ → Procedure (Turn P)) (p : P) (opening : History) (input : List ℕ) (new : State)
    (out : Output) (reads start : ℕ)
    → LinesRan reply p opening (sorted_lines input) new out reads
    → IsTrue (is_ascii_transcript (transcript_in start out))
