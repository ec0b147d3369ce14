-- The lines and sessions of an input, by the places of sorted lines.
use Rattle.std.specs.Prelude.{◌≡◌, ℕ, ◌+◌, ◌≤◌, ◌||◌, not, List, filter, length, map, take, drop, sum_by}
use Rattle.std.specs.List.{All, range_with_len}
use Rattle.std.specs.Option.{IfSome}
use Rattle.stmt_syntax.specs.Limits.{longest_line}
use Rattle.ts_model.specs.Roster.{same_name}
use Rattle.ts_sessions.specs.Script.{SessionLine, SessionScript}
use Rattle.par_lines.specs.declared.sessions.LinePlace.{LinePlace}
use Rattle.par_lines.specs.declared.sessions.SessionLines.{SessionLines}
use Rattle.par_lines.specs.declared.phases.Phases.{Phases}
use Rattle.par_lines.specs.declared.sorting.SortedLines.{SortedLines}
use Rattle.par_lines.specs.Sorted.{Sorted, final, setup}

-- ---- the parts of an input

-- the line at a place
abbrev pub line_at : List ℕ → LinePlace → SessionLine
line_at input place = record { text = take place.len (drop place.from input); skip = place.skip }

-- the lines of a session
abbrev pub script_of : List ℕ → SessionLines → SessionScript
script_of input session = record { name = session.name; lines = map (line_at input) session.lines.items }

-- the lines of several sessions
abbrev pub scripts_of : List ℕ → List SessionLines → List SessionScript
scripts_of input sessions = map (script_of input) sessions

-- all sorted lines
abbrev pub sorted_of : List ℕ → SortedLines → Sorted
sorted_of input lines = record { refusals = lines.refusals.items; sessions = scripts_of input lines.sessions.items }

-- sessions are numbered from 0 in order
abbrev pub AreNumbered : List SessionLines → Type 0
AreNumbered sessions = map (λ session. session.number) sessions ≡ range_with_len 0 (length sessions)

-- ---- phases

-- only the session with a name, if it appears
abbrev pub only_session : List ℕ → List SessionLines → List SessionLines
only_session name sessions = filter (λ session. same_name session.name name) sessions

-- the sessions that run in parallel
abbrev pub sessions_at_once : List SessionLines → List SessionLines
sessions_at_once sessions =
    filter (λ session. not (same_name session.name setup || same_name session.name final)) sessions

-- ---- sizes

-- the line is within the first n bytes, and its statement within its text, which has at most 65,536 bytes
pub record IsLineWithin (n : ℕ) (place : LinePlace) : Type 0 where
  pub inside : place.from + place.len ≤ n
  pub statement : place.skip ≤ place.len
  pub short : place.len ≤ longest_line

-- the lines of a session are within the first n bytes, and have at most n bytes together
pub record IsWithin (n : ℕ) (session : SessionLines) : Type 0 where
  pub each : All (IsLineWithin n) session.lines.items
  pub together : sum_by (λ place. place.len) session.lines.items ≤ n

-- the same for each session of each phase
pub record AreWithin (n : ℕ) (phases : Phases) : Type 0 where
  pub setup : IfSome phases.setup (IsWithin n)
  pub at_once : All (IsWithin n) phases.at_once.items
  pub last : IfSome phases.last (IsWithin n)
