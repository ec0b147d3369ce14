-- The lines of an input, sorted by their sessions.
use Rattle.std.specs.Prelude.{◌≡◌, ◌<◌, ℕ, suc, Bool, ◌||◌, not, cond, nat_lt, List, [], ◌∷◌, ◌++◌, get_or, length, take, filter}
use Rattle.std.specs.List.{list_any}
use Rattle.ts_io.specs.Lines.{lines_of}
use Rattle.ts_model.specs.Roster.{same_name}
use Rattle.stmt_tokens.specs.declared.lines.LineKind.{LineKind}
use Rattle.stmt_tokens.specs.declared.lines.LineKind.TheVariants.{Blank, NotAscii, NoSession, Stmt}
use Rattle.stmt_tokens.specs.Lines.{line_kind, session_name}
use Rattle.ts_model.specs.Numbers.{line_long, not_ascii, no_session, too_many_sessions}
use Rattle.result_text.specs.declared.replies.Said.TheVariants as said
use Rattle.result_text.specs.Replies.{line_fault_text, reply_text}
use Rattle.ts_sessions.specs.Script.{SessionLine, SessionScript}
use Rattle.ts_model.specs.Limits.{most_sessions}
use Rattle.stmt_syntax.specs.Limits.{longest_line}
use Rattle.ts_sessions.specs.Step.{bare}

-- an input, sorted: the refusals of lines that no session answers, in order, and the sessions in order of appearance.
-- Sessions are numbered from 0 in that order
pub record Sorted : Type 0 where
  pub refusals : List ℕ
  pub sessions : List SessionScript

-- among sessions in order of appearance, this one has this number, from 0
pub record HasNumber (scripts : List SessionScript) (script : SessionScript) (number : ℕ) : Type 0 where
  pub there : number < length scripts
  pub is : get_or scripts number script ≡ script

-- ---- one line

-- a line is refused with this text
abbrev pub refuses : List ℕ → Sorted → Sorted
refuses text s = record s { refusals = s.refusals ++ text }

-- the line comes last in the session with its name, and a new session comes last
abbrev pub with_line : List ℕ → SessionLine → List SessionScript → List SessionScript
with_line name line [] = record { name = name; lines = line ∷ [] } ∷ []
with_line name line (script ∷ scripts) =
    cond (same_name script.name name) (record script { lines = script.lines ++ line ∷ [] } ∷ scripts)
    (script ∷ with_line name line scripts)

-- a session with this name has appeared
abbrev pub appears_in : List ℕ → List SessionScript → Bool
appears_in name scripts = list_any (λ script. same_name script.name name) scripts

-- a line of the session with a name: of one that has appeared, or of a new one if there are fewer than 64
abbrev pub sorts_as : List ℕ → SessionLine → Sorted → Sorted
sorts_as name line s =
    cond (appears_in name s.sessions || nat_lt (length s.sessions) most_sessions)
    (record s { sessions = with_line name line s.sessions })
    (refuses (reply_text name (said.Fault (bare too_many_sessions))) s)

-- a line of this kind, with this number
abbrev pub sorts_kind : ℕ → List ℕ → Sorted → LineKind → Sorted
sorts_kind n line s Blank = s
sorts_kind n line s NotAscii = refuses (line_fault_text n (bare not_ascii)) s
sorts_kind n line s NoSession = refuses (line_fault_text n (bare no_session)) s
sorts_kind n line s (Stmt len skip end) =
    sorts_as (session_name line len skip) (record { text = take end line; skip = skip }) s

-- a line with this number
abbrev pub sorts : ℕ → List ℕ → Sorted → Sorted
sorts n line s =
    cond (nat_lt longest_line (length line)) (refuses (line_fault_text n (bare line_long)) s)
    (sorts_kind n line s (line_kind line))

-- ---- all lines

-- the lines from line n on
abbrev pub sorts_all : ℕ → List (List ℕ) → Sorted → Sorted
sorts_all n [] s = s
sorts_all n (line ∷ lines) s = sorts_all (suc n) lines (sorts n line s)

-- an input's lines, which count from 1
abbrev pub sorted_lines : List ℕ → Sorted
sorted_lines input = sorts_all 1 (lines_of input) (record { refusals = []; sessions = [] })

-- ---- phases

-- the name `setup`
abbrev pub setup : List ℕ
setup = 115 ∷ 101 ∷ 116 ∷ 117 ∷ 112 ∷ []

-- the name `final`
abbrev pub final : List ℕ
final = 102 ∷ 105 ∷ 110 ∷ 97 ∷ 108 ∷ []

-- only the session with this name, if it appears
abbrev pub only : List ℕ → List SessionScript → List SessionScript
only name scripts = filter (λ script. same_name script.name name) scripts

-- the sessions that run in parallel, each with its own worker: all except `setup`, which runs before them, and `final`,
-- which runs after them
abbrev pub at_once : List SessionScript → List SessionScript
at_once scripts = filter (λ script. not (same_name script.name setup || same_name script.name final)) scripts
