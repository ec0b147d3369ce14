-- When one history explains the replies in a transcript.
use Rattle.std.specs.Prelude.{◌≡◌, ◌≤◌, ℕ, List, [], ◌∷◌, ◌++◌, map, None, IsPermutation}
use Rattle.ts_model.specs.History.{History, base_position, position}
use Rattle.turn_lock.specs.Positions.{positions_between}
use Rattle.ts_sessions.specs.Made.{made_in}
use Rattle.ts_sessions.specs.Places.{Places, Turn, no_places}
use Rattle.ts_sessions.specs.Replies.{reply_to}
use Rattle.ts_sessions.specs.Script.{text_of}
use Rattle.par_laws.specs.Answered.{LineAnswer, Answered}
use Rattle.par_laws.specs.Parallel.{places_after}
use Rattle.transcript.specs.declared.transcripts.Exchange.{Exchange}
use Rattle.transcript.specs.declared.transcripts.SessionTranscript.{SessionTranscript}
use Rattle.transcript.specs.declared.transcripts.Transcript.{Transcript}
use Rattle.audit.specs.Lines.{lines_of}

-- the outcome of a line: its read positions, its events, its reply, and the state of its session after it
abbrev pub Came : Type 0
Came = LineAnswer (Turn Places)

-- the texts of replies, in the lines of the session with a name
abbrev pub texts_of : List ℕ → List Came → List (List ℕ)
texts_of name answers = map (λ a. text_of name a.end.said) answers

-- the numbers of the events that replies name, in order
abbrev pub named_by : List Came → List ℕ
named_by [] = []
named_by (a ∷ answers) = made_in a.end.said ++ named_by answers

abbrev pub named_by_all : List (List Came) → List ℕ
named_by_all [] = []
named_by_all (answers ∷ others) = named_by answers ++ named_by_all others

-- over a whole history whose store never stopped, the lines of the session with a name have these results, and their
-- texts are the replies. Before its first line the session had last read at `at`, and it had this state. From there on
-- its read positions never fall, and each of its events is that of the history with its number. A query in a write
-- block reads at a position at which all operations of its queue are on hypertables
pub record IsExplained (all : History) (at : ℕ) (p : Places) (name : List ℕ) (exchanges : List Exchange)
    (answers : List Came) : Type 0 where
  pub answered : Answered reply_to places_after all None at p (lines_of exchanges) answers
  pub replies : texts_of name answers ≡ map (λ e. e.reply) exchanges

-- each session's replies are explained, from the same position on
abbrev pub AreExplained : History → ℕ → List SessionTranscript → List (List Came) → Type 0
AreExplained all start [] [] = Unit {0}
AreExplained all start [] (answers ∷ others) = ⊥
AreExplained all start (talk ∷ talks) [] = ⊥
AreExplained all start (talk ∷ talks) (answers ∷ others) =
    IsExplained all start no_places talk.name talk.replies answers × AreExplained all start talks others

-- the position is one of the history
abbrev pub IsWithin : History → ℕ → Type 0
IsWithin all start = (base_position all ≤ start) × (start ≤ position all)

-- a history explains a transcript. The start is a position of the history, and the history explains the replies of each
-- session from there on. The numbers that all replies name are the positions above the start, each once
pub record Explained (all : History) (t : Transcript) : Type 0 where
  pub within : IsWithin all t.start
  pub answers : List (List Came)
  pub explained : AreExplained all t.start t.sessions answers
  pub numbers : IsPermutation (named_by_all answers) (positions_between t.start (position all))
