-- How the replies of sessions are judged, in order.
use Rattle.std.specs.Prelude.{◌≡◌, ◌≤◌, ◌<◌, ℕ, suc, ◌+◌, List, [], ◌∷◌, ◌++◌, Bool, true, false, All, take}
use Rattle.ts_model.specs.History.{History}
use Rattle.ts_sessions.specs.Places.{Places}
use Rattle.transcript.specs.declared.transcripts.Exchange.{Exchange}
use Rattle.transcript.specs.declared.transcripts.SessionTranscript.{SessionTranscript}
use Rattle.audit.specs.Answers.{FirstUnexplained, HasExplanation}
use Rattle.audit.specs.Explained.{AreExplained, Came, IsExplained, named_by, named_by_all}

-- numbers above one position and up to another
abbrev pub LieBetween : ℕ → ℕ → List ℕ → Type 0
LieBetween from to ns = All (λ n. (from < n) × (n ≤ to)) ns

-- ---- one session

-- replies are explained by results that name these numbers
pub record Names (all : History) (at : ℕ) (p : Places) (name : List ℕ) (exchanges : List Exchange)
    (numbers : List ℕ) : Type 0 where
  pub answers : List Came
  pub explained : IsExplained all at p name exchanges answers
  pub named : named_by answers ≡ numbers

-- the numbers found begin with these, and further replies name the others
pub record LeavesOthers (all : History) (at : ℕ) (p : Places) (name : List ℕ) (more : List Exchange)
    (numbers found : List ℕ) : Type 0 where
  pub others : List ℕ
  pub is : found ≡ numbers ++ others
  pub names : Names all at p name more others

-- replies lead a session from one position and state to another, and name these numbers. Further replies are explained
-- after them exactly if they are explained from there
pub record Leads (all : History) (name : List ℕ) (at : ℕ) (p : Places) (exchanges : List Exchange) (last : ℕ)
    (q : Places) (numbers : List ℕ) : Type 0 where
  pub there : (more : List Exchange) (others : List ℕ)
      → Names all last q name more others → Names all at p name (exchanges ++ more) (numbers ++ others)
  pub back : (more : List Exchange) (found : List ℕ)
      → Names all at p name (exchanges ++ more) found → LeavesOthers all last q name more numbers found

-- one more reply leads a session on from a position and a state, with the numbers named before, or it isn't explained
-- there
abbrev pub Retells : History → List ℕ → Exchange → ℕ → Places → List ℕ → Bool → ℕ → Places → List ℕ → Type 0
Retells all name e at p old true last q new =
    (from : ℕ) (first : Places) (before : List Exchange)
    → Leads all name from first before at p old → Leads all name from first (before ++ e ∷ []) last q new
Retells all name e at p old false last q new = (found : List ℕ) → Names all at p name (e ∷ []) found → ⊥

-- the first replies of a session are explained, and with one more they aren't
pub record StopsAt (all : History) (start : ℕ) (talk : SessionTranscript) (count : ℕ) : Type 0 where
  pub before : HasExplanation all start talk.name (take count talk.replies)
  pub fails : HasExplanation all start talk.name (take (suc count) talk.replies) → ⊥

-- ---- all sessions

-- the replies of sessions are explained by results that name these numbers
pub record NamesAll (all : History) (start : ℕ) (talks : List SessionTranscript) (numbers : List ℕ) : Type 0 where
  pub answers : List (List Came)
  pub explained : AreExplained all start talks answers
  pub named : named_by_all answers ≡ numbers

-- the first sessions are explained and name these numbers: what is true of the rest is true of all
pub record Passes (all : History) (start : ℕ) (talks : List SessionTranscript) (count : ℕ) (left : List SessionTranscript)
    (numbers : List ℕ) : Type 0 where
  pub stops : (i j : ℕ) → FirstUnexplained all start left i j → FirstUnexplained all start talks (count + i) j
  pub names : (others : List ℕ) → NamesAll all start left others → NamesAll all start talks (numbers ++ others)
