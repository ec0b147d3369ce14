-- The answers of an audit, and exactly when each applies.
use Rattle.std.specs.Prelude.{◌≡◌, ◌≤◌, ◌<◌, ℕ, zero, suc, List, [], ◌∷◌, length, sum_by, take, Some, None, ⊤}
use Rattle.ts_model.specs.History.{History, position}
use Rattle.turn_lock.specs.Positions.{times}
use Rattle.ts_sessions.specs.Places.{no_places}
use Rattle.transcript.specs.Reading.{IsReading}
use Rattle.transcript.specs.declared.transcripts.Exchange.{Exchange}
use Rattle.transcript.specs.declared.transcripts.SessionTranscript.{SessionTranscript}
use Rattle.transcript.specs.declared.transcripts.Transcript.{Transcript}
use Rattle.audit.specs.declared.answers.Audit.{Audit}
use Rattle.audit.specs.declared.answers.Audit.TheVariants.{Yes, No, Lost, Policy, Early, BadText, NoMemory}
use Rattle.audit.specs.Explained.{Came, Explained, AreExplained, IsExplained, IsWithin, named_by_all}
use Rattle.audit.specs.Lines.{first_policy}

-- the first replies of a session are explained
pub record HasExplanation (all : History) (start : ℕ) (name : List ℕ) (exchanges : List Exchange) : Type 0 where
  pub answers : List Came
  pub explained : IsExplained all start no_places name exchanges answers

-- the first reply that isn't explained, in the order of the text, is number j of session i. The sessions before are
-- explained. Of this one the first j replies are explained, and the first j + 1 aren't
abbrev pub FirstUnexplained : History → ℕ → List SessionTranscript → ℕ → ℕ → Type 0
FirstUnexplained all start [] i j = ⊥
FirstUnexplained all start (talk ∷ talks) zero j =
    HasExplanation all start talk.name (take j talk.replies)
    × (HasExplanation all start talk.name (take (suc j) talk.replies) → ⊥)
FirstUnexplained all start (talk ∷ talks) (suc i) j =
    HasExplanation all start talk.name talk.replies × FirstUnexplained all start talks i j

-- the lowest position above one and up to another that isn't named exactly once
pub record IsLost (numbers : List ℕ) (start end p : ℕ) : Type 0 where
  pub above : start < p
  pub within : p ≤ end
  pub lost : times p numbers ≡ 1 → ⊥
  pub least : (q : ℕ) → start < q → q < p → times q numbers ≡ 1

-- all replies are explained, and this is the lowest position above the start that they don't name exactly once
pub record HasLost (all : History) (t : Transcript) (p : ℕ) : Type 0 where
  pub answers : List (List Came)
  pub explained : AreExplained all t.start t.sessions answers
  pub lost : IsLost (named_by_all answers) t.start (position all) p

-- the number of replies of a transcript
abbrev pub reply_count : Transcript → ℕ
reply_count t = sum_by (λ talk. length talk.replies) t.sessions

-- its start is a position of the history, no line is a statement on policies, and P is true
pub record MayBeJudged (all : History) (t : Transcript) (P : Type 0) : Type 0 where
  pub within : IsWithin all t.start
  pub no_policy : first_policy t.sessions ≡ None
  pub holds : P

-- the answer for a transcript
abbrev pub Judges : History → Transcript → Audit → Type 0
Judges all t BadText = ⊥
Judges all t (Early p) = (IsWithin all t.start → ⊥) × (p ≡ position all)
Judges all t (Policy i j) = IsWithin all t.start × (first_policy t.sessions ≡ Some (record { session = i; reply = j }))
Judges all t (No i j) = MayBeJudged all t (FirstUnexplained all t.start t.sessions i j)
Judges all t (Lost p) = MayBeJudged all t (HasLost all t p)
Judges all t (Yes n) = MayBeJudged all t (Explained all t × (n ≡ reply_count t))
Judges all t NoMemory = ⊤

-- a text is read as a transcript with this answer
pub record ReadsAs (all : History) (text : List ℕ) (audit : Audit) : Type 0 where
  pub transcript : Transcript
  pub reading : IsReading text transcript
  pub judges : Judges all transcript audit

-- the answer for a text: that of its transcript, if it is read as one
abbrev pub Answers : History → List ℕ → Audit → Type 0
Answers all text BadText = (t : Transcript) → IsReading text t → ⊥
Answers all text NoMemory = ⊤
Answers all text (Early p) = ReadsAs all text (Early p)
Answers all text (Policy i j) = ReadsAs all text (Policy i j)
Answers all text (No i j) = ReadsAs all text (No i j)
Answers all text (Lost p) = ReadsAs all text (Lost p)
Answers all text (Yes n) = ReadsAs all text (Yes n)
