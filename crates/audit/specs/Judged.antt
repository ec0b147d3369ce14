-- The verdict on the replies of sessions.
use Rattle.std.specs.Prelude.{List, ℕ}
use Rattle.ts_model.specs.History.{History, position}
use Rattle.ts_sessions.specs.Places.{no_places}
use Rattle.transcript.specs.declared.transcripts.SessionTranscript.{SessionTranscript}
use Rattle.audit.specs.Answers.{FirstUnexplained}
use Rattle.audit.specs.ReplayedReplies.{LieBetween, Names, NamesAll}
use Rattle.audit.specs.declared.judgement.JudgedSessions.{JudgedSessions}
use Rattle.audit.specs.declared.judgement.JudgedSessions.TheVariants as of_talks

-- numbers that the replies of a session name, all of them above the start and within the history
pub record IsNamedBy (all : History) (start : ℕ) (talk : SessionTranscript) (numbers : List ℕ) : Type 0 where
  pub names : Names all start no_places talk.name talk.replies numbers
  pub lie : LieBetween start (position all) numbers

pub record AreNamedBy (all : History) (start : ℕ) (talks : List SessionTranscript) (numbers : List ℕ) : Type 0 where
  pub names : NamesAll all start talks numbers
  pub lie : LieBetween start (position all) numbers

-- the replies are explained and name these numbers, or this is the first that isn't explained
abbrev pub JudgesTalks : History → ℕ → List SessionTranscript → JudgedSessions → Type 0
JudgesTalks all start talks (of_talks.Explained numbers) = AreNamedBy all start talks numbers
JudgesTalks all start talks (of_talks.Unexplained place) = FirstUnexplained all start talks place.session place.reply
