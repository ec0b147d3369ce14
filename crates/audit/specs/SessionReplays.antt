-- The replies of a session, and how many of them are judged.
use Rattle.std.specs.Prelude.{ℕ, List, Bool, true, false, map, take}
use Rattle.ts_model.specs.declared.snapshots.Shown.{Ghosts as Shown}
use Rattle.ts_model.specs.History.{History}
use Rattle.ts_sessions.specs.Held.{places_in}
use Rattle.ts_sessions.specs.Places.{no_places}
use Rattle.transcript.specs.declared.transcripts.SessionTranscript.{SessionTranscript}
use Rattle.audit.specs.Judged.{IsNamedBy}
use Rattle.audit.specs.ReplayedReplies.{Leads, StopsAt}
use Rattle.audit.specs.Short.{AreShort}
use Rattle.audit.specs.ReplayedSessions.{IsAt}
use Rattle.audit.specs.declared.session_replay.SessionReplay.{SessionReplay}
use Rattle.audit.specs.declared.replayed_session.ReplayedSession.{ReplayedSession}

-- the first replies of a session are explained, and led it to this state
pub record AreHeard {T J : Type 0} (shown : Shown T J) (all : History) (start : ℕ) (talk : SessionTranscript) (heard : ℕ)
    (t : ReplayedSession T J) : Type 0 where
  pub at : IsAt shown all start talk.name t
  pub leads : Leads all talk.name start no_places (take heard talk.replies) t.at (places_in t.session) t.named.items

-- the same, or the replay stopped, since the next reply isn't explained
abbrev pub AreHeardOrStop : {T J : Type 0} → Shown T J → History → ℕ → SessionTranscript → ℕ → ReplayedSession T J → Bool → Type 0
AreHeardOrStop shown all start talk heard t false = AreHeard shown all start talk heard t
AreHeardOrStop shown all start talk heard t true = StopsAt all start talk heard

pub record IsHeard {T J : Type 0} (shown : Shown T J) (all : History) (start : ℕ) (h : SessionReplay T J) : Type 0 where
  pub short : AreShort h.talk.now.replies
  pub heard : AreHeardOrStop shown all start h.talk.now h.heard h.teller h.stopped

-- all of its replies are explained, or this many are and the next one isn't
abbrev pub HearsAll : {T J : Type 0} → Shown T J → History → ℕ → SessionReplay T J → Bool → Type 0
HearsAll shown all start h true = IsNamedBy all start h.talk.now h.teller.named.items
HearsAll shown all start h false = StopsAt all start h.talk.now h.heard

-- the lines and replies of the sessions
abbrev pub talks_of : {T J : Type 0} → List (SessionReplay T J) → List SessionTranscript
talks_of hearings = map (λ h. h.talk.now) hearings
