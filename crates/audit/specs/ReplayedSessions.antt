-- A session whose replies are being judged, after the replies so far.
use Rattle.std.specs.Prelude.{◌≡◌, ◌≤◌, ℕ, List, ◌++◌, Bool, true, false}
use Rattle.ts_model.specs.declared.snapshots.Shown.{Ghosts as Shown}
use Rattle.ts_model.specs.History.{History, position}
use Rattle.ts_sessions.specs.Held.{HoldsOf, places_in}
use Rattle.audit_past.specs.ReplaySteps.{state_of}
use Rattle.audit_past.specs.declared.lines.ReplayedLine.{ReplayedLine}
use Rattle.transcript.specs.declared.transcripts.Exchange.{Exchange}
use Rattle.audit.specs.ReplayedReplies.{LieBetween, Retells}
use Rattle.audit.specs.declared.replayed_session.ReplayedSession.{ReplayedSession}

-- the session has this name, is at a position of the history, and what it holds fits the history. The numbers that its
-- replies name are above the start
pub record IsAt {T J : Type 0} (shown : Shown T J) (all : History) (start : ℕ) (name : List ℕ)
    (t : ReplayedSession T J) : Type 0 where
  pub named : t.session.name ≡ name
  pub holds : HoldsOf shown t.session (state_of all)
  pub low : start ≤ t.at
  pub high : t.at ≤ position all
  pub lie : LieBetween start (position all) t.named.items

-- one more reply leads the session on, or isn't explained
abbrev pub RetellsTo : {T J : Type 0} → History → Exchange → ReplayedSession T J → Bool → ReplayedSession T J → Type 0
RetellsTo all e old told new =
    Retells all old.session.name e old.at (places_in old.session) old.named.items told new.at (places_in new.session)
    new.named.items

-- the session continues after a line with this outcome
pub record IsBehind {T J : Type 0} (told : ReplayedLine) (reply : List ℕ) (old new : ReplayedSession T J) : Type 0 where
  pub text : told.reply.text ≡ reply
  pub at : new.at ≡ told.last
  pub named : new.named.items ≡ old.named.items ++ told.reply.events

-- the same, if the text of the line is the reply
abbrev pub GoesBehind : {T J : Type 0} → ReplayedLine → List ℕ → ReplayedSession T J → Bool → ReplayedSession T J → Type 0
GoesBehind told reply old true new = IsBehind told reply old new
GoesBehind told reply old false new = told.reply.text ≡ reply → ⊥
