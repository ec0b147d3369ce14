-- The replies of a session that are judged in parts.
use Rattle.std.proofs.Common.{◌≡◌, ◌∙◌, ◌≤◌, ◌<◌, ℕ, ◌+◌, List, true, false, [], ◌∷◌, ◌++◌, drop, get_or, length, set, take, ap, refl, sym, subst, arith}
use Rattle.std.proofs.lemmas.List.{drop_more, get_or-map, length-map, map-append, map-set, set-get_or, take_more}
use Rattle.std.proofs.lemmas.List.Elements.{All-nil}
use Rattle.ts_model.specs.declared.snapshots.Shown.{Ghosts as Shown}
use Rattle.ts_model.specs.History.{History, position}
use Rattle.ts_sessions.specs.Held.{HoldsOf, places_in}
use Rattle.ts_sessions.specs.Places.{no_places}
use Rattle.audit_past.specs.ReplaySteps.{state_of}
use Rattle.transcript.specs.declared.transcripts.Exchange.{Exchange}
use Rattle.transcript.specs.declared.transcripts.SessionTranscript.{SessionTranscript}
use Rattle.audit.specs.SessionReplays.{AreHeard, talks_of}
use Rattle.audit.specs.Judged.{IsNamedBy}
use Rattle.audit.specs.ReplayedReplies.{LieBetween, StopsAt}
use Rattle.audit.specs.ReplayedSessions.{IsAt, RetellsTo}
use Rattle.audit.specs.declared.session_replay.SessionReplay.{SessionReplay}
use Rattle.audit.specs.declared.replayed_session.ReplayedSession.{ReplayedSession}
use Rattle.audit.proofs.RetellLaws.{all_led, at_next, leads_next, stops_next}
use Rattle.audit.proofs.RetoldLaws.{leads_none}

module _ {T J : Type 0} (shown : Shown T J) (all : History) (start : ℕ) (talk : SessionTranscript) where
  -- no reply is judged yet
  pub none_heard : (t : ReplayedSession T J) → t.session.name ≡ talk.name → HoldsOf shown t.session (state_of all) → places_in t.session ≡ no_places → t.at ≡ start → t.named.items ≡ [] → start ≤ position all → AreHeard shown all start talk 0 t
  none_heard t name holds places at none within = record {
    at = record {
      named = name;
      holds = holds;
      low = omega (arith, at);
      high = omega (arith, at, within);
      lie = subst (LieBetween start (position all)) (sym none) (All-nil (λ n. (start < n) × (n ≤ position all)));
    };
    leads = rw (at, places, none) (leads_none all talk.name start no_places);
  }

  -- one more reply is explained
  pub heard_next : (i : ℕ) (e : Exchange) (old new : ReplayedSession T J) → AreHeard shown all start talk i old → i < length talk.replies → e ≡ get_or talk.replies i e → RetellsTo all e old true new → (IsAt shown all start old.session.name old → IsAt shown all start old.session.name new) → AreHeard shown all start talk (i + 1) new
  heard_next i e old new h within there r goes = record {
    at = at_next shown all start talk.name old new h.at goes;
    leads = leads_next shown all start talk.name talk.replies i e old new h.at h.leads within there r;
  }

  -- one more reply isn't explained
  pub stops_hearing : (i : ℕ) (e : Exchange) (old new : ReplayedSession T J) → AreHeard shown all start talk i old → i < length talk.replies → e ≡ get_or talk.replies i e → RetellsTo all e old false new → StopsAt all start talk i
  stops_hearing i e old new h within there r = stops_next shown all start talk.name talk.replies i e old new h.at h.leads within there r

  -- all replies are explained
  pub all_heard : (i : ℕ) (t : ReplayedSession T J) → AreHeard shown all start talk i t → length talk.replies ≤ i → IsNamedBy all start talk t.named.items
  all_heard i t h whole = all_led shown all start talk.name talk.replies i t t.named.items h.at h.leads whole refl

-- ---- all sessions

module _ {T J : Type 0} where
  -- one more session begins
  pub one_begins : (hs : List (SessionReplay T J)) (h : SessionReplay T J) (talks : List SessionTranscript) (i : ℕ) (talk : SessionTranscript) → talks_of hs ≡ take i talks → h.talk.now ≡ talk → i < length talks → talk ≡ get_or talks i talk → talks_of (hs ++ h ∷ []) ≡ take (i + 1) talks
  one_begins hs h talks i talk begun is within there =
      map-append (λ (x : SessionReplay T J). x.talk.now) hs (h ∷ []) ∙ ap (λ ts. ts ++ h.talk.now ∷ []) begun ∙ ap (λ t. take i talks ++ t ∷ []) (is ∙ there) ∙ sym (take_more talks i talk within)

  -- one session judges more replies
  pub one_hears : (hs : List (SessionReplay T J)) (i : ℕ) (d new : SessionReplay T J) → new.talk.now ≡ (get_or hs i d).talk.now → talks_of (set hs i new) ≡ talks_of hs
  one_hears hs i d new same =
      map-set (λ (x : SessionReplay T J). x.talk.now) hs i new
      ∙ ap (λ t. set (talks_of hs) i t) same
      ∙ sym (map-set (λ (x : SessionReplay T J). x.talk.now) hs i (get_or hs i d))
      ∙ ap talks_of (set-get_or hs i d)

  -- the lines and replies of the next session
  pub next_talk : (hs : List (SessionReplay T J)) (talks : List SessionTranscript) (i : ℕ) (d new : SessionReplay T J) → talks_of hs ≡ talks → i < length hs → new.talk.now ≡ (get_or hs i d).talk.now → drop i talks ≡ new.talk.now ∷ drop (i + 1) talks
  next_talk hs talks i d new are within same =
      let many : length talks ≡ length hs = sym (ap length are) ∙ length-map hs (λ (x : SessionReplay T J). x.talk.now) in
      let it : get_or talks i new.talk.now ≡ new.talk.now = ap (λ ts. get_or ts i new.talk.now) (sym are) ∙ get_or-map (λ (x : SessionReplay T J). x.talk.now) hs i d new.talk.now within ∙ sym same in
      drop_more talks i new.talk.now (omega (arith, many, within)) ∙ ap (λ t. t ∷ drop (i + 1) talks) it
