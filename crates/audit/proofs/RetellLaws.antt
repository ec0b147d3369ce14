-- What the replay of one reply says about its session.
use Rattle.std.proofs.Common.{◌≡◌, ◌≤◌, ◌<◌, ℕ, ◌+◌, Bool, true, false, List, [], ◌∷◌, ◌++◌, get_or, length, take, None, Some, Option, refl, sym, ap, ◌∙◌, subst, arith}
use Rattle.std.specs.Prelude.{IsTrue}
use Rattle.std.proofs.lemmas.Bool.{true≢false}
use Rattle.std.proofs.lemmas.List.{take_all, take_more}
use Rattle.std.proofs.lemmas.List.Elements.{All-append, All-cons, All-nil}
use Rattle.ts_model.specs.declared.events.Event.{Event}
use Rattle.ts_model.specs.declared.snapshots.Shown.{Ghosts as Shown}
use Rattle.ts_model.specs.Allowed.{all_allowed}
use Rattle.ts_model.specs.History.{History, base_position, position}
use Rattle.ts_schema.specs.Names.{is_name}
use Rattle.ts_sessions.specs.Gives.{AreEvents, numbers}
use Rattle.ts_sessions.specs.Held.{HoldsOf, places_in}
use Rattle.ts_sessions.specs.Places.{Places, Turn, no_places}
use Rattle.ts_sessions.specs.Replies.{reply_to}
use Rattle.ts_sessions.specs.Script.{SessionLine}
use Rattle.audit_past.specs.ReplaySteps.{IsToldLine, state_of}
use Rattle.audit_looks.specs.Replay.{Told, Tells}
use Rattle.ts_sessions.specs.declared.sessions.Session.{Session}
use Rattle.audit_past.specs.declared.lines.ReplayedLine.{ReplayedLine}
use Rattle.ts_sessions.proofs.GivenNames.{replies_named}
use Rattle.ts_sessions.proofs.GivesLaws.{gives_events}
use Rattle.audit_looks.proofs.ReplayLaws.{told_is_given}
use Rattle.audit_looks.specs.Replies.{looks_in}
use Rattle.transcript.specs.declared.transcripts.Exchange.{Exchange}
use Rattle.audit.specs.Lines.{line_of}
use Rattle.audit.specs.Judged.{IsNamedBy}
use Rattle.audit.specs.ReplayedReplies.{Leads, LieBetween, Names, StopsAt}
use Rattle.audit.specs.ReplayedSessions.{GoesBehind, IsAt, RetellsTo}
use Rattle.audit.specs.declared.replayed_session.ReplayedSession.{ReplayedSession}
use Rattle.audit.proofs.NameLaws.{name_of_one_line}
use Rattle.audit.proofs.RetoldLaws.{names_led, stops_here}
use Rattle.audit.proofs.TellerLaws.{otherwise, retold, untold}
use Rattle.audit.proofs.TheLaws.{the_laws}

-- ---- numbers

lie_wider : (a b c d : ℕ) (ns : List ℕ) → c ≤ a → b ≤ d → LieBetween a b ns → LieBetween c d ns
lie_wider a b c d ns low high lie k x within = let here = lie k x within in (omega (arith, here, low), omega (arith, here, high))

events_lie : (all : History) (at last : ℕ) (es : List (ℕ × Event)) → AreEvents all at es last → (at ≤ last) × LieBetween at last (numbers es)
events_lie all at last [] e = (e, All-nil (λ n. (at < n) × (n ≤ last)))
events_lie all at last (x ∷ es) e =
    let up = e.0 in
    let rest = events_lie all x.0 last es e.2 in
    let on = rest.0 in
    (omega (arith, up, on), All-cons (λ n. (at < n) × (n ≤ last)) x.0 (numbers es) (up, on) (lie_wider x.0 last at last (numbers es) (omega (arith, up)) (omega arith) rest.1))

-- the numbers that a replayed line names are after the position at which its replay began
told_lie : (all : History) (at : ℕ) (p : Places) (line : SessionLine) (looks : List ℕ) (name : List ℕ) (q : Places) (told : ReplayedLine) → base_position all ≤ at → IsToldLine all at (reply_to p line.text line.skip) looks name q told → LieBetween at told.last told.reply.events
told_lie all at p line looks name q told low l =
    let end : Turn Places = record { places = q; said = l.said; reads = l.read } in
    let g = told_is_given all at (reply_to p line.text line.skip) looks (record { last = told.last; given = l.given; end = end }) l.tells in
    let events = gives_events all None at (reply_to p line.text line.skip) g.looks told.last l.given end g.gives in
    let named = replies_named all None at p line.text line.skip g.looks told.last l.given end low g.gives in
    subst (LieBetween at told.last) (named ∙ sym l.reply.names) (events_lie all at told.last l.given events).1

-- ---- one reply

module _ {T J : Type 0} (all : History) (allowed : all_allowed all ≡ true) (e : Exchange) (old : ReplayedSession T J) (named : is_name old.session.name ≡ true) (low : base_position all ≤ old.at) (line : SessionLine) (line_is : line ≡ line_of e) (looks reply : List ℕ) (looks_are : looks ≡ looks_in old.session.name reply) (reply_is : reply ≡ e.reply) where
  told_of_line : (r : Option (Told (Turn Places))) → Tells all old.at [] (reply_to (places_in old.session) line.text line.skip) looks r → Tells all old.at [] (reply_to (places_in old.session) (line_of e).text (line_of e).skip) looks r
  told_of_line r t = subst (λ (l : SessionLine). Tells all old.at [] (reply_to (places_in old.session) l.text l.skip) looks r) line_is t

  looks_read : looks ≡ looks_in old.session.name e.reply
  looks_read = looks_are ∙ ap (looks_in old.session.name) reply_is

  -- the history doesn't explain the line
  pub retells_none : (new : ReplayedSession T J) → Tells all old.at [] (reply_to (places_in old.session) line.text line.skip) looks None → RetellsTo all e old false new
  retells_none new t = untold the_laws all allowed old.session.name (name_of_one_line old.session.name named) e old.at (places_in old.session) looks low looks_read (told_of_line None t)

  -- the history explains the line
  module _ (session : Session T J) (told : ReplayedLine) (l : IsToldLine all old.at (reply_to (places_in old.session) line.text line.skip) looks old.session.name (places_in session) told) where
    mid : ReplayedSession T J
    mid = record { session = session; at = old.at; named = old.named }

    pub retells_some : (t : Bool) (new : ReplayedSession T J) → new.session ≡ session → GoesBehind told reply (record { session = session; at = old.at; named = old.named }) t new → RetellsTo all e old t new
    retells_some true new same b =
        let tells : Tells all old.at [] (reply_to (places_in old.session) (line_of e).text (line_of e).skip) looks (Some (record { last = new.at; given = l.given; end = record { places = places_in new.session; said = l.said; reads = l.read } })) =
        subst (λ (s : Session T J). Tells all old.at [] (reply_to (places_in old.session) (line_of e).text (line_of e).skip) looks (Some (record { last = new.at; given = l.given; end = record { places = places_in s; said = l.said; reads = l.read } }))) (sym same)
        (subst (λ n. Tells all old.at [] (reply_to (places_in old.session) (line_of e).text (line_of e).skip) looks (Some (record { last = n; given = l.given; end = record { places = places_in session; said = l.said; reads = l.read } }))) (sym b.at) (told_of_line _ l.tells)) in
        retold the_laws all allowed old.session.name (name_of_one_line old.session.name named) e old.at (places_in old.session) old.named.items new.at l.given l.said l.read (places_in new.session) looks new.named.items low tells
        (sym l.reply.text ∙ b.text ∙ reply_is) (b.named ∙ ap (λ ns. old.named.items ++ ns) l.reply.names)
    retells_some false new same b =
        otherwise the_laws all allowed old.session.name (name_of_one_line old.session.name named) e old.at (places_in old.session) looks told.last l.given l.said l.read (places_in session) low looks_read (told_of_line _ l.tells)
        (λ text. b (l.reply.text ∙ text ∙ sym reply_is))

    -- the session continues after it
    pub goes_on : (shown : Shown T J) (start : ℕ) (t : Bool) (new : ReplayedSession T J) → IsAt shown all start old.session.name old → new.session ≡ session → session.name ≡ old.session.name → HoldsOf shown session (state_of all) → GoesBehind told reply (record { session = session; at = old.at; named = old.named }) t new → IsTrue t → IsAt shown all start old.session.name new
    goes_on shown start false new at same name holds b yes_told = absurd (true≢false (sym yes_told))
    goes_on shown start true new at same name holds b yes_told =
        let here = b.at in
        let on = l.low in
        let within = l.high in
        let from = at.low in
        let lie = told_lie all old.at (places_in old.session) line looks old.session.name (places_in session) told low l in
        record {
          named = ap (λ (s : Session T J). s.name) same ∙ name;
          holds = subst (λ (s : Session T J). HoldsOf shown s (state_of all)) (sym same) holds;
          low = omega (arith, here, on, from);
          high = omega (arith, here, within);
          lie = subst (LieBetween start (position all)) (sym b.named) (All-append (λ n. (start < n) × (n ≤ position all)) old.named.items told.reply.events at.lie (lie_wider old.at told.last start (position all) told.reply.events from within lie));
        }

-- ---- all replies of a session

module _ {T J : Type 0} (shown : Shown T J) (all : History) (start : ℕ) (name : List ℕ) where
  -- one more reply led the session on
  pub leads_next : (exchanges : List Exchange) (i : ℕ) (e : Exchange) (old new : ReplayedSession T J) → IsAt shown all start name old → Leads all name start no_places (take i exchanges) old.at (places_in old.session) old.named.items → i < length exchanges → e ≡ get_or exchanges i e → RetellsTo all e old true new → Leads all name start no_places (take (i + 1) exchanges) new.at (places_in new.session) new.named.items
  leads_next exchanges i e old new at l within there r =
      let own : Leads all old.session.name start no_places (take i exchanges) old.at (places_in old.session) old.named.items = subst (λ n. Leads all n start no_places (take i exchanges) old.at (places_in old.session) old.named.items) (sym at.named) l in
      let more : take i exchanges ++ e ∷ [] ≡ take (i + 1) exchanges = sym (take_more exchanges i e within ∙ ap (λ x. take i exchanges ++ x ∷ []) (sym there)) in
      subst (λ es. Leads all name start no_places es new.at (places_in new.session) new.named.items) more
      (subst (λ n. Leads all n start no_places (take i exchanges ++ e ∷ []) new.at (places_in new.session) new.named.items) at.named (r start no_places (take i exchanges) own))

  -- it moved the session's position on
  pub at_next : (old new : ReplayedSession T J) → IsAt shown all start name old → (IsAt shown all start old.session.name old → IsAt shown all start old.session.name new) → IsAt shown all start name new
  at_next old new at goes =
      let own = goes (record { named = refl; holds = at.holds; low = at.low; high = at.high; lie = at.lie }) in
      record { named = own.named ∙ at.named; holds = own.holds; low = own.low; high = own.high; lie = own.lie }

  -- the next one isn't explained
  pub stops_next : (exchanges : List Exchange) (i : ℕ) (e : Exchange) (old new : ReplayedSession T J) → IsAt shown all start name old → Leads all name start no_places (take i exchanges) old.at (places_in old.session) old.named.items → i < length exchanges → e ≡ get_or exchanges i e → RetellsTo all e old false new → StopsAt all start (record { name = name; replies = exchanges }) i
  stops_next exchanges i e old new at l within there r =
      stops_here all name start exchanges i e old.at (places_in old.session) old.named.items l within there
      (λ found n. r found (subst (λ m. Names all old.at (places_in old.session) m (e ∷ []) found) (sym at.named) n))

  -- all replies are explained
  pub all_led : (exchanges : List Exchange) (i : ℕ) (t : ReplayedSession T J) (numbers : List ℕ) → IsAt shown all start name t → Leads all name start no_places (take i exchanges) t.at (places_in t.session) t.named.items → length exchanges ≤ i → numbers ≡ t.named.items → IsNamedBy all start (record { name = name; replies = exchanges }) numbers
  all_led exchanges i t numbers at l whole is = record {
    names =
        subst (λ ns. Names all start no_places name exchanges ns) (sym is)
        (subst (λ es. Names all start no_places name es t.named.items) (take_all i exchanges whole) (names_led all name start no_places (take i exchanges) t.at (places_in t.session) t.named.items l));
    lie = subst (LieBetween start (position all)) (sym is) at.lie;
  }
