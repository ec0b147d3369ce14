-- Replays over a whole history: reads, calls, and parts in order.
use Rattle.std.proofs.Common.{◌≡◌, ℕ, suc, ◌≤◌, ◌<◌, ◌==◌, Bool, true, false, cond, nat_lt, List, [], ◌∷◌, ◌++◌, Option, Some, None, inl, inr, sym, refl, ap, ◌∙◌, subst, arith}
use Rattle.std.specs.Prelude.{◌&&◌, nat_le, is_some, Result, Ok, Err}
use Rattle.std.proofs.lemmas.Bool.{true≢false, leb-true, le-leb, and_from, and_parts}
use Rattle.std.proofs.lemmas.Bool.Decides.{nat_tests}
use Rattle.std.proofs.lemmas.Option.{same_Some}
use Rattle.ts_model.specs.declared.events.Event.{Event}
use Rattle.ts_model.specs.declared.outcomes.Refusal.{Refusal}
use Rattle.ts_model.specs.declared.snapshots.Shown.{Ghosts as Shown}
use Rattle.ts_model.specs.Calls.{Act, refuses, returns, makes}
use Rattle.ts_model.specs.History.{History, start, resumed, ◌▸◌, Begins, event_at, position, prefix}
use Rattle.ts_model.specs.States.{State}
use Rattle.ts_model.proofs.HistoryLaws.{begins_prefix, prefix_end}
use Rattle.result_text.specs.declared.replies.Said.{Said}
use Rattle.ts_sessions.specs.declared.calls.CallOutcome.{CallOutcome}
use Rattle.ts_sessions.specs.declared.changes.Change.{Change}
use Rattle.ts_sessions.specs.declared.changes.Change.TheVariants as changes
use Rattle.ts_sessions.specs.declared.changes.Completion.{Completion}
use Rattle.ts_sessions.specs.declared.deeds.Deed.{Deed}
use Rattle.ts_sessions.specs.declared.deeds.Deed.TheVariants as deeds
use Rattle.ts_sessions.specs.declared.deeds.Next.{Next}
use Rattle.ts_sessions.specs.declared.deeds.Next.TheVariants as nexts
use Rattle.audit_past.specs.declared.deed_replays.OutcomeAt.{OutcomeAt}
use Rattle.audit_past.specs.declared.deed_replays.StatementOutcome.{StatementOutcome}
use Rattle.audit_past.specs.declared.history_view.CallAt.{CallAt}
use Rattle.ts_sessions.specs.Calls.{IsFollowed, OutcomeFits, left_after, meets_left}
use Rattle.ts_sessions.specs.Deeds.{DeedFits, EndFits, Joins, NextFits, with_line, left_next, rest_next}
use Rattle.ts_sessions.specs.Holding.{block_on}
use Rattle.audit_past.specs.Pasts.{CameTo}
use Rattle.ts_sessions.specs.Places.{Places, Turn}
use Rattle.ts_sessions.specs.Procedures.{Procedure, sees, ends, followed_by, looks, tries_at}
use Rattle.ts_sessions.specs.Sessions.{ChangeHolds, turn_of}
use Rattle.ts_sessions.specs.Step.{after_line}
use Rattle.audit_looks.specs.Replay.{Tells, may_look}
use Rattle.audit_past.specs.ReplaySteps.{AsksThere, IsMet, IsReached, IsWent, NextStands, TellsBy, TellsNothing, later_looks, next_look, state_of}
use Rattle.ts_sessions.proofs.DeedWalks.{joined_turn, led_turn}
use Rattle.ts_sessions.proofs.GivesLaws.{numbered}
use Rattle.audit_looks.proofs.ReplayLaws.{tells_as}

-- ---- events

-- the history up to an event is the history up to the one before, and then the event
pub prefix_next : (h : History) (at : ℕ) (e : Event) → event_at h (suc at) ≡ Some e → prefix h (suc at) ≡ (prefix h at ▸ e)
prefix_next start at e is = absurd (true≢false (sym (ap is_some is)))
prefix_next (resumed i) at e is = absurd (true≢false (sym (ap is_some is)))
prefix_next (h ▸ x) at e is =
    elim (suc at == suc (position h)) as (λ t. (suc at == suc (position h)) ≡ t → cond t (Some x) (event_at h (suc at)) ≡ Some e → prefix (h ▸ x) (suc at) ≡ (prefix (h ▸ x) at ▸ e)) [
      | true ↦ λ t here.
          let last : at ≡ position h = grind (arith, nat_tests) in
          let in_now : nat_lt (position h) (suc at) ≡ true = grind (arith, nat_tests) in
          let not_yet : nat_lt (position h) at ≡ false = grind (arith, nat_tests) in
          let whole : prefix h at ≡ h = prefix_end h at (omega (arith, last)) in
          ap (λ b. cond b (h ▸ x) (prefix h (suc at))) in_now
          ∙ ap (λ y. h ▸ y) (same_Some x e here)
          ∙ ap (λ g. g ▸ e) (sym whole)
          ∙ ap (λ b. cond b (h ▸ x) (prefix h at) ▸ e) (sym not_yet)
      | false ↦ λ f there.
          let within : suc at ≤ position h = numbered h (suc at) e there in
          let in_now : nat_lt (position h) (suc at) ≡ false = grind (arith, nat_tests) in
          let not_yet : nat_lt (position h) at ≡ false = grind (arith, nat_tests) in
          ap (λ b. cond b (h ▸ x) (prefix h (suc at))) in_now
          ∙ prefix_next h at e there
          ∙ ap (λ b. cond b (h ▸ x) (prefix h at) ▸ e) (sym not_yet)
    ] refl is

-- ---- parts in order

pub tells_same : {A : Type 0} (all : History) (at : ℕ) (procedure : Procedure A) (ps : List ℕ) → TellsBy all at procedure ps at procedure ps
tells_same all at procedure ps = record { given = λ s. s; tells = λ s r t. t }

pub tells_then : {A : Type 0} (all : History) (a b c : ℕ) (first second third : Procedure A) (ps qs rs : List ℕ) → TellsBy all a first ps b second qs → TellsBy all b second qs c third rs → TellsBy all a first ps c third rs
tells_then all a b c first second third ps qs rs v w = record { given = λ s. w.given (v.given s); tells = λ s r t. v.tells s r (w.tells (v.given s) r t) }

pub nothing_then : {A : Type 0} (all : History) (a b : ℕ) (first second : Procedure A) (ps qs : List ℕ) → TellsBy all a first ps b second qs → TellsNothing all b second qs → TellsNothing all a first ps
nothing_then all a b first second ps qs v n = λ s. v.tells s None (n (v.given s))

pub reached_then : {T J : Type 0} (shown : Shown T J) (bytes : ℕ) (all : History) (a b : ℕ) (first second : Procedure (Turn Places)) (ps qs : List ℕ) (p : Places) (r : StatementOutcome T J) → TellsBy all a first ps b second qs → a ≤ b → IsReached shown bytes all b second qs p r → IsReached shown bytes all a first ps p r
reached_then shown bytes all a b first second ps qs p r v le i = record {
  total = i.total;
  given = λ s. i.given (v.given s);
  tells = λ s. v.tells s _ (i.tells (v.given s));
  stands = i.stands;
  low = let up : b ≤ r.last = i.low in omega (arith, le, up);
  high = i.high;
}

-- an earlier line of the reply
pub led_nothing : (line : Option Said) (all : History) (at : ℕ) (procedure : Procedure (Turn Places)) (ps : List ℕ) → TellsNothing all at procedure ps → TellsNothing all at (with_line line procedure) ps
led_nothing None all at procedure ps n = n
led_nothing (Some line) all at procedure ps n = λ s. tells_as (after_line line) all at s procedure ps None (n s)

led_tells : (line : Option Said) (all : History) (at : ℕ) (so_far : List (ℕ × Event)) (procedure : Procedure (Turn Places)) (ps : List ℕ) (last : ℕ) (given : List (ℕ × Event)) (y : Turn Places) → Tells all at so_far procedure ps (Some (record { last = last; given = given; end = y })) → Tells all at so_far (with_line line procedure) ps (Some (record { last = last; given = given; end = led_turn line y }))
led_tells None all at so_far procedure ps last given y t = t
led_tells (Some line) all at so_far procedure ps last given y t = tells_as (after_line line) all at so_far procedure ps (Some (record { last = last; given = given; end = y })) t

pub led_reached : {T J : Type 0} (shown : Shown T J) (bytes : ℕ) (line : Option Said) (all : History) (at : ℕ) (procedure : Procedure (Turn Places)) (ps : List ℕ) (p : Places) (r q : StatementOutcome T J) → Joins line false r.completion (Ok q.completion) → q.last ≡ r.last → IsReached shown bytes all at procedure ps p r → IsReached shown bytes all at (with_line line procedure) ps p q
led_reached shown bytes line all at procedure ps p r q j same i = record {
  total = i.total;
  given = i.given;
  tells = λ s.
      subst (λ n. Tells all at s (with_line line procedure) ps (Some (record { last = n; given = i.given s; end = turn_of p i.total q.completion }))) (sym same)
      (subst (λ y. Tells all at s (with_line line procedure) ps (Some (record { last = r.last; given = i.given s; end = y }))) (joined_turn line p i.total r.completion q.completion j.0 j.1)
      (led_tells line all at s procedure ps r.last (i.given s) (turn_of p i.total r.completion) (i.tells s)));
  stands = record { change = subst (λ c. ChangeHolds shown bytes c all) (sym j.1) i.stands.change; stands = j.2 ∙ i.stands.stands };
  low = subst (λ n. at ≤ n) (sym same) i.low;
  high = subst (λ n. n ≤ position all) (sym same) i.high;
}

-- the end of a statement
pub end_reached : {T J : Type 0} (shown : Shown T J) (bytes : ℕ) (all : History) (at : ℕ) (ps : List ℕ) (p : Places) (read : ℕ) (t : Completion T J) → at ≤ position all → EndFits shown bytes t (state_of all) → IsReached shown bytes all at (ends (turn_of p read t)) ps p (record { completion = t; last = at })
end_reached shown bytes all at ps p read t within k = record { total = read; given = λ s. s; tells = λ s. refl; stands = k; low = omega arith; high = within }

-- ---- reads

look_by : (all : History) (at p look : ℕ) (ps : List ℕ) → next_look all at (p ∷ ps) ≡ Some look → ((nat_le at p && nat_le p (position all)) ≡ true) × (p ≡ look)
look_by all at p look ps e =
    elim (nat_le at p && nat_le p (position all)) as (λ t. cond t (Some p) None ≡ Some look → (t ≡ true) × (p ≡ look)) [
      | true ↦ λ i. (refl, same_Some p look i)
      | false ↦ λ i. absurd (true≢false (sym (ap is_some i)))
    ] e

no_look : (all : History) (at p : ℕ) (ps : List ℕ) → next_look all at (p ∷ ps) ≡ None → (nat_le at p && nat_le p (position all)) ≡ false
no_look all at p ps e =
    elim (nat_le at p && nat_le p (position all)) as (λ t. cond t (Some p) None ≡ None → t ≡ false) [
      | true ↦ λ i. absurd (true≢false (ap is_some i))
      | false ↦ λ i. refl
    ] e

-- a read position isn't before the last one and lies within the history
pub record LiesWithin (all : History) (at look : ℕ) : Type 0 where
  pub low : at ≤ look
  pub high : look ≤ position all

pub look_lies : (all : History) (at look : ℕ) (ps : List ℕ) → next_look all at ps ≡ Some look → LiesWithin all at look
look_lies all at look [] e = absurd (true≢false (sym (ap is_some e)))
look_lies all at look (p ∷ ps) e =
    let k = look_by all at p look ps e in
    let both = and_parts (nat_le at p) (nat_le p (position all)) k.0 in
    subst (LiesWithin all at) k.1 (record { low = leb-true at p both.0; high = leb-true p (position all) both.1 })

-- a read whose position is printed
pub look_tells : {A : Type 0} (all : History) (at look : ℕ) (shown : History → Bool) (f : History → Procedure A) (ps : List ℕ) → next_look all at ps ≡ Some look → shown (prefix all look) ≡ true → TellsBy all at (sees shown f) ps look (f (prefix all look)) (later_looks ps)
look_tells all at look shown f [] e s = absurd (true≢false (sym (ap is_some e)))
look_tells {A} all at look shown f (p ∷ ps) e s =
    let k = look_by all at p look ps e in
    subst (λ q. TellsBy {A = A} all at (sees shown f) (p ∷ ps) q (f (prefix all q)) ps) k.1
    (record { given = λ so_far. so_far; tells = λ so_far r t. inl (and_from _ _ k.0 (subst (λ q. shown (prefix all q) ≡ true) (sym k.1) s), t) })

-- a read without a position
pub look_nothing : {A : Type 0} (all : History) (at : ℕ) (shown : History → Bool) (f : History → Procedure A) (ps : List ℕ) → next_look all at ps ≡ None → shown all ≡ true → TellsNothing all at (sees shown f) ps
look_nothing all at shown f [] e s = λ so_far. inr (s, refl)
look_nothing all at shown f (p ∷ ps) e s =
    let none : may_look all at shown p ≡ false = ap (λ t. t && shown (prefix all p)) (no_look all at p ps e) in
    λ so_far. inr (inr (none, s, refl))

-- a read that is printed neither at the next position nor at the end of the history
pub look_unprinted : {A : Type 0} (all : History) (at : ℕ) (shown : History → Bool) (f : History → Procedure A) (ps : List ℕ) → ((look : ℕ) → next_look all at ps ≡ Some look → shown (prefix all look) ≡ false) → shown all ≡ false → TellsBy all at (sees shown f) ps at (f all) ps
look_unprinted all at shown f [] none e = record { given = λ s. s; tells = λ s r t. inl (e, t) }
look_unprinted all at shown f (p ∷ ps) none e =
    let missed : may_look all at shown p ≡ false =
    elim (nat_le at p && nat_le p (position all)) as (λ b. ((look : ℕ) → cond b (Some p) None ≡ Some look → shown (prefix all look) ≡ false) → (b && shown (prefix all p)) ≡ false) [
      | true ↦ λ n. n p refl
      | false ↦ λ n. refl
    ] none in
    record { given = λ s. s; tells = λ s r t. inr (inl (missed, e, t)) }

-- a read that the end of the history doesn't explain
pub look_refused : {A : Type 0} (all : History) (at : ℕ) (shown : History → Bool) (f : History → Procedure A) (ps : List ℕ) → ((look : ℕ) → next_look all at ps ≡ Some look → shown (prefix all look) ≡ false) → shown all ≡ true → TellsNothing all at (sees shown f) ps
look_refused all at shown f [] none e = λ s. inr (e, refl)
look_refused all at shown f (p ∷ ps) none e =
    let missed : may_look all at shown p ≡ false =
    elim (nat_le at p && nat_le p (position all)) as (λ b. ((look : ℕ) → cond b (Some p) None ≡ Some look → shown (prefix all look) ≡ false) → (b && shown (prefix all p)) ≡ false) [
      | true ↦ λ n. n p refl
      | false ↦ λ n. refl
    ] none in
    λ s. inr (inr (missed, e, refl))

-- the replay of a procedure that reads again at the same position
pub look_again : {A : Type 0} (all : History) (at look : ℕ) (shown : History → Bool) (f : History → Procedure A) (ps : List ℕ) → next_look all at ps ≡ Some look → shown (prefix all look) ≡ true → TellsBy all look (f (prefix all look)) (later_looks ps) look (sees shown f) ps
look_again all at look shown f [] e s = absurd (true≢false (sym (ap is_some e)))
look_again {A} all at look shown f (p ∷ ps) e s =
    let k = look_by all at p look ps e in
    let both = and_parts (nat_le at p) (nat_le p (position all)) k.0 in
    let here : may_look all p shown p ≡ true = and_from _ _ (and_from _ _ (le-leb p p (omega arith)) both.1) (subst (λ q. shown (prefix all q) ≡ true) (sym k.1) s) in
    subst (λ q. TellsBy {A = A} all q (f (prefix all q)) ps q (sees shown f) (p ∷ ps)) k.1
    (record {
      given = λ so_far. so_far;
      tells = λ so_far r t. elim t [ inl w ↦ w.1 | inr w ↦ elim w [ inl x ↦ absurd (true≢false (sym here ∙ x.0)) | inr x ↦ absurd (true≢false (sym here ∙ x.0)) ] ];
    })

-- ---- calls

-- what a call leads to at its history
met_tells : {A B : Type 0} (all : History) (at : ℕ) (h : History) (act : Act A) (m : CallAt A) (k : Result A Refusal → Procedure B) (ps : List ℕ) → CameTo act all at (Some m) → TellsBy all at (followed_by (tries_at h act) k) ps m.at (k m.came) ps
met_tells {A} all at h (refuses r) m k ps w = subst (λ (x : CallAt A). TellsBy all at (k (Err r)) ps x.at (k x.came) ps) (sym (same_Some m _ w)) (tells_same all at (k (Err r)) ps)
met_tells {A} all at h (returns a) m k ps w = subst (λ (x : CallAt A). TellsBy all at (k (Ok a)) ps x.at (k x.came) ps) (sym (same_Some m _ w)) (tells_same all at (k (Ok a)) ps)
met_tells {A} all at h (makes e a) m k ps w =
    subst (λ (x : CallAt A). TellsBy all at (followed_by (tries_at h (makes e a)) k) ps x.at (k x.came) ps) (sym w.1)
    (record { given = λ s. s ++ (suc at, e) ∷ []; tells = λ s r t. inl (w.0, t) })

met_lies : {A : Type 0} (act : Act A) (all : History) (at : ℕ) (m : CallAt A) → at ≤ position all → CameTo act all at (Some m) → LiesWithin all at m.at
met_lies {A} (refuses r) all at m le w = subst (λ (x : CallAt A). LiesWithin all at x.at) (sym (same_Some m _ w)) (record { low = omega arith; high = le })
met_lies {A} (returns a) all at m le w = subst (λ (x : CallAt A). LiesWithin all at x.at) (sym (same_Some m _ w)) (record { low = omega arith; high = le })
met_lies {A} (makes e a) all at m le w = subst (λ (x : CallAt A). LiesWithin all at x.at) (sym w.1) (record { low = omega arith; high = numbered all (suc at) e w.0 })

pub call_lies : {A : Type 0} (act : Act A) (all : History) (at : ℕ) (c : Option (CallAt A)) (m : CallAt A) → at ≤ position all → CameTo act all at c → c ≡ Some m → LiesWithin all at m.at
call_lies act all at c m le w is = met_lies act all at m le (subst (CameTo act all at) is w)

-- a call whose event isn't that of the history
unmet : {A B : Type 0} (all : History) (at : ℕ) (h : History) (act : Act A) (k : Result A Refusal → Procedure B) (ps : List ℕ) → CameTo act all at None → TellsNothing all at (followed_by (tries_at h act) k) ps
unmet all at h (refuses r) k ps w = absurd (true≢false (sym (ap is_some w)))
unmet all at h (returns a) k ps w = absurd (true≢false (sym (ap is_some w)))
unmet all at h (makes e a) k ps w = λ s. inr (w, refl)

pub call_nothing : {A B : Type 0} (all : History) (at : ℕ) (h : History) (act : Act A) (c : Option (CallAt A)) (k : Result A Refusal → Procedure B) (ps : List ℕ) → CameTo act all at c → c ≡ None → TellsNothing all at (followed_by (tries_at h act) k) ps
call_nothing all at h act c k ps w is = unmet all at h act k ps (subst (CameTo act all at) is w)

-- ---- what fits a history fits a longer one

pub asks_there : {T J : Type 0} (shown : Shown T J) (d : Deed T J) (h : History) → DeedFits shown d (state_of h) → AsksThere d h
asks_there shown (deeds.Cut asked then) h k = k
asks_there shown other h k = tt

change_on : {T J : Type 0} (shown : Shown T J) (fits_on : (job : J) (g h : History) → Begins g h → shown.fits job g → shown.fits job h) (g h : History) (c : Change T J) → Begins g h → ((bytes : ℕ) → ChangeHolds shown bytes c g) → (bytes : ℕ) → ChangeHolds shown bytes c h
change_on shown fits_on g h changes.Nothing b k bytes = tt
change_on shown fits_on g h (changes.Cuts c) b k bytes = tt
change_on shown fits_on g h (changes.Holds c at job) b k bytes = let j = k 0 in (fits_on job g h b j.0, j.1, j.2)
change_on shown fits_on g h (changes.GivesUp c) b k bytes = tt
change_on shown fits_on g h (changes.Enters o) b k bytes = let j = k 0 in (block_on shown.stands o g h b j.0, j.1)
change_on shown fits_on g h (changes.Queues op more) b k bytes =
    let zero_bytes : more ≡ 0 = (k 0).1 in
    let one_byte : more ≡ 1 = (k 1).1 in
    absurd (omega (arith, zero_bytes, one_byte))

pub next_stands : {T J : Type 0} (shown : Shown T J) (fits_on : (job : J) (g h : History) → Begins g h → shown.fits job g → shown.fits job h) (all : History) (at : ℕ) (next : Next T J) → ((bytes : ℕ) → NextFits shown bytes next (state_of (prefix all at))) → (bytes : ℕ) → NextStands shown bytes all at next
next_stands shown fits_on all at (nexts.Deed d) k bytes = asks_there shown d (prefix all at) (k 0)
next_stands shown fits_on all at (nexts.End t) k bytes = record { change = change_on shown fits_on (prefix all at) all t.change (begins_prefix all at) (λ n. (k n).change) bytes; stands = (k 0).stands }

-- ---- store calls

-- a call that may create an event
pub met_by : {A T J : Type 0} (shown : Shown T J) (all : History) (at before : ℕ) (act : Act A) (c : Option (CallAt A)) (m : CallAt A) (k : Places → ℕ → Result A Refusal → Procedure (Turn Places)) (line : Option Said) (outcome : CallOutcome T) → at ≤ position all → CameTo act all at c → c ≡ Some m → ((p : Places) (read : ℕ) → k p read m.came ≡ with_line line (left_after p read (prefix all m.at) outcome)) → OutcomeFits shown (prefix all m.at) outcome → meets_left outcome ≤ before → IsMet shown all at before (λ p read. followed_by (tries_at (prefix all at) act) (k p read)) (record { said = line; outcome = outcome; at = m.at })
met_by shown all at before act c m k line outcome le w is same fits left =
    let met = subst (CameTo act all at) is w in
    let lies = met_lies act all at m le met in
    record {
      tells = λ p read ps. subst (λ d. TellsBy all at (followed_by (tries_at (prefix all at) act) (k p read)) ps m.at d ps) (same p read) (met_tells all at (prefix all at) act m (k p read) ps met);
      fits = fits;
      left_so = left;
      low = lies.low;
      high = lies.high;
    }

-- a call that creates none
pub met_here : {T J : Type 0} (shown : Shown T J) (all : History) (at before : ℕ) (procedure : Places → ℕ → Procedure (Turn Places)) (outcome : CallOutcome T) → at ≤ position all → ((p : Places) (read : ℕ) → procedure p read ≡ left_after p read (prefix all at) outcome) → OutcomeFits shown (prefix all at) outcome → meets_left outcome ≤ before → IsMet shown all at before procedure (record { said = None; outcome = outcome; at = at })
met_here shown all at before procedure outcome le same fits left = record {
  tells = λ p read ps. subst (λ d. TellsBy all at (procedure p read) ps at d ps) (same p read) (tells_same all at (procedure p read) ps);
  fits = fits;
  left_so = left;
  low = omega arith;
  high = le;
}

-- what follows a call
pub met_follows : {T J : Type 0} (shown : Shown T J) (fits_on : (job : J) (g h : History) → Begins g h → shown.fits job g → shown.fits job h) (all : History) (at before : ℕ) (procedure : Places → ℕ → Procedure (Turn Places)) (m : OutcomeAt T) (next : Next T J) (from to : ℕ) → IsMet shown all at before procedure m → IsFollowed shown (prefix all m.at) m.outcome next from to → IsWent shown all at before procedure (record { said = m.said; next = next; at = m.at })
met_follows shown fits_on all at before procedure m next from to i w = record {
  read_then = w.read_then;
  tells = λ p read ps. subst (λ d. TellsBy all at (procedure p read) ps m.at (with_line m.said d) ps) (sym (w.rest_so p read)) (i.tells p read ps);
  stands = next_stands shown fits_on all m.at next (λ bytes. w.fits (state_of (prefix all m.at)) bytes refl);
  low = i.low;
  high = i.high;
  shorter =
      let fewer : left_next next < meets_left m.outcome = w.shorter in
      let most : meets_left m.outcome ≤ before = i.left_so in
      omega (arith, fewer, most);
}
