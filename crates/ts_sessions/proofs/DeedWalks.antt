-- Store calls: each leads to what comes next, and a statement is carried out from any of them.
use Rattle.std.proofs.Common.{◌≡◌, ℕ, ◌≤◌, Bool, true, false, List, length, Option, Some, None, sym, refl, ◌∙◌, ap, subst, inr, arith}
use Rattle.std.specs.Prelude.{◌||◌, Result, Ok, Err, IsTrue, OnOk}
use Rattle.std.specs.Result.{IsErr}
use Rattle.std.proofs.lemmas.Bool.{true≢false}
use Rattle.ts_schema.specs.Counts.{raised_by}
use Rattle.ts_schema.specs.declared.memory.NoMemory.{NoMemory}
use Rattle.ts_bucket.specs.Bucket.{first_of}
use Rattle.ts_model.specs.declared.outcomes.Outcome.{Outcome}
use Rattle.ts_model.specs.declared.outcomes.Refusal.{Refusal}
use Rattle.ts_model.specs.declared.views.ViewDef.{ViewDef}
use Rattle.ts_model.specs.Calls.{Called, Looked, making_view}
use Rattle.ts_model.specs.Roster.{roster}
use Rattle.result_text.specs.declared.replies.Said.{Said}
use Rattle.result_text.specs.declared.replies.Said.TheVariants as said
use Rattle.ts_model.specs.Allowed.{all_allowed}
use Rattle.ts_model.proofs.CallLaws.{begins_looked}
use Rattle.ts_model.specs.declared.snapshots.Shown.{Ghosts as Shown}
use Rattle.ts_model.specs.History.{History, Begins, position}
use Rattle.ts_model.specs.States.{State, Found}
use Rattle.ts_sessions.specs.declared.changes.Change.TheVariants as changes
use Rattle.ts_sessions.specs.declared.changes.Completion.{Completion}
use Rattle.ts_sessions.specs.declared.calls.CallOutcome.{CallOutcome}
use Rattle.ts_sessions.specs.declared.calls.CallOutcome.TheVariants as outcomes
use Rattle.ts_sessions.specs.declared.calls.Meeting.{Meeting}
use Rattle.ts_sessions.specs.declared.deeds.DeedOutcome.{DeedOutcome}
use Rattle.ts_sessions.specs.declared.deeds.AfterLook.{AfterLook}
use Rattle.ts_sessions.specs.declared.deeds.ChangeLine.TheVariants as lines
use Rattle.ts_sessions.specs.declared.deeds.Deed.{Deed}
use Rattle.ts_sessions.specs.declared.deeds.Deed.TheVariants as deeds
use Rattle.ts_sessions.specs.declared.deeds.FinishSource.{FinishSource}
use Rattle.ts_sessions.specs.declared.deeds.FinishSource.TheVariants as finishing
use Rattle.ts_sessions.specs.declared.deeds.Next.{Next}
use Rattle.ts_sessions.specs.declared.deeds.Next.TheVariants as nexts
use Rattle.ts_sessions.specs.declared.events.NewView.{NewView}
use Rattle.ts_sessions.specs.declared.refreshes.RefreshRequest.{RefreshRequest}
use Rattle.ts_sessions.specs.declared.call_outcomes.Attempt.{Attempt}
use Rattle.ts_sessions.specs.declared.call_outcomes.Attempt.TheVariants as tried
use Rattle.ts_sessions.specs.Deeds.{Advances, CarriesOut, CountsFrom, DeedFits, Goes, IsAsked, Leads, IsLostBy, IsLostNext, Joins, NextFits, at_in, cut_in, with_line, led_lines, look_left, rest, rest_next, said_once, spent, spent_by, spent_next}
use Rattle.ts_sessions.specs.Calls.{AnswersDeed, IsFollowed, Meets, MeetsTo, left_after}
use Rattle.ts_sessions.specs.Places.{Places, Turn}
use Rattle.ts_sessions.specs.Procedures.{Procedure, ending_as, ends, followed_by, looks, sees, tries_at}
use Rattle.ts_sessions.specs.Sessions.{Brings, ChangeHolds, EndsAt, Tries, result_of, places_after, has_failed, turn_of}
use Rattle.ts_sessions.specs.Sound.{number_at}
use Rattle.ts_sessions.specs.Step.{after_line, after_view, finishes_refresh, turn_of_line, view_made}
use Rattle.ts_sessions.specs.Held.{GoesOn}
use Rattle.ts_sessions.specs.Holding.{lost_stays}
use Rattle.ts_sessions.specs.CallOutcomes.{IsTried}
use Rattle.ts_sessions.specs.Walks.{Walks, Breaks, Sees}
use Rattle.ts_sessions.proofs.CallWalks.{answered_tries}
use Rattle.ts_sessions.proofs.HoldLaws.{goes_ends}
use Rattle.ts_sessions.proofs.JobLaws.{always_ok}
use Rattle.ts_sessions.proofs.StateLaws.{goes_seen, sees_looked}
use Rattle.ts_sessions.proofs.NameCheckWalks.{looked_breaks, looked_only, looked_walks}
use Rattle.ts_sessions.proofs.ViewWalks.{made_by, named_on, view_stays}
use Rattle.ts_sessions.proofs.WalkLaws.{break_together, breaks_first, breaks_seen, not_begun, put_together, walks_as, walks_break, walks_seen}

-- ---- one store call

-- a walk leads to what follows
pub walk_leads : {A B : Type 0} (alone failed : Bool) (old : State) (first : Procedure A) (mid : State) (a : A) (next : A → Procedure B) → Walks alone failed old first mid a → Leads alone failed old (followed_by first next) mid (next a)
walk_leads alone failed old first mid a next w = record {
  walks = λ failed_then new y v. put_together alone failed failed_then old first mid a next new y w v;
  breaks = λ new v. break_together alone failed old first mid a next new w v;
}

pub broken_off : {T J : Type 0} (alone : Bool) (old : State) (p : Places) (read : ℕ) (deed : Deed T J) (result : Result (DeedOutcome T J) NoMemory) (new : State) (before after : ℕ) → IsErr result → Breaks alone old (rest p read deed) new → before ≤ after → Advances alone old p read deed result new before after
broken_off alone old p read deed (Ok a) new before after i b rose = absurd (true≢false (sym i))
broken_off alone old p read deed (Err e) new before after i b rose = (b, rose)

-- one step after another
pub leads_then : {A : Type 0} (alone failed : Bool) (a : State) (first : Procedure A) (b : State) (second : Procedure A) (c : State) (third : Procedure A) → Leads alone false a first b second → Leads alone failed b second c third → Leads alone failed a first c third
leads_then alone failed a first b second c third v w = record {
  walks = λ f new y k. v.walks (failed || f) new y (w.walks f new y k);
  breaks = λ new k. v.breaks new (w.breaks new k);
}

-- ---- calls

-- a call broke off because it ran out of memory
pub call_broken : {T J : Type 0} (shown : Shown T J) (alone : Bool) (old : State) (deed : Deed T J) (result : Result (Meeting T) NoMemory) (new : State) → IsErr result → ((p : Places) (read : ℕ) → Breaks alone old (rest p read deed) new) → MeetsTo shown alone old deed result new
call_broken shown alone old deed (Ok m) new i b = absurd (true≢false (sym i))
call_broken shown alone old deed (Err e) new i b = b

pub tried_broken : {A T J : Type 0} (shown : Shown T J) (alone : Bool) (old : State) (deed like : Deed T J) (first : Procedure A) (k : Places → ℕ → A → Procedure (Turn Places)) (result : Result (Meeting T) NoMemory) (new : State) → IsErr result → deed ≡ like → ((p : Places) (read : ℕ) → rest p read like ≡ followed_by first (k p read)) → Breaks alone old first new → MeetsTo shown alone old deed result new
tried_broken {A} {T} {J} shown alone old deed like first k result new i e same b =
    call_broken shown alone old deed result new i (λ p read. subst (λ (d : Deed T J). Breaks alone old (rest p read d) new) (sym e) (subst (λ x. Breaks alone old x new) (sym (same p read)) (breaks_first alone old first (k p read) new b)))

-- a call that may make an event
pub tried_meets : {A T J : Type 0} (shown : Shown T J) (alone : Bool) (old : State) (deed like : Deed T J) (first : Procedure (Result A Refusal)) (k : Places → ℕ → Result A Refusal → Procedure (Turn Places)) (t : Attempt A) (r : Result A Refusal) (failed : Bool) (outcome : CallOutcome T) (new : State) → deed ≡ like → ((p : Places) (read : ℕ) → rest p read like ≡ followed_by first (k p read)) → ((p : Places) (read : ℕ) → left_after p read new.history outcome ≡ k p read r) → Tries alone old first (Ok t) new → failed ≡ has_failed t → r ≡ result_of t → AnswersDeed shown new.history like outcome → Meets shown alone old deed (record { said = None; outcome = outcome; failed = failed }) new
tried_meets {A} {T} {J} shown alone old deed like first k t r failed outcome new e same leaves w f j answers =
    subst (λ (d : Deed T J). Meets shown alone old d (record { said = None; outcome = outcome; failed = failed }) new) (sym e)
    (record {
      leads = λ p read.
          subst (λ x. Leads alone x old (rest p read like) new (left_after p read new.history outcome)) (sym f)
          (subst (λ x. Leads alone (has_failed t) old x new (left_after p read new.history outcome)) (sym (same p read))
          (subst (λ x. Leads alone (has_failed t) old (followed_by first (k p read)) new x) (sym (leaves p read ∙ ap (k p read) j)) (walk_leads alone (has_failed t) old first new (result_of t) (k p read) w)));
      answers = answers;
    })

-- what a call leads to, and what follows it
pub met_goes : {T J : Type 0} (shown : Shown T J) (alone : Bool) (old : State) (p : Places) (read : ℕ) (deed : Deed T J) (m : Meeting T) (next : Next T J) (mid : State) (before after : ℕ) → Meets shown alone old deed m mid → IsFollowed shown mid.history m.outcome next before after → Goes alone old p read deed (record { said = m.said; next = next; failed = m.failed }) mid before after
met_goes shown alone old p read deed m next mid before after k w = record {
  read_then = w.read_then read;
  leads = subst (λ x. Leads alone m.failed old (rest p read deed) mid (with_line m.said x)) (sym (w.rest_so p read)) (k.leads p read);
  spent_then = w.spent_so read;
  counted = λ from had. w.counted read from (subst (λ n. before ≡ raised_by n from) (sym (k.answers.spent_so read)) had);
  rose = w.rose;
}

-- the finish of a job that fits
pub job_tries : {T J : Type 0} (shown : Shown T J) (alone : Bool) (old : State) (deed : Deed T J) (job : J) (f : FinishSource) (result : Result (Attempt ℕ) NoMemory) (new : State) → DeedFits shown deed old → deed ≡ deeds.Finish job f → Tries alone old (finishes_refresh (shown.cut_of job) (shown.snap_of job)) result new → Tries alone old (finishes_refresh (cut_in f) (at_in f)) result new
job_tries shown alone old deed job f result new fits e w =
    let k = subst (λ d. DeedFits shown d old) e fits in
    subst (λ c. Tries alone old (finishes_refresh c (at_in f)) result new) k.1 (subst (λ n. Tries alone old (finishes_refresh (shown.cut_of job) n) result new) k.2 w)

-- ---- rows that were read

unspent_by : (f : FinishSource) → spent_by 0 f ≡ 0
unspent_by (finishing.Begun begun at) = refl
unspent_by (finishing.Held cut at) = refl

unspent_deed : {T J : Type 0} (d : Deed T J) → spent 0 d ≡ 0
unspent_deed (deeds.Finish job f) = unspent_by f
unspent_deed other = refl

pub unspent : {T J : Type 0} (next : Next T J) → spent_next 0 next ≡ 0
unspent (nexts.Deed d) = unspent_deed d
unspent (nexts.End t) = refl

-- ---- a statement

abbrev pub led_turn : Option Said → Turn Places → Turn Places
led_turn None y = y
led_turn (Some line) y = after_line line y

led_walks : (line : Option Said) (alone failed : Bool) (old : State) (procedure : Procedure (Turn Places)) (new : State) (y : Turn Places) → Walks alone failed old procedure new y → Walks alone failed old (with_line line procedure) new (led_turn line y)
led_walks None alone failed old procedure new y w = w
led_walks (Some line) alone failed old procedure new y w = walks_as (after_line line) alone failed old procedure new y w

led_breaks : (line : Option Said) (alone : Bool) (old : State) (procedure : Procedure (Turn Places)) (new : State) → Breaks alone old procedure new → Breaks alone old (with_line line procedure) new
led_breaks None alone old procedure new b = b
led_breaks (Some line) alone old procedure new b = breaks_first alone old procedure (λ a. ends (after_line line a)) new b

pub joined_turn : {T J : Type 0} (line : Option Said) (p : Places) (read : ℕ) (t u : Completion T J) → u.said ≡ led_lines line t.said → u.change ≡ t.change → led_turn line (turn_of p read t) ≡ turn_of p read u
joined_turn None p read t u s c = sym (ap (λ q. record { places = places_after q p; said = u.said; reads = read }) c ∙ ap (λ q. record { places = places_after t.change p; said = q; reads = read }) s)
joined_turn (Some line) p read t u s c = sym (ap (λ q. record { places = places_after q p; said = u.said; reads = read }) c ∙ ap (λ q. record { places = places_after t.change p; said = q; reads = read }) s)

-- what follows a store call ended
after_walk : {T J : Type 0} (alone : Bool) (old : State) (procedure : Procedure (Turn Places)) (p : Places) (total : ℕ) (a : DeedOutcome T J) (t : Completion T J) (mid : State) (left : Procedure (Turn Places)) (result : Result (Completion T J) NoMemory) (new : State) → Leads alone a.failed old procedure mid (with_line a.said left) → Walks alone t.failed mid left new (turn_of p total t) → Joins a.said a.failed t result → EndsAt alone old procedure p total result new
after_walk alone old procedure p total a t mid left (Ok u) new w v j =
    subst (λ z. Walks alone z old procedure new (turn_of p total u)) (sym j.2)
    (w.walks t.failed new (turn_of p total u)
    (subst (λ z. Walks alone t.failed mid (with_line a.said left) new z) (joined_turn a.said p total t u j.0 j.1) (led_walks a.said alone t.failed mid left new (turn_of p total t) v)))
after_walk alone old procedure p total a t mid left (Err e) new w v j =
    w.breaks new (led_breaks a.said alone mid left new (walks_break alone t.failed mid left new (turn_of p total t) v))

counts_any : {A B : Type 0} (a : A) (result : Result B NoMemory) (had total before after : ℕ) → CountsFrom {A = A} (Ok a) had total before after → CountsFrom result had total before after
counts_any a (Ok b) had total before after k = k
counts_any a (Err e) had total before after k = tt

-- the end of a statement
pub ended : {T J : Type 0} (alone : Bool) (s : State) (p : Places) (read : ℕ) (next : Next T J) (t : Completion T J) (n : ℕ) → next ≡ nexts.End t → t.failed ≡ false → CarriesOut alone s p read next (Ok t) s n n
ended alone s p read next t n e f = subst (λ q. CarriesOut alone s p read q (Ok t) s n n) (sym e) (record { total = read; ends = (f, refl, refl); counted = λ from had. had; rose = omega arith })

-- a statement that continued after a store call
pub went_on : {T J : Type 0} (alone : Bool) (old : State) (p : Places) (read : ℕ) (next : Next T J) (deed : Deed T J) (a : DeedOutcome T J) (mid : State) (t : Completion T J) (result : Result (Completion T J) NoMemory) (new : State) (before between after : ℕ) → next ≡ nexts.Deed deed → Goes alone old p read deed a mid before between → ((had : ℕ) → CarriesOut alone mid p had a.next (Ok t) new between after) → Joins a.said a.failed t result → CarriesOut alone old p read next result new before after
went_on alone old p read next deed a mid t result new before between after e w z j =
    let later = z w.read_then in
    let up : between ≤ after = later.rose in
    subst (λ q. CarriesOut alone old p read q result new before after) (sym e)
    (record {
      total = later.total;
      ends = after_walk alone old (rest p read deed) p later.total a t mid (rest_next p w.read_then a.next) result new w.leads later.ends j;
      counted = counts_any t result (spent read deed) later.total before after (λ from had. later.counted from (subst (λ m. between ≡ raised_by m from) (sym w.spent_then) (w.counted from had)));
      rose = omega (arith, w.rose, up);
    })

-- a statement that broke off: at a store call, or later
pub broken_here : {T J : Type 0} (alone : Bool) (old : State) (p : Places) (read : ℕ) (next : Next T J) (deed : Deed T J) (e : NoMemory) (result : Result (Completion T J) NoMemory) (new : State) (before after : ℕ) → next ≡ nexts.Deed deed → IsErr result → Advances alone old p read deed (Err e) new before after → CarriesOut alone old p read next result new before after
broken_here alone old p read next deed e (Ok t) new before after is i w = absurd (true≢false (sym i))
broken_here alone old p read next deed e (Err x) new before after is i w =
    subst (λ q. CarriesOut alone old p read q (Err x) new before after) (sym is) (record { total = 0; ends = w.0; counted = tt; rose = w.1 })

pub broken_later : {T J : Type 0} (alone : Bool) (old : State) (p : Places) (read : ℕ) (next : Next T J) (deed : Deed T J) (a : DeedOutcome T J) (mid : State) (e : NoMemory) (result : Result (Completion T J) NoMemory) (new : State) (before between after : ℕ) → next ≡ nexts.Deed deed → IsErr result → Goes alone old p read deed a mid before between → ((had : ℕ) → CarriesOut alone mid p had a.next (Err e) new between after) → CarriesOut alone old p read next result new before after
broken_later alone old p read next deed a mid e (Ok t) new before between after is i w z = absurd (true≢false (sym i))
broken_later alone old p read next deed a mid e (Err x) new before between after is i w z =
    let later = z w.read_then in
    let up : between ≤ after = later.rose in
    subst (λ q. CarriesOut alone old p read q (Err x) new before after) (sym is)
    (record {
      total = 0;
      ends = w.leads.breaks new (led_breaks a.said alone mid (rest_next p w.read_then a.next) new later.ends);
      counted = tt;
      rose = omega (arith, w.rose, up);
    })

-- what a statement brings to its session
pub joined_brings : {T J : Type 0} (shown : Shown T J) (bytes : ℕ) (h : History) (said : Option Said) (failed : Bool) (t : Completion T J) (result : Result (Completion T J) NoMemory) → Joins said failed t result → ChangeHolds shown bytes t.change h → Brings shown bytes result h
joined_brings shown bytes h said failed t (Ok u) j k = subst (λ c. ChangeHolds shown bytes c h) (sym j.1) k
joined_brings shown bytes h said failed t (Err e) j k = tt

-- ---- reads

-- a read by a call that only reads
pub look_leads : {A : Type 0} (alone : Bool) (old : State) (Reports : History → Type 0) (mid : State) (shown : History → Bool) (f : History → Procedure A) → Looked alone old Reports mid → Leads alone false old (sees shown f) mid (f mid.history)
look_leads alone old Reports mid shown f l = record {
  walks = λ failed new y w. looked_walks alone failed old Reports mid shown f new y l w;
  breaks = λ new b. looked_breaks alone old Reports mid shown f new l b;
}

-- a procedure that begins with a read may begin at the state that the read found
pub seen_leads : {A : Type 0} (alone : Bool) (old mid : State) (shown : History → Bool) (f : History → Procedure A) → Sees alone old mid → Leads alone false old (sees shown f) mid (sees shown f)
seen_leads alone old mid shown f s = record {
  walks = λ failed new y w. walks_seen alone failed old mid shown f new y s w;
  breaks = λ new b. breaks_seen alone old mid shown f new s b;
}

-- ---- aggregates

found_leads : {A : Type 0} (alone failed : Bool) (old found : State) (f : History → Procedure A) (mid : State) (left : Procedure A) → Found alone old found → Leads alone failed found (f found.history) mid left → Leads alone failed old (looks f) mid left
found_leads alone failed old found f mid left i w = record {
  walks = λ failed_then new y v. record { mid = found; first = inr i; rest = w.walks failed_then new y v };
  breaks = λ new b. record { mid = found; first = inr i; rest = w.breaks new b };
}

-- an aggregate that was made, or not, leads to what follows by its number
view_leads : (alone : Bool) (old : State) (def : ViewDef) (filled : Bool) (outcome : Outcome ℕ) (pos : ℕ) (t : Attempt ℕ) (mid : State) (p : Places) (c : Called alone old (making_view def) outcome mid) → pos ≡ position mid.history → IsTried pos outcome (Ok t) → Leads alone (has_failed t) old (looks (λ g. followed_by (tries_at g (making_view def g)) (after_view p (length (roster g).views) def filled))) mid (after_view p (length (roster c.found.history).views) def filled (result_of t))
view_leads alone old def filled outcome pos t mid p c e i =
    let h = c.found.history in
    let w = answered_tries alone (making_view def h) c.found outcome mid (Ok t) c.answered (subst (λ x. IsTried x outcome (Ok t)) e i) in
    found_leads alone (has_failed t) old c.found (λ g. followed_by (tries_at g (making_view def g)) (after_view p (length (roster g).views) def filled)) mid _ c.finds
    (walk_leads alone (has_failed t) c.found (tries_at h (making_view def h)) mid (result_of t) (after_view p (length (roster h).views) def filled) w)

-- with no refresh after it
pub view_ends : {T J : Type 0} (shown : Shown T J) (alone : Bool) (old : State) (def : ViewDef) (filled : Bool) (outcome : Outcome ℕ) (pos : ℕ) (t : Attempt ℕ) (r : Result ℕ Refusal) (failed : Bool) (m : Meeting T) (mid : State) → Called alone old (making_view def) outcome mid → pos ≡ position mid.history → IsTried pos outcome (Ok t) → failed ≡ has_failed t → result_of t ≡ r → m ≡ record { said = None; outcome = outcomes.Number lines.View r; failed = failed } → ((p : Places) (n : ℕ) → after_view p n def filled r ≡ ends (turn_of_line p said.View r)) → Meets {T = T} {J = J} shown alone old (deeds.View def filled) m mid
view_ends {T} {J} shown alone old def filled outcome pos t r failed m mid c at i f j is same =
    subst (λ (x : Meeting T). Meets {T = T} {J = J} shown alone old (deeds.View def filled) x mid) (sym is)
    (record {
      leads = λ p read.
          let begun = rest {T = T} {J = J} p read (deeds.View def filled) in
          let n = length (roster c.found.history).views in
          subst (λ x. Leads alone x old begun mid (ends (turn_of_line p said.View r))) (sym f)
          (subst (λ x. Leads alone (has_failed t) old begun mid x) (ap (after_view p n def filled) j ∙ same p n) (view_leads alone old def filled outcome pos t mid p c at i));
      answers = record { fits = tt; left_so = omega arith; spent_so = λ read. refl };
    })

same_ok : (r : Result ℕ Refusal) (a k : ℕ) → r ≡ Ok a → r ≡ Ok k → a ≡ k
same_ok r a k e f = cc

done_attempt : (t : Attempt ℕ) (k : ℕ) → result_of t ≡ Ok k → t ≡ tried.Done k
done_attempt (tried.Done a) k e = ap tried.Done (same_ok (Ok a) a k refl e)
done_attempt (tried.Refused r) k e = absurd cc
done_attempt (tried.Failed r) k e = absurd cc

pub unfilled : (p : Places) (n : ℕ) (def : ViewDef) (filled : Bool) (k : ℕ) → filled ≡ false → after_view p n def filled (Ok k) ≡ ends (turn_of_line p said.View (Ok k))
unfilled p n def filled k e = ap (λ b. after_view p n def b (Ok k)) e

-- with a refresh after it
filled_leads : (alone : Bool) (old : State) (def : ViewDef) (filled : Bool) (outcome : Outcome ℕ) (pos : ℕ) (t : Attempt ℕ) (k : ℕ) (mid : State) (p : Places) (c : Called alone old (making_view def) outcome mid) → pos ≡ position mid.history → IsTried pos outcome (Ok t) → t ≡ tried.Done k → filled ≡ true → Leads alone false old (looks (λ g. followed_by (tries_at g (making_view def g)) (after_view p (length (roster g).views) def filled))) mid (view_made p (length (roster c.found.history).views) (first_of def.fold.width) k true)
filled_leads alone old def filled outcome pos t k mid p c at i done e =
    let begun = looks (λ g. followed_by (tries_at g (making_view def g)) (after_view p (length (roster g).views) def filled)) in
    let n = length (roster c.found.history).views in
    subst (λ b. Leads alone false old begun mid (after_view p n def b (Ok k))) e
    (subst (λ x. Leads alone (has_failed x) old begun mid (after_view p n def filled (result_of x))) done (view_leads alone old def filled outcome pos t mid p c at i))

pub found_broken : (alone : Bool) (old : State) (def : ViewDef) (filled : Bool) (outcome : Outcome ℕ) (pos : ℕ) (t : Attempt ℕ) (k : ℕ) (mid : State) (p : Places) (Reports : History → Type 0) (last : State) → Called alone old (making_view def) outcome mid → pos ≡ position mid.history → IsTried pos outcome (Ok t) → result_of t ≡ Ok k → filled ≡ true → Looked alone mid Reports last → Breaks alone old (looks (λ g. followed_by (tries_at g (making_view def g)) (after_view p (length (roster g).views) def filled))) last
found_broken alone old def filled outcome pos t k mid p Reports last c at i j e looked =
    (filled_leads alone old def filled outcome pos t k mid p c at i (done_attempt t k j) e).breaks last (looked_only alone mid Reports last (λ h. true) _ looked)

-- an aggregate that a later look found by its name
pub view_found : {T J : Type 0} (shown : Shown T J) (alone : Bool) (old : State) (def : ViewDef) (filled : Bool) (outcome : Outcome ℕ) (pos : ℕ) (t : Attempt ℕ) (k : ℕ) (failed : Bool) (new : NewView) (mid : State) (asked : RefreshRequest) (Reports : History → Type 0) (last : State) → filled ≡ true → Called alone old (making_view def) outcome mid → pos ≡ position mid.history → IsTried pos outcome (Ok t) → failed ≡ has_failed t → result_of t ≡ Ok k → new.name ≡ def.name → new.width ≡ def.fold.width → Looked alone mid Reports last → asked ≡ record { view = number_at last.history new.name; lo = None; hi = None; min = first_of new.width } → Meets {T = T} {J = J} shown alone old (deeds.View def filled) (record { said = Some (said.View k); outcome = outcomes.Found asked; failed = failed }) last
view_found {T} {J} shown alone old def filled outcome pos t k failed new mid asked Reports last e c at i f j name width looked is =
    let n = length (roster c.found.history).views in
    let on = begins_looked looked in
    let done = done_attempt t k j in
    let made = made_by alone old def outcome pos t k mid c i done in
    let named : number_at last.history new.name ≡ n = ap (number_at last.history) name ∙ named_on mid.history last.history def.name n on made.named in
    let like : asked ≡ record { view = n; lo = None; hi = None; min = first_of def.fold.width } =
    is ∙ ap (λ v. record { view = v; lo = None; hi = None; min = first_of new.width }) named ∙ ap (λ w. record { view = n; lo = None; hi = None; min = first_of w }) width in
    subst (λ b. Meets {T = T} {J = J} shown alone old (deeds.View def filled) (record { said = Some (said.View k); outcome = outcomes.Found asked; failed = b }) last) (sym (f ∙ ap has_failed done))
    (subst (λ (a : RefreshRequest). Meets {T = T} {J = J} shown alone old (deeds.View def filled) (record { said = Some (said.View k); outcome = outcomes.Found a; failed = false }) last) (sym like)
    (record {
      leads = λ p read.
          let made_one = view_made p n (first_of def.fold.width) k true in
          leads_then alone false old (rest {T = T} {J = J} p read (deeds.View def filled)) mid made_one last made_one (filled_leads alone old def filled outcome pos t k mid p c at i done e)
          (seen_leads alone mid last (λ h. true) _ (sees_looked alone mid Reports last looked));
      answers = record {
        fits = record { view = view_stays mid.history last.history n on made.there; low = λ x e. absurd cc; high = λ x e. absurd cc };
        left_so = omega arith;
        spent_so = λ read. refl;
      };
    }))

-- a snapshot
pub look_meets : {T J : Type 0} (shown : Shown T J) (alone : Bool) (old : State) (deed : Deed T J) (then : AfterLook) (shot : T) (Reports : History → Type 0) (mid : State) → deed ≡ deeds.Look then → Looked alone old Reports mid → shown.stands shot mid.history → IsTrue (all_allowed mid.history) → Meets shown alone old deed (record { said = None; outcome = outcomes.Look then shot; failed = false }) mid
look_meets {T} {J} shown alone old deed then shot Reports mid e looked stands allowed =
    subst (λ (d : Deed T J). Meets shown alone old d (record { said = None; outcome = outcomes.Look then shot; failed = false }) mid) (sym e)
    (record {
      leads = λ p read. look_leads alone old Reports mid (λ h. true) (λ g. look_left p g then) looked;
      answers = record { fits = (stands, allowed); left_so = omega arith; spent_so = λ read. refl };
    })

-- ---- a refresh that can't be finished any more stays so

lost_on : {T J : Type 0} (deed : Deed T J) (g h : State) → GoesOn g h → IsLostBy deed g → IsLostBy deed h
lost_on (deeds.Finish job f) g h on l = lost_stays g h (cut_in f) on l
lost_on other g h on l = tt

pub lost_later : {T J : Type 0} (alone : Bool) (next : Next T J) (deed : Deed T J) (then : Next T J) (p : Places) (read : ℕ) (result joined : Result (Completion T J) NoMemory) (g h : State) (before after : ℕ) → next ≡ nexts.Deed deed → CarriesOut alone g p read then result h before after → IsLostBy deed g → OnOk joined (IsLostNext next h)
lost_later alone next deed then p read result joined g h before after e c l =
    subst (λ q. OnOk joined (IsLostNext q h)) (sym e)
    (always_ok (IsLostBy deed h) joined (lost_on deed g h (goes_ends alone g (rest_next p read then) p c.total result h c.ends) l))

pub lost_ended : {T J : Type 0} (next : Next T J) (t : Completion T J) (s : State) → next ≡ nexts.End t → IsLostNext next s
lost_ended next t s e = subst (λ q. IsLostNext q s) (sym e) tt

-- ---- actions

-- reads with the same outcome
pub looks_leads : {A : Type 0} (alone : Bool) (s : State) (shown : History → Bool) (f g : History → Procedure A) → ((h : History) → Begins s.history h → f h ≡ g h) → Leads alone false s (sees shown f) s (looks g)
looks_leads alone s shown f g same = record {
  walks = λ failed new y w. record { mid = w.mid; first = w.first; rest = subst (λ d. Walks alone failed w.mid d new y) (sym (same w.mid.history (goes_seen alone s w.mid w.first).begins)) w.rest };
  breaks = λ new b. record { mid = b.mid; first = b.first; rest = subst (λ d. Breaks alone b.mid d new) (sym (same b.mid.history (goes_seen alone s b.mid b.first).begins)) b.rest };
}
