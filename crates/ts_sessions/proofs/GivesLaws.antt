-- Laws of what procedures give over whole histories.
use Rattle.std.proofs.Common.{◌≡◌, ℕ, suc, ◌≤◌, ◌==◌, max, Bool, true, false, cond, nat_lt, List, [], ◌∷◌, ◌++◌, Option, Some, None, inl, inr, sym, refl, ap, ◌∙◌, subst, arith}
use Rattle.std.specs.Prelude.{is_some}
use Rattle.std.specs.List.{AllByRecursion}
use Rattle.std.proofs.lemmas.Bool.{true≢false}
use Rattle.std.proofs.lemmas.Bool.Decides.{nat_tests}
use Rattle.ts_model.specs.declared.events.Event.{Event}
use Rattle.ts_model.specs.History.{History, start, resumed, ◌▸◌, event_at, base_position, position, prefix, Begins, same, further}
use Rattle.ts_model.proofs.HistoryLaws.{base_begins, base_below, begins_prefix, begins_trans, position_begins, position_prefix, prefix_end, prefix_stays}
use Rattle.ts_sessions.specs.Procedures.{Procedure, sees, adds, ends}
use Rattle.ts_sessions.specs.Gives.{AreEvents, Gives, StopsAtEnd, StopsLater, last_of, numbers, printed_looks}
use Rattle.ts_sessions.specs.Laws.{SameReading}
use Rattle.ts_sessions.specs.Steady.{IsEnded, Steady}

-- ---- events and prefixes of longer histories

-- an event has a number up to the position
pub numbered : (h : History) (k : ℕ) (e : Event) → event_at h k ≡ Some e → k ≤ position h
numbered start k e is = absurd (true≢false (sym (ap is_some is)))
numbered (resumed i) k e is = absurd (true≢false (sym (ap is_some is)))
numbered (h ▸ x) k e is =
    elim (k == suc (position h)) as (λ t. (k == suc (position h)) ≡ t → cond t (Some x) (event_at h k) ≡ Some e → k ≤ suc (position h)) [
      | true ↦ λ t _. grind (arith, nat_tests)
      | false ↦ λ _ there. omega (arith, numbered h k e there)
    ] refl is

event_further : (h : History) (x : Event) (k : ℕ) → k ≤ position h → event_at (h ▸ x) k ≡ event_at h k
event_further h x k le = let no : (k == suc (position h)) ≡ false = grind (arith, nat_tests) in rw no refl

-- an event keeps its number as the history grows
pub event_stays : {g h : History} (k : ℕ) (x : Event) → Begins g h → event_at g k ≡ Some x → event_at h k ≡ Some x
event_stays k x same is = is
event_stays {g} k x (further {h} {e} b) is =
    let there = event_stays k x b is in
    event_further h e k (numbered h k x there) ∙ there

-- a position at or above that of an earlier history is at or above its base
base_low : {base all : History} {p : ℕ} → Begins base all → position base ≤ p → base_position all ≤ p
base_low {base} {all} {p} b l =
    let same_base : base_position all ≡ base_position base = base_begins b in
    let low : base_position base ≤ position base = base_below base in
    omega arith

-- the last event of an earlier history
pub last_event : {old h : History} (e : Event) → Begins (old ▸ e) h → event_at h (suc (position old)) ≡ Some e
last_event {old} e b = event_stays (suc (position old)) e b (let itself : (suc (position old) == suc (position old)) ≡ true = grind (arith, nat_tests) in rw itself refl)

-- a prefix of a history that is no shorter than an earlier history begins with it
begins_within : {base all : History} (p : ℕ) → Begins base all → position base ≤ p → Begins base (prefix all p)
begins_within {base} p same le = subst (λ h. Begins base h) (sym (prefix_end base p le)) same
begins_within {base} p (further {h} {e} b) le = elim (nat_lt (position h) p) as (λ t. Begins base (cond t (h ▸ e) (prefix h p))) [ true ↦ further b | false ↦ begins_within p b le ]

-- ---- steady procedures

-- a procedure that is steady from a history on is steady from each longer one on
pub steady_later : {A : Type 0} (fresh : Bool) (base later : History) (procedure : Procedure A) → Begins base later → Steady fresh base procedure → Steady fresh later procedure
steady_later fresh base later (sees shown f) on s = λ h b. s h (begins_trans on b)
steady_later fresh base later (adds e next stop) on s = (s.0, steady_later true base later next on s.1, steady_later fresh base later stop on s.2)
steady_later fresh base later (ends a) on s = tt

-- a procedure that has ended gives the same over each history
ended_gives : {A : Type 0} (all longer : History) (stop later : Option ℕ) (at : ℕ) (so_far : List (ℕ × Event)) (procedure : Procedure A) (looks : List (Option ℕ)) (last : ℕ) (given : List (ℕ × Event)) (y : A) → IsEnded procedure → Gives all stop at so_far procedure looks last given y → Gives longer later at so_far procedure looks last given y
ended_gives all longer stop later at so_far (sees shown f) looks last given y i g = absurd i
ended_gives all longer stop later at so_far (adds e next stopped) looks last given y i g = absurd i
ended_gives all longer stop later at so_far (ends a) [] last given y i g = g
ended_gives all longer stop later at so_far (ends a) (p ∷ ps) last given y i g = absurd g

-- a procedure that has ended reads no more
ended_looks : {A : Type 0} (all : History) (stop : Option ℕ) (at : ℕ) (so_far : List (ℕ × Event)) (procedure : Procedure A) (looks : List (Option ℕ)) (last : ℕ) (given : List (ℕ × Event)) (y : A) → IsEnded procedure → Gives all stop at so_far procedure looks last given y → printed_looks looks ≡ []
ended_looks all stop at so_far (sees shown f) looks last given y i g = absurd i
ended_looks all stop at so_far (adds e next stopped) looks last given y i g = absurd i
ended_looks all stop at so_far (ends a) [] last given y i g = refl
ended_looks all stop at so_far (ends a) (p ∷ ps) last given y i g = absurd g

-- ---- reads

pub all_above : (p q : ℕ) (ps : List ℕ) → p ≤ q → AllByRecursion (λ x. q ≤ x) ps → AllByRecursion (λ x. p ≤ x) ps
all_above p q [] le a = tt
all_above p q (x ∷ ps) le a = (omega (arith, le, a.0), all_above p q ps le a.1)

-- read positions never fall
pub looks_above : {A : Type 0} (all : History) (stop : Option ℕ) (at : ℕ) (so_far : List (ℕ × Event)) (procedure : Procedure A) (looks : List (Option ℕ)) (last : ℕ) (given : List (ℕ × Event)) (y : A) → Gives all stop at so_far procedure looks last given y → AllByRecursion (λ p. at ≤ p) (printed_looks looks)
looks_above all stop at so_far (sees shown f) [] last given y g = absurd g
looks_above all stop at so_far (sees shown f) (None ∷ ps) last given y g = looks_above all stop at so_far (f all) ps last given y g.1
looks_above all stop at so_far (sees shown f) (Some p ∷ ps) last given y g = (g.0, all_above at p (printed_looks ps) g.0 (looks_above all stop p so_far (f (prefix all p)) ps last given y g.3))
looks_above all stop at so_far (adds e next stopped) ps last given y (inl g) = looks_above all stop at so_far stopped ps last given y g.1
looks_above all stop at so_far (adds e next stopped) ps last given y (inr g) =
    all_above at (suc at) (printed_looks ps) (omega arith) (looks_above all stop (suc at) (so_far ++ (suc at, e) ∷ []) next ps last given y g.1)
looks_above all stop at so_far (ends a) [] last given y g = tt
looks_above all stop at so_far (ends a) (p ∷ ps) last given y g = absurd g

-- ---- longer histories

stopped_later : (stop later : Option ℕ) (at : ℕ) → StopsLater stop later → stop ≡ Some at → later ≡ Some at
stopped_later None later at s e = absurd (true≢false (sym (ap is_some e)))
stopped_later (Some p) later at s e = s ∙ e

pub gives_longer : {A : Type 0} (fresh : Bool) (base all longer : History) (stop later : Option ℕ) (at : ℕ) (so_far : List (ℕ × Event)) (procedure : Procedure A) (looks : List (Option ℕ)) (last : ℕ) (given : List (ℕ × Event)) (y : A) → Steady fresh base procedure → Begins base all → AllByRecursion (λ p. position base ≤ p) (printed_looks looks) → Begins all longer → StopsLater stop later → Gives all stop at so_far procedure looks last given y → Gives longer later at so_far procedure looks last given y
gives_longer fresh base all longer stop later at so_far (sees shown f) [] last given y s b above on st g = absurd g
gives_longer fresh base all longer stop later at so_far (sees shown f) (None ∷ ps) last given y s b above on st g =
    let rest = (s all b).1 g.0 in
    let there = rest.0 longer on in
    (there.0, subst (λ d. Gives longer later at so_far d ps last given y) (sym there.1) (ended_gives all longer stop later at so_far (f all) ps last given y rest.1 g.1))
gives_longer fresh base all longer stop later at so_far (sees shown f) (Some p ∷ ps) last given y s b above on st g =
    let here : prefix longer p ≡ prefix all p = prefix_stays p on g.1 in
    let from : Begins base (prefix all p) = begins_within p b above.0 in
    let above_here = all_above (position (prefix all p)) p (printed_looks ps) (position_prefix all p (base_low b above.0) g.1) (looks_above all stop p so_far (f (prefix all p)) ps last given y g.3) in
    let rest = gives_longer true (prefix all p) all longer stop later p so_far (f (prefix all p)) ps last given y ((s (prefix all p) from).0 g.2) (begins_prefix all p) above_here on st g.3 in
    (g.0, omega (arith, g.1, position_begins on), subst (λ h. shown h ≡ true) (sym here) g.2, subst (λ h. Gives longer later p so_far (f h) ps last given y) (sym here) rest)
gives_longer fresh base all longer stop later at so_far (adds e next stopped) ps last given y s b above on st (inl g) =
    inl (stopped_later stop later at st g.0, gives_longer fresh base all longer stop later at so_far stopped ps last given y s.2 b above on st g.1)
gives_longer fresh base all longer stop later at so_far (adds e next stopped) ps last given y s b above on st (inr g) =
    inr (event_stays (suc at) e on g.0, gives_longer true base all longer stop later (suc at) (so_far ++ (suc at, e) ∷ []) next ps last given y s.1 b above on st g.1)
gives_longer fresh base all longer stop later at so_far (ends a) [] last given y s b above on st g = g
gives_longer fresh base all longer stop later at so_far (ends a) (p ∷ ps) last given y s b above on st g = absurd g

-- ---- the last position

last_of_more : (from : ℕ) (es : List (ℕ × Event)) (k : ℕ) (e : Event) → last_of from (numbers (es ++ (k, e) ∷ [])) ≡ k
last_of_more from [] k e = refl
last_of_more from (x ∷ es) k e = last_of_more x.0 es k e

-- a later event is no less than the position before it
raised : (at : ℕ) (looks : List ℕ) (k : ℕ) → suc at ≤ k → max (last_of (suc at) looks) k ≡ max (last_of at looks) k
raised at [] k le = omega (arith, le)
raised at (p ∷ ps) k le = refl

-- the last position, if no earlier event is above the present one
record LastAt (from at : ℕ) (so_far : List (ℕ × Event)) (looks : List (Option ℕ)) (last : ℕ) (given : List (ℕ × Event)) : Type 0 where
  last_is : last ≡ max (last_of at (printed_looks looks)) (last_of from (numbers given))
  rises : last_of from (numbers so_far) ≤ last_of from (numbers given)

last_at : {A : Type 0} (all : History) (stop : Option ℕ) (from at : ℕ) (so_far : List (ℕ × Event)) (procedure : Procedure A) (looks : List (Option ℕ)) (last : ℕ) (given : List (ℕ × Event)) (y : A) → last_of from (numbers so_far) ≤ at → Gives all stop at so_far procedure looks last given y → LastAt from at so_far looks last given
last_at all stop from at so_far (sees shown f) [] last given y le g = absurd g
last_at all stop from at so_far (sees shown f) (None ∷ ps) last given y le g =
    let rest = last_at all stop from at so_far (f all) ps last given y le g.1 in
    record { last_is = rest.last_is; rises = rest.rises }
last_at all stop from at so_far (sees shown f) (Some p ∷ ps) last given y le g =
    let rest = last_at all stop from p so_far (f (prefix all p)) ps last given y (omega (arith, le, g.0)) g.3 in
    record { last_is = rest.last_is; rises = rest.rises }
last_at all stop from at so_far (adds e next stopped) ps last given y le (inl g) = last_at all stop from at so_far stopped ps last given y le g.1
last_at all stop from at so_far (adds e next stopped) ps last given y le (inr g) =
    let more = so_far ++ (suc at, e) ∷ [] in
    let now : last_of from (numbers more) ≡ suc at = last_of_more from so_far (suc at) e in
    let rest = last_at all stop from (suc at) more next ps last given y (omega (arith, now)) g.1 in
    record { last_is = rest.last_is ∙ raised at (printed_looks ps) (last_of from (numbers given)) (omega (arith, now, rest.rises)); rises = omega (arith, le, now, rest.rises) }
last_at all stop from at so_far (ends a) [] last given y le g =
    let P : List (ℕ × Event) → Type 0 = λ es. LastAt from at so_far [] last es in
    let there : last ≡ at = g.0 in
    subst P (sym g.1) (record { last_is = omega (arith, there, le); rises = omega arith })
last_at all stop from at so_far (ends a) (p ∷ ps) last given y le g = absurd g

pub last_is_printed : {A : Type 0} (all : History) (stop : Option ℕ) (at : ℕ) (procedure : Procedure A) (looks : List (Option ℕ)) (last : ℕ) (given : List (ℕ × Event)) (y : A) → Gives all stop at [] procedure looks last given y → last ≡ max (last_of at (printed_looks looks)) (last_of at (numbers given))
last_is_printed all stop at procedure looks last given y g = (last_at all stop at at [] procedure looks last given y (omega arith) g).last_is

-- ---- the events given

events_up : (all : History) (from at p : ℕ) (es : List (ℕ × Event)) → at ≤ p → AreEvents all from es at → AreEvents all from es p
events_up all from at p [] le a = omega (arith, le, a)
events_up all from at p (e ∷ es) le a = (a.0, a.1, events_up all e.0 at p es le a.2)

events_more : (all : History) (from at : ℕ) (es : List (ℕ × Event)) (e : Event) → event_at all (suc at) ≡ Some e → AreEvents all from es at → AreEvents all from (es ++ (suc at, e) ∷ []) (suc at)
events_more all from at [] e is a = (omega (arith, a), is, omega arith)
events_more all from at (x ∷ es) e is a = (a.0, a.1, events_more all x.0 at es e is a.2)

events_given : {A : Type 0} (all : History) (stop : Option ℕ) (from at : ℕ) (so_far : List (ℕ × Event)) (procedure : Procedure A) (looks : List (Option ℕ)) (last : ℕ) (given : List (ℕ × Event)) (y : A) → AreEvents all from so_far at → Gives all stop at so_far procedure looks last given y → AreEvents all from given last
events_given all stop from at so_far (sees shown f) [] last given y a g = absurd g
events_given all stop from at so_far (sees shown f) (None ∷ ps) last given y a g = events_given all stop from at so_far (f all) ps last given y a g.1
events_given all stop from at so_far (sees shown f) (Some p ∷ ps) last given y a g = events_given all stop from p so_far (f (prefix all p)) ps last given y (events_up all from at p so_far g.0 a) g.3
events_given all stop from at so_far (adds e next stopped) ps last given y a (inl g) = events_given all stop from at so_far stopped ps last given y a g.1
events_given all stop from at so_far (adds e next stopped) ps last given y a (inr g) =
    events_given all stop from (suc at) (so_far ++ (suc at, e) ∷ []) next ps last given y (events_more all from at so_far e g.0 a) g.1
events_given all stop from at so_far (ends x) [] last given y a g = subst (λ k. AreEvents all from given k) (sym g.0) (subst (λ es. AreEvents all from es at) (sym g.1) a)
events_given all stop from at so_far (ends x) (p ∷ ps) last given y a g = absurd g

pub gives_events : {A : Type 0} (all : History) (stop : Option ℕ) (at : ℕ) (procedure : Procedure A) (looks : List (Option ℕ)) (last : ℕ) (given : List (ℕ × Event)) (y : A) → Gives all stop at [] procedure looks last given y → AreEvents all at given last
gives_events all stop at procedure looks last given y g = events_given all stop at at [] procedure looks last given y (omega arith) g

events_on : (all : History) (at last : ℕ) (es : List (ℕ × Event)) → AreEvents all at es last → at ≤ last
events_on all at last [] a = a
events_on all at last (e ∷ es) a = let up = a.0 in let on = events_on all e.0 last es a.2 in omega (arith, up, on)

-- the last position isn't before the one that was read first
pub gives_on : {A : Type 0} (all : History) (stop : Option ℕ) (at : ℕ) (procedure : Procedure A) (looks : List (Option ℕ)) (last : ℕ) (given : List (ℕ × Event)) (y : A) → Gives all stop at [] procedure looks last given y → at ≤ last
gives_on all stop at procedure looks last given y g = events_on all at last given (gives_events all stop at procedure looks last given y g)

-- ---- determined by printed reads

first_same : (p q : ℕ) (ps qs : List ℕ) → q ∷ qs ≡ p ∷ ps → q ≡ p
first_same p q ps qs e = cc

rest_same : (p q : ℕ) (ps qs : List ℕ) → q ∷ qs ≡ p ∷ ps → qs ≡ ps
rest_same p q ps qs e = cc

not_empty : (p : ℕ) (ps : List ℕ) → p ∷ ps ≡ [] → ⊥
not_empty p ps e = absurd cc

-- no event comes after the position at which the store stopped
none_after : (all : History) (stop : Option ℕ) (at : ℕ) (e : Event) → StopsAtEnd all stop → stop ≡ Some at → event_at all (suc at) ≡ Some e → ⊥
none_after all None at e i s is = absurd (true≢false (sym (ap is_some s)))
none_after all (Some p) at e i s is =
    let there : p ≡ at = cc in
    let within : suc at ≤ position all = numbered all (suc at) e is in
    absurd (omega (arith, i, there, within))

-- two readings of a procedure that has ended
ended_same : {A : Type 0} (all : History) (stop : Option ℕ) (at too : ℕ) (so_far : List (ℕ × Event)) (procedure : Procedure A) (looks looks_too : List (Option ℕ)) (last last_too : ℕ) (given given_too : List (ℕ × Event)) (y z : A) → IsEnded procedure → Gives all stop at so_far procedure looks last given y → Gives all stop too so_far procedure looks_too last_too given_too z → SameReading y z given given_too
ended_same all stop at too so_far (sees shown f) looks looks_too last last_too given given_too y z i g h = absurd i
ended_same all stop at too so_far (adds e next stopped) looks looks_too last last_too given given_too y z i g h = absurd i
ended_same all stop at too so_far (ends a) [] [] last last_too given given_too y z i g h = record { end = h.2 ∙ sym g.2; events = h.1 ∙ sym g.1 }
ended_same all stop at too so_far (ends a) [] (q ∷ qs) last last_too given given_too y z i g h = absurd h
ended_same all stop at too so_far (ends a) (p ∷ ps) looks_too last last_too given given_too y z i g h = absurd g

same_reading : {A : Type 0} (fresh : Bool) (base all : History) (stop : Option ℕ) (at too : ℕ) (so_far : List (ℕ × Event)) (procedure : Procedure A) (looks looks_too : List (Option ℕ)) (last last_too : ℕ) (given given_too : List (ℕ × Event)) (y z : A) → Steady fresh base procedure → Begins base all → AllByRecursion (λ p. position base ≤ p) (printed_looks looks) → (fresh ≡ true → too ≡ at) → StopsAtEnd all stop → printed_looks looks_too ≡ printed_looks looks → Gives all stop at so_far procedure looks last given y → Gives all stop too so_far procedure looks_too last_too given_too z → SameReading y z given given_too
same_reading fresh base all stop at too so_far (sees shown f) [] looks_too last last_too given given_too y z s b above same_at st e g h = absurd g
same_reading fresh base all stop at too so_far (sees shown f) (p ∷ ps) [] last last_too given given_too y z s b above same_at st e g h = absurd h
same_reading fresh base all stop at too so_far (sees shown f) (None ∷ ps) (None ∷ qs) last last_too given given_too y z s b above same_at st e g h =
    ended_same all stop at too so_far (f all) ps qs last last_too given given_too y z ((s all b).1 g.0).1 g.1 h.1
same_reading fresh base all stop at too so_far (sees shown f) (None ∷ ps) (Some q ∷ qs) last last_too given given_too y z s b above same_at st e g h =
    absurd (not_empty q (printed_looks qs) (e ∙ ended_looks all stop at so_far (f all) ps last given y ((s all b).1 g.0).1 g.1))
same_reading fresh base all stop at too so_far (sees shown f) (Some p ∷ ps) (None ∷ qs) last last_too given given_too y z s b above same_at st e g h =
    absurd (not_empty p (printed_looks ps) (sym e ∙ ended_looks all stop too so_far (f all) qs last_too given_too z ((s all b).1 h.0).1 h.1))
same_reading fresh base all stop at too so_far (sees shown f) (Some p ∷ ps) (Some q ∷ qs) last last_too given given_too y z s b above same_at st e g h =
    let here : q ≡ p = first_same p q (printed_looks ps) (printed_looks qs) e in
    let from : Begins base (prefix all p) = begins_within p b above.0 in
    let above_here = all_above (position (prefix all p)) p (printed_looks ps) (position_prefix all p (base_low b above.0) g.1) (looks_above all stop p so_far (f (prefix all p)) ps last given y g.3) in
    same_reading true (prefix all p) all stop p p so_far (f (prefix all p)) ps qs last last_too given given_too y z ((s (prefix all p) from).0 g.2) (begins_prefix all p) above_here (λ _. refl) st (rest_same p q (printed_looks ps) (printed_looks qs) e) g.3
    (subst (λ k. Gives all stop k so_far (f (prefix all k)) qs last_too given_too z) here h.3)
same_reading fresh base all stop at too so_far (adds x next stopped) ps qs last last_too given given_too y z s b above same_at st e (inl g) (inl h) =
    same_reading fresh base all stop at too so_far stopped ps qs last last_too given given_too y z s.2 b above same_at st e g.1 h.1
same_reading fresh base all stop at too so_far (adds x next stopped) ps qs last last_too given given_too y z s b above same_at st e (inl g) (inr h) =
    absurd (none_after all stop at x st g.0 (subst (λ k. event_at all (suc k) ≡ Some x) (same_at s.0) h.0))
same_reading fresh base all stop at too so_far (adds x next stopped) ps qs last last_too given given_too y z s b above same_at st e (inr g) (inl h) =
    absurd (none_after all stop at x st (subst (λ k. stop ≡ Some k) (same_at s.0) h.0) g.0)
same_reading fresh base all stop at too so_far (adds x next stopped) ps qs last last_too given given_too y z s b above same_at st e (inr g) (inr h) =
    same_reading true base all stop (suc at) (suc at) (so_far ++ (suc at, x) ∷ []) next ps qs last last_too given given_too y z s.1 b above (λ _. refl) st e g.1
    (subst (λ k. Gives all stop (suc k) (so_far ++ (suc k, x) ∷ []) next qs last_too given_too z) (same_at s.0) h.1)
same_reading fresh base all stop at too so_far (ends a) ps qs last last_too given given_too y z s b above same_at st e g h = ended_same all stop at too so_far (ends a) ps qs last last_too given given_too y z tt g h

pub printed_looks_determine : {A : Type 0} (base all : History) (stop : Option ℕ) (at too : ℕ) (procedure : Procedure A) (looks looks_too : List (Option ℕ)) (last last_too : ℕ) (given given_too : List (ℕ × Event)) (y z : A) → Steady false base procedure → Begins base all → AllByRecursion (λ p. position base ≤ p) (printed_looks looks) → StopsAtEnd all stop → printed_looks looks_too ≡ printed_looks looks → Gives all stop at [] procedure looks last given y → Gives all stop too [] procedure looks_too last_too given_too z → SameReading y z given given_too
printed_looks_determine base all stop at too procedure looks looks_too last last_too given given_too y z s b above st e g h = same_reading false base all stop at too [] procedure looks looks_too last last_too given given_too y z s b above (λ f. absurd (true≢false (sym f))) st e g h
