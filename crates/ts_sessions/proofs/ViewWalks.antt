-- A new aggregate, and the refresh that follows it.
use Rattle.std.proofs.Common.{◌≡◌, ℕ, suc, ◌+◌, ◌≤◌, Bool, true, false, cond, nat_lt, not, List, [], ◌∷◌, ◌++◌, length, Option, Some, None, sym, refl, ap, ◌∙◌, subst, inr, arith}
use Rattle.std.specs.Prelude.{Result, Ok, Err, IsSome, is_some, ◌||◌, slice_get, position as place}
use Rattle.std.specs.List.{position_or_len}
use Rattle.std.proofs.lemmas.Bool.{true≢false, cond-true, ltb-false, lt-ltb}
use Rattle.std.proofs.lemmas.List.Sums.{prefix_len-le-length}
use Rattle.std.proofs.lemmas.List.Folds.{position_or_len_push}
use Rattle.std.proofs.Common.{length-append, ◌==◌}
use Rattle.std.proofs.lemmas.Bool.Decides.{nat_tests}
use Rattle.ts_schema.specs.declared.memory.NoMemory.{NoMemory}
use Rattle.ts_model.specs.declared.events.Event.{Event}
use Rattle.ts_model.specs.declared.events.Event.TheVariants.{View}
use Rattle.ts_model.specs.declared.outcomes.Outcome.{Outcome}
use Rattle.ts_model.specs.declared.outcomes.Outcome.TheVariants as outcomes
use Rattle.ts_model.specs.declared.outcomes.Refusal.{Refusal}
use Rattle.ts_model.specs.declared.rosters.Roster.{Roster}
use Rattle.ts_model.specs.declared.views.ViewDef.{ViewDef}
use Rattle.ts_model.specs.History.{History, ◌▸◌, position, Begins}
use Rattle.ts_model.specs.States.{State, Makes}
use Rattle.ts_model.specs.Roster.{roster, roster_after, is_taken, same_name, table_named, view_named, view_of}
use Rattle.ts_model.specs.Limits.{most_relations}
use Rattle.ts_model.specs.Timely.{has_room}
use Rattle.ts_model.specs.Calls.{refuses, makes as makes_call, refusal, Answered, Called, making_view, new_relation, act_with_number}
use Rattle.ts_model.specs.Numbers.{too_many, history_full}
use Rattle.ts_model.specs.Laws.{KeepsView}
use Rattle.ts_model.proofs.RosterLaws.{relations_stay}
use Rattle.result_text.specs.declared.replies.Said.{Said}
use Rattle.ts_sessions.specs.declared.changes.Completion.{Completion}
use Rattle.ts_sessions.specs.declared.call_outcomes.Attempt.{Attempt}
use Rattle.ts_sessions.specs.declared.call_outcomes.Attempt.TheVariants as tried
use Rattle.ts_sessions.specs.Procedures.{Procedure, looks, ending_as, followed_by, tries_at}
use Rattle.ts_sessions.specs.Places.{Places, Turn}
use Rattle.ts_sessions.specs.Sessions.{Ends, places_after, turn_of}
use Rattle.ts_sessions.specs.Step.{after_line}
use Rattle.ts_sessions.specs.Sound.{number_from, view_number}
use Rattle.ts_sessions.specs.CallOutcomes.{IsTried}
use Rattle.ts_sessions.specs.Walks.{Walks, Breaks}
use Rattle.ts_sessions.proofs.CallWalks.{answered_tries}
use Rattle.ts_sessions.proofs.WalkLaws.{breaks_first, walks_as}
use Rattle.stmt_check.proofs.RowLaws.{same_itself}

-- ---- the number of an aggregate

named_at : (n m : ℕ) (k : ℕ) → cond (nat_lt n m) (Some n) None ≡ Some k → n ≡ k
named_at n m k = elim (nat_lt n m) as (λ t. cond t (Some n) None ≡ Some k → n ≡ k) [ true ↦ λ e. cc | false ↦ λ e. absurd cc ]

counted_from : (name : List ℕ) (k : ℕ) (vs : List ViewDef) → number_from name k vs ≡ k + position_or_len (λ v. same_name v.name name) vs
counted_from name k [] = omega arith
counted_from name k (v ∷ vs) =
    elim (same_name v.name name) as (λ t. cond t k (number_from name (k + 1) vs) ≡ k + cond (not t) (1 + position_or_len (λ v. same_name v.name name) vs) 0) [
      | true ↦ omega arith
      | false ↦ counted_from name (k + 1) vs ∙ omega arith
    ]

-- the number under a name is that of the aggregate with it
pub number_named : (r : Roster) (name : List ℕ) (k : ℕ) → view_named r name ≡ Some k → view_number r name ≡ k
number_named r name k e =
    let at : position_or_len (λ v. same_name v.name name) r.views ≡ k = named_at (position_or_len (λ v. same_name v.name name) r.views) (length r.views) k e in
    let from : number_from name 0 r.views ≡ 0 + position_or_len (λ v. same_name v.name name) r.views = counted_from name 0 r.views in
    omega (arith, at, from)

-- the last entry is found if no earlier one has the name
is_some-cond : (b : Bool) (n : ℕ) → is_some (cond b (Some n) None) ≡ false → b ≡ false
is_some-cond true n e = absurd (true≢false e)
is_some-cond false n e = refl

found_last : {X : Type 0} (p : X → Bool) (xs : List X) (x : X) → p x ≡ true → is_some (place p xs) ≡ false → place p (xs ++ x ∷ []) ≡ Some (length xs)
found_last p xs x e none =
    let past : nat_lt (position_or_len p xs) (length xs) ≡ false = is_some-cond (nat_lt (position_or_len p xs) (length xs)) (position_or_len p xs) none in
    let most : position_or_len p xs ≤ length xs = prefix_len-le-length (λ y. not (p y)) xs in
    let least : length xs ≤ position_or_len p xs = ltb-false _ _ past in
    let same : position_or_len p xs ≡ length xs = omega (arith, most, least) in
    let tied : (position_or_len p xs == length xs) ≡ true = grind (arith, nat_tests) in
    let at : position_or_len p (xs ++ x ∷ []) ≡ length xs = position_or_len_push p xs x ∙ cond-true (position_or_len p xs == length xs) _ _ tied ∙ ap (λ t. length xs + cond t 0 1) e ∙ omega arith in
    let within : nat_lt (length xs) (length (xs ++ x ∷ [])) ≡ true = simp length-append (lt-ltb (length xs) (length xs + 1) (omega arith)) in
    rw at (cond-true (nat_lt (length xs) (length (xs ++ x ∷ []))) (Some (length xs)) None within)

not_either : (a b : Bool) → (a || b) ≡ false → b ≡ false
not_either true b e = absurd (true≢false e)
not_either false b e = e

pub made_last : (r : Roster) (def : ViewDef) → is_taken r def.name ≡ false → view_named (roster_after r (View def)) def.name ≡ Some (length r.views)
made_last r def free =
    found_last (λ v. same_name v.name def.name) r.views def (same_itself def.name) (not_either (is_some (table_named r def.name)) (is_some (view_named r def.name)) free)

-- the last entry exists
get_last : {X : Type 0} (xs : List X) (x : X) → slice_get (xs ++ x ∷ []) (length xs) ≡ Some x
get_last [] x = refl
get_last (y ∷ ys) x = get_last ys x

-- ---- at the event

made_there : (found : State) (taken : Bool) (many : ℕ) (e : Event) (k : ℕ) (mid : State) → Answered (new_relation found.history taken many e) found (outcomes.Done k) mid → (taken ≡ false) × Makes e found mid
made_there found true many e k mid w = absurd w
made_there found false many e k mid w =
    (elim (nat_lt many most_relations) as (λ t. Answered (cond t (act_with_number found.history e) (refuses (refusal too_many found.history (suc most_relations)))) found (outcomes.Done k) mid → (false ≡ false) × Makes e found mid) [
      | true ↦
          elim (has_room found.history) as (λ t. Answered (cond t (makes_call e (suc (position found.history))) (refuses (refusal history_full found.history 0))) found (outcomes.Done k) mid → (false ≡ false) × Makes e found mid) [
            | true ↦ λ v. (refl, v.1)
            | false ↦ λ v. absurd v
          ]
      | false ↦ λ v. absurd v
    ]) w

-- the new aggregate has this number, and was created at this history
pub record WasMade (def : ViewDef) (n : ℕ) (mid : History) : Type 0 where
  pub named : view_named (roster mid) def.name ≡ Some n
  pub there : IsSome (view_of (roster mid) n)

pub was_made : (def : ViewDef) (found : State) (k : ℕ) (mid : State) → Answered (making_view def found.history) found (outcomes.Done k) mid → WasMade def (length (roster found.history).views) mid.history
was_made def found k mid w =
    let m = made_there found (is_taken (roster found.history) def.name) (length (roster found.history).views) (View def) k mid w in
    let at : WasMade def (length (roster found.history).views) (found.history ▸ View def) = record {
      named = made_last (roster found.history) def m.0;
      there = subst (λ o. IsSome o) (sym (get_last (roster found.history).views def)) refl;
    } in
    subst (λ h. WasMade def (length (roster found.history).views) h) (sym m.1.history) at

-- ---- the statement

-- the call succeeded only if its outcome says so
pub done_outcome : (pos : ℕ) (outcome : Outcome ℕ) (k : ℕ) → IsTried pos outcome (Ok (tried.Done k)) → outcome ≡ outcomes.Done k
done_outcome pos (outcomes.Done a) k i = done_same a k i
  where
    done_same : (a k : ℕ) → tried.Done k ≡ tried.Done a → outcomes.Done a ≡ outcomes.Done k
    done_same a k e = cc
done_outcome pos (outcomes.Refused r) k i = absurd cc
done_outcome pos outcomes.DiskFault k i = absurd cc
done_outcome pos outcomes.NoMemory k i = absurd i

-- what it made is there under its name
pub made_by : (alone : Bool) (old : State) (def : ViewDef) (outcome : Outcome ℕ) (pos : ℕ) (t : Attempt ℕ) (k : ℕ) (mid : State) (c : Called alone old (making_view def) outcome mid) → IsTried pos outcome (Ok t) → t ≡ tried.Done k → WasMade def (length (roster c.found.history).views) mid.history
made_by alone old def outcome pos t k mid c i j =
    let done = done_outcome pos outcome k (subst (λ x. IsTried pos outcome (Ok x)) j i) in
    was_made def c.found k mid (subst (λ o. Answered (making_view def c.found.history) c.found o mid) done c.answered)

pub view_broken : {A : Type 0} (alone : Bool) (old : State) (def : ViewDef) (outcome : Outcome ℕ) (pos : ℕ) (e : NoMemory) (new : State) (next : ℕ → Result ℕ Refusal → Procedure A) → Called alone old (making_view def) outcome new → IsTried pos outcome (Err e) → Breaks alone old (looks (λ h. followed_by (tries_at h (making_view def h)) (next (length (roster h).views)))) new
view_broken alone old def (outcomes.Done a) pos e new next c i = absurd i
view_broken alone old def (outcomes.Refused r) pos e new next c i = absurd i
view_broken alone old def outcomes.DiskFault pos e new next c i = absurd i
view_broken alone old def outcomes.NoMemory pos e new next c i =
    let h = c.found.history in
    let b = answered_tries alone (making_view def h) c.found outcomes.NoMemory new (Err e) c.answered tt in
    record { mid = c.found; first = inr c.finds; rest = breaks_first alone c.found (tries_at h (making_view def h)) (next (length (roster h).views)) new b }

-- ---- the refresh that follows

-- a name that was resolved at the event stays the same later
pub named_on : (g h : History) (name : List ℕ) (n : ℕ) → Begins g h → view_named (roster g) name ≡ Some n → view_number (roster h) name ≡ n
named_on g h name n b e = number_named (roster h) name n ((relations_stay g h b).view_names name n e)

there_on : (r : Roster) (s : Roster) (n : ℕ) (o : Option ViewDef) → view_of r n ≡ o → IsSome o → ((def : ViewDef) → view_of r n ≡ Some def → KeepsView def (view_of s n)) → IsSome (view_of s n)
there_on r s n None e i k = absurd (true≢false (sym i))
there_on r s n (Some def) e i k = subst (λ o. IsSome o) (sym (k def e).there) refl

pub view_stays : (g h : History) (n : ℕ) → Begins g h → IsSome (view_of (roster g) n) → IsSome (view_of (roster h) n)
view_stays g h n b i = there_on (roster g) (roster h) n (view_of (roster g) n) refl i ((relations_stay g h b).views n)
