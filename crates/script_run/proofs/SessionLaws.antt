-- The sessions that contracts see, and the map that stores them.
use Rattle.std.proofs.Common.{◌≡◌, ℕ, zero, suc, ◌+◌, ◌≤◌, Bool, true, false, cond, List, [], ◌∷◌, length, slice_get, position, Some, None, Result, Ok, OnOk, refl, sym, ap, ◌∙◌, subst, true≢false, unwrap_or, is_some, nat_eq, arith, if◌then◌else◌}
use Rattle.std.proofs.lemmas.Cmp.{nat_list_eq_equiv}
use Rattle.std.specs.Cmp.Lexicographic.{pointwise, same_text}
use Rattle.std.specs.Global.{Vec}
use Rattle.std.specs.Map.{keys_of, values_of, lookup, lookup_key}
use Rattle.std.specs.Option.{option_map}
use Rattle.indexmap.specs.IndexMap.{insert_entry, set_value_at}
use Rattle.indexmap.proofs.MapLemmas.{Found-position, insert_entry-first}
use Rattle.ts_model.specs.States.{State}
use Rattle.ts_model.specs.Roster.{same_name}
use Rattle.ts_sessions.specs.Held.{GoesOn}
use Rattle.ts_sessions.specs.Script.{places_of, with_places}
use Rattle.script_run.specs.Sessions.{sessions_of, waiting_in, IsMember, AreSessions, AreSessionsFrom}
use Rattle.ts_sessions.specs.declared.actors.Actor.{Ghosts as Actor}
use Rattle.ts_schema.proofs.Cases.{none_there}

-- a key is this name
abbrev is_key : List ℕ → Vec ℕ → Bool
is_key name key = pointwise nat_eq name key.items

some_same : {X : Type 0} {x y : X} → Some x ≡ Some y → x ≡ y
some_same {X} {x} e = ap (λ o. unwrap_or o x) e

some_none : {X : Type 0} {x : X} → Some x ≡ None → ⊥
some_none e = true≢false (ap is_some e)

either_way : (name : List ℕ) (key : Vec ℕ) → same_name key.items name ≡ is_key name key
either_way name key = nat_list_eq_equiv.symm key.items name

-- there are as many names as entries
pub length-sessions : {A P : Type 0} (places : A → P) (entries : List (Vec ℕ × A)) → length (sessions_of places entries) ≡ length entries
length-sessions places [] = refl
length-sessions places (e ∷ entries) = ap suc (length-sessions places entries)

-- ---- look-ups

module _ {A P : Type 0} (places : A → P) (name : List ℕ) where
  -- the state under a name is that of the session that the look-up finds
  pub places_found : (entries : List (Vec ℕ × A)) → places_of name (sessions_of places entries) ≡ option_map places (lookup (is_key name) entries)
  places_found [] = refl
  places_found (e ∷ entries) = by (is_key name e.0) refl (places_found entries)
    where
      by : (b : Bool) → is_key name e.0 ≡ b → places_of name (sessions_of places entries) ≡ option_map places (lookup (is_key name) entries)
          → places_of name (sessions_of places (e ∷ entries)) ≡ option_map places (lookup (is_key name) (e ∷ entries))
      by true same rest =
          ap (λ b. cond b (Some (places e.1)) (places_of name (sessions_of places entries))) (either_way name e.0 ∙ same)
          ∙ sym (ap (λ b. option_map places (cond b (Some e.1) (lookup (is_key name) entries))) same)
      by false other rest =
          ap (λ b. cond b (Some (places e.1)) (places_of name (sessions_of places entries))) (either_way name e.0 ∙ other)
          ∙ rest
          ∙ sym (ap (λ b. option_map places (cond b (Some e.1) (lookup (is_key name) entries))) other)

slice_values : {K X : Type 0} (es : List (K × X)) (i : ℕ) (e : K × X) → slice_get es i ≡ Some e → slice_get (values_of es) i ≡ Some e.1
slice_values [] i e at = absurd (some_none (sym at))
slice_values (x ∷ xs) zero e at = ap (λ p. Some p.1) (some_same at)
slice_values (x ∷ xs) (suc i) e at = slice_values xs i e at

slice_keys : {K X : Type 0} (es : List (K × X)) (i : ℕ) (e : K × X) → slice_get es i ≡ Some e → slice_get (keys_of es) i ≡ Some e.0
slice_keys [] i e at = absurd (some_none (sym at))
slice_keys (x ∷ xs) zero e at = ap (λ p. Some p.0) (some_same at)
slice_keys (x ∷ xs) (suc i) e at = slice_keys xs i e at

-- a key that a look-up finds passes its test
found_passes : {K X : Type 0} (test : K → Bool) (es : List (K × X)) (k : K) → lookup_key test es ≡ Some k → test k ≡ true
found_passes test [] k found = absurd (some_none (sym found))
found_passes test (x ∷ xs) k found = by (test x.0) refl (found_passes test xs k)
  where
    by : (b : Bool) → test x.0 ≡ b → (lookup_key test xs ≡ Some k → test k ≡ true) → test k ≡ true
    by true passes rest = let same : x.0 ≡ k = some_same (sym (ap (λ b. cond b (Some x.0) (lookup_key test xs)) passes) ∙ found) in subst (λ k. test k ≡ true) same passes
    by false fails rest = rest (sym (ap (λ b. cond b (Some x.0) (lookup_key test xs)) fails) ∙ found)

module _ {A : Type 0} (name : List ℕ) (entries : List (Vec ℕ × A)) (i : ℕ) (e : Vec ℕ × A) where
  -- the session that a name is found at has this name
  pub name_found : position (is_key name) (keys_of entries) ≡ Some i → slice_get entries i ≡ Some e → name ≡ e.0.items
  name_found place at =
      let found = Found-position (is_key name) entries i place in
      same_text name e.0.items (sym (found_passes (is_key name) entries e.0 (found.key ∙ slice_keys entries i e at)))

  -- its state is the one under the name
  pub places_at : {P : Type 0} (places : A → P) → position (is_key name) (keys_of entries) ≡ Some i → slice_get entries i ≡ Some e → places_of name (sessions_of places entries) ≡ Some (places e.1)
  places_at places place at =
      let found = Found-position (is_key name) entries i place in
      places_found places name entries ∙ ap (option_map places) (found.value ∙ slice_values entries i e at)

-- a name that isn't found has no state
pub no_places_found : {A P : Type 0} (places : A → P) (name : List ℕ) (entries : List (Vec ℕ × A)) → is_some (lookup (is_key name) entries) ≡ false → places_of name (sessions_of places entries) ≡ None
no_places_found places name entries missing = places_found places name entries ∙ ap (option_map places) (none_there (lookup (is_key name) entries) missing)

-- what is true if a call succeeded is true
pub at_ok : {X E : Type 0} (r : Result X E) (x : X) (P : Type 0) → r ≡ Ok x → OnOk r P → P
at_ok r x P e p = subst (λ r. OnOk r P) e p

-- ---- changes

module _ {A P : Type 0} (places : A → P) (name : List ℕ) (key : Vec ℕ) (own : key.items ≡ name) (actor : A) where
  -- the entries with one more, or with another instead of the one that has this name
  abbrev put : List (Vec ℕ × A) → List (Vec ℕ × A)
  put entries = insert_entry (λ k. is_key name) entries key actor

  -- the session with this name now has this state
  put_by : (entries : List (Vec ℕ × A)) → sessions_of places (put entries) ≡ with_places name (places actor) (sessions_of places entries)
  put_by [] = ap (λ n. (n, places actor) ∷ []) own
  put_by (e ∷ entries) = by (is_key name e.0) refl (put_by entries)
    where
      by : (b : Bool) → is_key name e.0 ≡ b → sessions_of places (put entries) ≡ with_places name (places actor) (sessions_of places entries)
          → sessions_of places (put (e ∷ entries)) ≡ with_places name (places actor) (sessions_of places (e ∷ entries))
      by true same rest =
          ap (λ b. sessions_of places (if b then (e.0, actor) ∷ entries else e ∷ put entries)) same
          ∙ ap (λ n. (n, places actor) ∷ sessions_of places entries) (sym (same_text name e.0.items (sym same)))
          ∙ sym (ap (λ b. cond b ((name, places actor) ∷ sessions_of places entries) ((e.0.items, places e.1) ∷ with_places name (places actor) (sessions_of places entries))) (either_way name e.0 ∙ same))
      by false other rest =
          ap (λ b. sessions_of places (if b then (e.0, actor) ∷ entries else e ∷ put entries)) other
          ∙ ap (λ l. (e.0.items, places e.1) ∷ l) rest
          ∙ sym (ap (λ b. cond b ((name, places actor) ∷ sessions_of places entries) ((e.0.items, places e.1) ∷ with_places name (places actor) (sessions_of places entries))) (either_way name e.0 ∙ other))

-- the same test of keys, by a key and by its name
put_same : {A : Type 0} (entries : List (Vec ℕ × A)) (key : Vec ℕ) (actor : A)
    → insert_entry (λ a b. pointwise nat_eq a.items b.items) entries key actor ≡ insert_entry (λ k. is_key key.items) entries key actor
put_same [] key actor = refl
put_same (e ∷ entries) key actor = ap (λ l. if is_key key.items e.0 then (e.0, actor) ∷ entries else e ∷ l) (put_same entries key actor)

-- an insert under a key sets the session with the key's name
pub put_sessions : {A P : Type 0} (places : A → P) (entries : List (Vec ℕ × A)) (key : Vec ℕ) (actor : A)
    → sessions_of places (insert_entry (λ a b. pointwise nat_eq a.items b.items) entries key actor) ≡ with_places key.items (places actor) (sessions_of places entries)
put_sessions places entries key actor = ap (sessions_of places) (put_same entries key actor) ∙ put_by places key.items key refl actor entries

-- the sessions after an insert into entries that were kept
pub put_kept : {A P : Type 0} (places : A → P) (name : List ℕ) (before kept after : List (Vec ℕ × A)) (key : Vec ℕ) (actor : A)
    → kept ≡ before → key.items ≡ name → after ≡ insert_entry (λ a b. pointwise nat_eq a.items b.items) kept key actor
    → sessions_of places after ≡ with_places name (places actor) (sessions_of places before)
put_kept places name before kept after key actor same own put =
    ap (sessions_of places) put ∙ put_sessions places kept key actor ∙ (λ i. with_places (own i) (places actor) (sessions_of places (same i)))

-- a write at the index of a name sets the session, too
pub set_sessions : {A P : Type 0} (places : A → P) (name : List ℕ) (entries : List (Vec ℕ × A)) (i : ℕ) (e : Vec ℕ × A) (actor : A)
    → position (is_key name) (keys_of entries) ≡ Some i → slice_get entries i ≡ Some e
    → sessions_of places (set_value_at entries i actor) ≡ with_places name (places actor) (sessions_of places entries)
set_sessions places name entries i e actor place at =
    let found = Found-position (is_key name) entries i place in
    ap (sessions_of places) (sym (insert_entry-first (λ k. is_key name) e.0 actor entries i found.first))
    ∙ put_by places name e.0 (sym (name_found name entries i e place at)) actor entries

-- ---- what each session knows and holds

-- a name that isn't among sessions isn't that of the first, nor among the others
record Elsewhere {A P : Type 0} (places : A → P) (name : List ℕ) (entry : Vec ℕ × A) (entries : List (Vec ℕ × A)) : Type 0 where
  other : is_key name entry.0 ≡ false
  missing : places_of name (sessions_of places entries) ≡ None

elsewhere : {A P : Type 0} (places : A → P) (name : List ℕ) (entry : Vec ℕ × A) (entries : List (Vec ℕ × A)) → places_of name (sessions_of places (entry ∷ entries)) ≡ None → Elsewhere places name entry entries
elsewhere places name entry entries none = by (same_name entry.0.items name) refl none
  where
    by : (b : Bool) → same_name entry.0.items name ≡ b → cond b (Some (places entry.1)) (places_of name (sessions_of places entries)) ≡ None → Elsewhere places name entry entries
    by true e none = absurd (some_none none)
    by false e none = record { other = sym (either_way name entry.0) ∙ e; missing = none }

module _ {A T J : Type 0} (actors : Actor A T J) where
  from_there : (s : State) (n m : ℕ) (e : Vec ℕ × A) → n ≡ m → IsMember actors s n e → IsMember actors s m e
  from_there s n m e same known = subst (λ k. IsMember actors s k e) same known

  -- a session at an index
  pub sessions_at : (s : State) (n : ℕ) (entries : List (Vec ℕ × A)) (i : ℕ) (e : Vec ℕ × A) → AreSessionsFrom actors s n entries → slice_get entries i ≡ Some e → IsMember actors s (n + i) e
  sessions_at s n [] i e c at = absurd (some_none (sym at))
  sessions_at s n (x ∷ xs) zero e c at = from_there s n (n + 0) e (omega arith) (subst (λ e. IsMember actors s n e) (some_same at) c.0)
  sessions_at s n (x ∷ xs) (suc i) e c at = from_there s (suc n + i) (n + suc i) e (omega arith) (sessions_at s (suc n) xs i e c.1 at)

  module _ (on : (a : A) (g h : State) → GoesOn g h → actors.holds a g → actors.holds a h) (g h : State) (went : GoesOn g h) where
    member_on : (n : ℕ) (e : Vec ℕ × A) → IsMember actors g n e → IsMember actors h n e
    member_on n e m = record { name = m.name; number_known = m.number_known; holds_well = on e.1 g h went m.holds_well }

    -- the sessions fit the store as it continues
    pub sessions_on : (n : ℕ) (entries : List (Vec ℕ × A)) → AreSessionsFrom actors g n entries → AreSessionsFrom actors h n entries
    sessions_on n [] c = tt
    sessions_on n (x ∷ xs) c = (member_on n x c.0, sessions_on (suc n) xs c.1)

    -- the sessions fit after a line of one of them
    pub sessions_set : (n : ℕ) (entries : List (Vec ℕ × A)) (i : ℕ) (e : Vec ℕ × A) (actor : A) → AreSessionsFrom actors g n entries → slice_get entries i ≡ Some e
        → actors.named actor ≡ actors.named e.1 → actors.numbered actor ≡ actors.numbered e.1 → actors.holds actor h → AreSessionsFrom actors h n (set_value_at entries i actor)
    sessions_set n [] i e actor c at own number has = tt
    sessions_set n (x ∷ xs) zero e actor c at own number has =
        let first = some_same at in (
          record {
            name = own ∙ ap (λ e. actors.named e.1) (sym first) ∙ c.0.name;
            number_known = number ∙ ap (λ e. actors.numbered e.1) (sym first) ∙ c.0.number_known;
            holds_well = has;
          },
          sessions_on (suc n) xs c.1,
        )
    sessions_set n (x ∷ xs) (suc i) e actor c at own number has = (member_on n x c.0, sessions_set (suc n) xs i e actor c.1 at own number has)

    -- the sessions fit after a new one
    pub sessions_put : {P : Type 0} (places : A → P) (n : ℕ) (entries : List (Vec ℕ × A)) (key : Vec ℕ) (actor : A) → AreSessionsFrom actors g n entries → places_of key.items (sessions_of places entries) ≡ None
        → actors.named actor ≡ key.items → actors.numbered actor ≡ n + length entries → actors.holds actor h → AreSessionsFrom actors h n (insert_entry (λ k. is_key key.items) entries key actor)
    sessions_put places n [] key actor c none own number has = (record { name = own; number_known = number ∙ (let e : n + 0 ≡ n = omega arith in e); holds_well = has }, tt)
    sessions_put places n (x ∷ xs) key actor c none own number has =
        let apart = elsewhere places key.items x xs none in
        let next : actors.numbered actor ≡ suc n + length xs = number ∙ (let e : n + suc (length xs) ≡ suc n + length xs = omega arith in e) in
        subst (λ b. AreSessionsFrom actors h n (if b then (x.0, actor) ∷ xs else x ∷ insert_entry (λ k. is_key key.items) xs key actor)) (sym apart.other)
        (member_on n x c.0, sessions_put places (suc n) xs key actor c.1 apart.missing own next has)

    pub sessions_put_kept : {P : Type 0} (places : A → P) (name : List ℕ) (before kept after : List (Vec ℕ × A)) (key : Vec ℕ) (actor : A) → kept ≡ before → key.items ≡ name
        → after ≡ insert_entry (λ a b. pointwise nat_eq a.items b.items) kept key actor → AreSessions actors g before → places_of name (sessions_of places before) ≡ None
        → actors.named actor ≡ name → actors.numbered actor ≡ length before → actors.holds actor h → AreSessions actors h after
    sessions_put_kept places name before kept after key actor same own new c none known number has =
        let c_kept = subst (λ l. AreSessions actors g l) (sym same) c in
        let none_kept : places_of key.items (sessions_of places kept) ≡ None = (λ i. places_of (own i) (sessions_of places (same i))) ∙ none in
        let number_kept : actors.numbered actor ≡ 0 + length kept = number ∙ ap length (sym same) ∙ (let e : length kept ≡ 0 + length kept = omega arith in e) in
        subst (λ l. AreSessions actors h l) (sym (new ∙ put_same kept key actor))
        (sessions_put places 0 kept key actor c_kept none_kept (known ∙ sym own) number_kept has)

-- ---- queues

module _ {A : Type 0} (waiting : A → ℕ) where
  -- the queue of one session has at most the bytes of all queues
  pub waiting_at : (entries : List (Vec ℕ × A)) (i : ℕ) (e : Vec ℕ × A) → slice_get entries i ≡ Some e → waiting e.1 ≤ waiting_in waiting entries
  waiting_at [] i e at = absurd (some_none (sym at))
  waiting_at (x ∷ xs) zero e at = let first : waiting x.1 ≡ waiting e.1 = ap (λ p. waiting p.1) (some_same at) in omega arith
  waiting_at (x ∷ xs) (suc i) e at = let rest = waiting_at xs i e at in omega arith

  -- if the queue of one session grows, all queues grow as much
  pub waiting_set : (entries : List (Vec ℕ × A)) (i : ℕ) (e : Vec ℕ × A) (actor : A) (more : ℕ) → slice_get entries i ≡ Some e → waiting actor ≤ waiting e.1 + more
      → waiting_in waiting (set_value_at entries i actor) ≤ waiting_in waiting entries + more
  waiting_set [] i e actor more at few = absurd (some_none (sym at))
  waiting_set (x ∷ xs) zero e actor more at few = let first : waiting x.1 ≡ waiting e.1 = ap (λ p. waiting p.1) (some_same at) in omega arith
  waiting_set (x ∷ xs) (suc i) e actor more at few = let rest = waiting_set xs i e actor more at few in omega arith

  -- a new session adds its queue
  waiting_put : (entries : List (Vec ℕ × A)) (key : Vec ℕ) (actor : A) → waiting_in waiting (insert_entry (λ a b. pointwise nat_eq a.items b.items) entries key actor) ≤ waiting_in waiting entries + waiting actor
  waiting_put [] key actor = omega arith
  waiting_put (x ∷ xs) key actor = by (pointwise nat_eq key.items x.0.items) (waiting_put xs key actor)
    where
      by : (b : Bool) → waiting_in waiting (insert_entry (λ a b. pointwise nat_eq a.items b.items) xs key actor) ≤ waiting_in waiting xs + waiting actor
          → waiting_in waiting (if b then (x.0, actor) ∷ xs else x ∷ insert_entry (λ a b. pointwise nat_eq a.items b.items) xs key actor) ≤ waiting_in waiting (x ∷ xs) + waiting actor
      by true rest = omega arith
      by false rest = omega arith

  pub waiting_put_kept : (before kept after : List (Vec ℕ × A)) (key : Vec ℕ) (actor : A) (more : ℕ) → kept ≡ before → after ≡ insert_entry (λ a b. pointwise nat_eq a.items b.items) kept key actor
      → waiting actor ≤ more → waiting_in waiting after ≤ waiting_in waiting before + more
  waiting_put_kept before kept after key actor more same new few =
      subst (λ l. waiting_in waiting after ≤ waiting_in waiting l + more) same
      (subst (λ l. waiting_in waiting l ≤ waiting_in waiting kept + more) (sym new) (let most = waiting_put kept key actor in omega arith))
