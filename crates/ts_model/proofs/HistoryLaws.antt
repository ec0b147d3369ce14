-- Laws of histories: which history begins with which, and positions.
use Rattle.std.proofs.Common.{◌≡◌, ℕ, ◌+◌, ◌≤◌, true, false, cond, nat_lt, List, [], ◌∷◌, ◌++◌, length, sym, refl, ap, ◌∙◌, arith}
use Rattle.std.proofs.lemmas.Bool.{lt-ltb, le-ltb, ltb-true, ltb-false, cond-true, cond-false}
use Rattle.ts_model.specs.declared.events.Event.{Event}
use Rattle.ts_model.specs.History.{History, start, resumed, ◌▸◌, ◌▸▸◌, position, root, base_position, prefix, events_of, Begins, same, further}

-- a history that begins with another begins with all that the other begins with
pub begins_trans : {f g h : History} → Begins f g → Begins g h → Begins f h
begins_trans p same = p
begins_trans p (further q) = further (begins_trans p q)

-- a history is no shorter than one that it begins with
pub position_begins : {g h : History} → Begins g h → position g ≤ position h
position_begins same = omega arith
position_begins (further q) = omega (arith, position_begins q)

-- a history at its own position, or a later one, is itself
pub prefix_end : (h : History) (p : ℕ) → position h ≤ p → prefix h p ≡ h
prefix_end start p l = refl
prefix_end (resumed i) p l = refl
prefix_end (h ▸ e) p l = cond-true _ (h ▸ e) (prefix h p) (lt-ltb (position h) p (omega arith))

-- one more event changes no earlier position
pub prefix_further : (h : History) (e : Event) (p : ℕ) → p ≤ position h → prefix (h ▸ e) p ≡ prefix h p
prefix_further h e p l = cond-false _ (h ▸ e) (prefix h p) (le-ltb (position h) p l)

-- a history at the position of one that it begins with is that one
pub prefix_begins : {g h : History} → Begins g h → prefix h (position g) ≡ g
prefix_begins {g} same = prefix_end g (position g) (omega arith)
prefix_begins {g} (further {h} {e} q) = prefix_further h e (position g) (position_begins q) ∙ prefix_begins q

-- more events change no earlier position
pub prefix_stays : {g h : History} (p : ℕ) → Begins g h → p ≤ position g → prefix h p ≡ prefix g p
prefix_stays p same l = refl
prefix_stays {g} p (further {h} {e} q) l =
    let m : position g ≤ position h = position_begins q in
    prefix_further h e p (omega arith) ∙ prefix_stays p q l

-- a history begins with each of its prefixes
pub begins_prefix : (h : History) (p : ℕ) → Begins (prefix h p) h
begins_prefix start p = same
begins_prefix (resumed i) p = same
begins_prefix (h ▸ e) p =
    let P : History → Type 0 = λ g. Begins g (h ▸ e) in
    elim (nat_lt (position h) p) as (λ b. P (cond b (h ▸ e) (prefix h p))) [ true ↦ same | false ↦ further (begins_prefix h p) ]

pub position_prefix : (h : History) (p : ℕ) → base_position h ≤ p → p ≤ position h → position (prefix h p) ≤ p
position_prefix start p low l = omega arith
position_prefix (resumed i) p low l = low
position_prefix (h ▸ e) p low l =
    elim (nat_lt (position h) p) as (λ t. nat_lt (position h) p ≡ t → position (cond t (h ▸ e) (prefix h p)) ≤ p) [
      | true ↦ λ after. omega (arith, ltb-true (position h) p after)
      | false ↦ λ before. position_prefix h p low (ltb-false (position h) p before)
    ] refl

-- a prefix of a prefix
pub prefix_prefix : (h : History) (p s : ℕ) → p ≤ s → prefix (prefix h s) p ≡ prefix h p
prefix_prefix start p s l = refl
prefix_prefix (resumed i) p s l = refl
prefix_prefix (h ▸ e) p s l =
    elim (nat_lt (position h) s) as (λ t. nat_lt (position h) s ≡ t → prefix (cond t (h ▸ e) (prefix h s)) p ≡ prefix (h ▸ e) p) [
      | true ↦ λ _. refl
      | false ↦ λ before. prefix_prefix h p s l ∙ sym (prefix_further h e p (omega (arith, ltb-false (position h) s before, l)))
    ] refl

-- ---- where a history begins

pub begins_root : (h : History) → Begins (root h) h
begins_root start = same
begins_root (resumed i) = same
begins_root (h ▸ e) = further (begins_root h)

-- a history begins where each history that it begins with begins
pub root_begins : {g h : History} → Begins g h → root h ≡ root g
root_begins same = refl
root_begins (further q) = root_begins q

pub base_begins : {g h : History} → Begins g h → base_position h ≡ base_position g
base_begins q = ap position (root_begins q)

pub base_below : (h : History) → base_position h ≤ position h
base_below h = position_begins (begins_root h)

-- events after a history
pub begins_followed : (h : History) (es : List Event) → Begins h (h ▸▸ es)
begins_followed h [] = same
begins_followed h (e ∷ es) = begins_trans (further same) (begins_followed (h ▸ e) es)

pub position_followed : (h : History) (es : List Event) → position (h ▸▸ es) ≡ position h + length es
position_followed h [] = omega arith
position_followed h (e ∷ es) = omega (arith, position_followed (h ▸ e) es)

pub followed_append : (h : History) (es fs : List Event) → h ▸▸ (es ++ fs) ≡ (h ▸▸ es) ▸▸ fs
followed_append h [] fs = refl
followed_append h (e ∷ es) fs = followed_append (h ▸ e) es fs

pub followed_push : (h : History) (es : List Event) (e : Event) → h ▸▸ (es ++ (e ∷ [])) ≡ (h ▸▸ es) ▸ e
followed_push h es e = followed_append h es (e ∷ [])

-- a history is its root followed by its events, and its position is that of its root and their number
pub root_followed : (h : History) → root h ▸▸ events_of h ≡ h
root_followed start = refl
root_followed (resumed i) = refl
root_followed (h ▸ e) = followed_push (root h) (events_of h) e ∙ ap (λ g. g ▸ e) (root_followed h)

pub position_is : (h : History) → position h ≡ base_position h + length (events_of h)
position_is h = ap position (sym (root_followed h)) ∙ position_followed (root h) (events_of h)

-- the base of an earlier position is that of the history
pub base_prefix : (h : History) (p : ℕ) → base_position (prefix h p) ≡ base_position h
base_prefix h p = sym (base_begins (begins_prefix h p))
