-- No two sessions of a sorted input have one name, also if those that run first and last come first and last.
use Rattle.std.proofs.Common.{◌≡◌, ℕ, suc, ◌<◌, Bool, true, false, cond, not, ◌&&◌, ◌||◌, List, [], ◌∷◌, ◌++◌, length, get_or, filter, map, refl, sym, ap, ◌∙◌, subst, true≢false, arith}
use Rattle.std.specs.List.{All, AllByRecursion, AllPairs}
use Rattle.std.specs.Cmp.Lexicographic.{same_text}
use Rattle.std.specs.Prelude.{bytes_eq}
use Rattle.std.proofs.lemmas.Cmp.{nat_list_eq_equiv}
use Rattle.std.proofs.lemmas.Slice.Eq.{bytes_eq-Decides}
use Rattle.ts_model.specs.Roster.{same_name}
use Rattle.ts_sessions.specs.Script.{SessionScript}
use Rattle.par_lines.specs.Sorted.{at_once, final, only, setup, sorted_lines}
use Rattle.par_lines.proofs.NameLaws.{named_input}
use Rattle.transcript.specs.Shape.{are_apart, is_among}

-- ---- different names

abbrev IsOther : List ℕ → List ℕ → Type 0
IsOther a b = a ≡ b → ⊥

-- a name isn't among these
abbrev pub IsNew : List ℕ → List (List ℕ) → Type 0
IsNew name names = AllByRecursion (IsOther name) names

-- no name comes twice
abbrev pub Apart : List (List ℕ) → Type 0
Apart [] = Unit {0}
Apart (name ∷ names) = IsNew name names × Apart names

-- the same by tests
other_bytes : (a b : List ℕ) (t : Bool) → bytes_eq a b ≡ t → IsOther a b → t ≡ false
other_bytes a b true e other = absurd (other ((bytes_eq-Decides a b).0 e))
other_bytes a b false e other = refl

not_among : (name : List ℕ) (names : List (List ℕ)) → IsNew name names → is_among name names ≡ false
not_among name [] all = refl
not_among name (x ∷ names) all = λ i. other_bytes name x (bytes_eq name x) refl all.0 i || not_among name names all.1 i

pub apart_told : (names : List (List ℕ)) → Apart names → are_apart names ≡ true
apart_told [] all = refl
apart_told (name ∷ names) all = λ i. not (not_among name names all.0 i) && apart_told names all.1 i

pub all_appended : {X : Type 0} (P : X → Type 0) (xs ys : List X) → AllByRecursion P xs → AllByRecursion P ys → AllByRecursion P (xs ++ ys)
all_appended P [] ys a b = b
all_appended P (x ∷ xs) ys a b = (a.0, all_appended P xs ys a.1 b)

-- names that aren't among others
apart_appended : (xs ys : List (List ℕ)) → Apart xs → Apart ys → AllByRecursion (λ x. IsNew x ys) xs → Apart (xs ++ ys)
apart_appended [] ys a b all = b
apart_appended (x ∷ xs) ys a b all = (all_appended (IsOther x) xs ys a.0 all.0, apart_appended xs ys a.1 b all.1)

-- ---- sessions

abbrev pub names_of : List SessionScript → List (List ℕ)
names_of scripts = map (λ script. script.name) scripts

different : (a b : List ℕ) → same_name a b ≡ false → IsOther a b
different a b e same = true≢false (sym (nat_list_eq_equiv.refl b) ∙ ap (λ x. same_name x b) (sym same) ∙ e)

new_of : (name : List ℕ) (names : List (List ℕ)) → All (IsOther name) names → IsNew name names
new_of name [] all = tt
new_of name (x ∷ names) all = (all 0 x (omega arith), new_of name names (λ k d l. all (suc k) d (omega (arith, l))))

apart_of : (names : List (List ℕ)) → AllPairs IsOther names → Apart names
apart_of [] all = tt
apart_of (name ∷ names) all = (
  new_of name names (λ k d l. all 0 (suc k) d (omega arith) (omega (arith, l))),
  apart_of names (λ i j d l m. all (suc i) (suc j) d (omega (arith, l)) (omega (arith, m))),
)

-- ---- sessions that pass a test

module _ (test : SessionScript → Bool) where
  all_filtered : (P : List ℕ → Type 0) (scripts : List SessionScript) → AllByRecursion P (names_of scripts) → AllByRecursion P (names_of (filter test scripts))
  all_filtered P [] all = tt
  all_filtered P (x ∷ scripts) all = by (test x) (all_filtered P scripts all.1)
    where
      by : (b : Bool) → AllByRecursion P (names_of (filter test scripts)) → AllByRecursion P (names_of (cond b (x ∷ filter test scripts) (filter test scripts)))
      by true rest = (all.0, rest)
      by false rest = rest

  apart_filtered : (scripts : List SessionScript) → Apart (names_of scripts) → Apart (names_of (filter test scripts))
  apart_filtered [] all = tt
  apart_filtered (x ∷ scripts) all = by (test x) (apart_filtered scripts all.1)
    where
      by : (b : Bool) → Apart (names_of (filter test scripts)) → Apart (names_of (cond b (x ∷ filter test scripts) (filter test scripts)))
      by true rest = (all_filtered (IsOther x.name) scripts all.0, rest)
      by false rest = rest

-- what follows from a test of a name is true of the names that pass it
passing : (test : List ℕ → Bool) (P : List ℕ → Type 0) → ((name : List ℕ) → test name ≡ true → P name) → (scripts : List SessionScript) → AllByRecursion P (names_of (filter (λ script. test script.name) scripts))
passing test P gives [] = tt
passing test P gives (x ∷ scripts) = by (test x.name) refl (passing test P gives scripts)
  where
    by : (b : Bool) → test x.name ≡ b → AllByRecursion P (names_of (filter (λ script. test script.name) scripts)) → AllByRecursion P (names_of (cond b (x ∷ filter (λ script. test script.name) scripts) (filter (λ script. test script.name) scripts)))
    by true e rest = (gives x.name e, rest)
    by false e rest = rest

-- ---- the phases

either_false : (a b : Bool) → not (a || b) ≡ true → (a ≡ false) × (b ≡ false)
either_false true b e = absurd (true≢false (sym e))
either_false false true e = absurd (true≢false (sym e))
either_false false false e = (refl, refl)

two_names : setup ≡ final → ⊥
two_names e =
    let head : List ℕ → ℕ = λ l. get_or l 0 0 in
    let heads : ◌≡◌ {A = ℕ} 115 102 = ap head e in
    absurd (omega arith)

named : (name other : List ℕ) → same_name other name ≡ true → other ≡ name
named name other e = same_text other name (sym e)

module _ (scripts : List SessionScript) where
  -- no session that runs in parallel has the name of another phase
  others_new : (phase : List ℕ) → ((name : List ℕ) → not (same_name name setup || same_name name final) ≡ true → same_name name phase ≡ false) → IsNew phase (names_of (at_once scripts))
  others_new phase gives = passing (λ name. not (same_name name setup || same_name name final)) (IsOther phase) (λ name e same. different name phase (gives name e) (sym same)) scripts

  setup_new : IsNew setup (names_of (at_once scripts))
  setup_new = others_new setup (λ name e. (either_false (same_name name setup) (same_name name final) e).0)

  last_new : (name : List ℕ) → IsOther name final → IsNew name (names_of (only final scripts))
  last_new name other = passing (λ x. same_name x final) (IsOther name) (λ x e same. other (same ∙ named final x e)) scripts

  apart_phases : Apart (names_of scripts) → Apart (names_of (only setup scripts) ++ names_of (at_once scripts) ++ names_of (only final scripts))
  apart_phases all =
      let first : Apart (names_of (only setup scripts)) = apart_filtered (λ script. same_name script.name setup) scripts all in
      let middle : Apart (names_of (at_once scripts)) = apart_filtered (λ script. not (same_name script.name setup || same_name script.name final)) scripts all in
      let last : Apart (names_of (only final scripts)) = apart_filtered (λ script. same_name script.name final) scripts all in
      let second : AllByRecursion (λ x. IsNew x (names_of (at_once scripts))) (names_of (only setup scripts)) =
      passing (λ name. same_name name setup) (λ x. IsNew x (names_of (at_once scripts))) (λ name e. subst (λ x. IsNew x (names_of (at_once scripts))) (sym (named setup name e)) setup_new) scripts in
      let third_a : AllByRecursion (λ x. IsNew x (names_of (only final scripts))) (names_of (only setup scripts)) =
      passing (λ name. same_name name setup) (λ x. IsNew x (names_of (only final scripts))) (λ name e. last_new name (λ same. two_names (sym (named setup name e) ∙ same))) scripts in
      let third_b : AllByRecursion (λ x. IsNew x (names_of (only final scripts))) (names_of (at_once scripts)) =
      passing (λ name. not (same_name name setup || same_name name final)) (λ x. IsNew x (names_of (only final scripts)))
      (λ name e. last_new name (different name final (either_false (same_name name setup) (same_name name final) e).1)) scripts in
      apart_appended (names_of (only setup scripts) ++ names_of (at_once scripts)) (names_of (only final scripts))
      (apart_appended (names_of (only setup scripts)) (names_of (at_once scripts)) first middle second) last
      (all_appended (λ x. IsNew x (names_of (only final scripts))) (names_of (only setup scripts)) (names_of (at_once scripts)) third_a third_b)

-- the sessions of an input in the order in which they run
pub names_apart : (input : List ℕ) → Apart (names_of (only setup (sorted_lines input).sessions) ++ names_of (at_once (sorted_lines input).sessions) ++ names_of (only final (sorted_lines input).sessions))
names_apart input = apart_phases (sorted_lines input).sessions (apart_of (names_of (sorted_lines input).sessions) (named_input input).apart)
