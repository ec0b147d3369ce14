-- Sessions taken out by their names.
use Rattle.std.proofs.Common.{◌≡◌, ◌≢◌, ℕ, ◌<◌, Bool, true, false, not, ◌||◌, List, length, get_or, Some, None, refl, sym, ap, ◌∙◌}
use Rattle.std.specs.Cmp.Lexicographic.{same_text}
use Rattle.std.specs.List.{AllPairs, filter, position}
use Rattle.std.proofs.lemmas.List.Quantifiers.{position-Some}
use Rattle.ts_model.specs.Roster.{same_name}
use Rattle.par_lines.specs.declared.sessions.SessionLines.{SessionLines}
use Rattle.par_lines.specs.Sorted.{at_once, final, only, setup}
use Rattle.par_lines.specs.Places.{only_session, script_of, scripts_of, sessions_at_once}
use Rattle.par_lines.proofs.Adding.{has_name}
use Rattle.par_lines.proofs.Passing.{OnePasses, NonePasses, filter_mapped, none_passes, one_passes, others_twice, passing_others, position_none}

-- ---- one name

module _ (name : List ℕ) (sessions : List SessionLines) where
  pub taken_none : position (has_name name) sessions ≡ None → NonePasses (has_name name) sessions
  taken_none none = none_passes (has_name name) sessions (position_none (has_name name) sessions none)

  pub taken_one : (i : ℕ) (session : SessionLines) → AllPairs (λ one other. one.name ≢ other.name) sessions → position (has_name name) sessions ≡ Some i
      → session ≡ get_or sessions i session → OnePasses (has_name name) sessions i session
  taken_one i session apart found at =
      let first = position-Some (has_name name) sessions i session found in
      let passes : has_name name session ≡ true = ap (has_name name) at ∙ first.1 in
      one_passes (has_name name) sessions i session first.0 at passes first.2 (λ k d l m. after k d l m (has_name name (get_or sessions k d)) refl (position-Some (has_name name) sessions i d found).1)
    where
      after : (k : ℕ) (d : SessionLines) → i < k → k < length sessions → (b : Bool) → has_name name (get_or sessions k d) ≡ b → has_name name (get_or sessions i d) ≡ true → b ≡ false
      after k d l m true e passes = absurd (apart i k d l m (same_text (get_or sessions i d).name name (sym passes) ∙ sym (same_text (get_or sessions k d).name name (sym e))))
      after k d l m false e passes = refl

-- ---- the phases

module _ (sessions : List SessionLines) where
  abbrev others : List SessionLines
  others = filter (λ session. not (has_name setup session)) sessions

  setup_is_not_final : (session : SessionLines) → has_name final session ≡ true → has_name setup session ≡ false
  setup_is_not_final session e = ap (λ name. same_name name setup) (same_text session.name final (sym e))

  pub only_final : (taken left : List SessionLines) → left ≡ others → taken ≡ filter (has_name final) left → taken ≡ only_session final sessions
  only_final taken left l e = e ∙ ap (filter (has_name final)) l ∙ passing_others (has_name setup) (has_name final) setup_is_not_final sessions

  pub all_others : (left rest : List SessionLines) → left ≡ others → rest ≡ filter (λ session. not (has_name final session)) left → rest ≡ sessions_at_once sessions
  all_others left rest l e = e ∙ ap (filter (λ session. not (has_name final session))) l ∙ others_twice (has_name setup) (has_name final) sessions

  -- the lines of this session
  pub only_script : (input name : List ℕ) → scripts_of input (only_session name sessions) ≡ only name (scripts_of input sessions)
  only_script input name = filter_mapped (script_of input) (λ script. same_name script.name name) sessions

  pub scripts_at_once : (input : List ℕ) → scripts_of input (sessions_at_once sessions) ≡ at_once (scripts_of input sessions)
  scripts_at_once input = filter_mapped (script_of input) (λ script. not (same_name script.name setup || same_name script.name final)) sessions
