-- A line is added to its session.
use Rattle.std.proofs.Common.{◌≡◌, ℕ, zero, suc, ◌<◌, ◌≤◌, Bool, true, false, cond, ◌||◌, List, [], ◌∷◌, ◌++◌, length, get_or, set, map, Some, nat_lt, refl, sym, ap, ◌∙◌, true≢false, lt-ltb, le-ltb, arith}
use Rattle.std.specs.List.{list_any, position}
use Rattle.std.proofs.lemmas.List.{length-map, map_push}
use Rattle.std.proofs.lemmas.List.Folds.{list_any_at}
use Rattle.std.proofs.lemmas.List.Quantifiers.{position-Some}
use Rattle.std.proofs.Math.Bool.{or-true}
use Rattle.ts_model.specs.Roster.{same_name}
use Rattle.ts_model.specs.Numbers.{too_many_sessions}
use Rattle.result_text.specs.declared.replies.Said.TheVariants as said
use Rattle.result_text.specs.Replies.{reply_text}
use Rattle.ts_sessions.specs.Script.{SessionLine, SessionScript}
use Rattle.ts_model.specs.Limits.{most_sessions}
use Rattle.ts_sessions.specs.Step.{bare}
use Rattle.par_lines.specs.declared.sessions.LinePlace.{LinePlace}
use Rattle.par_lines.specs.declared.sessions.SessionLines.{SessionLines}
use Rattle.par_lines.specs.Sorted.{Sorted, appears_in, refuses, sorts_as, with_line}
use Rattle.par_lines.specs.Places.{line_at, script_of, scripts_of}
use Rattle.par_lines.proofs.Passing.{any_mapped}

abbrev pub state : List ℕ → List SessionScript → Sorted
state refusals scripts = record { refusals = refusals; sessions = scripts }

abbrev pub has_name : List ℕ → SessionLines → Bool
has_name name session = same_name session.name name

-- ---- the session of a line, by the definition

module _ (name : List ℕ) (line : SessionLine) where
  -- a new session comes last
  with_new : (scripts : List SessionScript) → appears_in name scripts ≡ false → with_line name line scripts ≡ scripts ++ record { name = name; lines = line ∷ [] } ∷ []
  with_new [] absent = refl
  with_new (x ∷ scripts) absent = by (same_name x.name name) refl absent (with_new scripts)
    where
      by : (b : Bool) → same_name x.name name ≡ b → (b || appears_in name scripts) ≡ false
          → (appears_in name scripts ≡ false → with_line name line scripts ≡ scripts ++ record { name = name; lines = line ∷ [] } ∷ [])
          → with_line name line (x ∷ scripts) ≡ (x ∷ scripts) ++ record { name = name; lines = line ∷ [] } ∷ []
      by true e absent rest = absurd (true≢false absent)
      by false e absent rest =
          ap (λ b. cond b (record x { lines = x.lines ++ line ∷ [] } ∷ scripts) (x ∷ with_line name line scripts)) e
          ∙ ap (λ l. x ∷ l) (rest absent)

  module _ (s : Sorted) where
    abbrev taken : Sorted
    taken = record s { sessions = with_line name line s.sessions }

    abbrev refused : Sorted
    refused = refuses (reply_text name (said.Fault (bare too_many_sessions))) s

    -- a line of a session that has appeared
    as_known : appears_in name s.sessions ≡ true → sorts_as name line s ≡ taken
    as_known there = ap (λ b. cond (b || nat_lt (length s.sessions) most_sessions) taken refused) there

    -- a line of a new one, if there are fewer than 64
    as_new : length s.sessions < most_sessions → sorts_as name line s ≡ taken
    as_new few =
        let room : nat_lt (length s.sessions) most_sessions ≡ true = lt-ltb (length s.sessions) most_sessions few in
        ap (λ b. cond (appears_in name s.sessions || b) taken refused) room ∙ ap (λ b. cond b taken refused) (or-true (appears_in name s.sessions))

    -- a line of a new one otherwise
    as_refused : appears_in name s.sessions ≡ false → most_sessions ≤ length s.sessions → sorts_as name line s ≡ refused
    as_refused absent many =
        let full : nat_lt (length s.sessions) most_sessions ≡ false = le-ltb (length s.sessions) most_sessions many in
        (λ i. cond (absent i || full i) taken refused)

-- ---- the same by places

module _ (name input : List ℕ) (place : LinePlace) where
  abbrev line : SessionLine
  line = line_at input place

  appears_same : (sessions : List SessionLines) → appears_in name (scripts_of input sessions) ≡ list_any (has_name name) sessions
  appears_same sessions = any_mapped (script_of input) (λ script. same_name script.name name) sessions

  -- the session at the first index with its name has one more line
  added_at : (sessions : List SessionLines) (i : ℕ) (session new : SessionLines) → i < length sessions → session ≡ get_or sessions i session
      → has_name name session ≡ true → ((k : ℕ) → k < i → has_name name (get_or sessions k session) ≡ false)
      → new.name ≡ session.name → new.lines.items ≡ session.lines.items ++ place ∷ [] → scripts_of input (set sessions i new) ≡ with_line name line (scripts_of input sessions)
  added_at [] i session new within at has before named lines = absurd (omega arith)
  added_at (x ∷ sessions) zero session new within at has before named lines =
      let first : has_name name x ≡ true = ap (has_name name) (sym at) ∙ has in
      let names : new.name ≡ x.name = named ∙ ap (λ (s : SessionLines). s.name) at in
      let grown : map (line_at input) new.lines.items ≡ map (line_at input) x.lines.items ++ line ∷ [] =
      ap (map (line_at input)) (lines ∙ ap (λ (s : SessionLines). s.lines.items ++ place ∷ []) at) ∙ map_push (line_at input) x.lines.items place in
      let put : SessionScript = record { name = x.name; lines = map (line_at input) x.lines.items ++ line ∷ [] } in
      let same : script_of input new ≡ put = (λ i. record { name = names i; lines = grown i }) in
      ap (λ s. s ∷ scripts_of input sessions) same
      ∙ sym (ap (λ b. cond b (put ∷ scripts_of input sessions) (script_of input x ∷ with_line name line (scripts_of input sessions))) first)
  added_at (x ∷ sessions) (suc i) session new within at has before named lines =
      let first : has_name name x ≡ false = before 0 (omega arith) in
      let put : SessionScript = record { name = x.name; lines = map (line_at input) x.lines.items ++ line ∷ [] } in
      ap (λ l. script_of input x ∷ l) (added_at sessions i session new (omega arith) at has (λ k l. before (suc k) (omega arith)) named lines)
      ∙ sym (ap (λ b. cond b (put ∷ scripts_of input sessions) (script_of input x ∷ with_line name line (scripts_of input sessions))) first)

  pub added_known : (refusals : List ℕ) (sessions : List SessionLines) (i : ℕ) (session new : SessionLines) → position (has_name name) sessions ≡ Some i → session ≡ get_or sessions i session
      → new.name ≡ session.name → new.lines.items ≡ session.lines.items ++ place ∷ [] → state refusals (scripts_of input (set sessions i new)) ≡ sorts_as name line (state refusals (scripts_of input sessions))
  added_known refusals sessions i session new found at named lines =
      let first = position-Some (has_name name) sessions i session found in
      let there = appears_same sessions ∙ list_any_at (has_name name) sessions i session first.0 first.1 in
      ap (state refusals) (added_at sessions i session new first.0 at (ap (has_name name) at ∙ first.1) first.2 named lines)
      ∙ sym (as_known name line (state refusals (scripts_of input sessions)) there)

  pub added_new : (refusals : List ℕ) (sessions after : List SessionLines) (new : SessionLines) → list_any (has_name name) sessions ≡ false → length sessions < most_sessions
      → after ≡ sessions ++ new ∷ [] → new.name ≡ name → new.lines.items ≡ place ∷ [] → state refusals (scripts_of input after) ≡ sorts_as name line (state refusals (scripts_of input sessions))
  added_new refusals sessions after new absent few pushed named lines =
      let scripts = scripts_of input sessions in
      let made : SessionScript = record { name = name; lines = line ∷ [] } in
      let same : script_of input new ≡ made = (λ i. record { name = named i; lines = map (line_at input) (lines i) }) in
      ap (state refusals) (ap (scripts_of input) pushed ∙ map_push (script_of input) sessions new ∙ ap (λ s. scripts ++ s ∷ []) same ∙ sym (with_new name line scripts (appears_same sessions ∙ absent)))
      ∙ sym (as_new name line (state refusals scripts) (omega (arith, length-map sessions (script_of input))))

  pub refused_new : (refusals after : List ℕ) (sessions : List SessionLines) → list_any (has_name name) sessions ≡ false → most_sessions ≤ length sessions
      → after ≡ refusals ++ reply_text name (said.Fault (bare too_many_sessions)) → state after (scripts_of input sessions) ≡ sorts_as name line (state refusals (scripts_of input sessions))
  refused_new refusals after sessions absent many put =
      ap (λ text. state text (scripts_of input sessions)) put
      ∙ sym (as_refused name line (state refusals (scripts_of input sessions)) (appears_same sessions ∙ absent) (omega (arith, length-map sessions (script_of input))))
