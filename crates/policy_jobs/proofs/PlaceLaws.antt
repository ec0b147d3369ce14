-- A line depends only on the state of its own session.
use Rattle.std.proofs.Common.{◌≡◌, ◌∙◌, ℕ, suc, true, false, cond, List, [], ◌∷◌, ◌++◌, length, take, Option, Some, None, refl, sym, ap, subst}
use Rattle.std.specs.Prelude.{◌||◌, ◌+◌, nat_lt}
use Rattle.std.specs.List.{AllByRecursion}
use Rattle.std.proofs.lemmas.Bool.{true≢false, false_from_ne_true}
use Rattle.std.proofs.lemmas.Slice.Eq.{bytes_eq-Decides}
use Rattle.ts_model.specs.Roster.{same_name}
use Rattle.stmt_tokens.specs.Lines.{line_kind, session_name}
use Rattle.stmt_tokens.specs.declared.lines.LineKind.{LineKind}
use Rattle.stmt_tokens.specs.declared.lines.LineKind.TheVariants.{Blank, NotAscii, NoSession, Stmt}
use Rattle.ts_model.specs.Numbers.{line_long, too_many_sessions}
use Rattle.result_text.specs.declared.replies.Said.TheVariants as said
use Rattle.result_text.specs.Replies.{reply_text}
use Rattle.ts_sessions.specs.Procedures.{Procedure}
use Rattle.ts_sessions.specs.Places.{Turn}
use Rattle.ts_sessions.specs.Script.{LineResult, ScriptState, Semantics, executes, executes_as, executes_kind, final_script_state, is_refused, output, places_of, reads_in, line_of_refusal, refused_line, takes_turn, with_places}
use Rattle.ts_model.specs.Limits.{most_sessions}
use Rattle.stmt_syntax.specs.Limits.{longest_line}
use Rattle.ts_sessions.specs.Step.{bare}
use Rattle.ts_sessions.specs.Walks.{end_of_walk}
use Rattle.policy_jobs.specs.Laws.{LinesSeeTheirOwnPlaces, OthersSeeNoPlaces, is_line_of, is_of_kind, with_session}

-- ---- names

pub same_text : (a b : List ℕ) → same_name a b ≡ true → a ≡ b
same_text a b e = (bytes_eq-Decides a b).0 e

pub itself : (a : List ℕ) → same_name a a ≡ true
itself a = (bytes_eq-Decides a a).1 refl

turned_round : (a b : List ℕ) → same_name a b ≡ false → same_name b a ≡ false
turned_round a b e = false_from_ne_true (same_name b a) (λ is. true≢false (sym (subst (λ x. same_name x b ≡ true) (same_text b a is) (itself b)) ∙ e))

-- a session with one name doesn't have another
not_named : (other name x : List ℕ) → same_name other name ≡ false → same_name x other ≡ true → same_name x name ≡ false
not_named other name x apart e = subst (λ y. same_name y name ≡ false) (sym (same_text x other e)) apart

-- ---- sessions by their names

module _ {P : Type 0} where
  -- a session whose state was set is found
  pub found : (name : List ℕ) (p : P) (sessions : List (List ℕ × P)) → places_of name (with_places name p sessions) ≡ Some p
  found name p [] = ap (λ t. cond t (Some p) None) (itself name)
  found name p (entry ∷ sessions) =
      elim (same_name entry.0 name) as (λ t. same_name entry.0 name ≡ t → places_of name (cond t ((name, p) ∷ sessions) (entry ∷ with_places name p sessions)) ≡ Some p) [
        | true ↦ λ e. ap (λ t. cond t (Some p) (places_of name sessions)) (itself name)
        | false ↦ λ e. ap (λ t. cond t (Some entry.1) (places_of name (with_places name p sessions))) e ∙ found name p sessions
      ] refl

  -- the later of two states stays
  pub put_twice : (name : List ℕ) (p q : P) (sessions : List (List ℕ × P)) → with_places name q (with_places name p sessions) ≡ with_places name q sessions
  put_twice name p q [] = ap (λ t. cond t ((name, q) ∷ []) ((name, p) ∷ (name, q) ∷ [])) (itself name)
  put_twice name p q (entry ∷ sessions) =
      elim (same_name entry.0 name) as (λ t. same_name entry.0 name ≡ t → with_places name q (cond t ((name, p) ∷ sessions) (entry ∷ with_places name p sessions)) ≡ cond t ((name, q) ∷ sessions) (entry ∷ with_places name q sessions)) [
        | true ↦ λ e. ap (λ t. cond t ((name, q) ∷ sessions) ((name, p) ∷ with_places name q sessions)) (itself name)
        | false ↦ λ e.
            ap (λ t. cond t ((name, q) ∷ with_places name p sessions) (entry ∷ with_places name q (with_places name p sessions))) e
            ∙ ap (λ rest. entry ∷ rest) (put_twice name p q sessions)
      ] refl

  module _ (other name : List ℕ) (apart : same_name other name ≡ false) where
    -- another session is found as before
    found_still : (q : P) (sessions : List (List ℕ × P)) → places_of name (with_places other q sessions) ≡ places_of name sessions
    found_still q [] = ap (λ t. cond t (Some q) None) apart
    found_still q (entry ∷ sessions) =
        elim (same_name entry.0 other) as (λ t. same_name entry.0 other ≡ t → places_of name (cond t ((other, q) ∷ sessions) (entry ∷ with_places other q sessions)) ≡ places_of name (entry ∷ sessions)) [
          | true ↦ λ e.
              ap (λ t. cond t (Some q) (places_of name sessions)) apart
              ∙ sym (ap (λ t. cond t (Some entry.1) (places_of name sessions)) (not_named other name entry.0 apart e))
          | false ↦ λ e. ap (λ o. cond (same_name entry.0 name) (Some entry.1) o) (found_still q sessions)
        ] refl

    -- two states set in either order, if the other session had appeared
    put_later : (q r : P) (entry : List ℕ × P) (sessions : List (List ℕ × P)) → same_name entry.0 other ≡ false → with_places name r (with_places other q sessions) ≡ with_places other q (with_places name r sessions)
        → with_places name r (entry ∷ with_places other q sessions) ≡ with_places other q (with_places name r (entry ∷ sessions))
    put_later q r entry sessions e rest =
        elim (same_name entry.0 name) as (λ t. cond t ((name, r) ∷ with_places other q sessions) (entry ∷ with_places name r (with_places other q sessions)) ≡ with_places other q (cond t ((name, r) ∷ sessions) (entry ∷ with_places name r sessions))) [
          | true ↦ sym (ap (λ t. cond t ((other, q) ∷ sessions) ((name, r) ∷ with_places other q sessions)) (turned_round other name apart))
          | false ↦
              ap (λ xs. entry ∷ xs) rest
              ∙ sym (ap (λ t. cond t ((other, q) ∷ with_places name r sessions) (entry ∷ with_places other q (with_places name r sessions))) e)
        ]

    put_both : (p q r : P) (sessions : List (List ℕ × P)) → places_of other sessions ≡ Some p → with_places name r (with_places other q sessions) ≡ with_places other q (with_places name r sessions)
    put_both p q r [] there = absurd cc
    put_both p q r (entry ∷ sessions) there =
        elim (same_name entry.0 other) as (λ t. same_name entry.0 other ≡ t → cond t (Some entry.1) (places_of other sessions) ≡ Some p
        → with_places name r (cond t ((other, q) ∷ sessions) (entry ∷ with_places other q sessions)) ≡ with_places other q (with_places name r (entry ∷ sessions))) [
          | true ↦ λ e _.
              ap (λ t. cond t ((name, r) ∷ sessions) ((other, q) ∷ with_places name r sessions)) apart
              ∙ sym (ap (λ t. with_places other q (cond t ((name, r) ∷ sessions) (entry ∷ with_places name r sessions))) (not_named other name entry.0 apart e)
              ∙ ap (λ t. cond t ((other, q) ∷ with_places name r sessions) (entry ∷ with_places other q (with_places name r sessions))) e)
          | false ↦ λ e left. put_later q r entry sessions e (put_both p q r sessions left)
        ] refl there

  -- the same number of sessions has appeared
  as_many : (other : List ℕ) (p q : P) (sessions : List (List ℕ × P)) → places_of other sessions ≡ Some p → length (with_places other q sessions) ≡ length sessions
  as_many other p q [] there = absurd cc
  as_many other p q (entry ∷ sessions) there =
      elim (same_name entry.0 other) as (λ t. cond t (Some entry.1) (places_of other sessions) ≡ Some p → length (cond t ((other, q) ∷ sessions) (entry ∷ with_places other q sessions)) ≡ suc (length sessions)) [
        | true ↦ λ _. refl
        | false ↦ λ left. ap suc (as_many other p q sessions left)
      ] there

-- ---- one line

module _ {P : Type 0} (semantics : Semantics P) (other : List ℕ) (p q : P) where
  -- the same result, with the other session state
  abbrev moved : LineResult P → LineResult P
  moved r = record r { script_state = with_session r.script_state other q }

  -- the line does the same, and the session keeps its state
  record Moves (there_result here_result : LineResult P) : Type 0 where
    moves : there_result ≡ moved here_result
    keeps : places_of other here_result.script_state.sessions ≡ Some p

  takes : (s : ScriptState P) (name : List ℕ) (d : Procedure (Turn P)) → same_name other name ≡ false → places_of other s.sessions ≡ Some p → Moves (takes_turn (with_session s other q) name d) (takes_turn s name d)
  takes s name d apart there =
      let r = (end_of_walk d s.history).places in
      record {
        moves = ap (λ sessions. record (takes_turn s name d) { script_state = record (takes_turn s name d).script_state { sessions = sessions } }) (put_both other name apart p q r s.sessions there);
        keeps = found_still name other (turned_round other name apart) r s.sessions ∙ there;
      }

  refuses : (s : ScriptState P) (text : List ℕ) → places_of other s.sessions ≡ Some p → Moves (line_of_refusal (with_session s other q) text) (line_of_refusal s text)
  refuses s text there = record { moves = refl; keeps = there }

  as_found : (s : ScriptState P) (name text : List ℕ) (skip : ℕ) (o : Option P) → same_name other name ≡ false → places_of other s.sessions ≡ Some p
      → Moves (executes_as semantics (with_session s other q) name text skip o) (executes_as semantics s name text skip o)
  as_found s name text skip (Some r) apart there = takes s name (semantics.does r text skip) apart there
  as_found s name text skip None apart there =
      let t = with_session s other q in
      let full : List ℕ = reply_text name (said.Fault (bare too_many_sessions)) in
      subst (λ many. Moves (cond (nat_lt many most_sessions) (takes_turn t name (semantics.does (semantics.opening many) text skip)) (line_of_refusal t full)) (executes_as semantics s name text skip None))
      (sym (as_many other p q s.sessions there))
      (elim (nat_lt (length s.sessions) most_sessions) as (λ b. Moves (cond b (takes_turn t name (semantics.does (semantics.opening (length s.sessions)) text skip)) (line_of_refusal t full)) (cond b (takes_turn s name (semantics.does (semantics.opening (length s.sessions)) text skip)) (line_of_refusal s full))) [
        | true ↦ takes s name (semantics.does (semantics.opening (length s.sessions)) text skip) apart there
        | false ↦ refuses s full there
      ])

  by_kind : (s : ScriptState P) (n : ℕ) (line : List ℕ) (kind : LineKind) → is_of_kind other line kind ≡ false → places_of other s.sessions ≡ Some p
      → Moves (executes_kind semantics (with_session s other q) n line kind) (executes_kind semantics s n line kind)
  by_kind s n line Blank apart there = record { moves = refl; keeps = there }
  by_kind s n line NotAscii apart there = record { moves = refl; keeps = there }
  by_kind s n line NoSession apart there = record { moves = refl; keeps = there }
  by_kind s n line (Stmt len skip end) apart there =
      let name = session_name line len skip in
      subst (λ o. Moves (executes_as semantics (with_session s other q) name (take end line) skip o) (executes_kind semantics s n line (Stmt len skip end)))
      (sym (found_still other name apart q s.sessions))
      (as_found s name (take end line) skip (places_of name s.sessions) apart there)

  one_line : (s : ScriptState P) (n : ℕ) (line : List ℕ) → is_line_of other line ≡ false → places_of other s.sessions ≡ Some p
      → Moves (executes semantics (with_session s other q) n line) (executes semantics s n line)
  one_line s n line apart there =
      let t = with_session s other q in
      elim (nat_lt longest_line (length line)) as (λ b. Moves (cond b (refused_line t n line_long) (executes_kind semantics t n line (line_kind line))) (cond b (refused_line s n line_long) (executes_kind semantics s n line (line_kind line)))) [
        | true ↦ record { moves = refl; keeps = there }
        | false ↦ by_kind s n line (line_kind line) apart there
      ]

  -- ---- a script

  all_lines : (s : ScriptState P) (n : ℕ) (lines : List (List ℕ)) → AllByRecursion (λ line. is_line_of other line ≡ false) lines → places_of other s.sessions ≡ Some p → OthersSeeNoPlaces semantics other p q s n lines
  all_lines s n [] apart there = record { text = refl; fault = refl; reads = refl; leaves = refl; keeps = there }
  all_lines s n (line ∷ lines) apart there =
      let one = one_line s n line apart.0 there in
      let here = executes semantics s n line in
      let rest = all_lines here.script_state (suc n) lines apart.1 one.keeps in
      record {
        text = ap (λ r. r.text ++ output semantics r.script_state (suc n) lines) one.moves ∙ ap (λ t. here.text ++ t) rest.text;
        fault = ap (λ r. r.fault || is_refused semantics r.script_state (suc n) lines) one.moves ∙ ap (λ t. here.fault || t) rest.fault;
        reads = ap (λ r. r.reads + reads_in semantics r.script_state (suc n) lines) one.moves ∙ ap (λ t. here.reads + t) rest.reads;
        leaves = ap (λ r. final_script_state semantics r.script_state (suc n) lines) one.moves ∙ rest.leaves;
        keeps = rest.keeps;
      }

pub lines_see_their_own_places : {P : Type 0} → LinesSeeTheirOwnPlaces P
lines_see_their_own_places semantics other p q s n lines apart there = all_lines semantics other p q s n lines apart there
