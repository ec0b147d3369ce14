-- The sessions of a sorted input: at most 64, with good names, of which no two are the same.
use Rattle.std.proofs.Common.{◌≡◌, ◌≢◌, ℕ, suc, ◌<◌, ◌≤◌, Bool, true, false, cond, ◌||◌, List, [], ◌∷◌, ◌++◌, length, take, map, nat_lt, IsTrue, refl, sym, ap, ◌∙◌, subst, true≢false, arith}
use Rattle.std.specs.List.{All, AllPairs, list_any}
use Rattle.std.proofs.lemmas.Bool.{ltb-true}
use Rattle.std.proofs.lemmas.Cmp.{nat_list_eq_equiv}
use Rattle.std.proofs.lemmas.List.{get_or-map, length-map, length_push}
use Rattle.std.proofs.lemmas.List.Elements.{All-nil, All-push}
use Rattle.std.proofs.lemmas.List.Quantifiers.{all_pairs_push}
use Rattle.ts_schema.specs.Names.{is_name}
use Rattle.ts_io.specs.Lines.{lines_of}
use Rattle.ts_model.specs.Roster.{same_name}
use Rattle.stmt_tokens.specs.declared.lines.LineKind.{LineKind}
use Rattle.stmt_tokens.specs.declared.lines.LineKind.TheVariants.{Blank, NotAscii, NoSession, Stmt}
use Rattle.stmt_tokens.specs.Lines.{line_kind, session_name}
use Rattle.ts_model.specs.Numbers.{line_long, too_many_sessions}
use Rattle.result_text.specs.declared.replies.Said.TheVariants as said
use Rattle.result_text.specs.Replies.{line_fault_text, reply_text}
use Rattle.ts_sessions.specs.Script.{SessionLine, SessionScript}
use Rattle.ts_model.specs.Limits.{most_sessions}
use Rattle.stmt_syntax.specs.Limits.{longest_line}
use Rattle.ts_sessions.specs.Step.{bare}
use Rattle.par_lines.specs.declared.sessions.SessionLines.{SessionLines}
use Rattle.par_lines.specs.Sorted.{Sorted, appears_in, refuses, sorted_lines, sorts, sorts_all, sorts_as, sorts_kind, with_line}
use Rattle.par_lines.specs.Places.{scripts_of}
use Rattle.stmt_tokens.proofs.StatementLines.{statement_line}
use Rattle.par_lines.proofs.Passing.{any_mapped, none_at}

abbrev pub name_of : SessionScript → List ℕ
name_of script = script.name

pub record AreNames (names : List (List ℕ)) : Type 0 where
  pub few : length names ≤ most_sessions
  pub named : All (λ name. IsTrue (is_name name)) names
  pub apart : AllPairs (λ one other. one ≢ other) names

-- ---- one name more

names_push : (names : List (List ℕ)) (name : List ℕ) → IsTrue (is_name name) → length names < most_sessions → list_any (λ other. same_name other name) names ≡ false → AreNames names → AreNames (names ++ name ∷ [])
names_push names name good room new all = record {
  few = omega (arith, length_push names name);
  named = All-push (λ name. IsTrue (is_name name)) names name all.named good;
  apart = all_pairs_push (λ one other. one ≢ other) names name all.apart (λ k d l e.
      true≢false (sym (nat_list_eq_equiv.refl name) ∙ ap (λ other. same_name other name) (sym e) ∙ none_at (λ other. same_name other name) names new k d l));
}

-- names, and one that may be new
abbrev and_one : List ℕ → List (List ℕ) → Bool → List (List ℕ)
and_one name names known = cond known names (names ++ name ∷ [])

-- the names after a line of the session with a name
names_with : (name : List ℕ) (line : SessionLine) (scripts : List SessionScript) → map name_of (with_line name line scripts) ≡ and_one name (map name_of scripts) (appears_in name scripts)
names_with name line [] = refl
names_with name line (x ∷ scripts) = by (same_name x.name name) (appears_in name scripts) refl refl (names_with name line scripts)
  where
    first : (b : Bool) → same_name x.name name ≡ b → map name_of (with_line name line (x ∷ scripts)) ≡ cond b (x.name ∷ map name_of scripts) (x.name ∷ map name_of (with_line name line scripts))
    first true e = ap (λ b. map name_of (cond b (record x { lines = x.lines ++ line ∷ [] } ∷ scripts) (x ∷ with_line name line scripts))) e
    first false e = ap (λ b. map name_of (cond b (record x { lines = x.lines ++ line ∷ [] } ∷ scripts) (x ∷ with_line name line scripts))) e

    by : (a b : Bool) → same_name x.name name ≡ a → appears_in name scripts ≡ b → map name_of (with_line name line scripts) ≡ and_one name (map name_of scripts) (appears_in name scripts)
        → map name_of (with_line name line (x ∷ scripts)) ≡ and_one name (map name_of (x ∷ scripts)) (same_name x.name name || appears_in name scripts)
    by true b e f others = first true e ∙ sym (ap (λ a. and_one name (map name_of (x ∷ scripts)) (a || appears_in name scripts)) e)
    by false true e f others =
        first false e ∙ ap (λ l. x.name ∷ l) (others ∙ ap (and_one name (map name_of scripts)) f) ∙ sym (λ i. and_one name (map name_of (x ∷ scripts)) (e i || f i))
    by false false e f others =
        first false e ∙ ap (λ l. x.name ∷ l) (others ∙ ap (and_one name (map name_of scripts)) f) ∙ sym (λ i. and_one name (map name_of (x ∷ scripts)) (e i || f i))

-- ---- sorted lines

abbrev pub Named : Sorted → Type 0
Named s = AreNames (map name_of s.sessions)

named_as : (name : List ℕ) (line : SessionLine) (s : Sorted) → IsTrue (is_name name) → Named s → Named (sorts_as name line s)
named_as name line s good all = by (appears_in name s.sessions) (nat_lt (length s.sessions) most_sessions) refl refl
  where
    names : (b : Bool) → appears_in name s.sessions ≡ b → map name_of (with_line name line s.sessions) ≡ and_one name (map name_of s.sessions) b
    names b e = names_with name line s.sessions ∙ ap (and_one name (map name_of s.sessions)) e

    by : (a b : Bool) → appears_in name s.sessions ≡ a → nat_lt (length s.sessions) most_sessions ≡ b
        → Named (cond (a || b) (record s { sessions = with_line name line s.sessions }) (refuses (reply_text name (said.Fault (bare too_many_sessions))) s))
    by true b e f = subst AreNames (sym (names true e)) all
    by false true e f =
        let room = ltb-true (length s.sessions) most_sessions f in
        subst AreNames (sym (names false e))
        (names_push (map name_of s.sessions) name good (omega (arith, room, length-map s.sessions name_of)) (any_mapped name_of (λ other. same_name other name) s.sessions ∙ e) all)
    by false false e f = all

named_kind : (n : ℕ) (line : List ℕ) (s : Sorted) (kind : LineKind) → line_kind line ≡ kind → Named s → Named (sorts_kind n line s kind)
named_kind n line s Blank e all = all
named_kind n line s NotAscii e all = all
named_kind n line s NoSession e all = all
named_kind n line s (Stmt len skip end) e all = named_as (session_name line len skip) (record { text = take end line; skip = skip }) s (statement_line line len skip end e).named all

named_line : (n : ℕ) (line : List ℕ) (s : Sorted) → Named s → Named (sorts n line s)
named_line n line s all = by (nat_lt longest_line (length line))
  where
    by : (b : Bool) → Named (cond b (refuses (line_fault_text n (bare line_long)) s) (sorts_kind n line s (line_kind line)))
    by true = all
    by false = named_kind n line s (line_kind line) refl all

named_lines : (n : ℕ) (lines : List (List ℕ)) (s : Sorted) → Named s → Named (sorts_all n lines s)
named_lines n [] s all = all
named_lines n (line ∷ lines) s all = named_lines (suc n) lines (sorts n line s) (named_line n line s all)

pub named_input : (input : List ℕ) → Named (sorted_lines input)
named_input input = named_lines 1 (lines_of input) (record { refusals = []; sessions = [] }) (record { few = omega arith; named = All-nil (λ name. IsTrue (is_name name)); apart = λ i j d l m. absurd (omega arith) })

-- ---- the same for sessions by places

abbrev name_in : SessionLines → List ℕ
name_in session = session.name

pub record AreSorted (sessions : List SessionLines) : Type 0 where
  pub few : length sessions ≤ most_sessions
  pub named : All (λ session. IsTrue (is_name session.name)) sessions
  pub apart : AllPairs (λ one other. one.name ≢ other.name) sessions

same_names : (input : List ℕ) (sessions : List SessionLines) → map name_of (scripts_of input sessions) ≡ map name_in sessions
same_names input [] = refl
same_names input (x ∷ sessions) = ap (λ l. x.name ∷ l) (same_names input sessions)

pub sessions_named : (input : List ℕ) (sessions : List SessionLines) → scripts_of input sessions ≡ (sorted_lines input).sessions → AreSorted sessions
sessions_named input sessions same =
    let all : AreNames (map name_in sessions) = subst AreNames (sym (ap (map name_of) same) ∙ same_names input sessions) (named_input input) in
    let long = length-map sessions name_in in
    let at = λ (k : ℕ) (d : SessionLines) (l : k < length sessions). get_or-map name_in sessions k d d.name l in
    record {
      few = omega (arith, all.few, long);
      named = λ k d l. subst (λ name. IsTrue (is_name name)) (at k d l) (all.named k d.name (omega (arith, long)));
      apart = λ i j d l m e. all.apart i j d.name l (omega (arith, long)) (at i d (omega arith) ∙ e ∙ sym (at j d m));
    }
