-- The sessions of a sorted input: each has its own valid name, and only lines of that session.
use Rattle.std.proofs.Common.{◌≡◌, ℕ, suc, ◌≤◌, Bool, true, false, cond, not, ◌&&◌, ◌||◌, ◌==◌, List, [], ◌∷◌, ◌++◌, length, take, filter, map, nat_lt, refl, sym, ap, ◌∙◌, subst, true≢false, arith}
use Rattle.std.specs.List.{AllByRecursion, list_all, list_any}
use Rattle.std.specs.Cmp.Lexicographic.{same_text}
use Rattle.std.specs.Prelude.{bytes_eq}
use Rattle.std.proofs.lemmas.Bool.{ltb-false}
use Rattle.std.proofs.lemmas.List.{take-take}
use Rattle.ts_schema.proofs.Cases.{and_first, and_second, by_test, same_test}
use Rattle.ts_io.specs.Lines.{lines_of, onto_first}
use Rattle.ts_model.specs.Roster.{same_name}
use Rattle.stmt_tokens.specs.declared.lines.LineKind.{LineKind}
use Rattle.stmt_tokens.specs.declared.lines.LineKind.TheVariants.{Blank, NotAscii, NoSession, Stmt}
use Rattle.stmt_syntax.specs.Limits.{longest_line}
use Rattle.stmt_tokens.specs.Lines.{line_kind, session_name}
use Rattle.ts_model.specs.Numbers.{line_long, too_many_sessions}
use Rattle.result_text.specs.declared.replies.Said.TheVariants as said
use Rattle.result_text.specs.Replies.{line_fault_text, reply_text}
use Rattle.ts_sessions.specs.Script.{SessionLine, SessionScript}
use Rattle.ts_model.specs.Limits.{most_sessions}
use Rattle.ts_sessions.specs.Step.{bare}
use Rattle.par_lines.specs.Sorted.{Sorted, appears_in, refuses, sorted_lines, sorts, sorts_all, sorts_as, sorts_kind, with_line}
use Rattle.transcript.specs.Ascii.{is_ascii_text}
use Rattle.transcript.specs.Laws.{IsSoundLine}
use Rattle.transcript.specs.Shape.{is_line_of, is_one_line, is_session_name}
use Rattle.transcript.proofs.Lines.{lines_sound}

-- ---- scripts

-- a line is one of the session with a name, is classified correctly, and is ASCII
pub record IsOwn (name : List ℕ) (line : SessionLine) : Type 0 where
  pub spoken : is_line_of name line.text ≡ true
  pub len : ℕ
  pub end : ℕ
  pub kind : line_kind line.text ≡ Stmt len line.skip end
  pub whole : take end line.text ≡ line.text
  pub ascii : is_ascii_text line.text ≡ true

pub record IsSoundScript (script : SessionScript) : Type 0 where
  pub named : is_session_name script.name ≡ true
  pub lines : AllByRecursion (IsOwn script.name) script.lines

-- a property of each element, and of one more
pub all_push : {X : Type 0} (P : X → Type 0) (xs : List X) (x : X) → AllByRecursion P xs → P x → AllByRecursion P (xs ++ x ∷ [])
all_push P [] x all p = (p, tt)
all_push P (y ∷ xs) x all p = (all.0, all_push P xs x all.1 p)

-- ---- one more line

module _ (name : List ℕ) (good : is_session_name name ≡ true) (line : SessionLine) (is_own : IsOwn name line) where
  sound_with : (scripts : List SessionScript) → AllByRecursion IsSoundScript scripts → AllByRecursion IsSoundScript (with_line name line scripts)
  sound_with [] all = (record { named = good; lines = (is_own, tt) }, tt)
  sound_with (x ∷ scripts) all = by (same_name x.name name) refl (sound_with scripts all.1)
    where
      by : (b : Bool) → same_name x.name name ≡ b → AllByRecursion IsSoundScript (with_line name line scripts)
          → AllByRecursion IsSoundScript (cond b (record x { lines = x.lines ++ line ∷ [] } ∷ scripts) (x ∷ with_line name line scripts))
      by true e rest =
          let same : name ≡ x.name = sym (same_text x.name name (sym e)) in
          (record { named = all.0.named; lines = all_push (IsOwn x.name) x.lines line all.0.lines (subst (λ n. IsOwn n line) same is_own) }, all.1)
      by false e rest = (all.0, rest)

abbrev pub AreSound : Sorted → Type 0
AreSound s = AllByRecursion IsSoundScript s.sessions

sound_as : (name : List ℕ) (line : SessionLine) (s : Sorted) → is_session_name name ≡ true → IsOwn name line → AreSound s → AreSound (sorts_as name line s)
sound_as name line s good is_own all = by (appears_in name s.sessions || nat_lt (length s.sessions) most_sessions)
  where
    by : (b : Bool) → AreSound (cond b (record s { sessions = with_line name line s.sessions }) (refuses (reply_text name (said.Fault (bare too_many_sessions))) s))
    by true = sound_with name good line is_own s.sessions all
    by false = all

sound_kind : (n : ℕ) (line : List ℕ) (s : Sorted) (kind : LineKind) → length line ≤ longest_line → is_one_line line ≡ true → line_kind line ≡ kind → AreSound s → AreSound (sorts_kind n line s kind)
sound_kind n line s Blank short one e all = all
sound_kind n line s NotAscii short one e all = all
sound_kind n line s NoSession short one e all = all
sound_kind n line s (Stmt len skip end) short one e all =
    let sound : IsSoundLine line len skip end = lines_sound line len skip end short one e in
    sound_as (session_name line len skip) (record { text = take end line; skip = skip }) s sound.named
    (record { spoken = sound.spoken; len = len; end = end; kind = sound.kind; whole = take-take end end line (omega arith); ascii = sound.ascii }) all

sound_line : (n : ℕ) (line : List ℕ) (s : Sorted) → is_one_line line ≡ true → AreSound s → AreSound (sorts n line s)
sound_line n line s one all = by (nat_lt longest_line (length line)) refl
  where
    by : (b : Bool) → nat_lt longest_line (length line) ≡ b → AreSound (cond b (refuses (line_fault_text n (bare line_long)) s) (sorts_kind n line s (line_kind line)))
    by true e = all
    by false e = sound_kind n line s (line_kind line) (ltb-false longest_line (length line) e) one refl all

-- ---- the lines of a text

abbrev IsOneLine : List ℕ → Type 0
IsOneLine line = is_one_line line ≡ true

onto_one : (b : ℕ) (lines : List (List ℕ)) → (b == 10) ≡ false → AllByRecursion IsOneLine lines → AllByRecursion IsOneLine (onto_first b lines)
onto_one b [] e all = ((λ i. not (e i) && true), tt)
onto_one b (line ∷ lines) e all = ((λ i. not (e i) && is_one_line line) ∙ all.0, all.1)

lines_one : (text : List ℕ) → AllByRecursion IsOneLine (lines_of text)
lines_one [] = tt
lines_one (b ∷ text) = by (b == 10) refl (lines_one text)
  where
    by : (t : Bool) → (b == 10) ≡ t → AllByRecursion IsOneLine (lines_of text) → AllByRecursion IsOneLine (cond t ([] ∷ lines_of text) (onto_first b (lines_of text)))
    by true e rest = (refl, rest)
    by false e rest = onto_one b (lines_of text) e rest

sound_lines : (n : ℕ) (lines : List (List ℕ)) (s : Sorted) → AllByRecursion IsOneLine lines → AreSound s → AreSound (sorts_all n lines s)
sound_lines n [] s one all = all
sound_lines n (line ∷ lines) s one all = sound_lines (suc n) lines (sorts n line s) one.1 (sound_line n line s one.0 all)

pub sound_input : (input : List ℕ) → AreSound (sorted_lines input)
sound_input input = sound_lines 1 (lines_of input) (record { refusals = []; sessions = [] }) (lines_one input) tt

-- the sessions that pass a test
pub sound_filter : (test : SessionScript → Bool) (scripts : List SessionScript) → AllByRecursion IsSoundScript scripts → AllByRecursion IsSoundScript (filter test scripts)
sound_filter test [] all = tt
sound_filter test (x ∷ scripts) all = by (test x) (sound_filter test scripts all.1)
  where
    by : (b : Bool) → AllByRecursion IsSoundScript (filter test scripts) → AllByRecursion IsSoundScript (cond b (x ∷ filter test scripts) (filter test scripts))
    by true rest = (all.0, rest)
    by false rest = rest
