-- Each line of an input is sorted by its kind, and then the later ones.
use Rattle.std.proofs.Common.{◌≡◌, ℕ, suc, ◌+◌, ◌-◌, ◌≤◌, false, cond, List, ◌∷◌, ◌++◌, length, take, drop, nat_lt, sym, ap, ◌∙◌, le-ltb, arith, length-take}
use Rattle.std.proofs.lemmas.List.{drop-drop, drop_all, take-take, take_rest}
use Rattle.ts_io.specs.Lines.{lines_of}
use Rattle.ts_model.specs.declared.outcomes.Refusal.{Refusal}
use Rattle.stmt_tokens.specs.declared.lines.LineKind.{LineKind}
use Rattle.stmt_tokens.specs.declared.lines.LineKind.TheVariants.{Stmt}
use Rattle.stmt_tokens.specs.Lines.{line_kind, session_name, IsStatementLine}
use Rattle.ts_model.specs.Numbers.{line_long}
use Rattle.stmt_syntax.specs.Limits.{longest_line}
use Rattle.result_text.specs.Replies.{line_fault_text}
use Rattle.ts_sessions.specs.Script.{SessionLine}
use Rattle.ts_sessions.specs.Step.{bare}
use Rattle.par_lines.specs.declared.sessions.LinePlace.{LinePlace}
use Rattle.par_lines.specs.declared.sessions.SessionLines.{SessionLines}
use Rattle.par_lines.specs.Sorted.{Sorted, refuses, sorts, sorts_all, sorts_as, sorts_kind}
use Rattle.par_lines.specs.Places.{line_at, scripts_of, IsLineWithin}
use Rattle.par_lines.proofs.Adding.{state}
use Rattle.stmt_tokens.proofs.StatementLines.{statement_line}

-- ---- a line with a length, from a place on

module _ (input : List ℕ) (from len n : ℕ) (short : len ≤ longest_line) (refusals : List ℕ) (sessions : List SessionLines) where
  abbrev line : List ℕ
  line = take len (drop from input)

  -- the line as cut out of the input
  abbrev cut : List ℕ
  cut = take (from + len - from) (drop from input)

  abbrev before : Sorted
  before = state refusals (scripts_of input sessions)

  cut_is : cut ≡ line
  cut_is = ap (λ k. take k (drop from input)) (let e : from + len - from ≡ len = omega arith in e)

  pub sorted_kind : (kind : LineKind) (after : Sorted) → kind ≡ line_kind cut → after ≡ sorts_kind n line before kind → after ≡ sorts n line before
  sorted_kind kind after e h =
      let few : length line ≤ longest_line = omega (arith, length-take len (drop from input)) in
      let fits : nat_lt longest_line (length line) ≡ false = le-ltb longest_line (length line) few in
      h ∙ ap (sorts_kind n line before) (e ∙ ap line_kind cut_is)
      ∙ sym (ap (λ b. cond b (refuses (line_fault_text n (bare line_long)) before) (sorts_kind n line before (line_kind line))) fits)

  pub sorted_refusal : (kind : LineKind) (code : ℕ) (refusal : Refusal) (after : List ℕ) → kind ≡ line_kind cut → refuses (line_fault_text n (bare code)) before ≡ sorts_kind n line before kind
      → refusal ≡ bare code → after ≡ refusals ++ line_fault_text n refusal → state after (scripts_of input sessions) ≡ sorts n line before
  sorted_refusal kind code refusal after e refused same put =
      sorted_kind kind (state after (scripts_of input sessions)) e
      (ap (λ text. state text (scripts_of input sessions)) (put ∙ ap (λ r. refusals ++ line_fault_text n r) same) ∙ refused)

  module _ (name_len skip end : ℕ) (kind : Stmt name_len skip end ≡ line_kind cut) where
    abbrev place : LinePlace
    place = record { from = from; len = end; skip = skip }

    pub statement : IsStatementLine cut name_len skip end
    statement = statement_line cut name_len skip end (sym kind)

    ends_within : end ≤ len
    ends_within = let h = statement in omega (arith, h.within, length-take (from + len - from) (drop from input))

    pub sorted_statement : (name : List ℕ) (after : Sorted) → name ≡ session_name cut name_len skip → after ≡ sorts_as name (line_at input place) before → after ≡ sorts n line before
    sorted_statement name after named h =
        let names : name ≡ session_name line name_len skip = named ∙ ap (λ l. session_name l name_len skip) cut_is in
        let text : take end (drop from input) ≡ take end line = sym (take-take end len (drop from input) ends_within) in
        let put : SessionLine = record { text = take end line; skip = skip } in
        let same : line_at input place ≡ put = (λ i. record { text = text i; skip = skip }) in
        sorted_kind (Stmt name_len skip end) after kind (h ∙ (λ i. sorts_as (names i) (same i) before))

    pub statement_within : IsLineWithin (from + len) place
    statement_within = let h = statement in record { inside = omega (arith, ends_within); statement = h.statement; short = omega (arith, ends_within) }

-- ---- the lines from a place on

-- the bytes from a place on
abbrev pub rest : List ℕ → ℕ → List ℕ
rest input from = take (length input - from) (drop from input)

pub lines_on : (input : List ℕ) (from len n : ℕ) (old new all : Sorted) → lines_of (rest input from) ≡ take len (rest input from) ∷ lines_of (drop (len + 1) (rest input from))
    → new ≡ sorts n (take len (drop from input)) old → sorts_all n (lines_of (drop from input)) old ≡ all → sorts_all (n + 1) (lines_of (drop (from + (len + 1)) input)) new ≡ all
lines_on input from len n old new all first step so_far =
    let whole = take_rest input from in
    let split : lines_of (drop from input) ≡ take len (drop from input) ∷ lines_of (drop (len + 1) (drop from input)) =
    ap lines_of (sym whole) ∙ first ∙ (λ i. take len (whole i) ∷ lines_of (drop (len + 1) (whole i))) in
    let next : n + 1 ≡ suc n = omega arith in
    (λ i. sorts_all (next i) (lines_of (sym (drop-drop (len + 1) from input) i)) (step i))
    ∙ sym (ap (λ lines. sorts_all n lines old) split) ∙ so_far

pub lines_end : (input : List ℕ) (from n : ℕ) (s all : Sorted) → length input ≤ from → sorts_all n (lines_of (drop from input)) s ≡ all → s ≡ all
lines_end input from n s all over so_far = sym (ap (λ text. sorts_all n (lines_of text) s) (drop_all from input over)) ∙ so_far
