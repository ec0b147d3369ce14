-- A statement of a session is none on policies.
use Rattle.std.proofs.Common.{◌≡◌, ℕ, true, false, List, codes, refl, subst}
use Rattle.std.specs.Prelude.{◌||◌, ◌&&◌, Result, Ok, Err}
use Rattle.std.specs.Str.{bytes_eq}
use Rattle.std.proofs.lemmas.Slice.Eq.{bytes_eq-Decides}
use Rattle.stmt_reader.specs.declared.faults.Fault.{Fault}
use Rattle.stmt_reader.specs.Reading.{bind, bucket, fold_rest, form, select_rest, statement, takes, token_parser, block}
use Rattle.stmt_tokens.specs.Streams.{Stream, ends, stops, ◌then◌, heads}
use Rattle.stmt_tokens.specs.Scan.{seen_token}
use Rattle.stmt_tokens.specs.Tokens.{Token, word, number, quoted, mark}
use Rattle.stmt_syntax.specs.declared.statements.Stmt.{Stmt}
use Rattle.ts_sessions.specs.Actors.{ReadsEvent}
use Rattle.policy_jobs.specs.Words.{adds, begins, refresh_word, retention_word, tick_word}

-- a statement was read
abbrev pub IsStatement : Result (Stmt × Stream) Fault → Type 0
IsStatement (Ok read) = Unit {0}
IsStatement (Err f) = ⊥

-- equal bytes
same_bytes : (v w : List ℕ) → bytes_eq v w ≡ true → v ≡ w
same_bytes v w e = (bytes_eq-Decides v w).0 e

-- no statement begins with TICK
no_tick : (at : ℕ) (s : Stream) → IsStatement (statement ((record { at = at; token = word (codes "tick") }) then s)) → ⊥
unfolding statement form bind takes token_parser block
no_tick at s e = e

-- nor with SELECT and a name that is no word of the grammar
no_refresh : (at to : ℕ) (s : Stream) → IsStatement (statement ((record { at = at; token = word (codes "select") }) then ((record { at = to; token = word (codes "add_continuous_aggregate_policy") }) then s))) → ⊥
unfolding statement form bind takes token_parser select_rest fold_rest bucket
no_refresh at to s e = e

no_retention : (at to : ℕ) (s : Stream) → IsStatement (statement ((record { at = at; token = word (codes "select") }) then ((record { at = to; token = word (codes "add_retention_policy") }) then s))) → ⊥
unfolding statement form bind takes token_parser select_rest fold_rest bucket
no_retention at to s e = e

-- ---- what comes next

by_name : (at to : ℕ) (v : List ℕ) (s : Stream) → IsStatement (statement ((record { at = at; token = word (codes "select") }) then ((record { at = to; token = word v }) then s))) → (bytes_eq v refresh_word || bytes_eq v retention_word) ≡ false
by_name at to v s e =
    let Reads : List ℕ → Type 0 = λ x. IsStatement (statement ((record { at = at; token = word (codes "select") }) then ((record { at = to; token = word x }) then s))) in
    elim (bytes_eq v refresh_word) as (λ t. bytes_eq v refresh_word ≡ t → (t || bytes_eq v retention_word) ≡ false) [
      | true ↦ λ f. absurd (no_refresh at to s (subst Reads (same_bytes v refresh_word f) e))
      | false ↦ λ _. elim (bytes_eq v retention_word) as (λ t. bytes_eq v retention_word ≡ t → t ≡ false) [
        | true ↦ λ f. absurd (no_retention at to s (subst Reads (same_bytes v retention_word f) e))
        | false ↦ λ _. refl
      ] refl
    ] refl

by_second : (at to : ℕ) (t : Token) (s : Stream) → IsStatement (statement ((record { at = at; token = word (codes "select") }) then ((record { at = to; token = t }) then s))) → adds (seen_token t) ≡ false
by_second at to (word v) s e = by_name at to v s e
by_second at to (number z) s e = refl
by_second at to (quoted v) s e = refl
by_second at to (mark m) s e = refl

by_rest : (at : ℕ) (s : Stream) → IsStatement (statement ((record { at = at; token = word (codes "select") }) then s)) → heads adds s ≡ false
by_rest at (ends p) e = refl
by_rest at (stops p) e = refl
by_rest at (t then s) e = by_second at t.at t.token s e

by_select : (at : ℕ) (w : List ℕ) (s : Stream) → IsStatement (statement ((record { at = at; token = word w }) then s)) → (bytes_eq w (codes "select") && heads adds s) ≡ false
by_select at w s e =
    elim (bytes_eq w (codes "select")) as (λ t. bytes_eq w (codes "select") ≡ t → (t && heads adds s) ≡ false) [
      | true ↦ λ f. by_rest at s (subst (λ x. IsStatement (statement ((record { at = at; token = word x }) then s))) (same_bytes w (codes "select") f) e)
      | false ↦ λ _. refl
    ] refl

by_word : (at : ℕ) (w : List ℕ) (s : Stream) → IsStatement (statement ((record { at = at; token = word w }) then s)) → (bytes_eq w tick_word || (bytes_eq w (codes "select") && heads adds s)) ≡ false
by_word at w s e =
    elim (bytes_eq w tick_word) as (λ t. bytes_eq w tick_word ≡ t → (t || (bytes_eq w (codes "select") && heads adds s)) ≡ false) [
      | true ↦ λ f. absurd (no_tick at s (subst (λ x. IsStatement (statement ((record { at = at; token = word x }) then s))) (same_bytes w tick_word f) e))
      | false ↦ λ _. by_select at w s e
    ] refl

by_token : (at : ℕ) (t : Token) (s : Stream) → IsStatement (statement ((record { at = at; token = t }) then s)) → begins ((record { at = at; token = t }) then s) ≡ false
unfolding begins
by_token at (word w) s e = by_word at w s e
by_token at (number z) s e = refl
by_token at (quoted w) s e = refl
by_token at (mark m) s e = refl

pub statements_begin_otherwise : (s : Stream) → IsStatement (statement s) → begins s ≡ false
unfolding begins
statements_begin_otherwise (ends p) e = refl
statements_begin_otherwise (stops p) e = refl
statements_begin_otherwise (t then s) e = by_token t.at t.token s e

event_said : (read : Result (Stmt × Stream) Fault) → ReadsEvent read → IsStatement read
event_said (Ok read) e = tt
event_said (Err f) e = absurd e

pub events_begin_otherwise : (s : Stream) → ReadsEvent (statement s) → begins s ≡ false
events_begin_otherwise s e = statements_begin_otherwise s (event_said (statement s) e)
