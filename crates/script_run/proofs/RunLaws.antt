-- The rest of an input, if the source knows its bytes.
use Rattle.std.proofs.Common.{◌≡◌, ℕ, ◌+◌, ◌<◌, List, [], ◌∷◌, ◌++◌, Option, Some, None, IfSome, length, refl, sym, ap, subst, arith}
use Rattle.std.specs.Prelude.{⊤}
use Rattle.std.specs.Io.KnownBytes.{prepend_known}
use Rattle.ts_io.specs.Lines.{lines_within}
use Rattle.ts_io.specs.Reader.{ReadsLine, SkipsLong, SpendsAlike}
use Rattle.ts_io.specs.declared.limits.TheConstants.{INPUT_LIMIT, LINE_LIMIT}
use Rattle.ts_io.specs.declared.line_reader.LineEnd.TheVariants.{Line, LineLong, End, InputLong}
use Rattle.script_run.specs.Runs.{ReadWhole, executed_lines}

-- as many bytes are gone from the input as from its limit. R is true of the lines to execute and of those that are left
abbrev pub OfInput : Option (List ℕ) → ℕ → Option (List ℕ) → (List (List ℕ) → List (List ℕ) → Type 0) → Type 0
OfInput None n now R = ⊤
OfInput (Some input) n None R = ⊥
OfInput (Some input) n (Some text) R = (length input + n ≡ length text + INPUT_LIMIT) × R (executed_lines input) (lines_within n text)

-- at the start all lines are left
pub input_first : (start : Option (List ℕ)) (held : List ℕ) (n : ℕ) (R : List (List ℕ) → List (List ℕ) → Type 0) → held ≡ [] → n ≡ INPUT_LIMIT → ((all : List (List ℕ)) → R all all) → OfInput start n (prepend_known held start) R
input_first None held n R none whole first = tt
input_first (Some input) held n R none whole first = rw (none, whole) (refl, first (executed_lines input))

-- a run that ends before it began
pub ends_first : (start : Option (List ℕ)) (Q : List ℕ → Type 0) → ((input : List ℕ) → Q input) → IfSome start Q
ends_first None Q end = tt
ends_first (Some input) Q end = end input

end_of_all : (xs ys : List ℕ) → xs ++ ys ≡ [] → ys ≡ []
end_of_all [] ys e = e
end_of_all (x ∷ xs) ys e = absurd (omega (arith, ap length e))

-- ---- what each result of the reader leaves

module _ (R : List (List ℕ) → List (List ℕ) → Type 0) (n m : ℕ) where
  -- the line that was read is the next
  pub input_line : (S : List (List ℕ) → List (List ℕ) → Type 0) (start left new : Option (List ℕ)) (line shown : List ℕ) → shown ≡ line → ReadsLine Line n left m new line → SpendsAlike n left m new
      → ((all rest : List (List ℕ)) → R all (shown ∷ rest) → S all rest) → OfInput start n left R → OfInput start m new S
  input_line S None left new line shown e reads alike step t = tt
  input_line S (Some input) None new line shown e reads alike step t = absurd t
  input_line S (Some input) (Some text) None line shown e reads alike step t = absurd reads
  input_line S (Some input) (Some text) (Some rest) line shown e reads alike step t = (
    omega (arith, alike, t.0),
    step (executed_lines input) (lines_within m rest) (subst (λ l. R (executed_lines input) (l ∷ lines_within m rest)) (sym e) (subst (λ ls. R (executed_lines input) ls) reads.0 t.1)),
  )

  -- the line that is too long is the next
  skipped : (S : List (List ℕ) → List (List ℕ) → Type 0) (all lines rest : List (List ℕ)) → SkipsLong lines rest → ((all rest : List (List ℕ)) (line : List ℕ) → LINE_LIMIT < length line → R all (line ∷ rest) → S all rest) → R all lines → S all rest
  skipped S all [] rest s step r = absurd s
  skipped S all (line ∷ lines) rest s step r = subst (λ ls. S all ls) s.1 (step all lines line s.0 r)

  pub input_long_line : (S : List (List ℕ) → List (List ℕ) → Type 0) (start left new : Option (List ℕ)) (line : List ℕ) → ReadsLine LineLong n left m new line → SpendsAlike n left m new
      → ((all rest : List (List ℕ)) (line : List ℕ) → LINE_LIMIT < length line → R all (line ∷ rest) → S all rest) → OfInput start n left R → OfInput start m new S
  input_long_line S None left new line reads alike step t = tt
  input_long_line S (Some input) None new line reads alike step t = absurd t
  input_long_line S (Some input) (Some text) None line reads alike step t = absurd reads
  input_long_line S (Some input) (Some text) (Some rest) line reads alike step t =
      (omega (arith, alike, t.0), skipped S (executed_lines input) (lines_within n text) (lines_within m rest) reads step t.1)

  module _ (Q : List ℕ → Type 0) where
    -- a run that ends, whatever lines are left
    pub ends_anywhere : (start left : Option (List ℕ)) → ((input : List ℕ) (rest : List (List ℕ)) → R (executed_lines input) rest → Q input) → OfInput start n left R → IfSome start Q
    ends_anywhere None left end t = tt
    ends_anywhere (Some input) None end t = absurd t
    ends_anywhere (Some input) (Some text) end t = end input (lines_within n text) t.1

    -- a run that ends at the line that was read
    pub ends_at_line : (start left new : Option (List ℕ)) (line shown : List ℕ) → shown ≡ line → ReadsLine Line n left m new line
        → ((input : List ℕ) (rest : List (List ℕ)) → R (executed_lines input) (shown ∷ rest) → Q input) → OfInput start n left R → IfSome start Q
    ends_at_line None left new line shown e reads end t = tt
    ends_at_line (Some input) None new line shown e reads end t = absurd t
    ends_at_line (Some input) (Some text) None line shown e reads end t = absurd reads
    ends_at_line (Some input) (Some text) (Some rest) line shown e reads end t =
        end input (lines_within m rest) (subst (λ l. R (executed_lines input) (l ∷ lines_within m rest)) (sym e) (subst (λ ls. R (executed_lines input) ls) reads.0 t.1))

    -- a run that ends at a line that is too long
    skipped_last : (input : List ℕ) (lines rest : List (List ℕ)) → SkipsLong lines rest → ((input : List ℕ) (rest : List (List ℕ)) (line : List ℕ) → LINE_LIMIT < length line → R (executed_lines input) (line ∷ rest) → Q input) → R (executed_lines input) lines → Q input
    skipped_last input [] rest s end r = absurd s
    skipped_last input (line ∷ lines) rest s end r = end input lines line s.0 r

    pub ends_at_long_line : (start left new : Option (List ℕ)) (line : List ℕ) → ReadsLine LineLong n left m new line
        → ((input : List ℕ) (rest : List (List ℕ)) (line : List ℕ) → LINE_LIMIT < length line → R (executed_lines input) (line ∷ rest) → Q input) → OfInput start n left R → IfSome start Q
    ends_at_long_line None left new line reads end t = tt
    ends_at_long_line (Some input) None new line reads end t = absurd t
    ends_at_long_line (Some input) (Some text) None line reads end t = absurd reads
    ends_at_long_line (Some input) (Some text) (Some rest) line reads end t = skipped_last input (lines_within n text) (lines_within m rest) reads end t.1

    -- a run that ends with no line left
    pub ends_last : (start left rest : Option (List ℕ)) (held line : List ℕ) → ReadsLine End n left m (prepend_known held rest) line
        → ((input : List ℕ) → ReadWhole input rest → R (executed_lines input) [] → Q input) → OfInput start n left R → IfSome start Q
    ends_last None left rest held line reads end t = tt
    ends_last (Some input) None rest held line reads end t = absurd t
    ends_last (Some input) (Some text) None held line reads end t = absurd reads
    ends_last (Some input) (Some text) (Some bytes) held line reads end t =
        end input (record { within = omega (arith, ap length reads.1, t.0); at_end = end_of_all held bytes reads.2 }) (subst (λ ls. R (executed_lines input) ls) reads.0 t.1)

    -- a run that ends beyond the limit of the input
    pub ends_beyond : (start left new : Option (List ℕ)) (line : List ℕ) → ReadsLine InputLong n left m new line
        → ((input : List ℕ) → INPUT_LIMIT < length input → R (executed_lines input) [] → Q input) → OfInput start n left R → IfSome start Q
    ends_beyond None left new line reads end t = tt
    ends_beyond (Some input) None new line reads end t = absurd t
    ends_beyond (Some input) (Some text) None line reads end t = absurd reads
    ends_beyond (Some input) (Some text) (Some bytes) line reads end t =
        end input (omega (arith, reads.1, t.0)) (subst (λ ls. R (executed_lines input) ls) reads.0 t.1)
