-- What is true of the statement of a text.
use Rattle.std.specs.Prelude.{◌≡◌, ℕ, ◌≤◌, List, length, Ok}
use Rattle.stmt_syntax.specs.Written.{IsShaped, IsWritten}
use Rattle.stmt_syntax.specs.declared.statements.Stmt.{Stmt}
use Rattle.stmt_tokens.specs.Streams.{Stream, stream}
use Rattle.stmt_reader.specs.Grammar.{statement}
use Rattle.stmt_reader.specs.Reading.{statement as reading}
use Rattle.stmt_reader.specs.Refusals.{IsSaid}
use Rattle.stmt_reader.specs.declared.reading.ReadStmt.{ReadStmt}
use Rattle.stmt_reader.specs.declared.reading.ReadStmt.TheVariants as reads

-- what is true of the statement of an answer
abbrev pub OfStatement : (Stmt → Type 0) → ReadStmt → Type 0
OfStatement P (reads.Stmt s) = P s
OfStatement P (reads.NoToken p) = Unit {0}
OfStatement P (reads.Syntax p) = Unit {0}
OfStatement P (reads.BadNumber p) = Unit {0}
OfStatement P reads.NoMemory = Unit {0}

-- each statement that the grammar finds in a text is whole, and no longer than the text; it is proper if
-- reading returns it
pub record StatementsAreWritten : Type 0 where
  pub shaped : (text : List ℕ) (skip : ℕ) (s : Stmt) → skip ≤ length text → IsSaid statement (stream text skip) s
      → IsShaped (length text) s
  pub read :
      (text : List ℕ) (skip : ℕ) (s : Stmt) (left : Stream) → skip ≤ length text
      → reading (stream text skip) ≡ Ok (s, left) → IsWritten (length text) s
