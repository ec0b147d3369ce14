-- What the reply to a line says: the step of its session, with each name resolved at the event.
use Rattle.std.specs.Prelude.{ℕ, List, length}
use Rattle.stmt_syntax.specs.declared.statements.Stmt.{Stmt}
use Rattle.stmt_reader.specs.Reading.{statement}
use Rattle.stmt_tokens.specs.Streams.{stream}
use Rattle.ts_sessions.specs.Procedures.{Procedure}
use Rattle.ts_sessions.specs.Places.{Places, Turn}
use Rattle.ts_sessions.specs.Step.{as_read, block_refusal, kind_of, named_here, unless}

-- a statement that the block lets pass has one read position, at which its names are resolved and its first event is
-- appended
abbrev pub replies : Places → ℕ → Stmt → Procedure (Turn Places)
replies p bytes stmt = unless p (block_refusal p.block (kind_of stmt)) (named_here p bytes stmt)

-- a line of a session with this state, as in its step
abbrev pub reply_to : Places → List ℕ → ℕ → Procedure (Turn Places)
reply_to p text skip = as_read p (replies p (length text)) (statement (stream text skip))
