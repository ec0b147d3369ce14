use Rattle.std.specs.Prelude.{◌≡◌, Result, Ok, Err}
use Rattle.stmt_tokens.specs.Streams.{Stream}
use Rattle.stmt_reader.specs.declared.faults.Fault.{Fault}
use Rattle.stmt_reader.specs.declared.faults.Fault.TheVariants as faults
use Rattle.stmt_syntax.specs.declared.statements.Stmt.{Stmt as Statement}
use Rattle.stmt_reader.specs.declared.reading.ReadStmt.{ReadStmt}
use Rattle.stmt_reader.specs.declared.reading.ReadStmt.TheVariants.{Stmt, NoToken, Syntax, BadNumber, NoMemory}

-- the fault of an answer
abbrev pub IsFault : Fault → Result (Statement × Stream) Fault → Type 0
IsFault f read = read ≡ Err f

-- the statement of what was read
abbrev pub IsRead : Statement → Result (Statement × Stream) Fault → Type 0
IsRead s (Ok x) = x.0 ≡ s
IsRead s (Err f) = ⊥

-- an answer is the result of reading, unless memory ran out
abbrev pub Answers : ReadStmt → Result (Statement × Stream) Fault → Type 0
Answers (Stmt s) read = IsRead s read
Answers (NoToken p) read = IsFault (faults.NoToken p) read
Answers (Syntax p) read = IsFault (faults.Syntax p) read
Answers (BadNumber p) read = IsFault (faults.BadNumber p) read
Answers NoMemory read = Unit {0}
