-- What reading a text returns.
use Rattle.std.specs.Prelude.{◌≡◌, ℕ, Bool, true, false, List, length, ◌≤◌, Result, Ok, Err}
use Rattle.stmt_tokens.specs.Streams.{Stream, stream}
use Rattle.stmt_reader.specs.Refusals.{IsSaid, Refuses, First, Verdict}
use Rattle.stmt_reader.specs.declared.faults.Fault.{Fault}
use Rattle.policy_jobs.specs.Words.{begins}
use Rattle.policy_jobs.specs.Grammar.{statement}
use Rattle.policy_jobs.specs.Reading.{statement as reading}
use Rattle.policy_jobs.specs.declared.statements.PolicyStmt.{PolicyStmt}
use Rattle.policy_jobs.specs.declared.reading.PolicyRead.{PolicyRead}
use Rattle.policy_jobs.specs.declared.reading.PolicyRead.TheVariants as reads

-- the statement that was read
abbrev pub IsRead : PolicyStmt → Result (PolicyStmt × Stream) Fault → Type 0
IsRead s (Ok x) = x.0 ≡ s
IsRead s (Err f) = ⊥

-- the result, by what the tokens begin with and what reading returns, unless memory ran out
abbrev pub Answers : PolicyRead → Bool → Result (PolicyStmt × Stream) Fault → Type 0
Answers (reads.Stmt a) begun read = (begun ≡ true) × IsRead a read
Answers (reads.Fault f) begun read = (begun ≡ true) × (read ≡ Err f)
Answers reads.Other begun read = begun ≡ false
Answers reads.NoMemory begun read = Unit {0}

-- what the grammar says of a result: the statement if the tokens are one, the first fault if they begin as one, and
-- otherwise no statement
abbrev pub Judges : Stream → PolicyRead → Type 0
Judges s (reads.Stmt a) = IsSaid statement s a × ((g : Fault) → Refuses statement s g → ⊥)
Judges s (reads.Fault f) = (begins s ≡ true) × First statement s f
Judges s reads.Other = (begins s ≡ false) × ((a : PolicyStmt) → IsSaid statement s a → ⊥)
Judges s reads.NoMemory = Unit {0}

-- what reading returns for each text is what the grammar says of it
abbrev pub ReadsByTheGrammar : Type 0
ReadsByTheGrammar =
    (text : List ℕ) (skip : ℕ) → skip ≤ length text
    → Verdict statement (stream text skip) (reading (stream text skip))
