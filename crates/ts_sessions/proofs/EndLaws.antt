-- How statements end: after calls in order, with the rows that they read.
use Rattle.std.proofs.Common.{ℕ, ◌<◌, ◌≤◌, ◌^◌, Bool, sym, arith}
use Rattle.std.specs.Prelude.{Result, Ok, Err}
use Rattle.std.specs.Result.{IsErr}
use Rattle.std.proofs.lemmas.Bool.{true≢false}
use Rattle.ts_schema.specs.Counts.{raised_by}
use Rattle.ts_schema.specs.declared.memory.NoMemory.{NoMemory}
use Rattle.ts_model.specs.States.{State}
use Rattle.ts_sessions.specs.declared.changes.Completion.{Completion}
use Rattle.ts_sessions.specs.Procedures.{Procedure}
use Rattle.ts_sessions.specs.Places.{Places, Turn}
use Rattle.ts_sessions.specs.Sessions.{Counts, Ends, EndsAt}
use Rattle.ts_sessions.specs.Walks.{Breaks}
use Rattle.ts_sessions.proofs.NameCheckWalks.{unraised}

-- ---- counts

pub raised_up : (m n : ℕ) → n < 2 ^ 64 → n ≤ raised_by m n
raised_up m n short = omega arith

counts_none : {A : Type 0} (result : Result A NoMemory) (n : ℕ) → n < 2 ^ 64 → Counts result 0 n n
counts_none (Ok a) n short = unraised n short
counts_none (Err e) n short = omega arith

-- a statement that read no rows
pub quiet : {T J : Type 0} (alone : Bool) (old : State) (procedure : Procedure (Turn Places)) (p : Places) (result : Result (Completion T J) NoMemory) (new : State) (n : ℕ) → n < 2 ^ 64 → EndsAt alone old procedure p 0 result new → Ends alone old procedure p result new n n
quiet alone old procedure p result new n short e = record { read = 0; ends = e; counted = counts_none result n short }

-- a statement of which nothing was begun
pub broken : {T J : Type 0} (alone : Bool) (old : State) (procedure : Procedure (Turn Places)) (p : Places) (e : NoMemory) (new : State) (before after : ℕ) → before ≤ after → Breaks alone old procedure new → Ends {T = T} {J = J} alone old procedure p (Err e) new before after
broken alone old procedure p e new before after le b = record { read = 0; ends = b; counted = le }

-- ---- early ends out of memory

pub broken_by : {T J : Type 0} (alone : Bool) (old : State) (procedure : Procedure (Turn Places)) (p : Places) (result : Result (Completion T J) NoMemory) (new : State) (before after : ℕ) → IsErr result → before ≤ after → Breaks alone old procedure new → Ends alone old procedure p result new before after
broken_by alone old procedure p (Ok t) new before after i le b = absurd (true≢false (sym i))
broken_by alone old procedure p (Err e) new before after i le b = record { read = 0; ends = b; counted = le }
