-- What scripts write and append, over the history with which a journal opens.
use Rattle.std.specs.Prelude.{ℕ, Bool, List, []}
use Rattle.ts_model.specs.History.{History}
use Rattle.ts_sessions.specs.Places.{Block, Places, Turn, no_places}
use Rattle.ts_sessions.specs.Procedures.{Procedure}
use Rattle.ts_sessions.specs.Replies.{reply_to}
use Rattle.ts_sessions.specs.Script.{Semantics, session_semantics}
use Rattle.policy_jobs.specs.Turns.{PolicyPlaces, policy_does, policy_semantics}
use Rattle.script_run.specs.Runs.{executed_lines, has_fault, history_of, output_of, result_after, reads_of}

-- what the lines of the program mean: those of sessions with policies
abbrev pub program_semantics : Semantics (PolicyPlaces Places)
program_semantics = policy_semantics (λ p. p.block) session_semantics

-- what the replies to these lines say
abbrev pub program_replies : PolicyPlaces Places → List ℕ → ℕ → Procedure (Turn (PolicyPlaces Places))
program_replies = policy_does reply_to (λ p. p.block)

-- the block that a session is in
abbrev pub block_in : PolicyPlaces Places → Block
block_in p = p.inner.block

-- the state of a session at its first line
abbrev pub first_places : PolicyPlaces Places
first_places = record { inner = no_places; policies = [] }

-- the replies to lines
abbrev pub replies_of : History → List (List ℕ) → List ℕ
replies_of h lines = output_of program_semantics h lines

-- the reply to a line after these lines
abbrev pub reply_after : History → List (List ℕ) → List ℕ → List ℕ
reply_after h lines line = (result_after program_semantics h lines line).text

-- the history with the events that the lines append
abbrev pub history_after : History → List (List ℕ) → History
history_after h lines = history_of program_semantics h lines

-- how many stored rows their answers and refreshes read
abbrev pub rows_read : History → List (List ℕ) → ℕ
rows_read h lines = reads_of program_semantics h lines

-- whether one of the replies to a script is a FAULT
abbrev pub is_faulted : History → List ℕ → Bool
is_faulted h input = has_fault program_semantics h (executed_lines input)
