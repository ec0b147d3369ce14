-- The texts of replies.
use Rattle.std.specs.Prelude.{ℕ, List, ◌++◌, codes, decimal}
use Rattle.std.specs.Fmt.{signed_decimal}
use Rattle.ts_model.specs.declared.outcomes.Refusal.{Refusal}
use Rattle.result_text.specs.declared.replies.Said.{Said}
use Rattle.result_text.specs.declared.replies.Said.TheVariants.{Table, Hypertable, View, Mode, Commit, Queued, Refresh, Nothing, Cut, Snap, Finish, Begin, BeginRead, CommitEmpty, Rollback, End, Answered, Policy, Tick, Fault}
use Rattle.result_text.specs.Answers.{answer_lines}
use Rattle.result_text.specs.Refusals.{refusal_text}
use Rattle.result_text.specs.Spans.{span_end}

-- a refresh by its cut, the event that finished it and its snapshot
abbrev pub refresh_head : ℕ → ℕ → ℕ → List ℕ
refresh_head cut pos snap =
    codes "REFRESH " ++ decimal cut ++ codes " @" ++ decimal pos ++ codes " snap " ++ decimal snap

-- the text of a reply after the session's name
abbrev pub said_text : Said → List ℕ
said_text (Table pos) = codes "TABLE @" ++ decimal pos ++ codes "\n"
said_text (Hypertable pos) = codes "HYPERTABLE @" ++ decimal pos ++ codes "\n"
said_text (View pos) = codes "VIEW @" ++ decimal pos ++ codes "\n"
said_text (Mode pos) = codes "MODE @" ++ decimal pos ++ codes "\n"
said_text (Commit done) =
    codes "COMMIT @" ++ decimal done.pos ++ codes " +" ++ decimal done.inserted ++ codes " -" ++ decimal done.removed
    ++ codes "\n"
said_text Queued = codes "QUEUED\n"
said_text (Refresh cut pos snap span min) = refresh_head cut pos snap ++ span_end min span
said_text (Nothing pos) = codes "NOTHING @" ++ decimal pos ++ codes "\n"
said_text (Cut cut span min) = (codes "CUT " ++ decimal cut) ++ span_end min span
said_text (Snap cut snap) = codes "SNAP " ++ decimal cut ++ codes " @" ++ decimal snap ++ codes "\n"
said_text (Finish cut pos snap) =
    codes "FINISH " ++ decimal cut ++ codes " @" ++ decimal pos ++ codes " snap " ++ decimal snap ++ codes "\n"
said_text Begin = codes "BEGIN\n"
said_text (BeginRead pos) = codes "BEGIN @" ++ decimal pos ++ codes "\n"
said_text CommitEmpty = codes "COMMIT EMPTY\n"
said_text Rollback = codes "ROLLBACK\n"
said_text End = codes "END\n"
said_text (Answered answer pos queue min) = answer_lines answer pos queue min
said_text (Policy number pos) = codes "POLICY " ++ decimal number ++ codes " @" ++ decimal pos ++ codes "\n"
said_text (Tick time due) = codes "TICK " ++ signed_decimal time ++ codes " due " ++ decimal due ++ codes "\n"
said_text (Fault refusal) = refusal_text refusal

-- a reply of a session
abbrev pub reply_text : List ℕ → Said → List ℕ
reply_text session said = session ++ codes ": " ++ said_text said

-- a refusal of a line that has no session, by the line's number
abbrev pub line_fault_text : ℕ → Refusal → List ℕ
line_fault_text line refusal = codes "line " ++ decimal line ++ codes ": " ++ refusal_text refusal
