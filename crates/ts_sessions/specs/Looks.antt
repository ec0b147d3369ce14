-- The read positions that a reply prints.
use Rattle.std.specs.Prelude.{ℕ, zero, suc, Bool, true, false, cond, List, [], ◌∷◌}
use Rattle.ts_model.specs.declared.outcomes.Refusal.{Refusal}
use Rattle.result_text.specs.declared.refusals.Tail.{Tail}
use Rattle.result_text.specs.declared.refusals.Tail.TheVariants.{Bare, Place, Position, Finish, Count, Bytes}
use Rattle.result_text.specs.declared.replies.Said.{Said}
use Rattle.result_text.specs.declared.replies.Said.TheVariants as said
use Rattle.result_text.specs.Refusals.{entry_of}

-- the position directly before an event with this number
abbrev pub before : ℕ → ℕ
before zero = zero
before (suc p) = p

-- the text of a refusal with this tail has the read position
abbrev pub has_position : Tail → Bool
has_position Bare = false
has_position Place = false
has_position Position = true
has_position Finish = true
has_position Count = true
has_position Bytes = true

-- the text of a refusal with this code has the read position
abbrev pub shows_position : ℕ → Bool
shows_position code = has_position (entry_of code).tail

-- a refusal prints its read position, which counts twice. A refresh that was cut may have been refused at its snapshot
-- or at its finish, and its reply doesn't say which. But a snapshot at the position of the finish is refused alike
abbrev pub refusal_told : Refusal → List ℕ → List ℕ
refusal_told r more = cond (shows_position r.code) (r.pos ∷ r.pos ∷ more) more

-- the read positions that a line of a reply prints, and then those of the later lines. No line follows an answer
abbrev pub told_before : Said → List ℕ → List ℕ
told_before (said.Table pos) more = before pos ∷ more
told_before (said.Hypertable pos) more = before pos ∷ more
told_before (said.View pos) more = before pos ∷ more
told_before (said.Mode pos) more = before pos ∷ more
told_before (said.Commit done) more = before done.pos ∷ more
told_before said.Queued more = more
told_before (said.Refresh cut pos snap span min) more = before cut ∷ snap ∷ before pos ∷ more
told_before (said.Nothing pos) more = pos ∷ more
told_before (said.Cut cut span min) more = before cut ∷ more
told_before (said.Snap cut snap) more = snap ∷ more
told_before (said.Finish cut pos snap) more = before pos ∷ more
told_before said.Begin more = more
told_before (said.BeginRead pos) more = pos ∷ more
told_before said.CommitEmpty more = more
told_before said.Rollback more = more
told_before said.End more = more
told_before (said.Answered answer pos queue min) more = pos ∷ []
told_before (said.Policy number pos) more = pos ∷ more
told_before (said.Tick time due) more = more
told_before (said.Fault refusal) more = refusal_told refusal more

-- the read positions that a reply prints, in order
abbrev pub looks_told : List Said → List ℕ
looks_told [] = []
looks_told (s ∷ lines) = told_before s (looks_told lines)
