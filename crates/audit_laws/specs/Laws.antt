-- What a parallel run leaves, and its audit.
use Rattle.std.specs.Prelude.{◌≡◌, ◌⊎◌, ◌<◌, ◌^◌, ℕ, true, false, List, None}
use Rattle.ts_model.specs.Allowed.{all_allowed}
use Rattle.ts_model.specs.History.{History, position}
use Rattle.ts_model.specs.States.{State, stands_still}
use Rattle.ts_sessions.specs.Places.{no_places}
use Rattle.ts_sessions.specs.Replies.{reply_to}
use Rattle.policy_jobs.specs.Turns.{policy_does}
use Rattle.policy_jobs.specs.declared.policies.Policy.{Policy}
use Rattle.par_lines.specs.Sorted.{sorted_lines}
use Rattle.par_run.specs.Crews.{LinesRan}
use Rattle.par_run.specs.Outputs.{Output, transcript_in}
use Rattle.transcript.specs.Text.{transcript_text}
use Rattle.transcript.specs.declared.transcripts.Transcript.{Transcript}
use Rattle.audit.specs.Answers.{Answers, reply_count}
use Rattle.audit.specs.Explained.{Explained}
use Rattle.audit.specs.Lines.{first_policy}
use Rattle.audit.specs.declared.answers.Audit.{Audit}
use Rattle.audit.specs.declared.answers.Audit.TheVariants.{Yes, NoMemory}

-- over an opening history a worker for each session ran the lines of an input. Each session began with these policies.
-- They left a state and an output, and read this many stored rows
abbrev pub InputRan : History → List ℕ → List Policy → State → Output → ℕ → Type 0
InputRan opening input policies new out reads =
    LinesRan (policy_does reply_to (λ p. p.block)) (record { inner = no_places; policies = policies }) opening
    (sorted_lines input) new out reads

-- a history explains a transcript, unless a line of it is a statement on policies
abbrev pub ExplainedUnlessPolicies : History → Transcript → Type 0
ExplainedUnlessPolicies all t = first_policy t.sessions ≡ None → Explained all t

-- the history that a run left explains its transcript, if the store didn't stop
abbrev pub RunsAreExplained : Type 0
RunsAreExplained =
    (opening : History) (input : List ℕ) (policies : List Policy) (new : State) (out : Output) (reads : ℕ)
    → InputRan opening input policies new out reads → stands_still new ≡ false
    → ExplainedUnlessPolicies new.history (transcript_in (position opening) out)

-- an audit of such a transcript's text, over the history that the run left, answers YES with the number of replies,
-- unless memory runs out
abbrev pub AuditsSayYes : Type 0
AuditsSayYes =
    (opening : History) (input : List ℕ) (policies : List Policy) (new : State) (out : Output) (reads : ℕ)
    (audit : Audit)
    → InputRan opening input policies new out reads → stands_still new ≡ false → all_allowed new.history ≡ true
    → position opening < 2 ^ 64 → first_policy (transcript_in (position opening) out).sessions ≡ None
    → Answers new.history (transcript_text (transcript_in (position opening) out)) audit
    → (audit ≡ Yes (reply_count (transcript_in (position opening) out))) ⊎ (audit ≡ NoMemory)
