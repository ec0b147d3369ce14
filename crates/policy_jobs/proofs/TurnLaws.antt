-- The outcome of a line of a session with policies, by the outcomes of its parts.
use Rattle.std.proofs.Common.{◌≡◌, ◌∙◌, ℕ, ◌<◌, ◌^◌, Bool, true, false, List, [], ◌∷◌, ◌++◌, sym, refl, ap, subst, arith}
use Rattle.std.specs.Prelude.{Ok}
use Rattle.std.proofs.lemmas.Bool.{true≢false}
use Rattle.std.proofs.lemmas.List.{append-nil}
use Rattle.ts_model.specs.History.{History}
use Rattle.ts_model.specs.States.{State}
use Rattle.result_text.specs.declared.replies.Said.{Said}
use Rattle.ts_sessions.specs.Made.{made_by}
use Rattle.ts_sessions.specs.Places.{Turn, turns}
use Rattle.ts_sessions.specs.Procedures.{Procedure, sees, ends, ending_as}
use Rattle.ts_sessions.specs.Sessions.{AnswersSo, IsReplied, IsReply, Reports, Stepped}
use Rattle.ts_sessions.specs.Walks.{Sees}
use Rattle.ts_sessions.specs.declared.replies.Reply.{Reply}
use Rattle.ts_sessions.specs.declared.replies.StepEnd.{StepEnd}
use Rattle.ts_sessions.specs.declared.replies.StepEnd.TheVariants as steps
use Rattle.ts_sessions.proofs.MadeLaws.{seen_made}
use Rattle.ts_sessions.proofs.NameCheckWalks.{unraised}
use Rattle.ts_sessions.proofs.WalkLaws.{breaks_first, walks_as}
use Rattle.policy_jobs.specs.declared.policies.Policy.{Policy}
use Rattle.policy_jobs.specs.declared.runs.TickOutcome.{TickOutcome}
use Rattle.policy_jobs.specs.Runs.{RunsTo}
use Rattle.policy_jobs.specs.Turns.{beside}

-- ---- one line

-- a reply of one line that names no event
pub line_reported : {P : Type 0} (alone : Bool) (s : State) (name : List ℕ) (p : P) (line : Said) (reply : Reply) (n : ℕ) → n < 2 ^ 64 → made_by line ≡ [] → IsReply name (line ∷ []) reply → Reports alone false s (ends (turns p line)) name reply s p n n
line_reported alone s name p line reply n short no_event is =
    let nothing : reply.events ≡ [] = is.names ∙ ap (λ m. m ++ []) no_event in
    record {
      said = line ∷ [];
      read = 0;
      walks = (refl, refl, refl);
      text = is.text;
      fault = is.fault;
      names = is.names;
      made = sym (append-nil s.made) ∙ ap (λ m. s.made ++ m) (sym nothing);
      counted = unraised n short;
    }

pub line_stepped : {P : Type 0} (alone : Bool) (s : State) (name : List ℕ) (p : P) (line : Said) (end : StepEnd) (n : ℕ) → n < 2 ^ 64 → made_by line ≡ [] → AnswersSo name (line ∷ []) false end → Stepped alone s (ends (turns p line)) name end s p n n
line_stepped alone s name p line (steps.Reply r) n short no_event a = line_reported alone s name p line r n short no_event a.1
line_stepped alone s name p line (steps.DiskFault r) n short no_event a = absurd (true≢false (sym a.0))
line_stepped alone s name p line steps.NoMemory n short no_event a = (refl, omega arith)

-- ---- after a read

reports_seen : {P : Type 0} (alone failed : Bool) (old mid : State) (shown : History → Bool) (f : History → Procedure (Turn P)) (name : List ℕ) (reply : Reply) (new : State) (q : P) (before after : ℕ) → Sees alone old mid → Reports alone failed mid (f mid.history) name reply new q before after → Reports alone failed old (sees shown f) name reply new q before after
reports_seen alone failed old mid shown f name reply new q before after s r = record {
  said = r.said;
  read = r.read;
  walks = record { mid = mid; first = s; rest = r.walks };
  text = r.text;
  fault = r.fault;
  names = r.names;
  made = r.made ∙ ap (λ m. m ++ reply.events) (seen_made alone old mid s);
  counted = r.counted;
}

pub seen_stepped : {P : Type 0} (alone : Bool) (old mid : State) (shown : History → Bool) (f : History → Procedure (Turn P)) (name : List ℕ) (end : StepEnd) (new : State) (q : P) (before after : ℕ) → Sees alone old mid → Stepped alone mid (f mid.history) name end new q before after → Stepped alone old (sees shown f) name end new q before after
seen_stepped alone old mid shown f name (steps.Reply r) new q before after s t = reports_seen alone false old mid shown f name r new q before after s t
seen_stepped alone old mid shown f name (steps.DiskFault r) new q before after s t = reports_seen alone true old mid shown f name r new q before after s t
seen_stepped alone old mid shown f name steps.NoMemory new q before after s t = (record { mid = mid; first = s; rest = t.0 }, t.1)

-- ---- with the policies in the session state

reports_beside : {P : Type 0} (policies : List Policy) (alone failed : Bool) (old : State) (d : Procedure (Turn P)) (name : List ℕ) (reply : Reply) (new : State) (q : P) (before after : ℕ) → Reports alone failed old d name reply new q before after → Reports alone failed old (ending_as (beside policies) d) name reply new (record { inner = q; policies = policies }) before after
reports_beside policies alone failed old d name reply new q before after r = record {
  said = r.said;
  read = r.read;
  walks = walks_as (beside policies) alone failed old d new (record { places = q; said = r.said; reads = r.read }) r.walks;
  text = r.text;
  fault = r.fault;
  names = r.names;
  made = r.made;
  counted = r.counted;
}

pub beside_stepped : {P : Type 0} (policies : List Policy) (alone : Bool) (old : State) (d : Procedure (Turn P)) (name : List ℕ) (end : StepEnd) (new : State) (q : P) (before after : ℕ) → Stepped alone old d name end new q before after → Stepped alone old (ending_as (beside policies) d) name end new (record { inner = q; policies = policies }) before after
beside_stepped policies alone old d name (steps.Reply r) new q before after t = reports_beside policies alone false old d name r new q before after t
beside_stepped policies alone old d name (steps.DiskFault r) new q before after t = reports_beside policies alone true old d name r new q before after t
beside_stepped policies alone old d name steps.NoMemory new q before after t = (breaks_first alone old d (λ y. ends (beside policies y)) new t.0, t.1)

-- ---- the end of a run

pub run_stepped : {P : Type 0} (alone : Bool) (old : State) (d : Procedure (Turn P)) (name : List ℕ) (run : TickOutcome) (end : StepEnd) (new : State) (q : P) (before after : ℕ) → RunsTo alone old d name (Ok run) new q before after → IsReplied run.failed run.reply end → Stepped alone old d name end new q before after
run_stepped alone old d name run (steps.Reply r) new q before after t e =
    subst (λ f. Reports alone f old d name r new q before after) e.0 (subst (λ x. Reports alone run.failed old d name x new q before after) (sym e.1) t)
run_stepped alone old d name run (steps.DiskFault r) new q before after t e =
    subst (λ f. Reports alone f old d name r new q before after) e.0 (subst (λ x. Reports alone run.failed old d name x new q before after) (sym e.1) t)
run_stepped alone old d name run steps.NoMemory new q before after t e = absurd e
