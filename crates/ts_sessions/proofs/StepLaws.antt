-- The result of a line, by the result of its statement and the reply.
use Rattle.std.proofs.Common.{◌≡◌, ℕ, ◌+◌, ◌<◌, ◌≤◌, ◌^◌, ◌++◌, Bool, true, false, List, Option, Some, None, sym, refl, ap, ◌∙◌, subst, arith}
use Rattle.std.specs.Prelude.{Ok}
use Rattle.ts_model.specs.History.{History}
use Rattle.ts_model.specs.States.{State}
use Rattle.result_text.specs.declared.replies.Said.{Said}
use Rattle.ts_sessions.specs.declared.changes.Change.{Change}
use Rattle.ts_sessions.specs.declared.changes.Completion.{Completion}
use Rattle.ts_sessions.specs.declared.replies.Reply.{Reply as ReplyMade}
use Rattle.ts_sessions.specs.declared.replies.StepEnd.{StepEnd}
use Rattle.ts_sessions.specs.declared.replies.StepEnd.TheVariants as steps
use Rattle.ts_sessions.specs.declared.sessions.Session.{Session}
use Rattle.ts_sessions.specs.Held.{Carries, places_in, bytes_queued}
use Rattle.ts_sessions.specs.Places.{none, Places, Turn}
use Rattle.ts_sessions.specs.Sessions.{AnswersSo, ChangeHolds, Ends, IfAnswered, IfNoMemory, IsReplied, IsReply, Spares, Stepped, Reports, places_after, turn_of, without}
use Rattle.ts_sessions.specs.Step.{step}
use Rattle.ts_sessions.specs.Walks.{Walks}
use Rattle.ts_sessions.proofs.EndLaws.{raised_up}
use Rattle.ts_sessions.proofs.HoldLaws.{change_queues, change_quiet}
use Rattle.ts_sessions.proofs.MadeLaws.{step_made}
use Rattle.ts_sessions.proofs.SessionLaws.{carried_places, spared}
use Rattle.ts_sessions.proofs.WalkLaws.{walks_break}
use Rattle.ts_model.specs.declared.snapshots.Shown.{Ghosts as Shown}

-- ---- replies

pub if_answered : (end : StepEnd) (P : Type 0) → P → IfAnswered end P
if_answered (steps.Reply r) P p = p
if_answered (steps.DiskFault r) P p = p
if_answered steps.NoMemory P p = tt

pub if_replied : (failed : Bool) (r : ReplyMade) (end : StepEnd) (P : Type 0) → IsReplied failed r end → IfNoMemory end P
if_replied failed r (steps.Reply q) P e = tt
if_replied failed r (steps.DiskFault q) P e = tt
if_replied failed r steps.NoMemory P e = absurd e

pub answered_so : (name : List ℕ) (said : List Said) (failed : Bool) (r : ReplyMade) (end : StepEnd) → IsReply name said r → IfAnswered end (IsReplied failed r end) → AnswersSo name said failed end
answered_so name said failed r (steps.Reply q) is e = (e.0, subst (IsReply name said) (sym e.1) is)
answered_so name said failed r (steps.DiskFault q) is e = (e.0, subst (IsReply name said) (sym e.1) is)
answered_so name said failed r steps.NoMemory is e = tt

-- ---- lines

reports_so : {T J : Type 0} (alone failed : Bool) (old : State) (p : Places) (text : List ℕ) (skip : ℕ) (name : List ℕ) (completion : Completion T J) (r : ReplyMade) (new : State) (q : Places) (before after : ℕ) → Ends alone old (step p text skip) p (Ok completion) new before after → completion.failed ≡ failed → IsReply name completion.said r → q ≡ places_after completion.change p → Reports alone failed old (step p text skip) name r new q before after
reports_so alone failed old p text skip name completion r new q before after e f is places =
    let y : Turn Places = record { places = q; said = completion.said; reads = e.read } in
    let w : Walks alone failed old (step p text skip) new y =
    subst (λ x. Walks alone failed old (step p text skip) new (record { places = x; said = completion.said; reads = e.read })) (sym places) (subst (λ x. Walks alone x old (step p text skip) new (turn_of p e.read completion)) f e.ends)
    in
    record {
      said = completion.said;
      read = e.read;
      walks = w;
      text = is.text;
      fault = is.fault;
      names = is.names;
      made = step_made alone failed old p text skip new y w ∙ ap (λ l. old.made ++ l) (sym is.names);
      counted = e.counted;
    }

-- a line whose statement ended like this, and whose reply was written or not
pub stepped : {T J : Type 0} (alone : Bool) (old : State) (p : Places) (text : List ℕ) (skip : ℕ) (name : List ℕ) (completion : Completion T J) (end : StepEnd) (new : State) (q : Places) (before after : ℕ) → before < 2 ^ 64 → Ends alone old (step p text skip) p (Ok completion) new before after → AnswersSo name completion.said completion.failed end → IfAnswered end (q ≡ places_after completion.change p) → Stepped alone old (step p text skip) name end new q before after
stepped alone old p text skip name completion (steps.Reply r) new q before after short e a places = reports_so alone false old p text skip name completion r new q before after e a.0 a.1 places
stepped alone old p text skip name completion (steps.DiskFault r) new q before after short e a places = reports_so alone true old p text skip name completion r new q before after e a.0 a.1 places
stepped alone old p text skip name completion steps.NoMemory new q before after short e a places =
    (walks_break alone completion.failed old (step p text skip) new (turn_of p e.read completion) e.ends, subst (λ m. before ≤ m) (sym e.counted) (raised_up e.read before short))

-- a line that ran out of memory for its reply leaves its session as it was
pub spares_then : {T J : Type 0} (meant : Option ℕ) (s t : Session T J) (p : Places) (end : StepEnd) → places_in s ≡ p → IfNoMemory end (Carries s t) → IfNoMemory end (Spares meant p (places_in t))
spares_then meant s t p (steps.Reply r) e k = tt
spares_then meant s t p (steps.DiskFault r) e k = tt
spares_then meant s t p steps.NoMemory e k = spared meant p (places_in t) (carried_places s t k ∙ e)

-- ---- queues

without_block : (gone : Option ℕ) (p : Places) → (without gone p).block ≡ p.block
without_block None p = refl
without_block (Some c) p = refl

pub spared_queue : (meant : Option ℕ) (p q : Places) (bytes : ℕ) → Spares meant p q → bytes_queued q.block ≤ bytes_queued p.block + bytes
spared_queue meant p q bytes s =
    let same : bytes_queued q.block ≡ bytes_queued p.block = ap (λ x. bytes_queued x.block) s.same ∙ ap bytes_queued (without_block s.gone p) in
    omega (arith, same)

-- the queue grows by at most the bytes of the line
pub queue_then : {T J : Type 0} (meant : Option ℕ) (shown : Shown T J) (bytes : ℕ) (h : History) (c : Change T J) (p q : Places) (end : StepEnd) → ChangeHolds shown bytes c h → IfAnswered end (q ≡ places_after c p) → IfNoMemory end (Spares meant p q) → bytes_queued q.block ≤ bytes_queued p.block + bytes
queue_then meant shown bytes h c p q (steps.Reply r) k e s = subst (λ x. bytes_queued x.block ≤ bytes_queued p.block + bytes) (sym e) (change_queues shown bytes h c p k)
queue_then meant shown bytes h c p q (steps.DiskFault r) k e s = subst (λ x. bytes_queued x.block ≤ bytes_queued p.block + bytes) (sym e) (change_queues shown bytes h c p k)
queue_then meant shown bytes h c p q steps.NoMemory k e s = spared_queue meant p q bytes s

spared_quiet : (meant : Option ℕ) (p q : Places) → p.block ≡ none → Spares meant p q → bytes_queued q.block ≡ 0
spared_quiet meant p q out s = ap (λ x. bytes_queued x.block) s.same ∙ ap bytes_queued (without_block s.gone p) ∙ ap bytes_queued out

-- outside a block nothing is queued after the line
pub quiet_then : {T J : Type 0} (meant : Option ℕ) (shown : Shown T J) (bytes : ℕ) (h : History) (c : Change T J) (p q : Places) (end : StepEnd) → p.block ≡ none → ChangeHolds shown bytes c h → IfAnswered end (q ≡ places_after c p) → IfNoMemory end (Spares meant p q) → bytes_queued q.block ≡ 0
quiet_then meant shown bytes h c p q (steps.Reply r) out k e s = ap (λ x. bytes_queued x.block) e ∙ change_quiet shown bytes h c p out k
quiet_then meant shown bytes h c p q (steps.DiskFault r) out k e s = ap (λ x. bytes_queued x.block) e ∙ change_quiet shown bytes h c p out k
quiet_then meant shown bytes h c p q steps.NoMemory out k e s = spared_quiet meant p q out s
