-- Statements of a write block over a whole history.
use Rattle.std.proofs.Common.{◌≡◌, ℕ, ◌≤◌, Bool, true, false, List, [], ◌∷◌, Option, Some, None, sym, refl, ap, ◌∙◌, subst, arith}
use Rattle.std.specs.Prelude.{Result, Ok, Err, IfOk, is_some}
use Rattle.std.proofs.lemmas.Bool.{true≢false}
use Rattle.std.proofs.lemmas.Option.{same_Some}
use Rattle.ts_schema.specs.declared.memory.NoMemory.{NoMemory}
use Rattle.ts_model.specs.declared.events.Op.{Op}
use Rattle.ts_model.specs.declared.outcomes.Refusal.{Refusal}
use Rattle.ts_model.specs.declared.rosters.Roster.{Roster}
use Rattle.ts_model.specs.declared.snapshots.Shown.{Ghosts as Shown}
use Rattle.ts_model.specs.Allowed.{all_allowed}
use Rattle.ts_model.specs.History.{History, position, prefix}
use Rattle.ts_model.specs.Roster.{roster}
use Rattle.ts_model.specs.Reads.{reads as reads_of}
use Rattle.stmt_syntax.specs.declared.statements.Stmt.{Stmt}
use Rattle.hier_agg.specs.declared.reads.UpperRead.{UpperRead}
use Rattle.hier_agg.specs.declared.reads.UpperRead.TheVariants as uppers
use Rattle.hier_agg.specs.Reads.{upper_read}
use Rattle.ts_sessions.specs.declared.name_checks.Resolved.{Resolved}
use Rattle.ts_sessions.specs.declared.name_checks.Resolved.TheVariants as meant
use Rattle.ts_sessions.specs.declared.queries.Plan.{Plan}
use Rattle.ts_sessions.specs.ResolvedNames.{answered_line, asked_by, checked_as, looks_at_names, meant_by, meant_left, read_as}
use Rattle.ts_sessions.proofs.MeantLaws.{named_left}
use Rattle.stmt_check.specs.declared.actions.Action.{Action}
use Rattle.stmt_check.specs.declared.actions.Action.TheVariants as actions
use Rattle.stmt_check.specs.Check.{action_of, refusal_of}
use Rattle.stmt_check.specs.Sound.{IsSound}
use Rattle.result_text.specs.declared.replies.Said.TheVariants as said
use Rattle.ts_sessions.specs.declared.changes.Change.TheVariants as changes
use Rattle.ts_sessions.specs.declared.deeds.Next.{Next}
use Rattle.ts_sessions.specs.declared.kinds.StatementKind.TheVariants as kinds
use Rattle.audit_past.specs.declared.deed_replays.StatementOutcome.{StatementOutcome}
use Rattle.ts_sessions.specs.Deeds.{said_once}
use Rattle.ts_sessions.specs.Places.{Block, Places, Turn, enters, refuses, turns, writing}
use Rattle.ts_sessions.specs.Procedures.{Procedure, sees, ends}
use Rattle.ts_sessions.specs.Sessions.{queued_on}
use Rattle.ts_sessions.specs.Sound.{AsksSoundly, kind_of_action}
use Rattle.ts_sessions.specs.Step.{acts, block_refusal, changes as changes_of, kind_of, makes_event, turn_of_names, named_here, on_hypertables, prints, read_at, shown_in, unless}
use Rattle.audit_past.specs.ReplaySteps.{ReachesTo, shown_as, TellsNothing, ended_of, later_looks, next_look, refused_at, refused_to, unless_refused, queued_operation, waits_at}
use Rattle.ts_sessions.proofs.NamedLaws.{event_named}
use Rattle.ts_sessions.proofs.SoundLaws.{kinds_agree}
use Rattle.audit_past.proofs.TellDeeds.{reaches_then}
use Rattle.audit_past.proofs.TellStatements.{ends_told, reaches_as}
use Rattle.audit_past.proofs.TellWalks.{look_lies, look_nothing, look_refused, look_tells, look_unprinted}

-- a change in a write block
abbrev change_in : Places → ℕ → Stmt → Procedure (Turn Places)
change_in p bytes stmt = sees (λ h. is_some (refusal_of (position h) (roster h) stmt)) (turn_of_names p bytes stmt)

module _ (p : Places) (bytes : ℕ) (stmt : Stmt) (ops : List Op) (n : ℕ) (in_block : p.block ≡ writing ops n) (kind : kind_of stmt ≡ kinds.Changes) where
  change_is : named_here p bytes stmt ≡ change_in p bytes stmt
  change_is =
      ap (λ b. sees (λ h. prints b (kind_of stmt) (roster h) (refusal_of (position h) (roster h) stmt)) (λ h. turn_of_names p bytes stmt (read_at b h))) in_block
      ∙ ap (λ k. sees (λ h. prints (writing ops n) k (roster h) (refusal_of (position h) (roster h) stmt)) (turn_of_names p bytes stmt)) kind

  named_is : (h : History) → turn_of_names p bytes stmt h ≡ unless p (refusal_of (position h) (roster h) stmt) (acts p bytes h (action_of (roster h) stmt))
  named_is h = event_named p bytes h stmt (ap makes_event kind)

  -- it is refused at its read position
  pub change_refused : {T J : Type 0} (shown : Shown T J) (all : History) (at : ℕ) (ps : List ℕ) (o : Option (StatementOutcome T J)) (r : StatementOutcome T J) → o ≡ refused_at all stmt (next_look all at ps) → o ≡ Some r → ReachesTo shown bytes all at (named_here p bytes stmt) ps p (Ok (Some r))
  change_refused {T} {J} shown all at ps o r e is =
      reaches_as shown bytes all at (named_here p bytes stmt) (change_in p bytes stmt) ps p (Ok (Some r)) change_is (by_look (next_look all at ps) refl (sym e ∙ is))
    where
      by_refusal : (look : ℕ) (q : Option Refusal) → next_look all at ps ≡ Some look → refusal_of (position (prefix all look)) (roster (prefix all look)) stmt ≡ q → refused_to {T = T} {J = J} q look ≡ Some r → ReachesTo shown bytes all at (change_in p bytes stmt) ps p (Ok (Some r))
      by_refusal look None told i f = absurd (true≢false (sym (ap is_some f)))
      by_refusal look (Some q) told i f =
          let h = prefix all look in
          let lies = look_lies all at look ps told in
          let there : turn_of_names p bytes stmt h ≡ ends (refuses p q) = named_is h ∙ ap (λ x. unless p x (acts p bytes h (action_of (roster h) stmt))) i in
          reaches_then shown bytes all at look (change_in p bytes stmt) (turn_of_names p bytes stmt h) ps (later_looks ps) p (Ok (Some r))
          (look_tells all at look (λ h. is_some (refusal_of (position h) (roster h) stmt)) (turn_of_names p bytes stmt) ps told (ap is_some i)) lies.low
          (reaches_as shown bytes all look (turn_of_names p bytes stmt h) (ends (refuses p q)) (later_looks ps) p (Ok (Some r)) there
          (subst (λ (x : Option (StatementOutcome T J)). ReachesTo shown bytes all look (ends (refuses p q)) (later_looks ps) p (Ok x)) f
          (ends_told shown bytes all look (later_looks ps) p 0 (said_once (said.Fault q) changes.Nothing) (record { said = said.Fault q ∷ []; change = changes.Nothing; failed = false }) lies.high refl (record { change = tt; stands = refl }))))

      by_look : (l : Option ℕ) → next_look all at ps ≡ l → refused_at {T = T} {J = J} all stmt l ≡ Some r → ReachesTo shown bytes all at (change_in p bytes stmt) ps p (Ok (Some r))
      by_look None told f = absurd (true≢false (sym (ap is_some f)))
      by_look (Some look) told f = by_refusal look (refusal_of (position (prefix all look)) (roster (prefix all look)) stmt) told refl f

  -- an operation that is queued
  waits : {T J : Type 0} (shown : Shown T J) (all : History) (at : ℕ) (ps : List ℕ) (a : Action) → at ≤ position all → kind_of_action a ≡ kinds.Changes → IsSound all bytes a → ReachesTo {T = T} {J = J} shown bytes all at (acts p bytes all a) ps p (Ok (ended_of (queued_operation a bytes) at))
  waits {T} {J} shown all at ps (actions.Change op) le k s =
      let queue : changes_of p bytes all op p.block ≡ ends (turns (enters (queued_on op bytes p.block) p) said.Queued) = ap (changes_of p bytes all op) in_block ∙ ap (λ b. ends (turns (enters (queued_on op bytes b) p) said.Queued)) (sym in_block) in
      reaches_as shown bytes all at (changes_of p bytes all op p.block) (ends (turns (enters (queued_on op bytes p.block) p) said.Queued)) ps p (Ok (ended_of (queued_operation (actions.Change op) bytes) at)) queue
      (ends_told shown bytes all at ps p 0 (said_once said.Queued (changes.Queues op bytes)) (record { said = said.Queued ∷ []; change = changes.Queues op bytes; failed = false }) le refl (record { change = (s, refl); stands = refl }))
  waits shown all at ps other le k s = absurd cc

  -- a change that isn't refused at its read position is queued. If the end of the history refuses it, the history
  -- doesn't explain it
  pub change_waits : {T J : Type 0} (shown : Shown T J) (all : History) (at : ℕ) (ps : List ℕ) (o first : Option (StatementOutcome T J)) → at ≤ position all → all_allowed all ≡ true → AsksSoundly bytes stmt → first ≡ refused_at all stmt (next_look all at ps) → first ≡ None → o ≡ waits_at all at bytes stmt → ReachesTo shown bytes all at (named_here p bytes stmt) ps p (Ok o)
  change_waits {T} {J} shown all at ps o first le ok sound e none w =
      reaches_as shown bytes all at (named_here p bytes stmt) (change_in p bytes stmt) ps p (Ok o) change_is
      (subst (λ (x : Option (StatementOutcome T J)). ReachesTo shown bytes all at (change_in p bytes stmt) ps p (Ok x)) (sym w) (by_end (refusal_of (position all) (roster all) stmt) refl))
    where
      test : History → Bool
      test h = is_some (refusal_of (position h) (roster h) stmt)

      not_there : (look : ℕ) (q : Option Refusal) → refusal_of (position (prefix all look)) (roster (prefix all look)) stmt ≡ q → refused_to {T = T} {J = J} q look ≡ None → is_some (refusal_of (position (prefix all look)) (roster (prefix all look)) stmt) ≡ false
      not_there look None i f = ap is_some i
      not_there look (Some q) i f = absurd (true≢false (ap is_some f))

      passed : (look : ℕ) → next_look all at ps ≡ Some look → is_some (refusal_of (position (prefix all look)) (roster (prefix all look)) stmt) ≡ false
      passed look told = not_there look (refusal_of (position (prefix all look)) (roster (prefix all look)) stmt) refl (ap (refused_at all stmt) (sym told) ∙ sym e ∙ none)

      by_end : (q : Option Refusal) → refusal_of (position all) (roster all) stmt ≡ q → ReachesTo shown bytes all at (change_in p bytes stmt) ps p (Ok (unless_refused {T = T} {J = J} q (queued_operation (action_of (roster all) stmt) bytes) at))
      by_end (Some q) i = look_refused all at (λ h. is_some (refusal_of (position h) (roster h) stmt)) (turn_of_names p bytes stmt) ps passed (ap is_some i)
      by_end None i =
          let a = action_of (roster all) stmt in
          let there : turn_of_names p bytes stmt all ≡ acts p bytes all a = named_is all ∙ ap (λ x. unless p x (acts p bytes all a)) i in
          reaches_then shown bytes all at at (change_in p bytes stmt) (turn_of_names p bytes stmt all) ps ps p (Ok (ended_of (queued_operation a bytes) at))
          (look_unprinted all at (λ h. is_some (refusal_of (position h) (roster h) stmt)) (turn_of_names p bytes stmt) ps passed (ap is_some i)) (omega arith)
          (reaches_as shown bytes all at (turn_of_names p bytes stmt all) (acts p bytes all a) ps p (Ok (ended_of (queued_operation a bytes) at)) there
          (waits shown all at ps a le (kinds_agree (roster all) stmt ∙ kind) (sound all ok i)))

  pub change_waits_to : {T J : Type 0} (shown : Shown T J) (all : History) (at : ℕ) (ps : List ℕ) (first : Option (StatementOutcome T J)) (result : Result (Option (StatementOutcome T J)) NoMemory) → at ≤ position all → all_allowed all ≡ true → AsksSoundly bytes stmt → first ≡ refused_at all stmt (next_look all at ps) → first ≡ None → IfOk result (λ o. o ≡ waits_at all at bytes stmt) → ReachesTo shown bytes all at (named_here p bytes stmt) ps p result
  change_waits_to shown all at ps first (Ok o) le ok sound e none w = change_waits shown all at ps o first le ok sound e none w
  change_waits_to shown all at ps first (Err x) le ok sound e none w = tt

-- the check of a change at the end of the history
pub wait_refused : {T J : Type 0} (all : History) (at bytes : ℕ) (stmt : Stmt) (pos : ℕ) (r : Roster) (q : Refusal) (o : Option (StatementOutcome T J)) → pos ≡ position all → r ≡ roster all → refusal_of pos r stmt ≡ Some q → o ≡ None → o ≡ waits_at all at bytes stmt
wait_refused {T} {J} all at bytes stmt pos r q o e f i none =
    none ∙ sym (ap (λ x. unless_refused {T = T} {J = J} x (queued_operation (action_of (roster all) stmt) bytes) at) (sym (ap (λ y. refusal_of y r stmt) e ∙ ap (λ y. refusal_of (position all) y stmt) f) ∙ i))

pub wait_ready : {T J : Type 0} (all : History) (at bytes : ℕ) (stmt : Stmt) (pos : ℕ) (r : Roster) (a : Action) (next : Next T J) (o : Option (StatementOutcome T J)) → pos ≡ position all → r ≡ roster all → refusal_of pos r stmt ≡ None → a ≡ action_of r stmt → next ≡ queued_operation a bytes → o ≡ ended_of next at → o ≡ waits_at all at bytes stmt
wait_ready {T} {J} all at bytes stmt pos r a next o e f i same w ended =
    let passed : refusal_of (position all) (roster all) stmt ≡ None = sym (ap (λ y. refusal_of y r stmt) e ∙ ap (λ y. refusal_of (position all) y stmt) f) ∙ i in
    ended ∙ ap (λ (n : Next T J). ended_of n at) (w ∙ ap (λ x. queued_operation x bytes) (same ∙ ap (λ y. action_of y stmt) f))
    ∙ sym (ap (λ x. unless_refused {T = T} {J = J} x (queued_operation (action_of (roster all) stmt) bytes) at) passed)

-- ---- queries

-- a query is refused, or shows an answer
abbrev pub AsksOnly : {T J : Type 0} → Resolved T J → Type 0
AsksOnly (meant.Refused q) = Unit {0}
AsksOnly (meant.Shows plan) = Unit {0}
AsksOnly (meant.Changes op) = ⊥
AsksOnly (meant.Does deed) = ⊥

asked_only : (T J : Type 0) (r : Roster) (a : Action) → kind_of_action a ≡ kinds.Asks → AsksOnly {T = T} {J = J} (asked_by r a)
asked_only T J r (actions.Ask q) k = tt
asked_only T J r (actions.Calendar t number unit fold cal) k = tt
asked_only T J r other k = absurd cc

checked_only : (T J : Type 0) (r : Roster) (stmt : Stmt) (o : Option Refusal) → kind_of stmt ≡ kinds.Asks → AsksOnly {T = T} {J = J} (checked_as r stmt o)
checked_only T J r stmt (Some q) k = tt
checked_only T J r stmt None k = asked_only T J r (action_of r stmt) (kinds_agree r stmt ∙ k)

read_only : (T J : Type 0) (pos : ℕ) (r : Roster) (stmt : Stmt) (u : UpperRead) → kind_of stmt ≡ kinds.Asks → AsksOnly {T = T} {J = J} (read_as pos r stmt u)
read_only T J pos r stmt (uppers.Plan plan) k = tt
read_only T J pos r stmt (uppers.Refused q) k = tt
read_only T J pos r stmt uppers.NotUpper k = checked_only T J r stmt (refusal_of pos r stmt) k
read_only T J pos r stmt uppers.NoMemory k = checked_only T J r stmt (refusal_of pos r stmt) k

pub asks_only : {T J : Type 0} (pos : ℕ) (r : Roster) (stmt : Stmt) (m like : Resolved T J) → kind_of stmt ≡ kinds.Asks → m ≡ meant_by pos r stmt → m ≡ like → AsksOnly like
asks_only {T} {J} pos r stmt m like k e is = subst (λ (x : Resolved T J). AsksOnly x) (sym e ∙ is) (read_only T J pos r stmt (upper_read pos r stmt) k)

-- the reply of a query
shown_is : {T J : Type 0} (b : Block) (h : History) (pos : ℕ) (r : Roster) (stmt : Stmt) (m like : Resolved T J) → pos ≡ position h → r ≡ roster h → m ≡ meant_by pos r stmt → m ≡ like → shown_as b h like ≡ shown_as b h (meant_by (position h) (roster h) stmt)
shown_is {T} {J} b h pos r stmt m like e f i is = ap (λ (x : Resolved T J). shown_as b h x) (sym is ∙ i ∙ ap (λ x. meant_by x r stmt) e ∙ ap (λ x. meant_by (position h) x stmt) f)

said_as : {T J : Type 0} (result : Result (Next T J) NoMemory) (a c : Next T J) → IfOk result (λ n. n ≡ a) → a ≡ c → IfOk result (λ n. n ≡ c)
said_as (Ok n) a c e is = e ∙ is
said_as (Err x) a c e is = tt

pub shown_refused : {T J : Type 0} (b : Block) (h : History) (pos : ℕ) (r : Roster) (stmt : Stmt) (m : Resolved T J) (q : Refusal) (result : Result (Next T J) NoMemory) → pos ≡ position h → r ≡ roster h → m ≡ meant_by pos r stmt → m ≡ meant.Refused q → IfOk result (λ n. n ≡ said_once (said.Fault q) changes.Nothing) → IfOk result (λ n. n ≡ shown_as b h (meant_by (position h) (roster h) stmt))
shown_refused b h pos r stmt m q result e f i is k = said_as result (said_once (said.Fault q) changes.Nothing) _ k (shown_is b h pos r stmt m (meant.Refused q) e f i is)

pub shown_shows : {T J : Type 0} (b : Block) (h : History) (pos : ℕ) (r : Roster) (stmt : Stmt) (m : Resolved T J) (plan : Plan) (result : Result (Next T J) NoMemory) → pos ≡ position h → r ≡ roster h → m ≡ meant_by pos r stmt → m ≡ meant.Shows plan → IfOk result (λ n. n ≡ said_once (answered_line b h plan) changes.Nothing) → IfOk result (λ n. n ≡ shown_as b h (meant_by (position h) (roster h) stmt))
shown_shows b h pos r stmt m plan result e f i is k = said_as result (said_once (answered_line b h plan) changes.Nothing) _ k (shown_is b h pos r stmt m (meant.Shows plan) e f i is)

module _ (p : Places) (bytes : ℕ) (stmt : Stmt) (ops : List Op) (n : ℕ) (in_block : p.block ≡ writing ops n) (kind : kind_of stmt ≡ kinds.Asks) where
  -- a query in a write block
  abbrev query_in : Procedure (Turn Places)
  query_in = sees (λ h. on_hypertables (roster h) ops) (turn_of_names p bytes stmt)

  query_is : named_here p bytes stmt ≡ query_in
  query_is =
      ap (λ b. sees (λ h. prints b (kind_of stmt) (roster h) (refusal_of (position h) (roster h) stmt)) (λ h. turn_of_names p bytes stmt (read_at b h))) in_block
      ∙ ap (λ k. sees (λ h. prints (writing ops n) k (roster h) (refusal_of (position h) (roster h) stmt)) (turn_of_names p bytes stmt)) kind

  pub query_nowhere : (all : History) (at : ℕ) (ps : List ℕ) → next_look all at ps ≡ None → on_hypertables (roster all) ops ≡ true → TellsNothing all at (named_here p bytes stmt) ps
  query_nowhere all at ps e there = subst (λ d. TellsNothing all at d ps) (sym query_is) (look_nothing all at (λ h. on_hypertables (roster h) ops) (turn_of_names p bytes stmt) ps e there)

  -- the history doesn't explain it at a position at which an operation isn't on a hypertable
  pub query_missed : (all : History) (at look : ℕ) (ps : List ℕ) → next_look all at ps ≡ Some look → on_hypertables (roster (prefix all look)) ops ≡ false → on_hypertables (roster all) ops ≡ true → TellsNothing all at (named_here p bytes stmt) ps
  query_missed all at look ps told missing there =
      subst (λ d. TellsNothing all at d ps) (sym query_is)
      (look_refused all at (λ h. on_hypertables (roster h) ops) (turn_of_names p bytes stmt) ps
      (λ other also. subst (λ (q : ℕ). on_hypertables (roster (prefix all q)) ops ≡ false) (same_Some look other (sym told ∙ also)) missing) there)

  pub query_told : {T J : Type 0} (shown : Shown T J) (all : History) (at look : ℕ) (ps : List ℕ) (next : Next T J) → next_look all at ps ≡ Some look → on_hypertables (roster (prefix all look)) ops ≡ true → next ≡ shown_as (writing ops n) (prefix all look) (meant_by (position (prefix all look)) (roster (prefix all look)) stmt) → ReachesTo shown bytes all at (named_here p bytes stmt) ps p (Ok (ended_of next look))
  query_told {T} {J} shown all at look ps next told there e =
      let h = prefix all look in
      let lies = look_lies all at look ps told in
      reaches_as shown bytes all at (named_here p bytes stmt) query_in ps p (Ok (ended_of next look)) query_is
      (reaches_then shown bytes all at look query_in (turn_of_names p bytes stmt h) ps (later_looks ps) p (Ok (ended_of next look)) (look_tells all at look (λ h. on_hypertables (roster h) ops) (turn_of_names p bytes stmt) ps told there) lies.low
      (reaches_as shown bytes all look (turn_of_names p bytes stmt h) (meant_left {T = T} {J = J} p bytes (writing ops n) h (meant_by (position h) (roster h) stmt)) (later_looks ps) p (Ok (ended_of next look))
      (named_left shown p bytes (writing ops n) h stmt (ap looks_at_names kind) (ap (block_refusal (writing ops n)) kind) (λ i. absurd cc))
      (subst (λ (x : Next T J). ReachesTo shown bytes all look (meant_left {T = T} {J = J} p bytes (writing ops n) h (meant_by (position h) (roster h) stmt)) (later_looks ps) p (Ok (ended_of x look))) (sym e)
      (by_meant lies.high (meant_by {T = T} {J = J} (position h) (roster h) stmt) (read_only T J (position h) (roster h) stmt (upper_read (position h) (roster h) stmt) kind)))))
    where
      by_meant : look ≤ position all → (m : Resolved T J) → AsksOnly m → ReachesTo {T = T} {J = J} shown bytes all look (meant_left p bytes (writing ops n) (prefix all look) m) (later_looks ps) p (Ok (ended_of (shown_as (writing ops n) (prefix all look) m) look))
      by_meant high (meant.Refused q) k = ends_told shown bytes all look (later_looks ps) p 0 (said_once (said.Fault q) changes.Nothing) (record { said = said.Fault q ∷ []; change = changes.Nothing; failed = false }) high refl (record { change = tt; stands = refl })
      by_meant high (meant.Shows plan) k =
          let line = answered_line (writing ops n) (prefix all look) plan in
          let same : line ≡ answered_line p.block (prefix all look) plan = ap (λ b. answered_line b (prefix all look) plan) (sym in_block) in
          subst (λ d. ReachesTo {T = T} {J = J} shown bytes all look d (later_looks ps) p (Ok (ended_of (said_once line changes.Nothing) look)))
          (ap (λ l. ends (record { places = p; said = l ∷ []; reads = reads_of plan.query (shown_in p.block (prefix all look)) })) same)
          (ends_told shown bytes all look (later_looks ps) p (reads_of plan.query (shown_in p.block (prefix all look))) (said_once line changes.Nothing) (record { said = line ∷ []; change = changes.Nothing; failed = false }) high refl (record { change = tt; stands = refl }))
      by_meant high (meant.Changes op) k = absurd k
      by_meant high (meant.Does deed) k = absurd k

  pub query_told_as : {T J : Type 0} (shown : Shown T J) (all : History) (at look : ℕ) (ps : List ℕ) (next : Next T J) (o : Option (StatementOutcome T J)) → next_look all at ps ≡ Some look → on_hypertables (roster (prefix all look)) ops ≡ true → next ≡ shown_as (writing ops n) (prefix all look) (meant_by (position (prefix all look)) (roster (prefix all look)) stmt) → o ≡ ended_of next look → ReachesTo shown bytes all at (named_here p bytes stmt) ps p (Ok o)
  query_told_as {T} {J} shown all at look ps next o told there e w = subst (λ (x : Option (StatementOutcome T J)). ReachesTo shown bytes all at (named_here p bytes stmt) ps p (Ok x)) (sym w) (query_told shown all at look ps next told there e)
