-- What comes next in a statement whose names were resolved, as an equation.
use Rattle.std.proofs.Common.{◌≡◌, ℕ, true, [], ◌∷◌, Option, Some, None, sym, refl, ap, ◌∙◌, subst}
use Rattle.std.specs.Prelude.{Result, Ok, Err, IfOk, IsTrue}
use Rattle.ts_schema.specs.declared.memory.NoMemory.{NoMemory}
use Rattle.ts_model.specs.declared.events.Op.{Op}
use Rattle.ts_model.specs.declared.outcomes.Refusal.{Refusal}
use Rattle.ts_model.specs.declared.rosters.Roster.{Roster}
use Rattle.ts_model.specs.declared.snapshots.Shown.{Ghosts as Shown}
use Rattle.ts_model.specs.History.{History, position}
use Rattle.ts_model.specs.Reads.{reads as reads_of}
use Rattle.ts_model.specs.Roster.{roster}
use Rattle.stmt_syntax.specs.declared.statements.Stmt.{Stmt}
use Rattle.stmt_check.specs.declared.actions.Action.{Action}
use Rattle.stmt_check.specs.declared.actions.Action.TheVariants as actions
use Rattle.stmt_check.specs.Check.{action_of, refusal_of}
use Rattle.hier_agg.specs.declared.reads.UpperRead.{UpperRead}
use Rattle.hier_agg.specs.declared.reads.UpperRead.TheVariants as uppers
use Rattle.hier_agg.specs.Reads.{upper_read}
use Rattle.result_text.specs.declared.replies.Said.{Said}
use Rattle.result_text.specs.declared.replies.Said.TheVariants as said
use Rattle.ts_sessions.specs.declared.changes.Change.TheVariants as changes
use Rattle.ts_sessions.specs.declared.deeds.Deed.{Deed}
use Rattle.ts_sessions.specs.declared.deeds.Next.{Next}
use Rattle.ts_sessions.specs.declared.deeds.Next.TheVariants as nexts
use Rattle.ts_sessions.specs.declared.kinds.StatementKind.TheVariants as kinds
use Rattle.ts_sessions.specs.declared.name_checks.Resolved.{Resolved}
use Rattle.ts_sessions.specs.declared.name_checks.Resolved.TheVariants as meant
use Rattle.ts_sessions.specs.declared.queries.Plan.{Plan}
use Rattle.ts_sessions.specs.Deeds.{rest, rest_next, said_once}
use Rattle.ts_sessions.specs.ResolvedNames.{answered_line, asked_by, change_left, change_next, checked_as, left_of, looks_at_names, meant_by, meant_left, read_as, IsLeftOf, LeftIn}
use Rattle.ts_sessions.specs.Places.{Block, Places, enters, none, reading, turns, writing}
use Rattle.ts_sessions.specs.Procedures.{ends, looks}
use Rattle.ts_sessions.specs.Sessions.{queued_on}
use Rattle.ts_sessions.specs.Sound.{kind_of_action}
use Rattle.ts_sessions.specs.Step.{block_refusal, changes as changes_of, kind_of, shown_in}
use Rattle.ts_sessions.proofs.SoundLaws.{kinds_agree}

pub says_line : {T J : Type 0} (result : Result (Next T J) NoMemory) (line like : Said) → IfOk result (λ n. n ≡ said_once line changes.Nothing) → line ≡ like → IfOk result (λ n. n ≡ said_once like changes.Nothing)
says_line {T} {J} (Ok n) line like e is = e ∙ ap (λ l. said_once {T = T} {J = J} l changes.Nothing) is
says_line (Err x) line like e is = tt

-- the resolved statement, by a snapshot's position and roster
meant_is : {T J : Type 0} (h : History) (pos : ℕ) (r : Roster) (stmt : Stmt) (m like : Resolved T J) → pos ≡ position h → r ≡ roster h → m ≡ meant_by pos r stmt → m ≡ like → like ≡ meant_by (position h) (roster h) stmt
meant_is h pos r stmt m like e f i is = sym is ∙ i ∙ ap (λ x. meant_by x r stmt) e ∙ ap (λ x. meant_by (position h) x stmt) f

ends_left : (T J : Type 0) (b : Block) (line : Said) → LeftIn b (said_once {T = T} {J = J} line changes.Nothing)
ends_left T J none line = refl
ends_left T J (writing ops n) line = tt
ends_left T J (reading at) line = refl

-- an end that changes nothing
left_said : {T J : Type 0} (shown : Shown T J) (p : Places) (bytes : ℕ) (stmt : Stmt) (h : History) (read : ℕ) (line : Said) (result : Result (Next T J) NoMemory) → IfOk result (λ n. n ≡ said_once line changes.Nothing) → ends (record { places = p; said = line ∷ []; reads = read }) ≡ left_of shown p bytes stmt h → IfOk result (IsLeftOf shown p bytes stmt h)
left_said {T} {J} shown p bytes stmt h read line (Ok n) e same =
    subst (λ (x : Next T J). IsLeftOf shown p bytes stmt h x) (sym e) (record { read = read; rest = same; left = ends_left T J p.block line })
left_said shown p bytes stmt h read line (Err x) e same = tt

pub left_refused : {T J : Type 0} (shown : Shown T J) (p : Places) (bytes : ℕ) (stmt : Stmt) (h : History) (pos : ℕ) (r : Roster) (m : Resolved T J) (q : Refusal) (result : Result (Next T J) NoMemory) → pos ≡ position h → r ≡ roster h → m ≡ meant_by pos r stmt → m ≡ meant.Refused q → IfOk result (λ n. n ≡ said_once (said.Fault q) changes.Nothing) → IfOk result (IsLeftOf shown p bytes stmt h)
left_refused shown p bytes stmt h pos r m q result e f i is k =
    left_said shown p bytes stmt h 0 (said.Fault q) result k (ap (meant_left p bytes p.block h) (meant_is h pos r stmt m (meant.Refused q) e f i is))

pub left_shows : {T J : Type 0} (shown : Shown T J) (p : Places) (bytes : ℕ) (stmt : Stmt) (h : History) (pos : ℕ) (r : Roster) (m : Resolved T J) (plan : Plan) (result : Result (Next T J) NoMemory) → pos ≡ position h → r ≡ roster h → m ≡ meant_by pos r stmt → m ≡ meant.Shows plan → IfOk result (λ n. n ≡ said_once (answered_line p.block h plan) changes.Nothing) → IfOk result (IsLeftOf shown p bytes stmt h)
left_shows shown p bytes stmt h pos r m plan result e f i is k =
    left_said shown p bytes stmt h (reads_of plan.query (shown_in p.block h)) (answered_line p.block h plan) result k (ap (meant_left p bytes p.block h) (meant_is h pos r stmt m (meant.Shows plan) e f i is))

-- an operation
changed_left : (T J : Type 0) (p : Places) (bytes : ℕ) (op : Op) (h : History) (b : Block) → p.block ≡ b → block_refusal b kinds.Changes ≡ None → rest_next {T = T} {J = J} p 0 (change_next b bytes op) ≡ change_left p bytes op b h
changed_left T J p bytes op h none i pass = ap (λ b. looks (λ g. changes_of p bytes g op b)) (sym i)
changed_left T J p bytes op h (writing ops n) i pass = ap (λ b. ends (turns (enters (queued_on op bytes b) p) said.Queued)) i ∙ ap (λ b. changes_of p bytes h op b) (sym i)
changed_left T J p bytes op h (reading at) i pass = absurd cc

change_left_in : (T J : Type 0) (b : Block) (bytes : ℕ) (op : Op) → block_refusal b kinds.Changes ≡ None → LeftIn b (change_next {T = T} {J = J} b bytes op)
change_left_in T J none bytes op pass = tt
change_left_in T J (writing ops n) bytes op pass = tt
change_left_in T J (reading at) bytes op pass = absurd cc

pub left_changes : {T J : Type 0} (shown : Shown T J) (p : Places) (bytes : ℕ) (stmt : Stmt) (h : History) (pos : ℕ) (r : Roster) (m : Resolved T J) (op : Op) (result : Result (Next T J) NoMemory) → pos ≡ position h → r ≡ roster h → m ≡ meant_by pos r stmt → m ≡ meant.Changes op → block_refusal p.block kinds.Changes ≡ None → IfOk result (λ n. n ≡ change_next p.block bytes op) → IfOk result (IsLeftOf shown p bytes stmt h)
left_changes {T} {J} shown p bytes stmt h pos r m op (Ok n) e f i is pass k =
    subst (λ (x : Next T J). IsLeftOf shown p bytes stmt h x) (sym k)
    (record {
      read = 0;
      rest = changed_left T J p bytes op h p.block refl pass ∙ ap (meant_left p bytes p.block h) (meant_is h pos r stmt m (meant.Changes op) e f i is);
      left = change_left_in T J p.block bytes op pass;
    })
left_changes shown p bytes stmt h pos r m op (Err x) e f i is pass k = tt

-- ---- store calls

-- only outside a block do names resolve to a store call
abbrev MeantOutside : {T J : Type 0} → Block → Resolved T J → Type 0
MeantOutside b (meant.Does deed) = b ≡ none
MeantOutside b other = Unit {0}

asked_outside : (T J : Type 0) (r : Roster) (b : Block) (a : Action) → looks_at_names (kind_of_action a) ≡ true → block_refusal b (kind_of_action a) ≡ None → MeantOutside {T = T} {J = J} b (asked_by r a)
asked_outside T J r b (actions.Change op) look pass = tt
asked_outside T J r b (actions.Ask q) look pass = tt
asked_outside T J r b (actions.Calendar t number unit at fold) look pass = tt
asked_outside T J r none other look pass = refl
asked_outside T J r (writing ops n) other look pass = absurd cc
asked_outside T J r (reading at) other look pass = absurd cc

module _ (T J : Type 0) (pos : ℕ) (r : Roster) (b : Block) (stmt : Stmt) (look : looks_at_names (kind_of stmt) ≡ true) (pass : block_refusal b (kind_of stmt) ≡ None) where
  checked_outside : (o : Option Refusal) → MeantOutside {T = T} {J = J} b (checked_as r stmt o)
  checked_outside (Some q) = tt
  checked_outside None =
      let kind : kind_of stmt ≡ kind_of_action (action_of r stmt) = sym (kinds_agree r stmt) in
      asked_outside T J r b (action_of r stmt) (subst (λ k. looks_at_names k ≡ true) kind look) (subst (λ k. block_refusal b k ≡ None) kind pass)

  read_outside : (u : UpperRead) → MeantOutside {T = T} {J = J} b (read_as pos r stmt u)
  read_outside (uppers.Plan plan) = tt
  read_outside (uppers.Refused q) = tt
  read_outside uppers.NotUpper = checked_outside (refusal_of pos r stmt)
  read_outside uppers.NoMemory = checked_outside (refusal_of pos r stmt)

deed_left_in : {T J : Type 0} (b : Block) (d : Deed T J) → b ≡ none → LeftIn b (nexts.Deed d)
deed_left_in none d e = tt
deed_left_in (writing ops n) d e = tt
deed_left_in (reading at) d e = absurd cc

pub left_does : {T J : Type 0} (shown : Shown T J) (p : Places) (bytes : ℕ) (stmt : Stmt) (h : History) (pos : ℕ) (r : Roster) (m : Resolved T J) (deed : Deed T J) → IsTrue (looks_at_names (kind_of stmt)) → block_refusal p.block (kind_of stmt) ≡ None → pos ≡ position h → r ≡ roster h → m ≡ meant_by pos r stmt → m ≡ meant.Does deed → IsLeftOf shown p bytes stmt h (nexts.Deed deed)
left_does {T} {J} shown p bytes stmt h pos r m deed look pass e f i is = record {
  read = 0;
  rest = ap (meant_left p bytes p.block h) (meant_is h pos r stmt m (meant.Does deed) e f i is);
  left = deed_left_in p.block deed (subst (MeantOutside p.block) (sym i ∙ is) (read_outside T J pos r p.block stmt look pass (upper_read pos r stmt)));
}
