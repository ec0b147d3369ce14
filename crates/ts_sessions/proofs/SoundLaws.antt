-- A store can do what a session asks of it.
use Rattle.std.proofs.Common.{◌≡◌, ℕ, ◌≤◌, cond, nat_lt, true, false, sym, refl, subst}
use Rattle.std.proofs.lemmas.Bool.{and_parts}
use Rattle.ts_model.specs.declared.rosters.Roster.{Roster}
use Rattle.ts_model.specs.History.{History, start, resumed, ◌▸◌, position, prefix}
use Rattle.ts_model.specs.Roster.{roster}
use Rattle.ts_model.specs.Allowed.{all_allowed, allowed}
use Rattle.stmt_syntax.specs.declared.statements.Stmt.{Stmt}
use Rattle.stmt_syntax.specs.declared.statements.Stmt.TheVariants as stmts
use Rattle.stmt_syntax.specs.Written.{IsWritten}
use Rattle.stmt_check.specs.Check.{IsNumbered, action_of}
use Rattle.stmt_check.proofs.ActionLaws.{actions_are_sound}
use Rattle.stmt_check.proofs.RosterLaws.{rosters_are_numbered}
use Rattle.ts_sessions.specs.Sound.{AsksSoundly, kind_of_action}
use Rattle.ts_sessions.specs.Step.{kind_of}

-- what a text asks for is sound at each history at which no check refuses it
pub asks_soundly : (bytes : ℕ) (stmt : Stmt) → bytes ≤ 65536 → IsWritten bytes stmt → AsksSoundly bytes stmt
asks_soundly bytes stmt short written h ok none = actions_are_sound h (position h) bytes stmt ok written short none

-- the roster of an allowed history is numbered, as checks need it
pub is_numbered : (h : History) (r : Roster) → r ≡ roster h → all_allowed h ≡ true → IsNumbered r
is_numbered h r e ok = subst IsNumbered (sym e) (rosters_are_numbered h ok)

-- the kind of an action is that of its statement
pub kinds_agree : (r : Roster) (stmt : Stmt) → kind_of_action (action_of r stmt) ≡ kind_of stmt
kinds_agree r (stmts.Table name cols) = refl
kinds_agree r (stmts.Hyper table col interval) = refl
kinds_agree r (stmts.View name only filled fold) = refl
kinds_agree r (stmts.Mode view only) = refl
kinds_agree r (stmts.Insert table cols rows) = refl
kinds_agree r (stmts.Delete table tests) = refl
kinds_agree r (stmts.Drop table below) = refl
kinds_agree r (stmts.Refresh view lo hi) = refl
kinds_agree r (stmts.Cut view lo hi) = refl
kinds_agree r (stmts.Snap cut) = refl
kinds_agree r (stmts.Finish cut) = refl
kinds_agree r stmts.Begin = refl
kinds_agree r stmts.BeginRead = refl
kinds_agree r stmts.Commit = refl
kinds_agree r stmts.Rollback = refl
kinds_agree r (stmts.Buckets fold) = refl
kinds_agree r (stmts.Calendar number unit fold) = refl
kinds_agree r (stmts.Rows table tests) = refl

-- the first events of an allowed history are an allowed history
pub allowed_prefix : (h : History) (p : ℕ) → all_allowed h ≡ true → all_allowed (prefix h p) ≡ true
allowed_prefix start p ok = refl
allowed_prefix (resumed i) p ok = ok
allowed_prefix (h ▸ e) p ok =
    elim (nat_lt (position h) p) as (λ t. all_allowed (cond t (h ▸ e) (prefix h p)) ≡ true) [ true ↦ ok | false ↦ allowed_prefix h p (and_parts (all_allowed h) (allowed h e) ok).0 ]
