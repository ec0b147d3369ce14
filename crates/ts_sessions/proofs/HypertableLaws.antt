-- A hypertable stays one as a history grows, and a statement that isn't refused changes only hypertables.
use Rattle.std.proofs.Common.{◌≡◌, ◌∙◌, ℕ, true, List, [], ◌∷◌, Option, Some, None, refl, sym, ap}
use Rattle.std.specs.Prelude.{IsTrue, is_some, option_and_then}
use Rattle.std.proofs.lemmas.Bool.{true≢false, and_from, and_parts}
use Rattle.ts_model.specs.declared.events.Op.{Op}
use Rattle.ts_model.specs.declared.events.Op.TheVariants.{Insert, Delete}
use Rattle.ts_model.specs.declared.rosters.Roster.{Roster}
use Rattle.ts_model.specs.declared.tables.Hyper.{Hyper}
use Rattle.ts_model.specs.declared.tables.TableInfo.{TableInfo}
use Rattle.ts_model.specs.History.{History, Begins}
use Rattle.ts_model.specs.Laws.{KeepsHyper, KeepsTable}
use Rattle.ts_model.specs.Roster.{hyper_of, roster, table_of}
use Rattle.ts_model.proofs.RosterLaws.{relations_stay}
use Rattle.ts_catalog.specs.Relations.{found_in}
use Rattle.ts_catalog.specs.declared.relations.Found.{Found}
use Rattle.ts_catalog.specs.declared.relations.Found.TheVariants as found
use Rattle.stmt_syntax.specs.declared.statements.Stmt.{Stmt}
use Rattle.stmt_syntax.specs.declared.statements.Stmt.TheVariants as stmts
use Rattle.stmt_check.specs.declared.actions.Action.{Action}
use Rattle.stmt_check.specs.declared.actions.Action.TheVariants as actions
use Rattle.stmt_check.specs.Check.{action_of, refusal_of}
use Rattle.stmt_check.specs.Refusals.{hypertable_refusal, number_of}
use Rattle.stmt_check.proofs.FoundLaws.{RelationAt, relation_at}
use Rattle.stmt_check.proofs.PassedLaws.{neither}
use Rattle.ts_sessions.specs.Step.{is_on_hypertable, on_hypertables}

-- ---- longer histories

hyper_stays : (was now : Option Hyper) → KeepsHyper was now → is_some was ≡ true → is_some now ≡ true
hyper_stays None now k e = absurd (true≢false (sym e))
hyper_stays (Some hyper) now k e = ap is_some k

table_stays : (was now : Option TableInfo) → ((info : TableInfo) → was ≡ Some info → KeepsTable info now) → is_some (option_and_then (λ (info : TableInfo). info.hyper) was) ≡ true → is_some (option_and_then (λ (info : TableInfo). info.hyper) now) ≡ true
table_stays None now k e = absurd (true≢false (sym e))
table_stays (Some info) now k e =
    let kept = k info refl in
    ap (λ (o : Option TableInfo). is_some (option_and_then (λ (info : TableInfo). info.hyper) o)) kept.there ∙ hyper_stays info.hyper kept.info.hyper kept.hyper e

hypertable_stays : (g h : History) (t : ℕ) → Begins g h → is_some (hyper_of (roster g) t) ≡ true → is_some (hyper_of (roster h) t) ≡ true
hypertable_stays g h t on e = table_stays (table_of (roster g) t) (table_of (roster h) t) ((relations_stay g h on).tables t) e

-- an operation on a hypertable stays on one
pub on_hypertable_stays : (g h : History) (op : Op) → Begins g h → is_on_hypertable (roster g) op ≡ true → is_on_hypertable (roster h) op ≡ true
on_hypertable_stays g h (Insert t new) on e = hypertable_stays g h t on e
on_hypertable_stays g h (Delete t tests) on e = hypertable_stays g h t on e

pub on_hypertables_stay : (g h : History) (ops : List Op) → Begins g h → on_hypertables (roster g) ops ≡ true → on_hypertables (roster h) ops ≡ true
on_hypertables_stay g h [] on e = refl
on_hypertables_stay g h (op ∷ ops) on e =
    let parts = and_parts (is_on_hypertable (roster g) op) (on_hypertables (roster g) ops) e in
    and_from _ _ (on_hypertable_stays g h op on parts.0) (on_hypertables_stay g h ops on parts.1)

-- ---- statements

-- the operation of an action, if it has one, is on a hypertable
abbrev pub ChangesHypertable : Roster → Action → Type 0
ChangesHypertable r (actions.Change op) = IsTrue (is_on_hypertable r op)
ChangesHypertable r other = Unit {0}

found_hyper : (r : Roster) (pos : ℕ) (f : Found) → RelationAt r f → hypertable_refusal pos f ≡ None → is_some (hyper_of r (number_of f)) ≡ true
found_hyper r pos found.None t e = absurd cc
found_hyper r pos (found.Plain n) t e = absurd cc
found_hyper r pos (found.View n) t e = absurd cc
found_hyper r pos (found.Hyper n) t e = ap (λ (o : Option TableInfo). is_some (option_and_then (λ (info : TableInfo). info.hyper) o)) t.at ∙ t.is

named_hyper : (r : Roster) (pos : ℕ) (name : List ℕ) → hypertable_refusal pos (found_in r name) ≡ None → is_some (hyper_of r (number_of (found_in r name))) ≡ true
named_hyper r pos name e = found_hyper r pos (found_in r name) (relation_at r name) e

pub passed_changes : (r : Roster) (pos : ℕ) (stmt : Stmt) → refusal_of pos r stmt ≡ None → ChangesHypertable r (action_of r stmt)
passed_changes r pos (stmts.Table name cols) e = tt
passed_changes r pos (stmts.Hyper table col interval) e = tt
passed_changes r pos (stmts.View name only filled fold) e = tt
passed_changes r pos (stmts.Mode view only) e = tt
passed_changes r pos (stmts.Insert table cols rows) e = named_hyper r pos table (neither (hypertable_refusal pos (found_in r table)) _ e).0
passed_changes r pos (stmts.Delete table tests) e = named_hyper r pos table (neither (hypertable_refusal pos (found_in r table)) _ e).0
passed_changes r pos (stmts.Drop table below) e = named_hyper r pos table (neither (hypertable_refusal pos (found_in r table)) _ e).0
passed_changes r pos (stmts.Refresh view lo hi) e = tt
passed_changes r pos (stmts.Cut view lo hi) e = tt
passed_changes r pos (stmts.Snap cut) e = tt
passed_changes r pos (stmts.Finish cut) e = tt
passed_changes r pos stmts.Begin e = tt
passed_changes r pos stmts.BeginRead e = tt
passed_changes r pos stmts.Commit e = tt
passed_changes r pos stmts.Rollback e = tt
passed_changes r pos (stmts.Buckets fold) e = tt
passed_changes r pos (stmts.Calendar number unit fold) e = tt
passed_changes r pos (stmts.Rows table tests) e = tt
