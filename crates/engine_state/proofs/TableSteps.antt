-- The effect of each event on the state of a hypertable.
use Rattle.std.proofs.Common.{◌≡◌, ℕ, suc, true, false, List, [], Option, Some, None, sym, refl, ap, ◌∙◌, subst, arith}
use Rattle.ts_model.specs.declared.events.Event.{Event}
use Rattle.ts_model.specs.declared.events.Event.TheVariants.{Hyper, Commit}
use Rattle.ts_model.specs.declared.events.Op.{Op}
use Rattle.ts_model.specs.declared.tables.Hyper.{Hyper as HyperInfo}
use Rattle.ts_model.specs.History.{History, ◌▸◌, position}
use Rattle.ts_model.specs.Roster.{roster, hyper_of}
use Rattle.ts_model.specs.Rows.{rows}
use Rattle.ts_model.specs.Effect.{hull_of_ops}
use Rattle.ts_model.specs.Allowed.{all_consistent}
use Rattle.ts_model.proofs.HistoryLaws.{prefix_end}
use Rattle.coverage.specs.Notes.{log_after}
use Rattle.row_versions.specs.Histories.{Holds}
use Rattle.row_versions.specs.Laws.{is_commit}
use Rattle.row_versions.proofs.HistoryLaws.{commits_are_held, others_are_held}
use Rattle.row_versions.proofs.FitLaws.{tables_begin, commits_fit}
use Rattle.engine_state.specs.Notes.{noted_in}
use Rattle.engine_state.specs.Tables.{TableValue, TableStands, TableIs}
use Rattle.engine_state.specs.Steps.{TableGoes, TableCut, GoesIf, AsksIf, rows_before}
use Rattle.engine_state.proofs.ViewSteps.{log_begins, log_stays, log_commits}

-- ---- every event except a commit leaves a table unchanged

pub table_stays : (h : History) (t : ℕ) (hyper : HyperInfo) (e : Event) (table : TableValue) → is_commit e ≡ false → TableStands h t hyper table → TableStands (h ▸ e) t hyper table
table_stays h t hyper e table quiet s = record { rows = others_are_held t h e table.rows s.rows quiet; interval = s.interval; log = log_stays h e table.log s.log }

pub table_is_still : (h : History) (t : ℕ) (e : Event) (o : Option HyperInfo) (s : Option TableValue) → is_commit e ≡ false → TableIs h t o s → TableIs (h ▸ e) t o s
table_is_still h t e None None quiet s = tt
table_is_still h t e None (Some table) quiet s = absurd s
table_is_still h t e (Some hyper) None quiet s = absurd s
table_is_still h t e (Some hyper) (Some table) quiet s = table_stays h t hyper e table quiet s

-- a new hypertable begins without rows and with an empty log
pub table_begins : (h : History) (t : ℕ) (hyper : HyperInfo) (table : TableValue) → all_consistent h ≡ true → hyper_of (roster h) t ≡ None → table.rows.interval ≡ hyper.interval → table.rows.versions ≡ [] → table.log.entries ≡ [] → TableStands (h ▸ Hyper t hyper) t hyper table
table_begins h t hyper table ok none interval versions entries = record {
  rows = others_are_held t h (Hyper t hyper) table.rows (tables_begin t h table.rows ok none versions) refl;
  interval = interval;
  log = log_begins (h ▸ Hyper t hyper) table.log entries;
}

-- ---- a commit

pub rows_are : (h : History) (t : ℕ) (table : TableValue) → Holds t h table.rows → rows_before (suc (position h)) table ≡ rows t h
rows_are h t table s = s.seen (suc (position h)) ∙ ap (rows t) (prefix_end h (suc (position h)) (omega arith))

pub entries_are : (h : History) (t : ℕ) (ops : List Op) (old new : TableValue) → Holds t h old.rows → TableGoes ops (suc (position h)) t old new → noted_in new.log.entries ≡ log_after (hull_of_ops t ops (rows t h)) (suc (position h)) old.log.threshold (noted_in old.log.entries)
entries_are h t ops old new s goes = goes.entries ∙ ap (λ xs. log_after (hull_of_ops t ops xs) (suc (position h)) old.log.threshold (noted_in old.log.entries)) (rows_are h t old s)

pub table_commits : (h : History) (t : ℕ) (hyper : HyperInfo) (ops : List Op) (old new : TableValue) → all_consistent (h ▸ Commit ops) ≡ true → TableGoes ops (suc (position h)) t old new → TableStands h t hyper old → TableStands (h ▸ Commit ops) t hyper new
table_commits h t hyper ops old new ok goes s = record {
  rows = commits_are_held t h ops old.rows new.rows s.rows goes.rows;
  interval = goes.rows.interval ∙ s.interval;
  log = log_commits t h ops old.log new.log ok (entries_are h t ops old new s.rows goes) s.log;
}

pub table_goes_on : (h : History) (t : ℕ) (ops : List Op) (o : Option HyperInfo) (old new : Option TableValue) → all_consistent (h ▸ Commit ops) ≡ true → TableIs h t o old → GoesIf ops (suc (position h)) t old new → TableIs (h ▸ Commit ops) t o new
table_goes_on h t ops None None None ok s goes = tt
table_goes_on h t ops None None (Some new) ok s goes = absurd goes
table_goes_on h t ops None (Some old) new ok s goes = absurd s
table_goes_on h t ops (Some hyper) None new ok s goes = absurd s
table_goes_on h t ops (Some hyper) (Some old) None ok s goes = absurd goes
table_goes_on h t ops (Some hyper) (Some old) (Some new) ok s goes = table_commits h t hyper ops old new ok goes s

-- a commit that may come next may be applied
pub table_asks : (h : History) (t : ℕ) (ops : List Op) (o : Option HyperInfo) (old : Option TableValue) → all_consistent (h ▸ Commit ops) ≡ true → TableIs h t o old → AsksIf ops (suc (position h)) t old
table_asks h t ops None None ok s = tt
table_asks h t ops None (Some old) ok s = absurd s
table_asks h t ops (Some hyper) None ok s = absurd s
table_asks h t ops (Some hyper) (Some old) ok s = let asks = commits_fit t h ops old.rows s.rows ok in record { up_to = asks.up_to; times = asks.times }

-- ---- a cut

pub table_cut : (h : History) (t : ℕ) (hyper : HyperInfo) (e : Event) (hi : _) (old new : TableValue) → is_commit e ≡ false → TableCut hi old new → TableStands h t hyper old → TableStands (h ▸ e) t hyper new
table_cut h t hyper e hi old new quiet cut s = record {
  rows = subst (Holds t (h ▸ e)) (sym cut.rows) (others_are_held t h e old.rows s.rows quiet);
  interval = ap (λ r. r.interval) cut.rows ∙ s.interval;
  log = log_begins (h ▸ e) new.log cut.entries;
}
