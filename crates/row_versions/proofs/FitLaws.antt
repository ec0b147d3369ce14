-- Tables of consistent histories: inserted rows have times, and nothing is inserted into a table that isn't a
-- hypertable yet.
use Rattle.std.proofs.Common.{◌≡◌, suc, true, false, Option, Some, None, List, [], ◌∷◌, refl, sym, ◌∙◌, ap, arith}
use Rattle.std.specs.Prelude.{option_and_then}
use Rattle.std.specs.List.{list_all}
use Rattle.std.proofs.lemmas.Bool.{true≢false, and_parts}
use Rattle.std.proofs.lemmas.List.Folds.{list_all-append}
use Rattle.ts_bucket.specs.Bucket.{is_time}
use Rattle.ts_schema.specs.declared.rows.Row.{Row}
use Rattle.ts_model.specs.declared.events.Event.TheVariants.{Commit}
use Rattle.ts_model.specs.declared.tables.TableInfo.{TableInfo}
use Rattle.ts_model.specs.History.{◌▸◌, position, prefix}
use Rattle.ts_model.specs.Roster.{roster, table_of, of_hyper, of_table}
use Rattle.ts_model.specs.Rows.{in_order, rows}
use Rattle.ts_model.specs.Effect.{all_appended}
use Rattle.ts_model.specs.Reads.{rows_inserted}
use Rattle.ts_model.specs.Sound.{row_fits}
use Rattle.ts_model.proofs.FitLaws.{rows_are_times, rows_fit_tables}
use Rattle.row_versions.specs.Laws.{TablesBegin, CommitsFit}
use Rattle.row_versions.proofs.TableLaws.{up_to_more}

fits_none : (o : Option TableInfo) (row : Row) → option_and_then (λ info. info.hyper) o ≡ None → of_table (λ def hyper. row_fits def hyper row) o ≡ false
fits_none None row e = refl
fits_none (Some info) row e = ap (λ hyper. of_hyper (λ def hyper. row_fits def hyper row) info.def hyper) e

no_rows : (o : Option TableInfo) (xs : List Row) → option_and_then (λ info. info.hyper) o ≡ None → list_all (λ row. of_table (λ def hyper. row_fits def hyper row) o) xs ≡ true → [] ≡ xs
no_rows o [] e ok = refl
no_rows o (x ∷ xs) e ok = absurd (true≢false (sym (and_parts (of_table (λ def hyper. row_fits def hyper x) o) (list_all (λ row. of_table (λ def hyper. row_fits def hyper row) o) xs) ok).0 ∙ fits_none o x e))

pub tables_begin : TablesBegin
tables_begin t h table ok none empty = record {
  seen = λ q. rw empty (no_rows (table_of (roster h) t) (rows t (prefix h q)) none (rows_fit_tables.rows t h q ok));
  stored = rw empty (ap in_order (no_rows (table_of (roster h) t) (rows_inserted t h) none (rows_fit_tables.inserted t h ok)));
  up_to = rw empty refl;
}

pub commits_fit : CommitsFit
commits_fit t h ops table held ok = record {
  up_to = up_to_more (position h) (suc (position h)) table.versions (omega arith) held.up_to;
  times = (and_parts (list_all (λ row. is_time row.at) (rows_inserted t h)) (list_all (λ row. is_time row.at) (all_appended t ops))
      (sym (list_all-append (λ row. is_time row.at) (rows_inserted t h) (all_appended t ops)) ∙ rows_are_times.inserted t (h ▸ Commit ops) ok)).1;
}
