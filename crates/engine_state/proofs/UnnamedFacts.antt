-- Operations on other tables leave a table unchanged.
use Rattle.std.proofs.Common.{◌≡◌, ◌∙◌, ℕ, false, not, filter, cond, List, [], ◌∷◌, ◌++◌, sym, refl, ap, subst}
use Rattle.std.specs.List.{list_any}
use Rattle.std.proofs.lemmas.Bool.{or_parts}
use Rattle.std.proofs.lemmas.List.{append-nil}
use Rattle.ts_schema.specs.Conditions.{passes_all}
use Rattle.ts_schema.specs.declared.rows.Row.{Row}
use Rattle.ts_model.specs.declared.events.Op.{Op}
use Rattle.ts_model.specs.declared.events.Op.TheVariants.{Insert, Delete}
use Rattle.ts_model.specs.Rows.{after_op, in_order, with_rows}
use Rattle.ts_model.specs.Effect.{all_taken, appended_by, hull_of, taken_by}
use Rattle.seg_rows.specs.Versions.{rows_of}
use Rattle.coverage.specs.Notes.{log_after}
use Rattle.row_versions.specs.Tables.{is_on, visible_rows}
use Rattle.engine_state.specs.Notes.{noted_in}
use Rattle.engine_state.specs.Steps.{TableAsks, TableGoes, rows_before}
use Rattle.engine_state.specs.Tables.{TableValue}
use Rattle.row_versions.proofs.HistoryLaws.{unnamed_rows, unnamed_appended}

-- an operation on another table
module _ (t : ℕ) where
  none_appended : (op : Op) → is_on t op ≡ false → appended_by t op ≡ []
  none_appended (Insert u new) other = ap (λ b. cond b new []) other
  none_appended (Delete u tests) other = refl

  none_taken : (op : Op) (rows : List Row) → is_on t op ≡ false → taken_by t op rows ≡ []
  none_taken (Insert u new) rows other = refl
  none_taken (Delete u tests) rows other = ap (λ b. cond b (filter (λ row. passes_all row tests) rows) []) other

  none_moved : (op : Op) (rows : List Row) → is_on t op ≡ false → after_op t op rows ≡ rows
  none_moved (Insert u new) rows other = ap (λ b. cond b (with_rows new rows) rows) other
  none_moved (Delete u tests) rows other = ap (λ b. cond b (filter (λ row. not (passes_all row tests)) rows) rows) other

pub takes_none : (t : ℕ) (ops : List Op) (rows : List Row) → list_any (is_on t) ops ≡ false → all_taken t ops rows ≡ []
takes_none t [] rows none = refl
takes_none t (op ∷ ops) rows none =
    let parts = or_parts (is_on t op) (list_any (is_on t) ops) none in
    (λ i. none_taken t op rows parts.0 i ++ takes_none t ops (after_op t op rows) parts.1 i)

pub goes_unnamed : (ops : List Op) (pos t : ℕ) (old new : TableValue) → list_any (is_on t) ops ≡ false → TableAsks ops pos t old → new ≡ old → TableGoes ops pos t old new
goes_unnamed ops pos t old new none asks same = subst (TableGoes ops pos t old) (sym same) (record {
  rows = record {
    interval = refl;
    earlier = λ q before. refl;
    later = λ q after. sym (unnamed_rows t ops (in_order (visible_rows q old.rows.versions)) none);
    stored = ap in_order (sym (append-nil (rows_of old.rows.versions)) ∙ ap (λ rows. rows_of old.rows.versions ++ rows) (sym (unnamed_appended t ops none)));
    up_to = asks.up_to;
  };
  threshold = refl;
  entries = sym (ap (λ hull. log_after hull pos old.log.threshold (noted_in old.log.entries)) (λ i. hull_of (unnamed_appended t ops none i ++ takes_none t ops (rows_before pos old) none i)));
})
