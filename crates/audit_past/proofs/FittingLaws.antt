-- A queue fits a history if it is on hypertables there.
use Rattle.std.proofs.Common.{◌≡◌, Bool, ℕ, true, false, List, [], ◌∷◌, length, Option, Some, None, sym, refl, ap, ◌∙◌, subst}
use Rattle.std.specs.Prelude.{is_some, option_and_then}
use Rattle.std.specs.List.{list_all}
use Rattle.std.proofs.lemmas.Bool.{true≢false, and_from, and_parts}
use Rattle.ts_model.specs.declared.events.Op.{Op}
use Rattle.ts_model.specs.declared.events.Op.TheVariants.{Insert, Delete}
use Rattle.ts_model.specs.declared.tables.Hyper.{Hyper}
use Rattle.ts_model.specs.declared.tables.TableDef.{TableDef}
use Rattle.ts_model.specs.declared.tables.TableInfo.{TableInfo}
use Rattle.ts_model.specs.History.{History, Begins}
use Rattle.ts_model.specs.Laws.{KeepsHyper, KeepsTable}
use Rattle.ts_model.specs.Roster.{hyper_of, of_hyper, of_table, roster, table_of}
use Rattle.ts_model.specs.Sound.{op_fits, rows_fit, test_fits}
use Rattle.ts_model.proofs.RosterLaws.{relations_stay}
use Rattle.ts_sessions.specs.Holding.{fits_on_hypertables}
use Rattle.ts_sessions.specs.Step.{is_on_hypertable, on_hypertables}

-- ---- a hypertable is the same in a longer history

same_table : (test : TableDef → Hyper → Bool) (was now : Option TableInfo) → ((info : TableInfo) → was ≡ Some info → KeepsTable info now) → is_some (option_and_then (λ (info : TableInfo). info.hyper) was) ≡ true → of_table test now ≡ of_table test was
same_table test None now keeps e = absurd (true≢false (sym e))
same_table test (Some info) now keeps e = by_hyper info.hyper refl e
  where
    by_hyper : (o : Option Hyper) → info.hyper ≡ o → is_some o ≡ true → of_table test now ≡ of_hyper test info.def info.hyper
    by_hyper None is e = absurd (true≢false (sym e))
    by_hyper (Some hyper) is e =
        let kept = keeps info refl in
        let still : kept.info.hyper ≡ Some hyper = subst (λ (x : Option Hyper). KeepsHyper x kept.info.hyper) is kept.hyper in
        ap (of_table test) kept.there
        ∙ ap (λ def. of_hyper test def kept.info.hyper) kept.def
        ∙ ap (of_hyper test info.def) (still ∙ sym is)

module _ (g h : History) (on : Begins g h) where
  same_test : (test : TableDef → Hyper → Bool) (t : ℕ) → is_some (hyper_of (roster g) t) ≡ true → of_table test (table_of (roster h) t) ≡ of_table test (table_of (roster g) t)
  same_test test t there = same_table test (table_of (roster g) t) (table_of (roster h) t) ((relations_stay g h on).tables t) there

  op_fits_there : (op : Op) → op_fits (roster h) op ≡ true → is_on_hypertable (roster g) op ≡ true → op_fits (roster g) op ≡ true
  op_fits_there (Insert t new) fits there = sym (same_test (λ def hyper. rows_fit def hyper new) t there) ∙ fits
  op_fits_there (Delete t tests) fits there = sym (same_test (λ def hyper. list_all (test_fits (length def.cols)) tests) t there) ∙ fits

  -- operations that fit the tables of a history fit those of an earlier history if they are on hypertables there
  pub fits_there : (ops : List Op) → list_all (op_fits (roster h)) ops ≡ true → on_hypertables (roster g) ops ≡ true → list_all (op_fits (roster g)) ops ≡ true
  fits_there [] fits there = refl
  fits_there (op ∷ ops) fits there =
      let each = and_parts (op_fits (roster h) op) (list_all (op_fits (roster h)) ops) fits in
      let tables = and_parts (is_on_hypertable (roster g) op) (on_hypertables (roster g) ops) there in
      and_from _ _ (op_fits_there op each.0 tables.0) (fits_there ops each.1 tables.1)

  -- they fit there exactly if they are on hypertables there
  pub fits_if_there : (ops : List Op) → list_all (op_fits (roster h)) ops ≡ true → on_hypertables (roster g) ops ≡ list_all (op_fits (roster g)) ops
  fits_if_there ops fits =
      elim (on_hypertables (roster g) ops) as (λ b. on_hypertables (roster g) ops ≡ b → b ≡ list_all (op_fits (roster g)) ops) [
        | true ↦ λ e. sym (fits_there ops fits e)
        | false ↦ λ e. unfit (list_all (op_fits (roster g)) ops) refl e
      ] refl
    where
      unfit : (b : Bool) → list_all (op_fits (roster g)) ops ≡ b → on_hypertables (roster g) ops ≡ false → false ≡ b
      unfit true is e = absurd (true≢false (sym (fits_on_hypertables (roster g) ops is) ∙ e))
      unfit false is e = refl
