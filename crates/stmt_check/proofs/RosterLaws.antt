-- What the roster of an allowed history has: tables and aggregates within their bounds.
use Rattle.std.proofs.Common.{◌≡◌, refl, sym, subst, ℕ, zero, suc, ◌<◌, ◌≤◌, true, ◌&&◌, List, [], ◌∷◌, length, Option, Some, None, arith, ℤ, pos}
use Rattle.std.proofs.lemmas.Int.{ints}
use Rattle.std.specs.Prelude.{slice_get, int_lt, int_le, nat_lt, nat_le, ◌==◌}
use Rattle.std.specs.List.{AllByRecursion}
use Rattle.std.proofs.lemmas.Bool.{and_parts, ltb-true, leb-true, eqb-true}
use Rattle.ts_schema.specs.Names.{is_name}
use Rattle.ts_schema.specs.declared.columns.Column.{Column}
use Rattle.ts_model.specs.declared.events.Event.TheVariants.{Table}
use Rattle.ts_model.specs.declared.rosters.Roster.{Roster}
use Rattle.ts_model.specs.declared.tables.Hyper.{Hyper as HyperInfo}
use Rattle.ts_model.specs.declared.tables.TableDef.{TableDef}
use Rattle.ts_model.specs.declared.tables.TableInfo.{TableInfo}
use Rattle.ts_model.specs.declared.views.ViewDef.{ViewDef}
use Rattle.ts_model.specs.History.{History}
use Rattle.ts_model.specs.Roster.{no_relations, roster, table_of}
use Rattle.ts_model.specs.Allowed.{all_allowed}
use Rattle.ts_model.specs.Sound.{sound_in, columns_fit, fold_fits, output_count, view_fits}
use Rattle.ts_bucket.specs.Bucket.{is_width}
use Rattle.ts_model.specs.Limits.{most_columns}
use Rattle.ts_model.specs.Roster.{of_hyper, of_table}
use Rattle.ts_model.specs.Laws.{is_hyper_sound, is_table_sound}
use Rattle.ts_model.proofs.AllowedLaws.{consistent_of}
use Rattle.ts_model.proofs.SoundLaws.{rosters_are_sound}
use Rattle.stmt_check.specs.Check.{interval_of}
use Rattle.stmt_check.specs.Tables.{is_interval}
use Rattle.stmt_check.specs.Sound.{RostersAreNumbered}
use Rattle.ts_schema.proofs.Cases.{all_weaker}

-- the time column of a hypertable exists, and its interval is in range
abbrev pub HyperIsSound : List Column → Option HyperInfo → Type 0
HyperIsSound cols None = Unit {0}
HyperIsSound cols (Some h) = (h.at < length cols) × (is_interval h.interval ≡ true)

pub record TableIsSound (t : TableInfo) : Type 0 where
  pub columns : columns_fit t.def.cols ≡ true
  pub hyper : HyperIsSound t.def.cols t.hyper

pub record ViewIsSound (v : ViewDef) : Type 0 where
  pub names : length v.names ≤ 16

pub record RosterIsSound (r : Roster) : Type 0 where
  pub few_tables : length r.tables ≤ 64
  pub few_views : length r.views ≤ 64
  pub tables : AllByRecursion TableIsSound r.tables
  pub views : AllByRecursion ViewIsSound r.views

-- ---- lists

-- a property is true of the item at each place if and only if it is true of all items
all_by_place : {X : Type 0} (P : X → Type 0) (xs : List X) → ((i : ℕ) (x : X) → slice_get xs i ≡ Some x → P x) → AllByRecursion P xs
all_by_place P [] at = tt
all_by_place P (x ∷ xs) at = (at 0 x refl, all_by_place P xs (λ i. at (suc i)))

pub all_at : {X : Type 0} (P : X → Type 0) (xs : List X) (i : ℕ) (x : X) → AllByRecursion P xs → slice_get xs i ≡ Some x → P x
all_at P [] i x a e = absurd cc
all_at P (y ∷ xs) zero x a e = let same : y ≡ x = cc in subst P same a.0
all_at P (y ∷ xs) (suc i) x a e = all_at P xs i x a.1 e

-- ---- the roster of an allowed history

-- a positive interval is at least 1
pub interval_in_range : (n : ℤ) → int_lt (pos 0) n ≡ true → int_le n (pos 1125899906842624) ≡ true → is_interval n ≡ true
interval_in_range n a b = grind (arith, ints)

hyper_is_sound : (info : TableInfo) (o : Option HyperInfo) → is_hyper_sound info o ≡ true → HyperIsSound info.def.cols o
hyper_is_sound info None e = tt
hyper_is_sound info (Some hyper) e =
    let parts = and_parts (nat_lt hyper.at (length info.def.cols) && int_lt (pos 0) hyper.interval) _ e in
    let first = and_parts (nat_lt hyper.at (length info.def.cols)) _ parts.0 in
    (ltb-true _ _ first.0, interval_in_range hyper.interval first.1 parts.1)

table_is_sound : (info : TableInfo) → is_table_sound info ≡ true → TableIsSound info
table_is_sound info e =
    let parts = and_parts (sound_in no_relations (Table info.def)) _ e in
    record { columns = (and_parts (is_name info.def.name) _ parts.0).1; hyper = hyper_is_sound info info.hyper parts.1 }

view_is_sound : (def : ViewDef) (o : Option TableInfo) → of_table (view_fits def) o ≡ true → ViewIsSound def
view_is_sound def None e = absurd cc
view_is_sound def (Some info) e = of_hypertable info.def info.hyper e
  where
    of_hypertable : (table : TableDef) (o : Option HyperInfo) → of_hyper (view_fits def) table o ≡ true → ViewIsSound def
    of_hypertable table None e = absurd cc
    of_hypertable table (Some hyper) e =
        let parts = and_parts (is_name def.name && is_width def.fold.width && fold_fits (length table.cols) def.fold && nat_lt 0 (length def.fold.aggs) && nat_le (output_count def.fold) most_columns && length def.names == output_count def.fold) _ e in
        let most = and_parts (is_name def.name && is_width def.fold.width && fold_fits (length table.cols) def.fold && nat_lt 0 (length def.fold.aggs) && nat_le (output_count def.fold) most_columns) _ parts.0 in
        let few = and_parts (is_name def.name && is_width def.fold.width && fold_fits (length table.cols) def.fold && nat_lt 0 (length def.fold.aggs)) _ most.0 in
        let same : length def.names ≡ output_count def.fold = eqb-true _ _ most.1 in
        let short : output_count def.fold ≤ 16 = leb-true _ _ few.1 in
        record { names = subst (λ (n : ℕ). n ≤ 16) (sym same) short }

pub roster_is_sound : (h : History) → all_allowed h ≡ true → RosterIsSound (roster h)
roster_is_sound h e =
    let r = rosters_are_sound h (consistent_of h e) in
    record {
      few_tables = r.few_tables;
      few_views = r.few_views;
      tables = all_by_place TableIsSound (roster h).tables (λ t info at. table_is_sound info (r.tables t info at));
      views = all_by_place ViewIsSound (roster h).views (λ n def at. view_is_sound def (table_of (roster h) def.table) (r.views n def at));
    }

-- ---- numbers

few_columns : (t : TableInfo) → TableIsSound t → length t.def.cols ≤ 16
few_columns t s =
    let parts = and_parts (nat_lt 0 (length t.def.cols) && nat_le (length t.def.cols) most_columns) _ s.columns in
    leb-true _ _ (and_parts (nat_lt 0 (length t.def.cols)) _ parts.0).1

pub interval_is_in_range : (cols : List Column) (o : Option HyperInfo) → HyperIsSound cols o → is_interval (interval_of o) ≡ true
interval_is_in_range cols None s = refl
interval_is_in_range cols (Some h) s = s.1

pub rosters_are_numbered : RostersAreNumbered
rosters_are_numbered h e =
    let r = roster_is_sound h e in
    record {
      relations = record { tables = omega (arith, r.few_tables); views = omega (arith, r.few_views) };
      columns = all_weaker TableIsSound _ (λ t s. omega (arith, few_columns t s)) (roster h).tables r.tables;
      intervals = all_weaker TableIsSound _ (λ t s. interval_is_in_range t.def.cols t.hyper s.hyper) (roster h).tables r.tables;
      outputs = all_weaker ViewIsSound _ (λ v s. omega (arith, s.names)) (roster h).views r.views;
    }
