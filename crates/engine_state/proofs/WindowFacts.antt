-- What a state that represents a history says about the window of a refresh.
use Rattle.std.proofs.Common.{◌≡◌, ◌∙◌, ◌<◌, ℕ, length, get_or, true, List, [], ◌∷◌, ℤ, Option, Some, None, sym, refl, ap, subst, arith}
use Rattle.std.specs.Prelude.{IfSome, IsSome, IsTrue}
use Rattle.std.specs.Int.{int_max}
use Rattle.std.specs.List.{list_all}
use Rattle.std.specs.Option.{ForSome}
use Rattle.std.proofs.lemmas.Bool.{true≢false, and_parts}
use Rattle.std.proofs.lemmas.Int.{ints, by_lt_z}
use Rattle.std.proofs.lemmas.Option.{slice_get_within}
use Rattle.ts_bucket.specs.Bucket.{is_time}
use Rattle.ts_bucket.specs.WholeSpans.{IsMark}
use Rattle.ts_schema.specs.declared.rows.Row.{Row}
use Rattle.seg_rows.specs.Versions.{later_time, latest_at, latest_of}
use Rattle.ts_model.specs.declared.rosters.Roster.{Roster}
use Rattle.ts_model.specs.declared.views.ViewDef.{ViewDef}
use Rattle.ts_model.specs.History.{History, position, prefix}
use Rattle.ts_model.specs.Roster.{roster, view_of}
use Rattle.ts_model.specs.Rows.{rows}
use Rattle.ts_model.specs.Refreshes.{watermark}
use Rattle.ts_model.specs.Windows.{last_end}
use Rattle.ts_model.proofs.FitLaws.{rows_are_times}
use Rattle.ts_model.proofs.HistoryLaws.{prefix_end}
use Rattle.ts_model.proofs.RosterLaws.{is_of_itself}
use Rattle.ts_model.proofs.MarkLaws.{watermark_ends}
use Rattle.ts_model.proofs.SoundLaws.{view_width}
use Rattle.row_versions.proofs.HistoryLaws.{held_tables_tell}
use Rattle.event_check.specs.Windows.{end_of}
use Rattle.engine_state.specs.Stands.{StateValue, StandsFor}
use Rattle.engine_state.specs.Tables.{TableValue, table_at}
use Rattle.engine_state.specs.Views.{ViewValue}
use Rattle.engine_state.proofs.CutFacts.{ViewThere, got}
use Rattle.engine_state.proofs.StateSteps.{stands_there}

-- what is true of the value, if there is one
pub if_there : {T : Type 0} (o : Option T) (P : T → Type 0) → IfSome o P → ForSome o P
if_there None P holds x is = absurd (cc)
if_there (Some y) P holds x is = subst P (let same : y ≡ x = cc in same) holds

-- the greatest of times is a time
later_is_time : (a b : Option ℤ) → IfSome a (λ t. IsTrue (is_time t)) → IfSome b (λ t. IsTrue (is_time t)) → IfSome (later_time a b) (λ t. IsTrue (is_time t))
later_is_time None b x y = y
later_is_time (Some p) None x y = x
later_is_time (Some p) (Some q) x y = by_lt_z p q (λ less. let is : q ≡ int_max p q = grind (arith, ints) in subst (λ t. IsTrue (is_time t)) is y) (λ more. let is : p ≡ int_max p q = grind (arith, ints) in subst (λ t. IsTrue (is_time t)) is x)

latest_is_time : (xs : List Row) → list_all (λ row. is_time row.at) xs ≡ true → IfSome (latest_of xs) (λ t. IsTrue (is_time t))
latest_is_time [] e = tt
latest_is_time (row ∷ xs) e =
    let parts = and_parts (is_time row.at) (list_all (λ row. is_time row.at) xs) e in
    later_is_time (Some row.at) (latest_of xs) parts.0 (latest_is_time xs parts.1)

-- the requirements on the watermark and the greatest time of a row, and their values
pub record WindowHas (h : History) (n : ℕ) (def : ViewDef) (mark latest : Option ℤ) : Type 0 where
  pub mark_ends : ForSome mark (IsMark def.fold.width)
  pub latest_time : ForSome latest (λ t. IsTrue (is_time t))
  pub mark_is : mark ≡ watermark n def h
  pub end_is : end_of def.fold.width latest ≡ last_end def.fold.width (rows def.table h)

pub window_has : (h : History) (n : ℕ) (s : StateValue) (def : ViewDef) (view : ViewValue) (table : TableValue) → StandsFor h s → view_of (roster h) n ≡ Some def → ViewThere h n s def view → table_at s.tables view.table ≡ Some table → WindowHas h n def view.mark (latest_at s.position table.rows.versions)
window_has h n s def view table st there own at =
    let held = (stands_there h (roster h).tables s.tables view.table table st.tables at).1.rows in
    let tells = held_tables_tell view.table h table.rows held in
    let width = view_width h n def st.consistent there in
    let now : prefix h s.position ≡ h = ap (prefix h) st.position ∙ prefix_end h (position h) (omega arith) in
    record {
      mark_ends = if_there view.mark (IsMark def.fold.width) (subst (λ m. IfSome m (IsMark def.fold.width)) (sym own.stands.mark) (watermark_ends n def h width (is_of_itself def (view_of (roster h) n) there) st.consistent));
      latest_time = if_there _ _ (subst (λ o. IfSome o (λ t. IsTrue (is_time t))) (sym (tells.latest s.position)) (latest_is_time (rows view.table (prefix h s.position)) (rows_are_times.rows view.table h s.position st.consistent)));
      mark_is = own.stands.mark;
      end_is = tells.last_bucket s.position def.fold.width width ∙ ap (λ g. last_end def.fold.width (rows view.table g)) now ∙ ap (λ t. last_end def.fold.width (rows t h)) own.named;
    }

-- the definition of an existing aggregate
pub def_there : (h : History) (s : StateValue) (n : ℕ) (def : ViewDef) → StandsFor h s → view_of s.roster n ≡ Some def → view_of (roster h) n ≡ Some def
def_there h s n def st is = subst (λ r. view_of r n ≡ Some def) st.roster is

some_def : (o : Option ViewDef) → IsSome o → (def : ViewDef) × (o ≡ Some def)
some_def None e = absurd (true≢false (sym e))
some_def (Some def) e = (def, refl)

pub def_place : (r : Roster) (n : ℕ) → IsSome (view_of r n) → n < length r.views
def_place r n some = let def = some_def (view_of r n) some in slice_get_within r.views n def.0 def.1

pub def_is : (r : Roster) (n : ℕ) (def : ViewDef) → IsSome (view_of r n) → def ≡ get_or r.views n def → view_of r n ≡ Some def
def_is r n def some item = got r.views n def (def_place r n some) item
