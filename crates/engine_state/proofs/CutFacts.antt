-- What a state that represents a history says about a new hypertable and about a cut that may come next.
use Rattle.std.proofs.Common.{◌≡◌, ℕ, zero, suc, ◌<◌, true, false, ◌&&◌, ◌==◌, nat_lt, List, [], ◌∷◌, length, get_or, pos, int_lt, int_le, Option, Some, None, sym, refl, ap, ◌∙◌, subst, arith}
use Rattle.std.specs.Prelude.{IsSome}
use Rattle.std.specs.List.{AllByRecursion, slice_get}
use Rattle.std.proofs.lemmas.Bool.{true≢false, and_parts}
use Rattle.std.proofs.lemmas.Int.{ints}
use Rattle.std.proofs.lemmas.Option.{slice_get_within}
use Rattle.ts_bucket.specs.Bucket.{IsWidth}
use Rattle.ts_bucket.specs.Chunks.{IsInterval, max_interval}
use Rattle.ts_bucket.specs.declared.spans.Span.{Span}
use Rattle.refresh_list.specs.Refreshes.{CutsBelow}
use Rattle.ts_model.specs.declared.events.Event.TheVariants.{Hyper, Cut}
use Rattle.ts_model.specs.declared.tables.Hyper.{Hyper as HyperInfo}
use Rattle.ts_model.specs.declared.tables.TableInfo.{TableInfo}
use Rattle.ts_model.specs.declared.views.ViewDef.{ViewDef}
use Rattle.ts_model.specs.History.{History}
use Rattle.ts_model.specs.Roster.{roster, table_of, view_of}
use Rattle.ts_model.specs.Sound.{sound, sound_at, hyper_fits, span_fits}
use Rattle.ts_model.specs.Allowed.{all_consistent, consistent}
use Rattle.ts_model.proofs.SoundLaws.{view_width}
use Rattle.engine_state.specs.Lists.{EachFrom}
use Rattle.engine_state.specs.Tables.{TableValue, TableStands, table_at}
use Rattle.engine_state.specs.Views.{ViewValue, ViewStands}
use Rattle.engine_state.specs.Stands.{StateValue, StandsFor, TableAt, ViewAt, ViewIs}
use Rattle.engine_state.specs.Steps.{TakesIf}
use Rattle.engine_state.proofs.EachLaws.{each_at, each_placed}
use Rattle.engine_state.proofs.FeedSteps.{noted_within}
use Rattle.engine_state.proofs.StateSteps.{stands_there}

-- ---- places

pub got : {X : Type 0} (xs : List X) (i : ℕ) (x : X) → i < length xs → x ≡ get_or xs i x → slice_get xs i ≡ Some x
got [] i x l is = absurd (omega arith)
got (y ∷ ys) zero x l is = ap Some (sym is)
got (y ∷ ys) (suc i) x l is = got ys i x (omega arith) is

-- ---- a new hypertable

hyper_parts : (hyper : HyperInfo) (o : Option TableInfo) → hyper_fits hyper o ≡ true → (info : TableInfo) × (o ≡ Some info) × IsInterval hyper.interval
hyper_parts hyper None e = absurd (true≢false (sym e))
hyper_parts hyper (Some info) e =
    let parts = and_parts (nat_lt hyper.at (length info.def.cols) && int_lt (pos 0) hyper.interval) (int_le hyper.interval max_interval) e in
    let some = and_parts (nat_lt hyper.at (length info.def.cols)) (int_lt (pos 0) hyper.interval) parts.0 in
    let low : int_lt (pos 0) hyper.interval ≡ true = some.1 in
    let high : int_le hyper.interval max_interval ≡ true = parts.1 in
    (info, refl, (grind (arith, ints), grind (arith, ints)))

hyper_sound : (h : History) (t : ℕ) (hyper : HyperInfo) → consistent h (Hyper t hyper) ≡ true → hyper_fits hyper (table_of (roster h) t) ≡ true
hyper_sound h t hyper fits = (and_parts (sound_at h (Hyper t hyper)) _ (and_parts (sound h (Hyper t hyper)) _ fits).0).0

pub hyper_interval : (h : History) (t : ℕ) (hyper : HyperInfo) → consistent h (Hyper t hyper) ≡ true → IsInterval hyper.interval
hyper_interval h t hyper fits = (hyper_parts hyper (table_of (roster h) t) (hyper_sound h t hyper fits)).2

pub hyper_place : (h : History) (t : ℕ) (hyper : HyperInfo) (s : StateValue) → StandsFor h s → consistent h (Hyper t hyper) ≡ true → t < length s.tables
hyper_place h t hyper s st fits =
    let parts = hyper_parts hyper (table_of (roster h) t) (hyper_sound h t hyper fits) in
    let found = each_at (TableAt h) t (roster h).tables s.tables parts.0 st.tables parts.1 in
    slice_get_within s.tables t found.0 found.1

-- ---- an existing aggregate

-- the state of an existing aggregate, and of its table
pub record ViewThere (h : History) (n : ℕ) (s : StateValue) (def : ViewDef) (view : ViewValue) : Type 0 where
  pub table : TableValue
  pub at : table_at s.tables def.table ≡ Some table
  pub named : view.table ≡ def.table
  pub stands : ViewStands h n def table.log view

pub view_there : (h : History) (n : ℕ) (s : StateValue) (def : ViewDef) (view : ViewValue) → StandsFor h s → view_of (roster h) n ≡ Some def → slice_get s.views n ≡ Some view → ViewThere h n s def view
view_there h n s def view st there is =
    let found = each_at (ViewAt h s.tables) n (roster h).views s.views def st.views there in
    by_table (table_at s.tables def.table) refl (subst (ViewAt h s.tables n def) (one found.1 is) found.2)
  where
    one : {x y : ViewValue} → slice_get s.views n ≡ Some x → slice_get s.views n ≡ Some y → x ≡ y
    one a b = cc

    by_table : (o : Option TableValue) → table_at s.tables def.table ≡ o → ViewIs h n def o view → ViewThere h n s def view
    by_table None at x = absurd x
    by_table (Some table) at x = record { table = table; at = at; named = x.table; stands = x }

pub view_place : (h : History) (n : ℕ) (s : StateValue) (def : ViewDef) → StandsFor h s → view_of (roster h) n ≡ Some def → n < length s.views
view_place h n s def st there =
    let found = each_at (ViewAt h s.tables) n (roster h).views s.views def st.views there in
    slice_get_within s.views n found.0 found.1

pub some_table : (h : History) (n : ℕ) (s : StateValue) (def : ViewDef) (view : ViewValue) → ViewThere h n s def view → IsSome (table_at s.tables view.table)
some_table h n s def view v = subst (λ o. IsSome o) (sym (ap (table_at s.tables) v.named ∙ v.at)) refl

-- ---- a cut

cut_fits : (span : Span) (o : Option ViewDef) → span_fits span o ≡ true → (def : ViewDef) × (o ≡ Some def)
cut_fits span None e = absurd (true≢false (sym e))
cut_fits span (Some def) e = (def, refl)

pub cut_view : (h : History) (v : ℕ) (span : Span) → consistent h (Cut v span) ≡ true → (def : ViewDef) × (view_of (roster h) v ≡ Some def)
cut_view h v span fits = cut_fits span (view_of (roster h) v) (and_parts (sound_at h (Cut v span)) _ (and_parts (sound h (Cut v span)) _ fits).0).0

-- aggregates over a table can hold the entries of its log
takes_from : (h : History) (s : StateValue) (t : ℕ) (table : TableValue) (hyper : HyperInfo) → all_consistent h ≡ true → table_at s.tables t ≡ Some table → TableStands h t hyper table → (i : ℕ) (defs : List ViewDef) (views : List ViewValue) → EachFrom (λ n def view. (view_of (roster h) n ≡ Some def) × ViewAt h s.tables n def view) i defs views → AllByRecursion (λ view. TakesIf (view.table == t) table view) views
takes_from h s t table hyper ok at stands i [] [] e = tt
takes_from h s t table hyper ok at stands i [] (view ∷ views) e = absurd e
takes_from h s t table hyper ok at stands i (def ∷ defs) [] e = absurd e
takes_from h s t table hyper ok at stands i (def ∷ defs) (view ∷ views) e = (by_table (table_at s.tables def.table) e.0.1, takes_from h s t table hyper ok at stands (suc i) defs views e.1)
  where
    by_table : (o : Option TableValue) → ViewIs h i def o view → TakesIf (view.table == t) table view
    by_table None x = absurd x
    by_table (Some own) x =
        elim (view.table == t) as (λ b. TakesIf b table view) [
          | true ↦ noted_within table.log.entries view.log (subst IsWidth (sym x.width) (view_width h i def ok e.0.0)) stands.log.times
          | false ↦ tt
        ]

pub cut_takes : (h : History) (s : StateValue) (t : ℕ) (table : TableValue) → StandsFor h s → table_at s.tables t ≡ Some table → AllByRecursion (λ view. TakesIf (view.table == t) table view) s.views
cut_takes h s t table st at =
    let there = stands_there h (roster h).tables s.tables t table st.tables at in
    takes_from h s t table there.0 st.consistent at there.1 0 (roster h).views s.views (each_placed (ViewAt h s.tables) (roster h).views s.views st.views)

pub cuts_below : (h : History) (s : StateValue) (next : ℕ) → StandsFor h s → next ≡ suc s.position → CutsBelow next s.refreshes
cuts_below h s next st is = subst (λ n. CutsBelow n s.refreshes) (sym (is ∙ ap suc st.position)) st.refreshes.past
