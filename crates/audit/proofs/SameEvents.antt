-- Events that compare as equal are the same.
use Rattle.std.proofs.Common.{◌≡◌, Bool, true, false, List, Option, Some, None, refl, sym, ap, ◌∙◌}
use Rattle.std.specs.Prelude.{ℤ}
use Rattle.std.specs.Ordering.{int_eq}
use Rattle.std.specs.Bool.{Decides}
use Rattle.std.specs.Cmp.Lexicographic.{pointwise}
use Rattle.std.proofs.lemmas.Bool.Decides.{Decides-and, Decides-eqb, Decides-int_eq, Decides-like}
use Rattle.std.proofs.lemmas.Option.{same_Some}
use Rattle.std.proofs.lemmas.Slice.Eq.{bytes_eq-Decides, slice_eq-Decides}
use Rattle.ts_bucket.specs.Bucket.{WidthValue}
use Rattle.ts_bucket.specs.Spans.{SpanValue}
use Rattle.ts_bucket.specs.contracts.spans.SpanPartialEq.TheImpl.{ghosts as span_eq}
use Rattle.ts_bucket.specs.contracts.widths.WidthPartialEq.TheImpl.{ghosts as width_eq}
use Rattle.ts_num.specs.declared.values.Fun.{Fun}
use Rattle.ts_num.specs.declared.values.Fun.TheVariants.{CountAll, Count, Sum, Min, Max, Avg}
use Rattle.ts_num.specs.contracts.values.FunPartialEq.TheImpl.{ghosts as fun_eq}
use Rattle.ts_schema.specs.declared.columns.Column.{Column}
use Rattle.ts_schema.specs.declared.conditions.Cmp.{Cmp}
use Rattle.ts_schema.specs.declared.conditions.Cmp.TheVariants as cmps
use Rattle.ts_schema.specs.declared.conditions.Test.{Test}
use Rattle.ts_schema.specs.declared.rows.Row.{Row}
use Rattle.ts_schema.specs.contracts.columns.ColumnPartialEq.TheImpl.{ghosts as column_eq}
use Rattle.ts_schema.specs.contracts.conditions.CmpPartialEq.TheImpl.{ghosts as cmp_eq}
use Rattle.ts_schema.specs.contracts.conditions.TestPartialEq.TheImpl.{ghosts as test_eq}
use Rattle.ts_schema.specs.contracts.rows.RowPartialEq.TheImpl.{ghosts as row_eq}
use Rattle.ts_model.specs.declared.events.Event.{Event}
use Rattle.ts_model.specs.declared.events.Event.TheVariants.{Table, Hyper, View, Mode, Commit, Cut, Built}
use Rattle.ts_model.specs.declared.events.Op.{Op}
use Rattle.ts_model.specs.declared.events.Op.TheVariants.{Insert, Delete}
use Rattle.ts_model.specs.declared.tables.Hyper.{Hyper as HyperInfo}
use Rattle.ts_model.specs.declared.tables.TableDef.{TableDef}
use Rattle.ts_model.specs.declared.views.Agg.{Agg}
use Rattle.ts_model.specs.declared.views.Fold.{Fold}
use Rattle.ts_model.specs.declared.views.ViewDef.{ViewDef}
use Rattle.ts_model.specs.contracts.events.EventPartialEq.TheImpl.{ghosts as event_eq}
use Rattle.ts_model.specs.contracts.events.OpPartialEq.TheImpl.{ghosts as op_eq}
use Rattle.ts_model.specs.contracts.tables.HyperPartialEq.TheImpl.{ghosts as hyper_eq}
use Rattle.ts_model.specs.contracts.tables.TableDefPartialEq.TheImpl.{ghosts as table_eq}
use Rattle.ts_model.specs.contracts.views.AggPartialEq.TheImpl.{ghosts as agg_eq}
use Rattle.ts_model.specs.contracts.views.FoldPartialEq.TheImpl.{ghosts as fold_eq}
use Rattle.ts_model.specs.contracts.views.ViewDefPartialEq.TheImpl.{ghosts as view_eq}

-- ---- plain values

same_bool : (a b : Bool) → Decides (Rattle.std.specs.contracts.prelude.BoolPartialEq.TheImpl.ghosts.eq a b) (a ≡ b)
same_bool true true = (λ e. refl, λ e. refl)
same_bool false false = (λ e. refl, λ e. refl)
same_bool true false = (λ e. cc, λ e. cc)
same_bool false true = (λ e. cc, λ e. cc)

same_list : {A : Type 0} {E : A → A → Bool} → ((a b : A) → Decides (E a b) (a ≡ b)) → (xs ys : List A) → Decides (pointwise E xs ys) (xs ≡ ys)
same_list d xs ys = slice_eq-Decides d xs ys _ refl

same_option : (E : Option ℤ → Option ℤ → Bool) → E None None ≡ true → ((y : ℤ) → E None (Some y) ≡ false) → ((x : ℤ) → E (Some x) None ≡ false) → ((x y : ℤ) → E (Some x) (Some y) ≡ int_eq x y) → (a b : Option ℤ) → Decides (E a b) (a ≡ b)
same_option E none right left both None None = (λ e. refl, λ e. none)
same_option E none right left both None (Some y) = let no_match = right y in (λ e. absurd cc, λ e. absurd cc)
same_option E none right left both (Some x) None = let no_match = left x in (λ e. absurd cc, λ e. absurd cc)
same_option E none right left both (Some x) (Some y) =
    let d = Decides-int_eq x y in
    let is = both x y in
    (λ e. ap Some (d.0 (sym is ∙ e)), λ e. is ∙ d.1 (same_Some x y e))

-- ---- vocabulary

same_column : (a b : Column) → Decides (column_eq.eq a b) (a ≡ b)
same_column a b =
    Decides-like _ (λ p. λ i. record { name = p.0 i; must = p.1 i }) (λ e. (ap (λ (c : Column). c.name) e, ap (λ (c : Column). c.must) e))
    (Decides-and _ _ (bytes_eq-Decides a.name b.name) (same_bool a.must b.must))

same_cmp : (a b : Cmp) → Decides (cmp_eq.eq a b) (a ≡ b)
same_cmp cmps.Eq cmps.Eq = (λ e. refl, λ e. refl)
same_cmp cmps.Ne cmps.Ne = (λ e. refl, λ e. refl)
same_cmp cmps.Lt cmps.Lt = (λ e. refl, λ e. refl)
same_cmp cmps.Le cmps.Le = (λ e. refl, λ e. refl)
same_cmp cmps.Gt cmps.Gt = (λ e. refl, λ e. refl)
same_cmp cmps.Ge cmps.Ge = (λ e. refl, λ e. refl)
same_cmp cmps.IsNull cmps.IsNull = (λ e. refl, λ e. refl)
same_cmp cmps.NotNull cmps.NotNull = (λ e. refl, λ e. refl)
same_cmp a b = (λ e. cc, λ e. cc)

same_test : (a b : Test) → Decides (test_eq.eq a b) (a ≡ b)
same_test a b =
    Decides-like _ (λ p. λ i. record { col = p.0 i; cmp = p.1.0 i; num = p.1.1 i }) (λ e. (ap (λ (t : Test). t.col) e, (ap (λ (t : Test). t.cmp) e, ap (λ (t : Test). t.num) e)))
    (Decides-and _ _ (Decides-eqb a.col b.col) (Decides-and _ _ (same_cmp a.cmp b.cmp) (Decides-int_eq a.num b.num)))

same_row : (a b : Row) → Decides (row_eq.eq a b) (a ≡ b)
same_row a b =
    Decides-like _ (λ p. λ i. record { at = p.0 i; vals = p.1 i }) (λ e. (ap (λ (r : Row). r.at) e, ap (λ (r : Row). r.vals) e))
    (Decides-and _ _ (Decides-int_eq a.at b.at) (same_list (same_option _ refl (λ _. refl) (λ _. refl) (λ _ _. refl)) a.vals b.vals))

same_width : (a b : WidthValue) → Decides (width_eq.eq a b) (a ≡ b)
same_width a b =
    Decides-like _ (λ p. λ i. record { step = p.0 i; shift = p.1 i }) (λ e. (ap (λ (w : WidthValue). w.step) e, ap (λ (w : WidthValue). w.shift) e))
    (Decides-and _ _ (Decides-int_eq a.step b.step) (Decides-int_eq a.shift b.shift))

same_span : (a b : SpanValue) → Decides (span_eq.eq a b) (a ≡ b)
same_span a b =
    Decides-like _ (λ p. λ i. record { lo = p.0 i; hi = p.1 i }) (λ e. (ap (λ (s : SpanValue). s.lo) e, ap (λ (s : SpanValue). s.hi) e))
    (Decides-and _ _ (Decides-int_eq a.lo b.lo) (Decides-int_eq a.hi b.hi))

-- ---- tables and aggregates

same_table : (a b : TableDef) → Decides (table_eq.eq a b) (a ≡ b)
same_table a b =
    Decides-like _ (λ p. λ i. record { name = p.0 i; cols = p.1 i }) (λ e. (ap (λ (t : TableDef). t.name) e, ap (λ (t : TableDef). t.cols) e))
    (Decides-and _ _ (bytes_eq-Decides a.name b.name) (same_list same_column a.cols b.cols))

same_hyper : (a b : HyperInfo) → Decides (hyper_eq.eq a b) (a ≡ b)
same_hyper a b =
    Decides-like _ (λ p. λ i. record { at = p.0 i; interval = p.1 i }) (λ e. (ap (λ (h : HyperInfo). h.at) e, ap (λ (h : HyperInfo). h.interval) e))
    (Decides-and _ _ (Decides-eqb a.at b.at) (Decides-int_eq a.interval b.interval))

same_fun : (a b : Fun) → Decides (fun_eq.eq a b) (a ≡ b)
same_fun CountAll CountAll = (λ e. refl, λ e. refl)
same_fun Count Count = (λ e. refl, λ e. refl)
same_fun Sum Sum = (λ e. refl, λ e. refl)
same_fun Min Min = (λ e. refl, λ e. refl)
same_fun Max Max = (λ e. refl, λ e. refl)
same_fun Avg Avg = (λ e. refl, λ e. refl)
same_fun a b = (λ e. cc, λ e. cc)

same_agg : (a b : Agg) → Decides (agg_eq.eq a b) (a ≡ b)
same_agg a b =
    Decides-like _ (λ p. λ i. record { fun = p.0 i; col = p.1 i }) (λ e. (ap (λ (g : Agg). g.fun) e, ap (λ (g : Agg). g.col) e))
    (Decides-and _ _ (same_fun a.fun b.fun) (Decides-eqb a.col b.col))

same_fold : (a b : Fold) → Decides (fold_eq.eq a b) (a ≡ b)
same_fold a b =
    Decides-like _ (λ p. λ i. record { width = p.0 i; keys = p.1.0 i; aggs = p.1.1.0 i; tests = p.1.1.1 i })
    (λ e. (ap (λ (f : Fold). f.width) e, (ap (λ (f : Fold). f.keys) e, (ap (λ (f : Fold). f.aggs) e, ap (λ (f : Fold). f.tests) e))))
    (Decides-and _ _ (same_width a.width b.width) (Decides-and _ _ (same_list Decides-eqb a.keys b.keys) (Decides-and _ _ (same_list same_agg a.aggs b.aggs) (same_list same_test a.tests b.tests))))

same_view : (a b : ViewDef) → Decides (view_eq.eq a b) (a ≡ b)
same_view a b =
    Decides-like _ (λ p. λ i. record { name = p.0 i; table = p.1.0 i; fold = p.1.1.0 i; names = p.1.1.1.0 i; only = p.1.1.1.1 i })
    (λ e. (ap (λ (v : ViewDef). v.name) e, (ap (λ (v : ViewDef). v.table) e, (ap (λ (v : ViewDef). v.fold) e, (ap (λ (v : ViewDef). v.names) e, ap (λ (v : ViewDef). v.only) e)))))
    (Decides-and _ _ (bytes_eq-Decides a.name b.name) (Decides-and _ _ (Decides-eqb a.table b.table) (Decides-and _ _ (same_fold a.fold b.fold) (Decides-and _ _ (same_list bytes_eq-Decides a.names b.names) (same_bool a.only b.only)))))

-- ---- events

same_op : (a b : Op) → Decides (op_eq.eq a b) (a ≡ b)
same_op (Insert t rows) (Insert u more) =
    Decides-like _ (λ p. λ i. Insert (p.0 i) (p.1 i)) (λ e. (cc, cc)) (Decides-and _ _ (Decides-eqb t u) (same_list same_row rows more))
same_op (Delete t tests) (Delete u more) =
    Decides-like _ (λ p. λ i. Delete (p.0 i) (p.1 i)) (λ e. (cc, cc)) (Decides-and _ _ (Decides-eqb t u) (same_list same_test tests more))
same_op a b = (λ e. cc, λ e. cc)

pub same_event : (a b : Event) → Decides (event_eq.eq a b) (a ≡ b)
same_event (Table a) (Table b) = Decides-like _ (λ p. ap Table p) (λ e. cc) (same_table a b)
same_event (Hyper t a) (Hyper u b) =
    Decides-like _ (λ p. λ i. Hyper (p.0 i) (p.1 i)) (λ e. (cc, cc)) (Decides-and _ _ (Decides-eqb t u) (same_hyper a b))
same_event (View a) (View b) = Decides-like _ (λ p. ap View p) (λ e. cc) (same_view a b)
same_event (Mode v a) (Mode w b) =
    Decides-like _ (λ p. λ i. Mode (p.0 i) (p.1 i)) (λ e. (cc, cc)) (Decides-and _ _ (Decides-eqb v w) (same_bool a b))
same_event (Commit a) (Commit b) = Decides-like _ (λ p. ap Commit p) (λ e. cc) (same_list same_op a b)
same_event (Cut v a) (Cut w b) =
    Decides-like _ (λ p. λ i. Cut (p.0 i) (p.1 i)) (λ e. (cc, cc)) (Decides-and _ _ (Decides-eqb v w) (same_span a b))
same_event (Built a b) (Built c d) =
    Decides-like _ (λ p. λ i. Built (p.0 i) (p.1 i)) (λ e. (cc, cc)) (Decides-and _ _ (Decides-eqb a c) (Decides-eqb b d))
same_event a b = (λ e. cc, λ e. cc)
