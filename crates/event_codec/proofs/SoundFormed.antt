-- Sound events have an encoding.
use Rattle.std.proofs.Common.{◌≡◌, ℕ, ◌-◌, ◌^◌, ◌<◌, ◌≤◌, Bool, true, ◌&&◌, ◌||◌, not, nat_lt, nat_le, List, [], ◌∷◌, map, length, ℤ, pos, negsuc, int_lt, int_le, Option, Some, None, sym, arith}
use Rattle.std.specs.Prelude.{◌==◌, remove}
use Rattle.std.specs.List.{list_all, AllByRecursion}
use Rattle.std.specs.Ordering.{int_eq}
use Rattle.std.proofs.lemmas.Bool.{and_parts, ltb-true, leb-true, eqb-true, true≢false}
use Rattle.std.proofs.lemmas.Bool.Decides.{Decides-int_eq}
use Rattle.std.proofs.lemmas.Int.{ints}
use Rattle.ts_bucket.specs.Bucket.{is_time, first_of, max_step, max_time, min_time, is_width}
use Rattle.ts_bucket.specs.Chunks.{max_interval}
use Rattle.ts_bucket.specs.declared.spans.Span.{Span}
use Rattle.ts_bucket.specs.declared.widths.Width.{Width}
use Rattle.ts_num.specs.declared.values.Fun.{Fun}
use Rattle.ts_num.specs.declared.values.Fun.TheVariants.{CountAll, Count, Sum, Min, Max, Avg}
use Rattle.ts_schema.specs.Names.{is_name}
use Rattle.ts_schema.specs.declared.columns.Column.{Column}
use Rattle.ts_schema.specs.declared.conditions.Cmp.{Cmp}
use Rattle.ts_schema.specs.declared.conditions.Cmp.TheVariants.{Eq, Ne, Lt, Le, Gt, Ge, IsNull, NotNull}
use Rattle.ts_schema.specs.declared.conditions.Test.{Test}
use Rattle.ts_schema.specs.declared.rows.Row.{Row}
use Rattle.ts_model.specs.Bytes.{event_bytes}
use Rattle.ts_model.specs.Fields.{fits_byte, fits_four, name_fits_fields, tests_fit_fields, fold_fits_fields, op_fits_fields, fits_fields}
use Rattle.ts_model.specs.History.{History, position, base_position}
use Rattle.ts_model.specs.Limits.{bytes_limit, is_word, most_columns}
use Rattle.ts_model.specs.Pending.{pending, is_known}
use Rattle.ts_model.specs.Roster.{roster, table_of, of_hyper, of_table, view_of}
use Rattle.ts_model.specs.Sound.{are_names, all_apart, is_null_test, is_count_all, test_fits, agg_fits, fold_fits, output_count, value_fits, values_fit, row_fits, rows_fit, op_fits, columns_fit, hyper_fits, view_fits, span_fits, sound_in, sound_at}
use Rattle.ts_model.specs.declared.events.Event.{Event}
use Rattle.ts_model.specs.declared.events.Event.TheVariants as events
use Rattle.ts_model.specs.declared.events.Op.{Op}
use Rattle.ts_model.specs.declared.events.Op.TheVariants as ops
use Rattle.ts_model.specs.declared.rosters.Roster.{Roster}
use Rattle.ts_model.specs.declared.tables.Hyper.{Hyper}
use Rattle.ts_model.specs.declared.tables.TableDef.{TableDef}
use Rattle.ts_model.specs.declared.tables.TableInfo.{TableInfo}
use Rattle.ts_model.specs.declared.views.Agg.{Agg}
use Rattle.ts_model.specs.declared.views.Fold.{Fold}
use Rattle.ts_model.specs.declared.views.ViewDef.{ViewDef}
use Rattle.ts_model.proofs.FieldLaws.{counts_fit}
use Rattle.ts_model.proofs.SoundLaws.{sound_in_roster}
use Rattle.event_codec.specs.Formed.{Within, Many, IsFour, IsName, IsValue, IsRow, IsTest, IsAgg, IsColumn, IsStep, IsSpan, IsFold, IsOp, IsHyper, IsView, IsFormed, IsWord, least_number, most_number, most_column}
use Rattle.event_codec.specs.Laws.{SoundAreFormed}
use Rattle.ts_schema.proofs.Cases.{int_le-true, int_lt-true}

-- ---- tests as facts

byte : (n : ℕ) → fits_byte n ≡ true → n < 2 ^ 8
byte n h = ltb-true n (2 ^ 8) h

four : (n : ℕ) → fits_four n ≡ true → n < 2 ^ 32
four n h = ltb-true n (2 ^ 32) h

word : (z : ℤ) → is_word z ≡ true → IsWord z
word z h =
    let p = and_parts (int_le (negsuc (2 ^ 63 - 1)) z) (int_le z (pos (2 ^ 63 - 1))) h in
    (int_le-true (negsuc (2 ^ 63 - 1)) z p.0, int_le-true z (pos (2 ^ 63 - 1)) p.1)

time : (z : ℤ) → is_time z ≡ true → Within min_time max_time z
time z h =
    let p = and_parts (int_le min_time z) (int_le z max_time) h in
    (int_le-true min_time z p.0, int_le-true z max_time p.1)

-- a property of each item, and a consequence
each : {X : Type 0} (test : X → Bool) (P : X → Type 0) → ((x : X) → test x ≡ true → P x) → (xs : List X) → list_all test xs ≡ true → AllByRecursion P xs
each test P f [] h = tt
each test P f (x ∷ xs) h = let p = and_parts (test x) (list_all test xs) h in (f x p.0, each test P f xs p.1)

-- the same for two tests
each_two : {X : Type 0} (test other : X → Bool) (P : X → Type 0) → ((x : X) → test x ≡ true → other x ≡ true → P x) → (xs : List X) → list_all test xs ≡ true → list_all other xs ≡ true → AllByRecursion P xs
each_two test other P f [] h k = tt
each_two test other P f (x ∷ xs) h k =
    let p = and_parts (test x) (list_all test xs) h in
    let q = and_parts (other x) (list_all other xs) k in
    (f x p.0 q.0, each_two test other P f xs p.1 q.1)

-- ---- parts

columns : (cols : List Column) → list_all is_name (map (λ (c : Column). c.name) cols) ≡ true → AllByRecursion IsColumn cols
columns [] h = tt
columns (c ∷ cols) h = let p = and_parts (is_name c.name) _ h in (p.0, columns cols p.1)

zero_is : (z : ℤ) → int_eq z (pos 0) ≡ true → Within (pos 0) (pos 0) z
zero_is z h = let same : z ≡ pos 0 = (Decides-int_eq z (pos 0)).0 h in (omega (arith, ints, same), omega (arith, ints, same))

number : (c : Cmp) (z : ℤ) → is_word z ≡ true → (not (is_null_test c) || int_eq z (pos 0)) ≡ true → Within (least_number c) (most_number c) z
number Eq z w h = word z w
number Ne z w h = word z w
number Lt z w h = word z w
number Le z w h = word z w
number Gt z w h = word z w
number Ge z w h = word z w
number IsNull z w h = zero_is z h
number NotNull z w h = zero_is z h

test : (n : ℕ) (t : Test) → test_fits n t ≡ true → fits_four t.col ≡ true → IsTest t
test n t h k =
    let last = and_parts (nat_lt t.col n && is_word t.num) (not (is_null_test t.cmp) || int_eq t.num (pos 0)) h in
    let first = and_parts (nat_lt t.col n) (is_word t.num) last.0 in
    record { column = four t.col k; number = number t.cmp t.num first.1 last.1 }

tests : (n : ℕ) (ts : List Test) → list_all (test_fits n) ts ≡ true → tests_fit_fields ts ≡ true → Many IsTest ts
tests n ts h k =
    let p = and_parts (fits_four (length ts)) (list_all (λ (t : Test). fits_four t.col) ts) k in
    (four (length ts) p.0, each_two (test_fits n) (λ t. fits_four t.col) IsTest (test n) ts h p.1)

column_of : (f : Fun) (col : ℕ) → (not (is_count_all f) || col == 0) ≡ true → col < 2 ^ 32 → col ≤ most_column f
column_of CountAll col h l = let none : col ≡ 0 = eqb-true col 0 h in omega (arith, none)
column_of Count col h l = omega (arith, l)
column_of Sum col h l = omega (arith, l)
column_of Min col h l = omega (arith, l)
column_of Max col h l = omega (arith, l)
column_of Avg col h l = omega (arith, l)

agg : (n : ℕ) (a : Agg) → agg_fits n a ≡ true → fits_four a.col ≡ true → IsAgg a
agg n a h k = column_of a.fun a.col (and_parts (nat_lt a.col n) (not (is_count_all a.fun) || a.col == 0) h).1 (four a.col k)

width : (w : Width) → is_width w ≡ true → IsStep w
width w h =
    let last = and_parts (int_lt (pos 0) w.step && int_le w.step max_step && int_le (pos 0) w.shift) (int_lt w.shift w.step) h in
    let third = and_parts (int_lt (pos 0) w.step && int_le w.step max_step) (int_le (pos 0) w.shift) last.0 in
    let first = and_parts (int_lt (pos 0) w.step) (int_le w.step max_step) third.0 in
    let positive = int_lt-true (pos 0) w.step first.0 in
    let below = int_lt-true w.shift w.step last.1 in
    record { step = (omega (arith, ints, positive), int_le-true w.step max_step first.1); shift = (int_le-true (pos 0) w.shift third.1, omega (arith, ints, below)) }

fold : (n : ℕ) (f : Fold) → is_width f.width ≡ true → fold_fits n f ≡ true → fold_fits_fields f ≡ true → IsFold f
fold n f w h k =
    let last = and_parts (list_all (λ c. nat_lt c n) f.keys && list_all (agg_fits n) f.aggs) (list_all (test_fits n) f.tests) h in
    let first = and_parts (list_all (λ c. nat_lt c n) f.keys) (list_all (agg_fits n) f.aggs) last.0 in
    let fifth = and_parts (fits_byte (length f.keys) && list_all fits_four f.keys && fits_byte (length f.aggs) && list_all (λ (a : Agg). fits_four a.col) f.aggs) (tests_fit_fields f.tests) k in
    let fourth = and_parts (fits_byte (length f.keys) && list_all fits_four f.keys && fits_byte (length f.aggs)) (list_all (λ (a : Agg). fits_four a.col) f.aggs) fifth.0 in
    let third = and_parts (fits_byte (length f.keys) && list_all fits_four f.keys) (fits_byte (length f.aggs)) fourth.0 in
    let keys = and_parts (fits_byte (length f.keys)) (list_all fits_four f.keys) third.0 in
    record {
      width = width f.width w;
      keys = (byte (length f.keys) keys.0, each fits_four IsFour four f.keys keys.1);
      aggs = (byte (length f.aggs) third.1, each_two (agg_fits n) (λ a. fits_four a.col) IsAgg (agg n) f.aggs first.1 fourth.1);
      tests = tests n f.tests last.1 fifth.1;
    }

values : (cols : List Column) (vals : List (Option ℤ)) → values_fit cols vals ≡ true → AllByRecursion IsValue vals
values [] [] h = tt
values [] (v ∷ vals) h = absurd (true≢false (sym h))
values (c ∷ cols) [] h = absurd (true≢false (sym h))
values (c ∷ cols) (None ∷ vals) h = (tt, values cols vals (and_parts (value_fits c None) (values_fit cols vals) h).1)
values (c ∷ cols) (Some v ∷ vals) h = let p = and_parts (is_word v) (values_fit cols vals) h in (word v p.0, values cols vals p.1)

row : (def : TableDef) (hyper : Hyper) (r : Row) → row_fits def hyper r ≡ true → fits_byte (length r.vals) ≡ true → IsRow r
row def hyper r h k =
    let p = and_parts (is_time r.at) (values_fit (remove def.cols hyper.at) r.vals) h in
    record { time = time r.at p.0; values = (byte (length r.vals) k, values (remove def.cols hyper.at) r.vals p.1) }

-- ---- operations

insert : (t : ℕ) (new : List Row) (o : Option TableInfo) → of_table (λ def hyper. rows_fit def hyper new) o ≡ true → op_fits_fields (ops.Insert t new) ≡ true → IsOp (ops.Insert t new)
insert t new None h k = absurd (true≢false (sym h))
insert t new (Some info) h k = of_hypers info.hyper h
  where
    of_hypers : (o : Option Hyper) → of_hyper (λ def hyper. rows_fit def hyper new) info.def o ≡ true → IsOp (ops.Insert t new)
    of_hypers None e = absurd (true≢false (sym e))
    of_hypers (Some hyper) e =
        let rows = and_parts (nat_lt 0 (length new)) (list_all (row_fits info.def hyper) new) e in
        let last = and_parts (fits_four t && fits_four (length new)) (list_all (λ (r : Row). fits_byte (length r.vals)) new) k in
        let first = and_parts (fits_four t) (fits_four (length new)) last.0 in
        (four t first.0, (four (length new) first.1, each_two (row_fits info.def hyper) (λ r. fits_byte (length r.vals)) IsRow (row info.def hyper) new rows.1 last.1))

delete : (t : ℕ) (ts : List Test) (o : Option TableInfo) → of_table (λ def hyper. list_all (test_fits (length def.cols)) ts) o ≡ true → op_fits_fields (ops.Delete t ts) ≡ true → IsOp (ops.Delete t ts)
delete t ts None h k = absurd (true≢false (sym h))
delete t ts (Some info) h k = of_hypers info.hyper h
  where
    of_hypers : (o : Option Hyper) → of_hyper (λ def hyper. list_all (test_fits (length def.cols)) ts) info.def o ≡ true → IsOp (ops.Delete t ts)
    of_hypers None e = absurd (true≢false (sym e))
    of_hypers (Some hyper) e =
        let p = and_parts (fits_four t) (tests_fit_fields ts) k in
        (four t p.0, tests (length info.def.cols) ts e p.1)

op : (r : Roster) (o : Op) → op_fits r o ≡ true → op_fits_fields o ≡ true → IsOp o
op r (ops.Insert t new) h k = insert t new (table_of r t) h k
op r (ops.Delete t ts) h k = delete t ts (table_of r t) h k

-- ---- events

hyper : (t : ℕ) (y : Hyper) (o : Option TableInfo) → hyper_fits y o ≡ true → fits_fields (events.Hyper t y) ≡ true → IsFour t × IsHyper y
hyper t y None h k = absurd (true≢false (sym h))
hyper t y (Some info) h k =
    let last = and_parts (nat_lt y.at (length info.def.cols) && int_lt (pos 0) y.interval) (int_le y.interval max_interval) h in
    let first = and_parts (nat_lt y.at (length info.def.cols)) (int_lt (pos 0) y.interval) last.0 in
    let positive = int_lt-true (pos 0) y.interval first.1 in
    let most = int_le-true y.interval max_interval last.1 in
    let p = and_parts (fits_four t) (fits_four y.at) k in
    (four t p.0, record { place = four y.at p.1; interval = (omega (arith, ints, positive), omega (arith, ints, most)) })

view : (def : ViewDef) (o : Option TableInfo) → of_table (view_fits def) o ≡ true → fits_fields (events.View def) ≡ true → IsView def
view def None h k = absurd (true≢false (sym h))
view def (Some info) h k = of_hypers info.hyper h
  where
    of_hypers : (o : Option Hyper) → of_hyper (view_fits def) info.def o ≡ true → IsView def
    of_hypers None e = absurd (true≢false (sym e))
    of_hypers (Some y) e =
        let names = and_parts _ (are_names def.names) e in
        let count = and_parts _ (length def.names == output_count def.fold) names.0 in
        let most = and_parts _ (nat_le (output_count def.fold) most_columns) count.0 in
        let some = and_parts _ (nat_lt 0 (length def.fold.aggs)) most.0 in
        let plan = and_parts _ (fold_fits (length info.def.cols) def.fold) some.0 in
        let name = and_parts (is_name def.name) (is_width def.fold.width) plan.0 in
        let all = and_parts (list_all is_name def.names) (all_apart def.names) names.1 in
        let fifth = and_parts _ (list_all name_fits_fields def.names) k in
        let fourth = and_parts _ (fits_byte (length def.names)) fifth.0 in
        let third = and_parts _ (fold_fits_fields def.fold) fourth.0 in
        let second = and_parts (name_fits_fields def.name) (fits_four def.table) third.0 in
        record {
          name = name.0;
          table = four def.table second.1;
          fold = fold (length info.def.cols) def.fold name.1 plan.1 third.1;
          names = (byte (length def.names) fourth.1, each is_name IsName (λ text ok. ok) def.names all.0);
        }

span : (s : Span) (o : Option ViewDef) → span_fits s o ≡ true → IsSpan s
span s None h = absurd (true≢false (sym h))
span s (Some def) h =
    let last = and_parts _ (is_word s.hi) h in
    let low = and_parts _ (is_word s.lo) last.0 in
    let from = and_parts _ (int_le (first_of def.fold.width) s.lo) low.0 in
    let less = int_lt-true s.lo s.hi (and_parts _ (int_lt s.lo s.hi) from.0).1 in
    let lo = word s.lo low.1 in
    let hi = word s.hi last.1 in
    record { lo = (lo.0, omega (arith, ints, less, hi.1)); hi = (omega (arith, ints, less), hi.1) }

formed : (h : History) (e : Event) → position h < 2 ^ 64 → sound_at h e ≡ true → sound_in (roster h) e ≡ true → fits_fields e ≡ true → IsFormed e
formed h (events.Table def) p at s k =
    let parts = and_parts (is_name def.name) (columns_fit def.cols) s in
    let names = and_parts _ (are_names (map (λ (c : Column). c.name) def.cols)) parts.1 in
    let all = and_parts (list_all is_name (map (λ (c : Column). c.name) def.cols)) _ names.1 in
    let last = and_parts _ (list_all (λ (c : Column). name_fits_fields c.name) def.cols) k in
    let first = and_parts (name_fits_fields def.name) (fits_byte (length def.cols)) last.0 in
    record { name = parts.0; columns = (byte (length def.cols) first.1, columns def.cols all.0) }
formed h (events.Hyper t y) p at s k = hyper t y (table_of (roster h) t) s k
formed h (events.View def) p at s k = view def (table_of (roster h) def.table) s k
formed h (events.Mode v only) p at s k = four v k
formed h (events.Commit os) p at s k =
    let parts = and_parts (nat_lt 0 (length os)) (list_all (op_fits (roster h)) os) s in
    let fits = and_parts (fits_four (length os)) (list_all op_fits_fields os) k in
    (four (length os) fits.0, each_two (op_fits (roster h)) op_fits_fields IsOp (op (roster h)) os parts.1 fits.1)
formed h (events.Cut v s) p at w k = (four v k, span s (view_of (roster h) v) w)
formed h (events.Built cut snap) p at s k =
    let last = and_parts (is_known (pending h cut) && nat_le cut snap && nat_le (base_position h) snap) (nat_le snap (position h)) at in
    let third = and_parts (is_known (pending h cut) && nat_le cut snap) (nat_le (base_position h) snap) last.0 in
    let first = and_parts (is_known (pending h cut)) (nat_le cut snap) third.0 in
    let above = leb-true snap (position h) last.1 in
    let below = leb-true cut snap first.1 in
    (omega (arith, above, below, p), omega (arith, above, p))

pub sound_formed : SoundAreFormed
sound_formed h e ok p s =
    let parts = and_parts (sound_at h e) (nat_lt (event_bytes e) bytes_limit) s in
    formed h e p parts.0 (sound_in_roster h e parts.0) (counts_fit h e ok s)
