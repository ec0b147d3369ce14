-- What would be allowed isn't refused.
use Rattle.std.proofs.Common.{◌≡◌, ◌∙◌, refl, sym, ap, subst, ℕ, zero, suc, ◌+◌, ◌<◌, ◌≤◌, Bool, true, false, cond, not, ◌&&◌, ◌||◌, ◌==◌, List, [], ◌∷◌, ◌++◌, map, length, get_or, Option, Some, None, is_some, is_none, ℤ, pos, int_lt, arith}
use Rattle.std.specs.Prelude.{nat_lt, nat_le, slice_get, option_and_then, IfSome}
use Rattle.std.specs.List.{list_all, list_any, position_from, AllByRecursion}
use Rattle.std.proofs.lemmas.Bool.{and_parts, not-true, ltb-true, leb-true, or_parts, or_from, and_right}
use Rattle.std.proofs.lemmas.Int.{ints}
use Rattle.std.proofs.lemmas.Iterator.Adapters.{position_from-zero}
use Rattle.std.proofs.lemmas.List.{length-map, length-append, append_assoc}
use Rattle.std.proofs.lemmas.List.Folds.{list_any-append}
use Rattle.std.proofs.lemmas.Option.{get_or_from_slice_get}
use Rattle.ts_schema.specs.Names.{is_name}
use Rattle.ts_schema.specs.declared.columns.Column.{Column}
use Rattle.ts_model.specs.declared.events.Event.TheVariants as events
use Rattle.ts_model.specs.declared.outcomes.Refusal.{Refusal}
use Rattle.ts_model.specs.declared.rosters.Roster.{Roster}
use Rattle.ts_model.specs.declared.tables.Hyper.{Hyper as HyperInfo}
use Rattle.ts_model.specs.declared.tables.TableDef.{TableDef}
use Rattle.ts_model.specs.declared.tables.TableInfo.{TableInfo}
use Rattle.ts_model.specs.declared.views.ViewDef.{ViewDef}
use Rattle.ts_model.specs.History.{History}
use Rattle.ts_model.specs.Limits.{most_relations}
use Rattle.ts_model.specs.Roster.{roster, same_name, table_named, table_of, view_named, is_taken as name_is_taken, of_table, of_hyper}
use Rattle.ts_model.specs.Sound.{all_apart, fold_fits, hyper_fits, output_count as columns_out, sound, sound_at, view_fits}
use Rattle.ts_model.proofs.AllowedLaws.{consistent_next}
use Rattle.ts_model.proofs.SoundLaws.{timely_in_roster}
use Rattle.ts_bucket.specs.Bucket.{is_width}
use Rattle.ts_model.specs.Timely.{timely_at}
use Rattle.ts_model.specs.Allowed.{allowed}
use Rattle.ts_catalog.specs.Columns.{column_from, column_of}
use Rattle.ts_catalog.specs.Relations.{found_in, or_else, table_from, table_kind, view_from}
use Rattle.ts_catalog.specs.declared.relations.Found.{Found}
use Rattle.ts_catalog.specs.declared.relations.Found.TheVariants as found
use Rattle.stmt_syntax.specs.declared.statements.NamedAgg.{NamedAgg}
use Rattle.stmt_syntax.specs.declared.statements.NamedFold.{NamedFold}
use Rattle.stmt_syntax.specs.declared.statements.NamedTest.{NamedTest}
use Rattle.stmt_syntax.specs.declared.statements.Stmt.TheVariants as stmts
use Rattle.stmt_check.specs.Check.{no_table, refusal_of, table_at}
use Rattle.stmt_check.specs.Folds.{aggregate_name, aggregate_of, aggregate_refusal, aggregates_refusal, argument_refusal, bucket_column, columns_before, fold_of, fold_refusal, is_key, is_shift, is_step, is_taken, is_time_column, key_refusal, keys_refusal, number_or_zero, output_count, output_names, tests_refusal, width_refusal}
use Rattle.stmt_check.specs.Refusals.{◌⊳◌, finds_nothing, hypertable_refusal, marked_refusal, refusal_if_none, name_refusal, plain_refusal, refusal_if}
use Rattle.stmt_check.specs.Subject.{AllowedIsReady, NamesColumns}
use Rattle.stmt_check.specs.Tables.{columns_refusal, hyper_refusal, is_column, is_interval}
use Rattle.stmt_check.proofs.FoldLaws.{any_name}
use Rattle.stmt_check.proofs.TableLaws.{any_column, columns_apart, names_of}
use Rattle.ts_schema.proofs.Cases.{none_there}
use Rattle.stmt_check.proofs.RowLaws.{same_itself}
use Rattle.stmt_check.proofs.RosterLaws.{interval_in_range}

-- ---- refusals

-- two checks without a refusal have none together
both_none : (a b : Option Refusal) → a ≡ None → b ≡ None → (a ⊳ b) ≡ None
both_none a b p q = ap (λ x. x ⊳ b) p ∙ q

fine : (p code mark : ℕ) (wrong : Bool) → wrong ≡ false → marked_refusal p code mark wrong ≡ None
fine p code mark wrong e = ap (λ b. marked_refusal p code mark b) e

there : {T : Type 0} (p code : ℕ) (o : Option T) → is_some o ≡ true → refusal_if_none p code o ≡ None
there p code None e = absurd cc
there p code (Some t) e = refl

good : (p code mark : ℕ) (test : Bool) → test ≡ true → marked_refusal p code mark (not test) ≡ None
good p code mark test e = ap (λ b. marked_refusal p code mark (not b)) e

not_le : (n m : ℕ) → m < n → nat_le n m ≡ false
not_le n m l = Rattle.std.proofs.lemmas.Bool.lt-leb n m l

-- ---- names

-- an item doesn't have the name of an earlier one, if all names are different
apart_before : (before : List (List ℕ)) (name : List ℕ) (behind : List (List ℕ)) → all_apart (before ++ name ∷ behind) ≡ true → list_any (λ other. same_name other name) before ≡ false
apart_before [] name behind e = refl
apart_before (n ∷ before) name behind e =
    let parts = and_parts (not (list_any (same_name n) (before ++ name ∷ behind))) (all_apart (before ++ name ∷ behind)) e in
    let none = not-true _ parts.0 in
    let split : (list_any (same_name n) before || (same_name n name || list_any (same_name n) behind)) ≡ false = sym (list_any-append (same_name n) before (name ∷ behind)) ∙ none in
    or_from (same_name n name) (list_any (λ other. same_name other name) before) (middle (list_any (same_name n) before) (same_name n name) (list_any (same_name n) behind) split) (apart_before before name behind parts.1)
  where
    middle : (x y z : Bool) → (x || (y || z)) ≡ false → y ≡ false
    middle true y z h = absurd cc
    middle false true z h = absurd cc
    middle false false z h = refl

-- a name that isn't taken refers to nothing
free_tables : (name : List ℕ) (k : ℕ) (ts : List TableInfo) → position_from (λ t. same_name t.def.name name) k ts ≡ None → table_from name k ts ≡ found.None
free_tables name k [] e = refl
free_tables name k (t ∷ ts) e = here (same_name t.def.name name) (free_tables name (k + 1) ts) e
  where
    here : (b : Bool) → (position_from (λ (x : TableInfo). same_name x.def.name name) (k + 1) ts ≡ None → table_from name (k + 1) ts ≡ found.None) → cond b (Some k) (position_from (λ x. same_name x.def.name name) (k + 1) ts) ≡ None → cond b (table_kind t k) (table_from name (k + 1) ts) ≡ found.None
    here true rest h = absurd cc
    here false rest h = rest h

free_views : (name : List ℕ) (k : ℕ) (vs : List ViewDef) → position_from (λ v. same_name v.name name) k vs ≡ None → view_from name k vs ≡ found.None
free_views name k [] e = refl
free_views name k (v ∷ vs) e = here (same_name v.name name) (free_views name (k + 1) vs) e
  where
    here : (b : Bool) → (position_from (λ (x : ViewDef). same_name x.name name) (k + 1) vs ≡ None → view_from name (k + 1) vs ≡ found.None) → cond b (Some k) (position_from (λ x. same_name x.name name) (k + 1) vs) ≡ None → cond b (found.View k) (view_from name (k + 1) vs) ≡ found.None
    here true rest h = absurd cc
    here false rest h = rest h

pub nothing_found : (r : Roster) (name : List ℕ) → name_is_taken r name ≡ false → found_in r name ≡ found.None
nothing_found r name e =
    let both = or_parts (is_some (table_named r name)) (is_some (view_named r name)) e in
    let tables : position_from (λ t. same_name t.def.name name) 0 r.tables ≡ None = sym (position_from-zero (λ t. same_name t.def.name name) r.tables) ∙ none_there (table_named r name) both.0 in
    let views : position_from (λ v. same_name v.name name) 0 r.views ≡ None = sym (position_from-zero (λ v. same_name v.name name) r.views) ∙ none_there (view_named r name) both.1 in
    ap (λ x. or_else x (view_from name 0 r.views)) (free_tables name 0 r.tables tables) ∙ free_views name 0 r.views views

name_is_free : (p : ℕ) (r : Roster) (name : List ℕ) (many : ℕ) → (not (name_is_taken r name) && nat_lt many most_relations) ≡ true → name_refusal p r name many ≡ None
name_is_free p r name many e =
    let parts = and_parts (not (name_is_taken r name)) (nat_lt many most_relations) e in
    let free : finds_nothing (found_in r name) ≡ true = ap finds_nothing (nothing_found r name (not-true _ parts.0)) in
    both_none (refusal_if p 7 (not (finds_nothing (found_in r name)))) (marked_refusal p 21 65 (nat_le 64 many)) (good p 7 0 (finds_nothing (found_in r name)) free) (fine p 21 65 (nat_le 64 many) (not_le 64 many (ltb-true many 64 parts.1)))

-- the table with a name is what is found
named_table : (name : List ℕ) (k : ℕ) (ts : List TableInfo) (j : ℕ) (t : TableInfo) → position_from (λ x. same_name x.def.name name) k ts ≡ Some (k + j) → slice_get ts j ≡ Some t → table_from name k ts ≡ table_kind t (k + j)
named_table name k [] j t e at = absurd cc
named_table name k (x ∷ ts) j t e at = here (same_name x.def.name name) j e at (λ i f g. named_table name (k + 1) ts i t f g) (λ n. far name (k + 1) ts n)
  where
    -- places counted from k are at least k
    far : (name : List ℕ) (k : ℕ) (ts : List TableInfo) (n : ℕ) → position_from (λ x. same_name x.def.name name) k ts ≡ Some n → k ≤ n
    far name k [] n e = absurd cc
    far name k (x ∷ ts) n e = go (same_name x.def.name name) e (far name (k + 1) ts n)
      where
        go : (b : Bool) → cond b (Some k) (position_from (λ x. same_name x.def.name name) (k + 1) ts) ≡ Some n → (position_from (λ (x : TableInfo). same_name x.def.name name) (k + 1) ts ≡ Some n → k + 1 ≤ n) → k ≤ n
        go true h rest = let same : k ≡ n = cc in omega arith
        go false h rest = let more = rest h in omega arith

    here : (b : Bool) (j : ℕ) → cond b (Some k) (position_from (λ (x : TableInfo). same_name x.def.name name) (k + 1) ts) ≡ Some (k + j) → slice_get (x ∷ ts) j ≡ Some t
        → ((i : ℕ) → position_from (λ (x : TableInfo). same_name x.def.name name) (k + 1) ts ≡ Some (k + 1 + i) → slice_get ts i ≡ Some t → table_from name (k + 1) ts ≡ table_kind t (k + 1 + i))
        → ((n : ℕ) → position_from (λ (x : TableInfo). same_name x.def.name name) (k + 1) ts ≡ Some n → k + 1 ≤ n)
        → cond b (table_kind x k) (table_from name (k + 1) ts) ≡ table_kind t (k + j)
    here true zero h at rest low = let same : x ≡ t = cc in let none : k ≡ k + 0 = omega arith in ap (λ y. table_kind y k) same ∙ ap (table_kind t) none
    here true (suc i) h at rest low = let same : k ≡ k + suc i = cc in absurd (omega arith)
    here false zero h at rest low = let bad = low (k + 0) h in absurd (omega arith)
    here false (suc i) h at rest low =
        let next : k + suc i ≡ k + 1 + i = omega arith in
        rest i (h ∙ ap Some next) at ∙ ap (table_kind t) (sym next)

kind_is : (t : TableInfo) (n : ℕ) (b : Bool) → is_some t.hyper ≡ b → table_kind t n ≡ cond b (found.Hyper n) (found.Plain n)
kind_is t n b e = ap (λ x. cond x (found.Hyper n) (found.Plain n)) e

or_else_table : (t : TableInfo) (n : ℕ) (other : Found) → or_else (table_kind t n) other ≡ table_kind t n
or_else_table t n other = elim (is_some t.hyper) as (λ b. or_else (cond b (found.Hyper n) (found.Plain n)) other ≡ cond b (found.Hyper n) (found.Plain n)) [ true ↦ refl | false ↦ refl ]

found_table : (r : Roster) (name : List ℕ) (n : ℕ) (t : TableInfo) → table_named r name ≡ Some n → table_of r n ≡ Some t → found_in r name ≡ table_kind t n
found_table r name n t e at =
    let place : position_from (λ x. same_name x.def.name name) 0 r.tables ≡ Some (0 + n) = (let zero_and : n ≡ 0 + n = omega arith in sym (position_from-zero (λ x. same_name x.def.name name) r.tables) ∙ e ∙ ap Some zero_and) in
    let count : 0 + n ≡ n = omega arith in
    ap (λ x. or_else x (view_from name 0 r.views)) (named_table name 0 r.tables n t place at ∙ ap (table_kind t) count) ∙ or_else_table t n (view_from name 0 r.views)

-- ---- CREATE TABLE

columns_ready : (p count : ℕ) (before cols : List Column) → all_apart (names_of (before ++ cols)) ≡ true → length before + length cols ≤ 16 → columns_refusal p count before cols ≡ None
columns_ready p count before [] e few = refl
columns_ready p count before (c ∷ cols) e few =
    let split : names_of (before ++ c ∷ cols) ≡ names_of before ++ c.name ∷ names_of cols = names_append before (c ∷ cols) in
    let new : is_column c.name before ≡ false = any_column before c.name ∙ apart_before (names_of before) c.name (names_of cols) (subst (λ (ns : List (List ℕ)). all_apart ns ≡ true) split e) in
    let shifted : all_apart (names_of ((before ++ c ∷ []) ++ cols)) ≡ true = subst (λ (cs : List Column). all_apart (names_of cs) ≡ true) (sym (append_assoc before (c ∷ []) cols)) e in
    let longer : length (before ++ c ∷ []) ≡ length before + 1 = length-append before (c ∷ []) in
    both_none (refusal_if p 7 (is_column c.name before)) _ (fine p 7 0 (is_column c.name before) new)
    (both_none (marked_refusal p 21 count (nat_le 16 (length before))) _ (fine p 21 count (nat_le 16 (length before)) (not_le 16 (length before) (omega arith)))
    (columns_ready p count (before ++ c ∷ []) cols shifted (omega arith)))
  where
    names_append : (xs ys : List Column) → names_of (xs ++ ys) ≡ names_of xs ++ names_of ys
    names_append [] ys = refl
    names_append (x ∷ xs) ys = ap (λ ns. x.name ∷ ns) (names_append xs ys)

table_ready : (h : History) (p : ℕ) (name : List ℕ) (cols : List Column) → allowed h (events.Table (record { name = name; cols = cols })) ≡ true → refusal_of p (roster h) (stmts.Table name cols) ≡ None
table_ready h p name cols e =
    let def : TableDef = record { name = name; cols = cols } in
    let parts = and_parts (sound h (events.Table def)) (timely_at h (events.Table def)) (consistent_next h (events.Table def) e) in
    let fits = (and_parts (is_name name) _ (and_parts (sound_at h (events.Table def)) _ parts.0).0).1 in
    let counts = (and_parts (nat_lt 0 (length cols) && nat_le (length cols) 16) _ fits).0 in
    let few : length cols ≤ 16 = leb-true _ _ (and_parts (nat_lt 0 (length cols)) _ counts).1 in
    both_none (name_refusal p (roster h) name (length (roster h).tables)) _ (name_is_free p (roster h) name (length (roster h).tables) (timely_in_roster h (events.Table def) parts.1))
    (columns_ready p (length cols) [] cols (columns_apart cols fits) (omega arith))

-- ---- create_hypertable

column_there : (k : ℕ) (cols : List Column) (j : ℕ) (c : Column) → slice_get cols j ≡ Some c → is_some (column_from c.name k cols) ≡ true
column_there k [] j c e = absurd cc
column_there k (d ∷ cols) zero c e =
    let same : d ≡ c = cc in
    let own : same_name d.name c.name ≡ true = ap (λ (x : Column). same_name d.name x.name) (sym same) ∙ same_itself d.name in
    ap (λ b. is_some (cond b (Some k) (column_from c.name (k + 1) cols))) own
column_there k (d ∷ cols) (suc j) c e =
    elim (same_name d.name c.name) as (λ b. is_some (cond b (Some k) (column_from c.name (k + 1) cols)) ≡ true) [ true ↦ refl | false ↦ column_there (k + 1) cols j c e ]

interval_ready : (hyper : HyperInfo) (info : TableInfo) → hyper_fits hyper (Some info) ≡ true → is_interval hyper.interval ≡ true
interval_ready hyper info e =
    let parts = and_parts (nat_lt hyper.at (length info.def.cols) && int_lt (pos 0) hyper.interval) _ e in
    let positive = (and_parts (nat_lt hyper.at (length info.def.cols)) _ parts.0).1 in
    interval_in_range hyper.interval positive parts.1

hyper_ready : (h : History) (p : ℕ) (table : List ℕ) (n : ℕ) (info : TableInfo) (at : ℕ) (c : Column) (interval : ℤ)
    → table_named (roster h) table ≡ Some n → table_of (roster h) n ≡ Some info → slice_get info.def.cols at ≡ Some c
    → allowed h (events.Hyper n (record { at = at; interval = interval })) ≡ true → refusal_of p (roster h) (stmts.Hyper table c.name interval) ≡ None
hyper_ready h p table n info at c interval named is col e =
    let r = roster h in
    let hyper : HyperInfo = record { at = at; interval = interval } in
    let parts = and_parts (sound h (events.Hyper n hyper)) (timely_at h (events.Hyper n hyper)) (consistent_next h (events.Hyper n hyper) e) in
    let fits = subst (λ (o : Option TableInfo). hyper_fits hyper o ≡ true) is (and_parts (sound_at h (events.Hyper n hyper)) _ parts.0).0 in
    let plain : is_some info.hyper ≡ false = not_yet info.hyper (subst (λ (o : Option TableInfo). is_none (option_and_then (λ (i : TableInfo). i.hyper) o) ≡ true) is (timely_in_roster h (events.Hyper n hyper) parts.1)) in
    let what : found_in r table ≡ found.Plain n = found_table r table n info named is ∙ kind_is info n false plain in
    let where_is : get_or r.tables n no_table ≡ info = get_or_from_slice_get r.tables n info no_table is in
    subst (λ (f : Found). (plain_refusal p f ⊳ hyper_refusal p (table_at r f).def.cols c.name interval) ≡ None) (sym what)
    (subst (λ (t : TableInfo). hyper_refusal p t.def.cols c.name interval ≡ None) (sym where_is)
    (both_none (refusal_if_none p 8 (column_from c.name 0 info.def.cols)) (refusal_if p 14 (not (is_interval interval))) (there p 8 (column_from c.name 0 info.def.cols) (column_there 0 info.def.cols at c col)) (good p 14 0 (is_interval interval) (interval_ready hyper info fits))))
  where
    not_yet : (o : Option HyperInfo) → is_none o ≡ true → is_some o ≡ false
    not_yet None e = refl
    not_yet (Some x) e = absurd cc

-- ---- CREATE MATERIALIZED VIEW

width_ready : (p : ℕ) (info : TableInfo) (f : NamedFold) → is_width (record { step = f.step; shift = f.shift }) ≡ true → column_of info f.at ≡ Some zero → width_refusal p info f ≡ None
width_ready p info f w at =
    both_none (refusal_if p 14 (not (is_step f.step))) _ (good p 14 0 (is_step f.step) (step f.step f.shift w))
    (both_none (refusal_if p 8 (not (is_time_column (column_of info f.at)))) (refusal_if p 14 (not (is_shift f.step f.shift))) (good p 8 0 (is_time_column (column_of info f.at)) (ap is_time_column at)) (good p 14 0 (is_shift f.step f.shift) (shift f.step f.shift w)))
  where
    step : (s o : ℤ) → is_width (record { step = s; shift = o }) ≡ true → is_step s ≡ true
    step s o e = grind (arith, ints)

    shift : (s o : ℤ) → is_width (record { step = s; shift = o }) ≡ true → is_shift s o ≡ true
    shift s o e = grind (arith, ints)

-- fewer than 16 columns are before one of at most 16
few_before : (keys aggs : ℕ) → suc (keys + aggs) < 16 → columns_before keys aggs < 16
few_before keys aggs l = omega arith

keys_ready : (p count : ℕ) (info : TableInfo) (head : List ℕ) (before keys behind : List (List ℕ)) → all_apart ((head ∷ before) ++ (keys ++ behind)) ≡ true → suc (length before + length keys) ≤ 16
    → AllByRecursion (λ k. is_some (column_of info k) ≡ true) keys → keys_refusal p true count info head before keys ≡ None
keys_ready p count info head before [] behind e few h = refl
keys_ready p count info head before (k ∷ keys) behind e few h =
    let new : is_key head before k ≡ false = apart_before (head ∷ before) k (keys ++ behind) e in
    let shifted : all_apart ((head ∷ before ++ k ∷ []) ++ (keys ++ behind)) ≡ true = subst (λ (ns : List (List ℕ)). all_apart (head ∷ ns) ≡ true) (sym (append_assoc before (k ∷ []) (keys ++ behind))) e in
    let longer : length (before ++ k ∷ []) ≡ length before + 1 = length-append before (k ∷ []) in
    both_none (key_refusal p count info (columns_before (length before) 0) (is_key head before k) k) _
    (both_none (refusal_if p 7 (is_key head before k)) _ (fine p 7 0 (is_key head before k) new)
    (both_none (refusal_if_none p 8 (column_of info k)) _ (there p 8 (column_of info k) h.0) (fine p 21 count (nat_le 16 (columns_before (length before) 0)) (not_le 16 _ (few_before (length before) 0 (omega arith))))))
    (keys_ready p count info head (before ++ k ∷ []) keys behind shifted (omega arith) h.1)

argument_ready : (p : ℕ) (info : TableInfo) (o : Option (List ℕ)) → IfSome o (λ c. is_some (column_of info c) ≡ true) → argument_refusal p info o ≡ None
argument_ready p info None h = refl
argument_ready p info (Some c) h = there p 8 (column_of info c) h

aggregates_ready : (p count : ℕ) (info : TableInfo) (head : List ℕ) (keys : List (List ℕ)) (before aggs : List NamedAgg) → all_apart ((head ∷ keys) ++ map aggregate_name (before ++ aggs)) ≡ true → suc (length keys + (length before + length aggs)) ≤ 16
    → AllByRecursion (λ a. IfSome a.col (λ c. is_some (column_of info c) ≡ true)) aggs → aggregates_refusal p true count info head keys before aggs ≡ None
aggregates_ready p count info head keys before [] e few h = refl
aggregates_ready p count info head keys before (a ∷ aggs) e few h =
    let name = aggregate_name a in
    let parted : (head ∷ keys) ++ map aggregate_name (before ++ a ∷ aggs) ≡ ((head ∷ keys) ++ map aggregate_name before) ++ name ∷ map aggregate_name aggs =
    ap (λ ns. (head ∷ keys) ++ ns) (map_append before (a ∷ aggs)) ∙ sym (append_assoc (head ∷ keys) (map aggregate_name before) (name ∷ map aggregate_name aggs)) in
    let none = apart_before ((head ∷ keys) ++ map aggregate_name before) name (map aggregate_name aggs) (subst (λ (ns : List (List ℕ)). all_apart ns ≡ true) parted e) in
    let new : is_taken head keys before name ≡ false =
    ap (λ b. is_key head keys name || b) (any_name before name) ∙ sym (list_any-append (λ other. same_name other name) (head ∷ keys) (map aggregate_name before)) ∙ none in
    let shifted : all_apart ((head ∷ keys) ++ map aggregate_name ((before ++ a ∷ []) ++ aggs)) ≡ true = subst (λ (xs : List NamedAgg). all_apart ((head ∷ keys) ++ map aggregate_name xs) ≡ true) (sym (append_assoc before (a ∷ []) aggs)) e in
    let longer : length (before ++ a ∷ []) ≡ length before + 1 = length-append before (a ∷ []) in
    both_none (aggregate_refusal p count info (columns_before (length keys) (length before)) (is_taken head keys before name) a) _
    (both_none (refusal_if p 7 (is_none a.name && is_taken head keys before name)) _ (fine p 7 0 _ (and_right (is_none a.name) _ new))
    (both_none (marked_refusal p 21 count (nat_le 16 (columns_before (length keys) (length before)))) _ (fine p 21 count _ (not_le 16 _ (few_before (length keys) (length before) (omega arith))))
    (both_none (argument_refusal p info a.col) _ (argument_ready p info a.col h.0) (fine p 7 0 _ (and_right (is_some a.name) _ new)))))
    (aggregates_ready p count info head keys (before ++ a ∷ []) aggs shifted (omega arith) h.1)
  where
    map_append : (xs ys : List NamedAgg) → map aggregate_name (xs ++ ys) ≡ map aggregate_name xs ++ map aggregate_name ys
    map_append [] ys = refl
    map_append (x ∷ xs) ys = ap (λ ns. aggregate_name x ∷ ns) (map_append xs ys)

tests_ready : (p : ℕ) (info : TableInfo) (tests : List NamedTest) → AllByRecursion (λ t. is_some (column_of info t.col) ≡ true) tests → tests_refusal p info tests ≡ None
tests_ready p info [] h = refl
tests_ready p info (t ∷ tests) h = both_none (refusal_if_none p 8 (column_of info t.col)) _ (there p 8 (column_of info t.col) h.0) (tests_ready p info tests h.1)

-- the facts of an aggregate that fits
record ViewFits (info : TableInfo) (f : NamedFold) : Type 0 where
  pub width : is_width (record { step = f.step; shift = f.shift }) ≡ true
  pub few : suc (length f.keys + length f.aggs) ≤ 16
  pub apart : all_apart (output_names f) ≡ true

fold_ready : (p : ℕ) (info : TableInfo) (f : NamedFold) → ViewFits info f → NamesColumns info f → fold_refusal p true info f ≡ None
fold_ready p info f v n =
    both_none (width_refusal p info f) _ (width_ready p info f v.width n.time)
    (both_none (keys_refusal p true (output_count f) info (bucket_column f) [] f.keys) _ (keys_ready p (output_count f) info (bucket_column f) [] f.keys (map aggregate_name f.aggs) v.apart (omega (arith, v.few)) n.keys)
    (both_none (aggregates_refusal p true (output_count f) info (bucket_column f) f.keys [] f.aggs) _ (aggregates_ready p (output_count f) info (bucket_column f) f.keys [] f.aggs v.apart (omega (arith, v.few)) n.aggs)
    (tests_ready p info f.tests n.tests)))

view_of_fold : (info : TableInfo) (hyper : HyperInfo) (n : ℕ) (name : List ℕ) (only : Bool) (f : NamedFold) → view_fits (record { name = name; table = n; fold = fold_of info f; names = output_names f; only = only }) info.def hyper ≡ true → ViewFits info f
view_of_fold info hyper n name only f e =
    let width = is_width (record { step = f.step; shift = f.shift }) in
    let fits = fold_fits (length info.def.cols) (fold_of info f) in
    let some = nat_lt 0 (length (fold_of info f).aggs) in
    let few = nat_le (columns_out (fold_of info f)) 16 in
    let counted = length (output_names f) == columns_out (fold_of info f) in
    let one = and_parts (is_name name && width && fits && some && few && counted) _ e in
    let two = and_parts (is_name name && width && fits && some && few) counted one.0 in
    let three = and_parts (is_name name && width && fits && some) few two.0 in
    let four = and_parts (is_name name && width && fits) some three.0 in
    let five = and_parts (is_name name && width) fits four.0 in
    let keys : length (map (number_or_zero info) f.keys) ≡ length f.keys = length-map f.keys (number_or_zero info) in
    let aggs : length (map (aggregate_of info) f.aggs) ≡ length f.aggs = length-map f.aggs (aggregate_of info) in
    let most : columns_out (fold_of info f) ≤ 16 = leb-true _ _ three.1 in
    record {
      width = (and_parts (is_name name) width five.0).1;
      few = omega arith;
      apart = (and_parts (list_all is_name (output_names f)) _ one.1).1;
    }

view_ready : (h : History) (p : ℕ) (name : List ℕ) (only filled : Bool) (f : NamedFold) (n : ℕ) (info : TableInfo)
    → table_named (roster h) f.table ≡ Some n → table_of (roster h) n ≡ Some info → NamesColumns info f
    → allowed h (events.View (record { name = name; table = n; fold = fold_of info f; names = output_names f; only = only })) ≡ true
    → refusal_of p (roster h) (stmts.View name only filled f) ≡ None
view_ready h p name only filled f n info named is columns e =
    let r = roster h in
    let def : ViewDef = record { name = name; table = n; fold = fold_of info f; names = output_names f; only = only } in
    let parts = and_parts (sound h (events.View def)) (timely_at h (events.View def)) (consistent_next h (events.View def) e) in
    let fits = subst (λ (o : Option TableInfo). of_table (view_fits def) o ≡ true) is (and_parts (sound_at h (events.View def)) _ parts.0).0 in
    let hyper = over_hyper info.hyper fits in
    let what : found_in r f.table ≡ found.Hyper n = found_table r f.table n info named is ∙ kind_is info n true hyper.0 in
    let where_is : get_or r.tables n no_table ≡ info = get_or_from_slice_get r.tables n info no_table is in
    both_none (name_refusal p r name (length r.views)) _ (name_is_free p r name (length r.views) (timely_in_roster h (events.View def) parts.1))
    (subst (λ (x : Found). (hypertable_refusal p x ⊳ fold_refusal p true (table_at r x) f) ≡ None) (sym what)
    (subst (λ (t : TableInfo). fold_refusal p true t f ≡ None) (sym where_is) (fold_ready p info f hyper.1 columns)))
  where
    over_hyper : (o : Option HyperInfo) → of_hyper (view_fits (record { name = name; table = n; fold = fold_of info f; names = output_names f; only = only })) info.def o ≡ true → (is_some o ≡ true) × ViewFits info f
    over_hyper None e = absurd cc
    over_hyper (Some x) e = (refl, view_of_fold info x n name only f e)

pub allowed_is_ready : AllowedIsReady
allowed_is_ready = record { tables = table_ready; hypers = hyper_ready; views = view_ready }
