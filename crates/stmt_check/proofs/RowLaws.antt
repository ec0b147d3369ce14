-- Rows that aren't refused fit their hypertable, and take at most 8 bytes for each byte of their text.
use Rattle.std.proofs.Common.{◌≡◌, ◌∙◌, refl, sym, subst, ap, ℕ, zero, suc, ◌+◌, ◌*◌, ◌<◌, ◌≤◌, Bool, true, false, cond, not, ◌&&◌, ◌||◌, List, [], ◌∷◌, map, length, get_or, drop, Option, Some, None, is_some, is_none, arith, ℤ, pos}
use Rattle.std.specs.Prelude.{nat_le, ◌==◌, unwrap_or, slice_get, sum_by, remove}
use Rattle.std.specs.List.{list_all, list_any, AllByRecursion}
use Rattle.std.proofs.lemmas.Bool.{and_parts, and_from, eqb-true, ne_eqb, eq-eqb, not-true, or_parts, or_right, or_left}
use Rattle.std.proofs.lemmas.List.{length-map}
use Rattle.std.proofs.lemmas.List.Sums.{sum_by-cons}
use Rattle.std.proofs.lemmas.Option.{get_or_from_slice_get}
use Rattle.std.specs.Cmp.Lexicographic.{same_text}
use Rattle.std.proofs.lemmas.Slice.Eq.{bytes_eq-Decides}
use Rattle.ts_bucket.specs.Bucket.{is_time}
use Rattle.ts_schema.specs.declared.columns.Column.{Column}
use Rattle.ts_schema.specs.declared.rows.Row.{Row}
use Rattle.ts_model.specs.declared.tables.Hyper.{Hyper as HyperInfo}
use Rattle.ts_model.specs.declared.tables.TableDef.{TableDef}
use Rattle.ts_model.specs.Roster.{same_name}
use Rattle.ts_model.specs.Sound.{all_apart, row_fits, value_fits, values_fit}
use Rattle.ts_model.specs.Bytes.{row_bytes, value_bytes}
use Rattle.ts_catalog.specs.Columns.{column_from, place_from}
use Rattle.stmt_syntax.specs.Proper.{IsValue, AreProperRows}
use Rattle.stmt_syntax.specs.Written.{row_size}
use Rattle.stmt_check.specs.declared.inserts.Rule.{Rule}
use Rattle.stmt_check.specs.Refusals.{marked_refusal, refusal_if}
use Rattle.stmt_check.specs.Rows.{insert_refusal, inserted_rows, leaves_out, list_refusal_of, blank_column, other_places, value_at, place_in, row_of, row_refusal, rows_of, rows_refusal, rule_at, rule_of, rules_from, shape_of, time_place, value_refusal, value_rules, values_refusal}
use Rattle.stmt_check.proofs.RosterLaws.{all_at}
use Rattle.stmt_check.proofs.PassedLaws.{neither, not_wrong, has_to_be}
use Rattle.stmt_check.specs.Limits.{most_rows}

-- ---- the value of a column

-- the values of a row that isn't refused, each by its rule
pub record ByRule (p : ℕ) (r : Rule) (values : List (Option ℤ)) (i : ℕ) : Type 0 where
  pub value : Option ℤ
  pub at : slice_get values i ≡ Some value
  pub passed : value_refusal p r value ≡ None

pub by_rule : (p : ℕ) (rules : List Rule) (values : List (Option ℤ)) (i : ℕ) (r : Rule) → length values ≡ length rules → values_refusal p rules values ≡ None → slice_get rules i ≡ Some r → ByRule p r values i
by_rule p [] values i r n e at = absurd cc
by_rule p (q ∷ rules) [] i r n e at = absurd (omega arith)
by_rule p (q ∷ rules) (v ∷ values) zero r n e at =
    let same : q ≡ r = cc in
    record { value = v; at = refl; passed = subst (λ (x : Rule). value_refusal p x v ≡ None) same (neither (value_refusal p q v) _ e).0 }
by_rule p (q ∷ rules) (v ∷ values) (suc i) r n e at =
    let rest = by_rule p rules values i r (omega arith) (neither (value_refusal p q v) _ e).1 at in
    record { value = rest.value; at = rest.at; passed = rest.passed }

-- the rules of columns in declared order
declared_rule : (at k : ℕ) (cols : List Column) (j : ℕ) (c : Column) → slice_get cols j ≡ Some c → slice_get (rules_from at k cols) j ≡ Some (rule_at at c (k + j))
declared_rule at k [] j c e = absurd cc
declared_rule at k (d ∷ cols) zero c e =
    let same : d ≡ c = cc in
    let here : k ≡ k + 0 = omega arith in
    ap (λ x. Some (rule_at at x k)) same ∙ ap (λ n. Some (rule_at at c n)) here
declared_rule at k (d ∷ cols) (suc j) c e =
    let next : k + 1 + j ≡ k + suc j = omega arith in
    declared_rule at (k + 1) cols j c e ∙ ap (λ n. Some (rule_at at c n)) next

-- the name at the place that is found is the name
named_there : (name : List ℕ) (k : ℕ) (names : List (List ℕ)) (i : ℕ) → place_from name k names ≡ Some i → (j : ℕ) × (i ≡ k + j) × (slice_get names j ≡ Some name)
named_there name k [] i e = absurd cc
named_there name k (n ∷ names) i e = here k n names i (same_name n name) refl (named_there name (k + 1) names i) e
  where
    here : (k : ℕ) (n : List ℕ) (names : List (List ℕ)) (i : ℕ) (same : Bool) → same_name n name ≡ same → (place_from name (k + 1) names ≡ Some i → (j : ℕ) × (i ≡ k + 1 + j) × (slice_get names j ≡ Some name)) → cond same (Some k) (place_from name (k + 1) names) ≡ Some i → (j : ℕ) × (i ≡ k + j) × (slice_get (n ∷ names) j ≡ Some name)
    here k n names i true is rest e = let here : k ≡ i = cc in (0, omega arith, ap Some (same_text n name (sym is)))
    here k n names i false is rest e = let r = rest e in (suc r.0, (let f : i ≡ k + 1 + r.0 = r.1 in omega (arith, f)), r.2)

pub same_itself : (name : List ℕ) → same_name name name ≡ true
same_itself name = (bytes_eq-Decides name name).1 refl

-- no column passes if no name does
none_at : (test : List ℕ → Bool) (cols : List Column) (j : ℕ) (c : Column) → list_any test (map (λ d. d.name) cols) ≡ false → slice_get cols j ≡ Some c → test c.name ≡ false
none_at test [] j c e at = absurd cc
none_at test (d ∷ cols) j c e at = here test d cols j c (or_parts (test d.name) (list_any test (map (λ x. x.name) cols)) e) (λ i f. none_at test cols i c (or_parts (test d.name) (list_any test (map (λ x. x.name) cols)) e).1 f) at
  where
    here : (test : List ℕ → Bool) (d : Column) (cols : List Column) (j : ℕ) (c : Column) → (test d.name ≡ false) × (list_any test (map (λ x. x.name) cols) ≡ false) → ((i : ℕ) → slice_get cols i ≡ Some c → test c.name ≡ false) → slice_get (d ∷ cols) j ≡ Some c → test c.name ≡ false
    here test d cols zero c both rest at = let same : d ≡ c = cc in ap (λ (x : Column). test x.name) (sym same) ∙ both.0
    here test d cols (suc i) c both rest at = rest i at

-- a column is found by its own name, if the names of columns are distinct
column_stands : (k : ℕ) (cols : List Column) (j : ℕ) (c : Column) → all_apart (map (λ d. d.name) cols) ≡ true → slice_get cols j ≡ Some c → column_from c.name k cols ≡ Some (k + j)
column_stands k [] j c a e = absurd cc
column_stands k (d ∷ cols) zero c a e =
    let same : d ≡ c = cc in
    let own : same_name d.name c.name ≡ true = ap (λ (x : Column). same_name d.name x.name) (sym same) ∙ same_itself d.name in
    let here : k ≡ k + 0 = omega arith in
    ap (λ b. cond b (Some k) (column_from c.name (k + 1) cols)) own ∙ ap Some here
column_stands k (d ∷ cols) (suc j) c a e =
    let parts = and_parts (not (list_any (same_name d.name) (map (λ x. x.name) cols))) _ a in
    let other : same_name d.name c.name ≡ false = none_at (same_name d.name) cols j c (not-true _ parts.0) e in
    let next : k + 1 + j ≡ k + suc j = omega arith in
    ap (λ b. cond b (Some k) (column_from c.name (k + 1) cols)) other ∙ column_stands (k + 1) cols j c parts.1 e ∙ ap Some next

-- the rule of the column with a name is that of its place
named_rule : (at : ℕ) (cols : List Column) (k : ℕ) (c : Column) → all_apart (map (λ d. d.name) cols) ≡ true → slice_get cols k ≡ Some c → rule_of at cols c.name ≡ rule_at at c k
named_rule at cols k c a e =
    let place : column_from c.name 0 cols ≡ Some k = column_stands 0 cols k c a e ∙ ap Some (let same : 0 + k ≡ k = omega arith in same) in
    let found : unwrap_or (column_from c.name 0 cols) 0 ≡ k = ap (λ o. unwrap_or o 0) place in
    ap (λ n. rule_at at (get_or cols n blank_column) n) found ∙ ap (λ x. rule_at at x k) (get_or_from_slice_get cols k c blank_column e)

mapped_at : {X Y : Type 0} (f : X → Y) (xs : List X) (i : ℕ) (x : X) → slice_get xs i ≡ Some x → slice_get (map f xs) i ≡ Some (f x)
mapped_at f [] i x e = absurd cc
mapped_at f (y ∷ xs) zero x e = let same : y ≡ x = cc in ap (λ z. Some (f z)) same
mapped_at f (y ∷ xs) (suc i) x e = mapped_at f xs i x e

-- the rule of a column is at the place of its value
pub rule_there : (at : ℕ) (cols : List Column) (names : Option (List (List ℕ))) (k : ℕ) (c : Column) (i : ℕ) → all_apart (map (λ d. d.name) cols) ≡ true → slice_get cols k ≡ Some c → place_in names k c ≡ Some i → slice_get (value_rules at cols names) i ≡ Some (rule_at at c k)
rule_there at cols None k c i a e p =
    let same : k ≡ i = cc in
    subst (λ (j : ℕ). slice_get (rules_from at 0 cols) j ≡ Some (rule_at at c k)) same
    (declared_rule at 0 cols k c e ∙ ap (λ n. Some (rule_at at c n)) (let z : 0 + k ≡ k = omega arith in z))
rule_there at cols (Some names) k c i a e p =
    let r = named_there c.name 0 names i p in
    let here : slice_get names i ≡ Some c.name = subst (λ (j : ℕ). slice_get names j ≡ Some c.name) (let z : r.0 ≡ i = omega (arith, r.1) in z) r.2 in
    mapped_at (rule_of at cols) names i c.name here ∙ ap Some (named_rule at cols k c a e)

-- the value of a column: a time if it is the time, and not NULL if it must not be
record ValueIsFine (must time : Bool) (v : Option ℤ) : Type 0 where
  pub some : must ≡ true → is_some v ≡ true
  pub in_range : time ≡ true → is_time (unwrap_or v (pos 0)) ≡ true
  pub word : IsValue v

value_is_fine : (p : ℕ) (r : Rule) (v : Option ℤ) → IsValue v → value_refusal p r v ≡ None → ValueIsFine r.must r.time v
value_is_fine p r None h e = record { word = tt; some = λ m. absurd (let f : true ≡ false = sym m ∙ not_wrong p 12 0 r.must e in cc); in_range = λ t. refl }
value_is_fine p r (Some v) h e = record { word = h; some = λ m. refl; in_range = λ t. timed r.time (is_time v) t (not_wrong p 9 0 (r.time && not (is_time v)) e) }
  where
    timed : (time good : Bool) → time ≡ true → (time && not good) ≡ false → good ≡ true
    timed time true t e = refl
    timed true false t e = absurd cc
    timed false false t e = absurd cc

-- the facts of a row that isn't refused
record RowPasses (p at : ℕ) (cols : List Column) (names : Option (List (List ℕ))) (values : List (Option ℤ)) : Type 0 where
  pub apart : all_apart (map (λ d. d.name) cols) ≡ true
  pub count : length values ≡ length (value_rules at cols names)
  pub passed : values_refusal p (value_rules at cols names) values ≡ None
  pub proper : AllByRecursion IsValue values

-- a column that isn't left out if it must not be has a fine value
column_value : (p at : ℕ) (cols : List Column) (names : Option (List (List ℕ))) (values : List (Option ℤ)) (k : ℕ) (c : Column) → RowPasses p at cols names values → slice_get cols k ≡ Some c → ((c.must || at == k) && is_none (place_in names k c)) ≡ false → ValueIsFine (c.must || at == k) (at == k) (value_at values (place_in names k c))
column_value p at cols names values k c r e left = go (place_in names k c) refl left
  where
    not_left : (must : Bool) → (must && true) ≡ false → must ≡ true → ⊥
    not_left true e m = absurd cc
    not_left false e m = absurd cc

    go : (o : Option ℕ) → place_in names k c ≡ o → ((c.must || at == k) && is_none o) ≡ false → ValueIsFine (c.must || at == k) (at == k) (value_at values o)
    go None is left = record { word = tt; some = λ m. absurd (not_left (c.must || at == k) left m); in_range = λ t. refl }
    go (Some i) is left =
        let v = by_rule p (value_rules at cols names) values i (rule_at at c k) r.count r.passed (rule_there at cols names k c i r.apart e is) in
        subst (λ (w : Option ℤ). ValueIsFine (c.must || at == k) (at == k) w) (sym (get_or_from_slice_get values i v.value None v.at)) (value_is_fine p (rule_at at c k) v.value (all_at IsValue values i v.value r.proper v.at) v.passed)

-- the values of these columns; the first has the declared place k
abbrev AllFine : ℕ → Option (List (List ℕ)) → List (Option ℤ) → ℕ → List Column → Type 0
AllFine at names values k [] = Unit {0}
AllFine at names values k (c ∷ cs) = ValueIsFine (c.must || at == k) (at == k) (value_at values (place_in names k c)) × AllFine at names values (k + 1) cs

first_of : {X : Type 0} (xs : List X) (k : ℕ) (c : X) (cs : List X) → drop k xs ≡ c ∷ cs → (slice_get xs k ≡ Some c) × (drop (k + 1) xs ≡ cs)
first_of [] zero c cs e = absurd cc
first_of [] (suc k) c cs e = absurd cc
first_of (x ∷ xs) zero c cs e = let same : x ≡ c = cc in let rest : xs ≡ cs = cc in (ap Some same, rest)
first_of (x ∷ xs) (suc k) c cs e =
    let r = first_of xs k c cs e in
    (r.0, (let one : suc k + 1 ≡ suc (k + 1) = omega arith in ap (λ n. drop n (x ∷ xs)) one ∙ r.1))

all_fine : (p at : ℕ) (cols : List Column) (names : Option (List (List ℕ))) (values : List (Option ℤ)) (k : ℕ) (cs : List Column) → RowPasses p at cols names values → drop k cols ≡ cs → leaves_out at names k cs ≡ false → AllFine at names values k cs
all_fine p at cols names values k [] r d left = tt
all_fine p at cols names values k (c ∷ cs) r d left =
    let both = or_parts ((c.must || at == k) && is_none (place_in names k c)) (leaves_out at names (k + 1) cs) left in
    let here = first_of cols k c cs d in
    (column_value p at cols names values k c r here.0 both.0, all_fine p at cols names values (k + 1) cs r here.1 both.1)

-- ---- the row

must_fit : (c : Column) (v : Option ℤ) → (c.must ≡ true → is_some v ≡ true) → IsValue v → value_fits c v ≡ true
must_fit c None h k = unless_must c.must h
  where
    unless_must : (must : Bool) → (must ≡ true → false ≡ true) → not must ≡ true
    unless_must true g = g refl
    unless_must false g = refl
must_fit c (Some v) h k = k

-- the values of the columns after the time fit them
fit_behind : (at : ℕ) (names : Option (List (List ℕ))) (values : List (Option ℤ)) (k : ℕ) (cs : List Column) → at < k → AllFine at names values k cs → values_fit cs (map (value_at values) (other_places at names k cs)) ≡ true
fit_behind at names values k [] lt f = refl
fit_behind at names values k (c ∷ cs) lt f =
    let apart : (at == k) ≡ false = ne_eqb at k (λ e. omega arith) in
    rw apart (and_from _ _ (must_fit c (value_at values (place_in names k c)) (λ m. f.0.some (or_left c.must (at == k) m)) f.0.word) (fit_behind at names values (k + 1) cs (omega arith) f.1))

-- the values of all columns except the time fit them
fit_from : (at : ℕ) (names : Option (List (List ℕ))) (values : List (Option ℤ)) (k : ℕ) (cs : List Column) (j : ℕ) → at ≡ k + j → AllFine at names values k cs → values_fit (remove cs j) (map (value_at values) (other_places at names k cs)) ≡ true
fit_from at names values k [] zero e f = refl
fit_from at names values k [] (suc j) e f = refl
fit_from at names values k (c ∷ cs) zero e f =
    let here : (at == k) ≡ true = eq-eqb at k (omega arith) in
    rw here (fit_behind at names values (k + 1) cs (omega arith) f.1)
fit_from at names values k (c ∷ cs) (suc j) e f =
    let apart : (at == k) ≡ false = ne_eqb at k (λ s. omega arith) in
    rw apart (and_from _ _ (must_fit c (value_at values (place_in names k c)) (λ m. f.0.some (or_left c.must (at == k) m)) f.0.word) (fit_from at names values (k + 1) cs j (omega arith) f.1))

-- the time of a row is one
time_fits : (at : ℕ) (names : Option (List (List ℕ))) (values : List (Option ℤ)) (k : ℕ) (cs : List Column) → AllFine at names values k cs → is_time (unwrap_or (value_at values (time_place at names k cs)) (pos 0)) ≡ true
time_fits at names values k [] f = refl
time_fits at names values k (c ∷ cs) f =
    chosen (at == k) (place_in names k c) (time_place at names (k + 1) cs) f.0.in_range (time_fits at names values (k + 1) cs f.1)
  where
    chosen : (here : Bool) (a b : Option ℕ) → (here ≡ true → is_time (unwrap_or (value_at values a) (pos 0)) ≡ true) → is_time (unwrap_or (value_at values b) (pos 0)) ≡ true → is_time (unwrap_or (value_at values (cond here a b)) (pos 0)) ≡ true
    chosen true a b g h = g refl
    chosen false a b g h = h

-- ---- how many values are given

abbrev one_if : Bool → ℕ
one_if true = 1
one_if false = 0

abbrev given : List (Option ℕ) → ℕ
given [] = 0
given (o ∷ os) = one_if (is_some o) + given os

-- how many of these columns have a value, if the first has the declared place k
abbrev taken : Option (List (List ℕ)) → ℕ → List Column → ℕ
taken names k [] = 0
taken names k (c ∷ cs) = one_if (is_some (place_in names k c)) + taken names (k + 1) cs

record Counted (places : List (Option ℕ)) (time : ℕ) (columns all : ℕ) : Type 0 where
  pub length : length places + time ≡ columns
  pub given : given places + time ≡ all

counted_behind : (at : ℕ) (names : Option (List (List ℕ))) (k : ℕ) (cs : List Column) → at < k → Counted (other_places at names k cs) 0 (length cs) (taken names k cs)
counted_behind at names k [] lt = record { length = omega arith; given = omega arith }
counted_behind at names k (c ∷ cs) lt =
    let apart : (at == k) ≡ false = ne_eqb at k (λ s. omega arith) in
    let rest = counted_behind at names (k + 1) cs (omega arith) in
    rw apart (record { length = omega (arith, rest.length); given = omega (arith, rest.given) })

-- a column that must have a value and isn't left out has one
not_left_out : (must : Bool) (o : Option ℕ) → must ≡ true → (must && is_none o) ≡ false → one_if (is_some o) ≡ 1
not_left_out true None m e = absurd cc
not_left_out true (Some i) m e = refl
not_left_out false o m e = absurd cc

counted_from : (at : ℕ) (names : Option (List (List ℕ))) (k : ℕ) (cs : List Column) (j : ℕ) → at ≡ k + j → j < length cs → leaves_out at names k cs ≡ false → Counted (other_places at names k cs) 1 (length cs) (taken names k cs)
counted_from at names k [] j e lt left = absurd (omega arith)
counted_from at names k (c ∷ cs) zero e lt left =
    let here : (at == k) ≡ true = eq-eqb at k (omega arith) in
    let both = or_parts ((c.must || at == k) && is_none (place_in names k c)) (leaves_out at names (k + 1) cs) left in
    let one = not_left_out (c.must || at == k) (place_in names k c) (or_right c.must (at == k) here) both.0 in
    let rest = counted_behind at names (k + 1) cs (omega arith) in
    rw here (record { length = omega (arith, rest.length); given = omega (arith, rest.given, one) })
counted_from at names k (c ∷ cs) (suc j) e lt left =
    let apart : (at == k) ≡ false = ne_eqb at k (λ s. omega arith) in
    let both = or_parts ((c.must || at == k) && is_none (place_in names k c)) (leaves_out at names (k + 1) cs) left in
    let rest = counted_from at names (k + 1) cs j (omega arith) (omega arith) both.1 in
    rw apart (record { length = omega (arith, rest.length); given = omega (arith, rest.given) })

-- ---- at most as many values are given as the row has

abbrev same_count : (List ℕ → Bool) → List Column → ℕ
same_count test [] = 0
same_count test (c ∷ cs) = one_if (test c.name) + same_count test cs

none_the_same : (test : List ℕ → Bool) (cs : List Column) → list_any test (map (λ c. c.name) cs) ≡ false → same_count test cs ≡ 0
none_the_same test [] e = refl
none_the_same test (c ∷ cs) e =
    let both = or_parts (test c.name) (list_any test (map (λ d. d.name) cs)) e in
    omega (arith, ap one_if both.0, none_the_same test cs both.1)

-- of columns with different names, at most one has a given name
one_the_same : (name : List ℕ) (cs : List Column) → all_apart (map (λ c. c.name) cs) ≡ true → same_count (same_name name) cs ≤ 1
one_the_same name [] a = omega arith
one_the_same name (c ∷ cs) a =
    let parts = and_parts (not (list_any (same_name c.name) (map (λ d. d.name) cs))) (all_apart (map (λ d. d.name) cs)) a in
    here (same_name name c.name) refl (none_the_same (same_name c.name) cs (not-true _ parts.0)) (one_the_same name cs parts.1)
  where
    here : (same : Bool) → same_name name c.name ≡ same → same_count (same_name c.name) cs ≡ 0 → same_count (same_name name) cs ≤ 1 → one_if same + same_count (same_name name) cs ≤ 1
    here true e none rest =
        let is : c.name ≡ name = sym (same_text name c.name (sym e)) in
        omega (arith, ap (λ n. same_count (same_name n) cs) is)
    here false e none rest = omega arith

-- how many columns are among these names
abbrev among : ℕ → List (List ℕ) → List Column → ℕ
among i names [] = 0
among i names (c ∷ cs) = one_if (is_some (place_from c.name i names)) + among i names cs

none_among : (i : ℕ) (cs : List Column) → among i [] cs ≡ 0
none_among i [] = refl
none_among i (c ∷ cs) = omega (arith, none_among i cs)

either_one : (same : Bool) (i : ℕ) (o : Option ℕ) → one_if (is_some (cond same (Some i) o)) ≤ one_if same + one_if (is_some o)
either_one true i o = omega arith
either_one false i o = omega arith

one_name_more : (i : ℕ) (n : List ℕ) (names : List (List ℕ)) (cs : List Column) → among i (n ∷ names) cs ≤ same_count (same_name n) cs + among (i + 1) names cs
one_name_more i n names [] = omega arith
one_name_more i n names (c ∷ cs) = omega (arith, either_one (same_name n c.name) i (place_from c.name (i + 1) names), one_name_more i n names cs)

names_enough : (i : ℕ) (names : List (List ℕ)) (cs : List Column) → all_apart (map (λ c. c.name) cs) ≡ true → among i names cs ≤ length names
names_enough i [] cs a = omega (arith, none_among i cs)
names_enough i (n ∷ names) cs a = omega (arith, one_name_more i n names cs, one_the_same n cs a, names_enough (i + 1) names cs a)

all_taken : (at k : ℕ) (cs : List Column) → taken None k cs ≡ length (rules_from at k cs)
all_taken at k [] = refl
all_taken at k (c ∷ cs) = omega (arith, all_taken at (k + 1) cs)

taken_among : (names : List (List ℕ)) (k : ℕ) (cs : List Column) → taken (Some names) k cs ≡ among 0 names cs
taken_among names k [] = refl
taken_among names k (c ∷ cs) = ap (λ n. one_if (is_some (place_from c.name 0 names)) + n) (taken_among names (k + 1) cs)

values_enough : (at : ℕ) (cols : List Column) (names : Option (List (List ℕ))) → all_apart (map (λ c. c.name) cols) ≡ true → taken names 0 cols ≤ length (value_rules at cols names)
values_enough at cols None a = omega (arith, all_taken at 0 cols)
values_enough at cols (Some names) a = omega (arith, taken_among names 0 cols, names_enough 0 names cols a, length-map names (rule_of at cols))

-- ---- bytes

some_bytes : (values : List (Option ℤ)) (o : Option ℕ) → value_bytes (value_at values o) ≤ 1 + 8 * one_if (is_some o)
some_bytes values None = omega arith
some_bytes values (Some i) = at_most (get_or values i None)
  where
    at_most : (v : Option ℤ) → value_bytes v ≤ 1 + 8 * 1
    at_most None = omega arith
    at_most (Some v) = omega arith

vals_bytes : (values : List (Option ℤ)) (places : List (Option ℕ)) → sum_by value_bytes (map (value_at values) places) ≤ length places + 8 * given places
vals_bytes values [] = omega arith
vals_bytes values (o ∷ places) =
    let total : sum_by value_bytes (map (value_at values) (o ∷ places)) ≡ value_bytes (value_at values o) + sum_by value_bytes (map (value_at values) places) = sum_by-cons value_bytes (value_at values o) (map (value_at values) places) in
    omega (arith, some_bytes values o, vals_bytes values places)

-- ---- rows

-- a hypertable's columns
pub record IsHyperOf (at : ℕ) (cols : List Column) : Type 0 where
  pub apart : all_apart (map (λ c. c.name) cols) ≡ true
  pub few : length cols ≤ 16
  pub time : at < length cols

-- a row that fits and isn't long
record RowIsSound (def : TableDef) (hyper : HyperInfo) (row : Row) (written : ℕ) : Type 0 where
  pub fits : row_fits def hyper row ≡ true
  pub size : row_bytes row ≤ 8 * written

small_row : (vals m s v all : ℕ) → vals ≤ m + 8 * s → m + 1 ≤ 16 → s + 1 ≡ all → all ≤ v → 9 + vals ≤ 8 * (1 + 2 * v)
small_row vals m s v all a b c d = omega arith

one_row : (p : ℕ) (def : TableDef) (hyper : HyperInfo) (names : Option (List (List ℕ))) (count k : ℕ) (values : List (Option ℤ)) → IsHyperOf hyper.at def.cols → AllByRecursion IsValue values → row_refusal p (shape_of hyper.at def.cols names count) k values ≡ None → RowIsSound def hyper (row_of (time_place hyper.at names 0 def.cols) (other_places hyper.at names 0 def.cols) values) (row_size values)
one_row p def hyper names count k values h proper e =
    let rules = value_rules hyper.at def.cols names in
    let one = neither (marked_refusal p 21 count (nat_le most_rows k)) _ e in
    let two = neither (refusal_if p 11 (not (length values == length rules))) _ one.1 in
    let three = neither (refusal_if p 12 (leaves_out hyper.at names 0 def.cols)) _ two.1 in
    let same : length values ≡ length rules = eqb-true _ _ (has_to_be p 11 0 (length values == length rules) two.0) in
    let left : leaves_out hyper.at names 0 def.cols ≡ false = not_wrong p 12 0 (leaves_out hyper.at names 0 def.cols) three.0 in
    let passes : RowPasses p hyper.at def.cols names values = record { apart = h.apart; count = same; passed = three.1; proper = proper } in
    let fine = all_fine p hyper.at def.cols names values 0 def.cols passes refl left in
    let counts = counted_from hyper.at names 0 def.cols hyper.at (omega arith) h.time left in
    let places = other_places hyper.at names 0 def.cols in
    record {
      fits = and_from _ _ (time_fits hyper.at names values 0 def.cols fine) (fit_from hyper.at names values 0 def.cols hyper.at (omega arith) fine);
      size = small_row (sum_by value_bytes (map (value_at values) places)) (length places) (given places) (length values) (taken names 0 def.cols)
          (vals_bytes values places) (omega (arith, counts.length, h.few)) counts.given (omega (arith, values_enough hyper.at def.cols names h.apart));
    }

-- rows that fit and aren't long
pub record RowsAreSound (def : TableDef) (hyper : HyperInfo) (rows : List Row) (written : ℕ) : Type 0 where
  pub fit : list_all (row_fits def hyper) rows ≡ true
  pub size : sum_by row_bytes rows ≤ 8 * written

each_row : (p : ℕ) (def : TableDef) (hyper : HyperInfo) (names : Option (List (List ℕ))) (count k : ℕ) (rows : List (List (Option ℤ))) → IsHyperOf hyper.at def.cols → AreProperRows rows → rows_refusal p (shape_of hyper.at def.cols names count) k rows ≡ None → RowsAreSound def hyper (rows_of (shape_of hyper.at def.cols names count) rows) (sum_by row_size rows)
each_row p def hyper names count k [] h proper e = record { fit = refl; size = omega arith }
each_row p def hyper names count k (r ∷ rows) h proper e =
    let both = neither (row_refusal p (shape_of hyper.at def.cols names count) k r) _ e in
    let here = one_row p def hyper names count k r h proper.0 both.0 in
    let rest = each_row p def hyper names count (k + 1) rows h proper.1 both.1 in
    let row = row_of (time_place hyper.at names 0 def.cols) (other_places hyper.at names 0 def.cols) r in
    let others = rows_of (shape_of hyper.at def.cols names count) rows in
    let bytes : sum_by row_bytes (row ∷ others) ≡ row_bytes row + sum_by row_bytes others = sum_by-cons row_bytes row others in
    let written : sum_by row_size (r ∷ rows) ≡ row_size r + sum_by row_size rows = sum_by-cons row_size r rows in
    record { fit = and_from _ _ here.fits rest.fit; size = omega (arith, here.size, rest.size) }

-- the rows of an INSERT
pub rows_are_sound : (p : ℕ) (def : TableDef) (hyper : HyperInfo) (names : Option (List (List ℕ))) (rows : List (List (Option ℤ))) → IsHyperOf hyper.at def.cols → AreProperRows rows → insert_refusal p hyper.at def.cols names rows ≡ None → RowsAreSound def hyper (inserted_rows hyper.at def.cols names rows) (sum_by row_size rows)
rows_are_sound p def hyper names rows h proper e = each_row p def hyper names (length rows) 0 rows h proper (neither (list_refusal_of p def.cols names) _ e).1
