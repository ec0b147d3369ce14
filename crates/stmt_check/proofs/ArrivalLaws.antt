-- The value written for a column arrives in that column.
use Rattle.std.proofs.Common.{◌≡◌, ◌∙◌, refl, sym, ap, subst, ℕ, zero, suc, ◌+◌, ◌<◌, ◌≤◌, Bool, true, false, cond, not, ◌==◌, ◌&&◌, List, [], ◌∷◌, map, length, get_or, Option, Some, None, is_some, is_none, ℤ, pos, arith}
use Rattle.std.specs.Prelude.{nat_le, nat_lt, unwrap_or, slice_get, option_map, ◌||◌}
use Rattle.std.proofs.lemmas.Bool.{eq-eqb, ne_eqb, eqb-true, cases_lt, or_parts, or_right}
use Rattle.std.specs.Prelude.{◌⊎◌}
use Rattle.std.proofs.Common.{inl, inr}
use Rattle.std.proofs.lemmas.Option.{get_or_from_slice_get}
use Rattle.ts_schema.specs.Rows.{field_of}
use Rattle.ts_schema.specs.declared.columns.Column.{Column}
use Rattle.ts_schema.specs.declared.rows.Row.{Row}
use Rattle.ts_model.specs.Roster.{same_name}
use Rattle.ts_model.specs.Sound.{all_apart}
use Rattle.ts_catalog.specs.Columns.{hyper_number, place_from}
use Rattle.stmt_check.specs.Refusals.{marked_refusal, refusal_if}
use Rattle.stmt_check.specs.Rows.{leaves_out, list_refusal_of, other_places, value_at, place_in, row_of, row_refusal, rows_of, rows_refusal, rule_at, shape_of, time_place, value_rules, values_refusal}
use Rattle.stmt_check.specs.Subject.{value_named, value_written, ValuesArrive}
use Rattle.stmt_check.proofs.PassedLaws.{neither, not_wrong, has_to_be}
use Rattle.stmt_check.proofs.RowLaws.{by_rule, rule_there}
use Rattle.stmt_check.proofs.TableLaws.{columns_apart}
use Rattle.stmt_check.specs.Limits.{most_rows}

-- ---- the value that is written

-- a place counted from one more is one more
place_next : (name : List ℕ) (k : ℕ) (names : List (List ℕ)) → place_from name (k + 1) names ≡ option_map (λ i. i + 1) (place_from name k names)
place_next name k [] = refl
place_next name k (n ∷ names) =
    elim (same_name n name) as (λ b. cond b (Some (k + 1)) (place_from name (k + 1 + 1) names) ≡ option_map (λ i. i + 1) (cond b (Some k) (place_from name (k + 1) names)))
    [ true ↦ refl | false ↦ place_next name (k + 1) names ]

picked_next : (v : Option ℤ) (values : List (Option ℤ)) (o : Option ℕ) → value_at (v ∷ values) (option_map (λ i. i + 1) o) ≡ value_at values o
picked_next v values None = refl
picked_next v values (Some i) = let next : i + 1 ≡ suc i = omega arith in ap (λ j. get_or (v ∷ values) j None) next

picked_none : (o : Option ℕ) → value_at [] o ≡ None
picked_none None = refl
picked_none (Some zero) = refl
picked_none (Some (suc i)) = refl

picked_named : (names : List (List ℕ)) (values : List (Option ℤ)) (name : List ℕ) → value_at values (place_from name 0 names) ≡ value_named names values name
picked_named [] values name = refl
picked_named (n ∷ names) [] name = picked_none (place_from name 0 (n ∷ names))
picked_named (n ∷ names) (v ∷ values) name =
    elim (same_name n name) as (λ b. value_at (v ∷ values) (cond b (Some 0) (place_from name 1 names)) ≡ cond b v (value_named names values name)) [
      | true ↦ refl
      | false ↦ ap (value_at (v ∷ values)) (place_next name 0 names) ∙ picked_next v values (place_from name 0 names) ∙ picked_named names values name
    ]

-- the code looks up the value that is written
written : (names : Option (List (List ℕ))) (values : List (Option ℤ)) (k : ℕ) (c : Column) → value_at values (place_in names k c) ≡ value_written names values k c
written None values k c = refl
written (Some names) values k c = picked_named names values c.name

-- ---- where it arrives

-- after the time each column has the place that it is declared at
other_behind : (at : ℕ) (names : Option (List (List ℕ))) (k : ℕ) (cols : List Column) (j : ℕ) (c : Column) → at < k → slice_get cols j ≡ Some c → slice_get (other_places at names k cols) j ≡ Some (place_in names (k + j) c)
other_behind at names k [] j c lt e = absurd cc
other_behind at names k (d ∷ cols) zero c lt e =
    let same : d ≡ c = cc in
    let apart : (at == k) ≡ false = ne_eqb at k (λ s. omega arith) in
    let here : k ≡ k + 0 = omega arith in
    rw apart (ap (λ x. Some (place_in names k x)) same ∙ ap (λ i. Some (place_in names i c)) here)
other_behind at names k (d ∷ cols) (suc j) c lt e =
    let apart : (at == k) ≡ false = ne_eqb at k (λ s. omega arith) in
    let next : k + 1 + j ≡ k + suc j = omega arith in
    rw apart (other_behind at names (k + 1) cols j c (omega arith) e ∙ ap (λ i. Some (place_in names i c)) next)

-- and before the time
other_before : (at : ℕ) (names : Option (List (List ℕ))) (k : ℕ) (cols : List Column) (j : ℕ) (c : Column) → k + j < at → slice_get cols j ≡ Some c → slice_get (other_places at names k cols) j ≡ Some (place_in names (k + j) c)
other_before at names k [] j c lt e = absurd cc
other_before at names k (d ∷ cols) zero c lt e =
    let same : d ≡ c = cc in
    let apart : (at == k) ≡ false = ne_eqb at k (λ s. omega arith) in
    let here : k ≡ k + 0 = omega arith in
    rw apart (ap (λ x. Some (place_in names k x)) same ∙ ap (λ i. Some (place_in names i c)) here)
other_before at names k (d ∷ cols) (suc j) c lt e =
    let apart : (at == k) ≡ false = ne_eqb at k (λ s. omega arith) in
    let next : k + 1 + j ≡ k + suc j = omega arith in
    rw apart (other_before at names (k + 1) cols j c (omega arith) e ∙ ap (λ i. Some (place_in names i c)) next)

at_least : (x y : ℕ) → (y ≡ x → ⊥) → x ≤ y → x + 1 ≤ y
at_least x y apart le = go (cases_lt x y)
  where
    go : (x < y) ⊎ (y ≤ x) → x + 1 ≤ y
    go (inl l) = omega arith
    go (inr l) = absurd (apart (omega arith))

-- one column further past the time, if the places of those after it are known
past_step : (at : ℕ) (names : Option (List (List ℕ))) (k : ℕ) (d : Column) (cols : List Column) (j : ℕ) (c : Column) → k ≤ at → at < k + suc j → slice_get cols j ≡ Some c
    → ((i : ℕ) → j ≡ suc i → k + 1 ≤ at → slice_get (other_places at names (k + 1) cols) i ≡ Some (place_in names (k + suc j) c))
    → (b : Bool) → (at == k) ≡ b → slice_get (cond b (other_places at names (k + 1) cols) (place_in names k d ∷ other_places at names (k + 1) cols)) j ≡ Some (place_in names (k + suc j) c)
past_step at names k d cols j c le lt e rest true s =
    let here : at ≡ k = eqb-true at k s in
    let next : k + 1 + j ≡ k + suc j = omega arith in
    other_behind at names (k + 1) cols j c (omega arith) e ∙ ap (λ i. Some (place_in names i c)) next
past_step at names k d cols zero c le lt e rest false s =
    let here : at ≡ k = omega arith in
    let there : true ≡ false = sym (eq-eqb at k here) ∙ s in
    absurd cc
past_step at names k d cols (suc i) c le lt e rest false s =
    let apart : at ≡ k → ⊥ = λ h. let there : true ≡ false = sym (eq-eqb at k h) ∙ s in cc in
    rest i refl (at_least k at apart le)

-- past the time one less
other_past : (at : ℕ) (names : Option (List (List ℕ))) (k : ℕ) (cols : List Column) (j : ℕ) (c : Column) → k ≤ at → at < k + suc j → slice_get cols (suc j) ≡ Some c → slice_get (other_places at names k cols) j ≡ Some (place_in names (k + suc j) c)
other_past at names k [] j c le lt e = absurd cc
other_past at names k (d ∷ cols) j c le lt e =
    past_step at names k d cols j c le lt e
    (λ i s above.
    let f : slice_get cols (suc i) ≡ Some c = subst (λ (n : ℕ). slice_get cols n ≡ Some c) s e in
    let count : k + 1 + suc i ≡ k + suc j = omega arith in
    other_past at names (k + 1) cols i c above (omega arith) f ∙ ap (λ n. Some (place_in names n c)) count)
    (at == k) refl

time_there : (at : ℕ) (names : Option (List (List ℕ))) (k : ℕ) (cols : List Column) (j : ℕ) (c : Column) → at ≡ k + j → slice_get cols j ≡ Some c → time_place at names k cols ≡ place_in names (k + j) c
time_there at names k [] j c s e = absurd cc
time_there at names k (d ∷ cols) zero c s e =
    let same : d ≡ c = cc in
    let here : (at == k) ≡ true = eq-eqb at k (omega arith) in
    let count : k ≡ k + 0 = omega arith in
    rw here (ap (λ x. place_in names k x) same ∙ ap (λ i. place_in names i c) count)
time_there at names k (d ∷ cols) (suc j) c s e =
    let apart : (at == k) ≡ false = ne_eqb at k (λ h. omega arith) in
    let next : k + 1 + j ≡ k + suc j = omega arith in
    rw apart (time_there at names (k + 1) cols j c (omega arith) e ∙ ap (λ i. place_in names i c) next)

-- a value at a place of the row
field_there : (values : List (Option ℤ)) (places : List (Option ℕ)) (i : ℕ) (o : Option ℕ) → slice_get places i ≡ Some o → get_or (map (value_at values) places) i None ≡ value_at values o
field_there values [] i o e = absurd cc
field_there values (p ∷ places) zero o e = let same : p ≡ o = cc in ap (value_at values) same
field_there values (p ∷ places) (suc i) o e = field_there values places i o e

-- ---- the time is not NULL

is_left_out : (at : ℕ) (names : Option (List (List ℕ))) (k : ℕ) (cols : List Column) (j : ℕ) (c : Column) → slice_get cols j ≡ Some c → leaves_out at names k cols ≡ false → ((c.must || at == k + j) && is_none (place_in names (k + j) c)) ≡ false
is_left_out at names k [] j c e left = absurd cc
is_left_out at names k (d ∷ cols) zero c e left =
    let same : d ≡ c = cc in
    let here : k ≡ k + 0 = omega arith in
    let first = (or_parts ((d.must || at == k) && is_none (place_in names k d)) (leaves_out at names (k + 1) cols) left).0 in
    subst (λ (i : ℕ). ((c.must || at == i) && is_none (place_in names i c)) ≡ false) here (subst (λ (x : Column). ((x.must || at == k) && is_none (place_in names k x)) ≡ false) same first)
is_left_out at names k (d ∷ cols) (suc j) c e left =
    let next : k + 1 + j ≡ k + suc j = omega arith in
    let rest = (or_parts ((d.must || at == k) && is_none (place_in names k d)) (leaves_out at names (k + 1) cols) left).1 in
    subst (λ (i : ℕ). ((c.must || at == i) && is_none (place_in names i c)) ≡ false) next (is_left_out at names (k + 1) cols j c e rest)

-- the value of the time column of a row that isn't refused
time_is_given : (p at : ℕ) (cols : List Column) (names : Option (List (List ℕ))) (values : List (Option ℤ)) (c : Column) → all_apart (map (λ d. d.name) cols) ≡ true → slice_get cols at ≡ Some c → leaves_out at names 0 cols ≡ false
    → length values ≡ length (value_rules at cols names) → values_refusal p (value_rules at cols names) values ≡ None → is_some (value_at values (place_in names at c)) ≡ true
time_is_given p at cols names values c apart e left count passed = go (place_in names at c) refl
  where
    must : (c.must || at == at) ≡ true
    must = or_right c.must (at == at) (eq-eqb at at refl)

    here : ((c.must || at == at) && is_none (place_in names at c)) ≡ false
    here = let zero_and : 0 + at ≡ at = omega arith in subst (λ (i : ℕ). ((c.must || at == i) && is_none (place_in names i c)) ≡ false) zero_and (is_left_out at names 0 cols at c e left)

    some_value : (v : Option ℤ) (b : Bool) → b ≡ true → refusal_if p 12 b ≡ None → is_some v ≡ true
    some_value v b t r = let f : true ≡ false = sym t ∙ not_wrong p 12 0 b r in absurd cc

    not_null : (v : Option ℤ) → Rattle.stmt_check.specs.Rows.value_refusal p (rule_at at c at) v ≡ None → is_some v ≡ true
    not_null None r = some_value None (c.must || at == at) must r
    not_null (Some v) r = refl

    go : (o : Option ℕ) → place_in names at c ≡ o → is_some (value_at values o) ≡ true
    go None is =
        let none : ((c.must || at == at) && true) ≡ false = subst (λ (o : Option ℕ). ((c.must || at == at) && is_none o) ≡ false) is here in
        let both : true ≡ false = sym (ap (λ b. b && true) must) ∙ none in
        absurd cc
    go (Some i) is =
        let v = by_rule p (value_rules at cols names) values i (rule_at at c at) count passed (rule_there at cols names at c i apart e is) in
        subst (λ (w : Option ℤ). is_some w ≡ true) (sym (get_or_from_slice_get values i v.value None v.at)) (not_null v.value v.passed)

-- ---- one row

some_time : (o : Option ℤ) → is_some o ≡ true → Some (unwrap_or o (pos 0)) ≡ o
some_time None e = absurd cc
some_time (Some v) e = refl

arrives : (p at : ℕ) (cols : List Column) (names : Option (List (List ℕ))) (values : List (Option ℤ)) (k : ℕ) (c : Column) → all_apart (map (λ d. d.name) cols) ≡ true → leaves_out at names 0 cols ≡ false
    → length values ≡ length (value_rules at cols names) → values_refusal p (value_rules at cols names) values ≡ None → slice_get cols k ≡ Some c
    → field_of (row_of (time_place at names 0 cols) (other_places at names 0 cols) values) (hyper_number at k) ≡ value_at values (place_in names k c)
arrives p at cols names values k c apart left count passed e = by_cases (k == at) refl
  where
    from_zero : 0 + k ≡ k
    from_zero = omega arith

    place_of : Option ℕ
    place_of = place_in names k c

    others : List (Option ℕ)
    others = other_places at names 0 cols

    number : (b : Bool) → nat_lt k at ≡ b → (k == at) ≡ false → field_of (row_of (time_place at names 0 cols) (other_places at names 0 cols) values) (cond b (k + 1) k) ≡ value_at values (place_in names k c)
    number true less apart_from =
        let below : k < at = Rattle.std.proofs.lemmas.Bool.ltb-true k at less in
        let next : k + 1 ≡ suc k = omega arith in
        ap (field_of (row_of (time_place at names 0 cols) (other_places at names 0 cols) values)) next
        ∙ field_there values (other_places at names 0 cols) k (place_in names k c)
        (other_before at names 0 cols k c (omega arith) e ∙ ap (λ i. Some (place_in names i c)) from_zero)
    number false less apart_from = past k e (beyond k at apart_from less)
      where
        beyond : (x y : ℕ) → (x == y) ≡ false → nat_lt x y ≡ false → y < x
        beyond x y a b = go (cases_lt y x)
          where
            go : (y < x) ⊎ (x ≤ y) → y < x
            go (inl l) = l
            go (inr l) = absurd (differ (Rattle.std.proofs.lemmas.Bool.ltb-false x y b))
              where
                differ : y ≤ x → ⊥
                differ m = let same : x ≡ y = omega arith in let f : true ≡ false = sym (eq-eqb x y same) ∙ a in cc

        past : (j : ℕ) → slice_get cols j ≡ Some c → at < j → field_of (row_of (time_place at names 0 cols) (other_places at names 0 cols) values) j ≡ value_at values (place_in names j c)
        past zero f below = absurd (omega arith)
        past (suc i) f below =
            let count_from : 0 + suc i ≡ suc i = omega arith in
            field_there values (other_places at names 0 cols) i (place_in names (suc i) c)
            (other_past at names 0 cols i c (omega arith) (omega arith) f ∙ ap (λ n. Some (place_in names n c)) count_from)

    by_cases : (b : Bool) → (k == at) ≡ b → field_of (row_of (time_place at names 0 cols) (other_places at names 0 cols) values) (cond b 0 (cond (nat_lt k at) (k + 1) k)) ≡ value_at values (place_in names k c)
    by_cases true s =
        let same : k ≡ at = eqb-true k at s in
        let here : slice_get cols at ≡ Some c = subst (λ (i : ℕ). slice_get cols i ≡ Some c) same e in
        let place : time_place at names 0 cols ≡ place_in names at c = (let zero_and : 0 + at ≡ at = omega arith in time_there at names 0 cols at c (omega arith) here ∙ ap (λ i. place_in names i c) zero_and) in
        ap (λ o. Some (unwrap_or (value_at values o) (pos 0))) place
        ∙ some_time (value_at values (place_in names at c)) (time_is_given p at cols names values c apart here left count passed)
        ∙ ap (λ i. value_at values (place_in names i c)) (sym same)
    by_cases false s = number (nat_lt k at) refl s

-- ---- the rows of an INSERT

in_rows : (p at : ℕ) (cols : List Column) (names : Option (List (List ℕ))) (count j : ℕ) (rows : List (List (Option ℤ))) (i k : ℕ) (values : List (Option ℤ)) (row : Row) (c : Column) → all_apart (map (λ d. d.name) cols) ≡ true
    → rows_refusal p (shape_of at cols names count) j rows ≡ None → slice_get rows i ≡ Some values → slice_get (rows_of (shape_of at cols names count) rows) i ≡ Some row → slice_get cols k ≡ Some c
    → field_of row (hyper_number at k) ≡ value_at values (place_in names k c)
in_rows p at cols names count j [] i k values row c apart e v r s = absurd cc
in_rows p at cols names count j (x ∷ rows) zero k values row c apart e v r s =
    let same : x ≡ values = cc in
    let made : row_of (time_place at names 0 cols) (other_places at names 0 cols) x ≡ row = cc in
    let here = (neither (row_refusal p (shape_of at cols names count) j x) _ e).0 in
    let one = neither (marked_refusal p 21 count (nat_le most_rows j)) _ here in
    let two = neither (refusal_if p 11 (not (length x == length (value_rules at cols names)))) _ one.1 in
    let three = neither (refusal_if p 12 (leaves_out at names 0 cols)) _ two.1 in
    let counted : length x ≡ length (value_rules at cols names) = eqb-true _ _ (has_to_be p 11 0 (length x == length (value_rules at cols names)) two.0) in
    let left : leaves_out at names 0 cols ≡ false = not_wrong p 12 0 (leaves_out at names 0 cols) three.0 in
    ap (λ (y : Row). field_of y (hyper_number at k)) (sym made) ∙ arrives p at cols names x k c apart left counted three.1 s ∙ ap (λ z. value_at z (place_in names k c)) same
in_rows p at cols names count j (x ∷ rows) (suc i) k values row c apart e v r s =
    in_rows p at cols names count (j + 1) rows i k values row c apart (neither (row_refusal p (shape_of at cols names count) j x) _ e).1 v r s

pub values_arrive : ValuesArrive
values_arrive p at cols names rows i k values row c fit e v r s =
    in_rows p at cols names (length rows) 0 rows i k values row c (columns_apart cols fit) (neither (list_refusal_of p cols names) _ e).1 v r s
    ∙ written names values k c
