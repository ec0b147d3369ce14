-- Iterating over a list by a place and the rest.
use Rattle.std.proofs.Common.{◌≡◌, ◌∙◌, refl, ap, sym, subst, arith, ℕ, ℤ, ◌+◌, ◌<◌, List, [], ◌∷◌, length, take, drop, get_or, ◌-◌, ◌≤◌, ◌++◌, nat_le, Bool, ◌&&◌, Option, None, ◌⊎◌, inl, inr}
use Rattle.std.proofs.lemmas.List.{append_assoc, drop_more, take_more, length-drop, length-append, length-map, drop-drop}
use Rattle.std.proofs.Math.Seq.{take-append_seam, drop-append_seam}
use Rattle.ts_schema.specs.declared.columns.Column.{Column}
use Rattle.stmt_check.specs.Refusals.{◌⊳◌, marked_refusal, refusal_if_none, refusal_if}
use Rattle.stmt_check.specs.Tables.{columns_refusal, is_among, is_column}
use Rattle.stmt_check.specs.Rows.{list_refusal, others_of, value_at, row_of, rows_of, values_refusal}
use Rattle.stmt_check.specs.declared.inserts.Rule.{Rule}
use Rattle.stmt_check.specs.declared.inserts.Shape.{Shape}
use Rattle.std.specs.List.{flat_map}
use Rattle.ts_schema.specs.declared.rows.Row.{Row}
use Rattle.ts_catalog.specs.Columns.{column_from}
use Rattle.ts_model.specs.declared.tables.TableInfo.{TableInfo}
use Rattle.stmt_syntax.specs.declared.statements.NamedAgg.{NamedAgg}
use Rattle.stmt_check.specs.Folds.{aggregate_name, aggregate_refusal, aggregates_refusal, columns_before, is_key, is_taken, key_refusal, keys_refusal}

-- a function of the items before a place and of those from it on, at the next place
before_and_after : {X Y : Type 0} (F : List X → List X → Y) (xs : List X) (i : ℕ) (d : X) → i < length xs → F (take i xs) (drop i xs) ≡ F (take i xs) (get_or xs i d ∷ drop (i + 1) xs)
before_and_after F xs i d h = ap (F (take i xs)) (drop_more xs i d h)

pub columns_step : (pos n : ℕ) (xs : List Column) (i : ℕ) (d : Column) → i < length xs → columns_refusal pos n (take i xs) (drop i xs) ≡ (refusal_if pos 7 (is_column (get_or xs i d).name (take i xs)) ⊳ marked_refusal pos 21 n (nat_le 16 (length (take i xs))) ⊳ columns_refusal pos n (take (i + 1) xs) (drop (i + 1) xs))
columns_step pos n xs i d h =
    let c : Column = get_or xs i d in
    before_and_after (columns_refusal pos n) xs i d h
    ∙ ap (λ b. refusal_if pos 7 (is_column c.name (take i xs)) ⊳ marked_refusal pos 21 n (nat_le 16 (length (take i xs))) ⊳ columns_refusal pos n b (drop (i + 1) xs)) (sym (take_more xs i d h))

pub list_step : (pos : ℕ) (cols : List Column) (xs : List (List ℕ)) (i : ℕ) (d : List ℕ) → i < length xs → list_refusal pos cols (take i xs) (drop i xs) ≡ (refusal_if pos 7 (is_among (get_or xs i d) (take i xs)) ⊳ refusal_if_none pos 8 (column_from (get_or xs i d) 0 cols) ⊳ list_refusal pos cols (take (i + 1) xs) (drop (i + 1) xs))
list_step pos cols xs i d h =
    let n : List ℕ = get_or xs i d in
    before_and_after (list_refusal pos cols) xs i d h
    ∙ ap (λ b. refusal_if pos 7 (is_among n (take i xs)) ⊳ refusal_if_none pos 8 (column_from n 0 cols) ⊳ list_refusal pos cols b (drop (i + 1) xs)) (sym (take_more xs i d h))

pub keys_step : (pos : ℕ) (distinct : Bool) (n : ℕ) (info : TableInfo) (b : List ℕ) (xs : List (List ℕ)) (i : ℕ) (d : List ℕ) → i < length xs → keys_refusal pos distinct n info b (take i xs) (drop i xs) ≡ (key_refusal pos n info (columns_before (length (take i xs)) 0) (distinct && is_key b (take i xs) (get_or xs i d)) (get_or xs i d) ⊳ keys_refusal pos distinct n info b (take (i + 1) xs) (drop (i + 1) xs))
keys_step pos distinct n info b xs i d h =
    let k : List ℕ = get_or xs i d in
    before_and_after (keys_refusal pos distinct n info b) xs i d h
    ∙ ap (λ before. key_refusal pos n info (columns_before (length (take i xs)) 0) (distinct && is_key b (take i xs) k) k ⊳ keys_refusal pos distinct n info b before (drop (i + 1) xs)) (sym (take_more xs i d h))

pub aggregates_step : (pos : ℕ) (distinct : Bool) (n : ℕ) (info : TableInfo) (b : List ℕ) (ks : List (List ℕ)) (xs : List NamedAgg) (i : ℕ) (d : NamedAgg) → i < length xs → aggregates_refusal pos distinct n info b ks (take i xs) (drop i xs) ≡ (aggregate_refusal pos n info (columns_before (length ks) (length (take i xs))) (distinct && is_taken b ks (take i xs) (aggregate_name (get_or xs i d))) (get_or xs i d) ⊳ aggregates_refusal pos distinct n info b ks (take (i + 1) xs) (drop (i + 1) xs))
aggregates_step pos distinct n info b ks xs i d h =
    let a : NamedAgg = get_or xs i d in
    before_and_after (aggregates_refusal pos distinct n info b ks) xs i d h
    ∙ ap (λ before. aggregate_refusal pos n info (columns_before (length ks) (length (take i xs))) (distinct && is_taken b ks (take i xs) (aggregate_name a)) a ⊳ aggregates_refusal pos distinct n info b ks before (drop (i + 1) xs)) (sym (take_more xs i d h))

-- nothing is refused if no rule is left, or no value
pub no_value_left : (pos : ℕ) (rules : List Rule) (values : List (Option ℤ)) → (length rules ≡ 0) ⊎ (length values ≡ 0) → values_refusal pos rules values ≡ None
no_value_left pos [] values none = refl
no_value_left pos (rule ∷ rules) [] none = refl
no_value_left pos (rule ∷ rules) (value ∷ values) none =
    elim none [
      | inl first ↦ absurd (omega (arith, first))
      | inr second ↦ absurd (omega (arith, second))
    ]

-- ---- parts of a block

-- the front of the rest of a block, and what is left after it
pub record IsPart {X : Type 0} (block part rest : List X) (from to : ℕ) : Type 0 where
  pub order : from ≤ to
  pub within : to ≤ length block
  pub items : take (to - from) (drop from block) ≡ part
  pub left : drop to block ≡ rest

pub next_part : {X : Type 0} (block part rest : List X) (from : ℕ) → from ≤ length block → drop from block ≡ part ++ rest → IsPart block part rest from (from + length part)
next_part block part rest from le h =
    let have : length (drop from block) ≡ length block - from = length-drop from block in
    let sum : length (drop from block) ≡ length part + length rest = ap length h ∙ length-append part rest in
    let size : from + length part - from ≡ length part = omega arith in
    record {
      order = omega arith;
      within = omega (arith, have, sum);
      items = ap (λ n. take n (drop from block)) size ∙ ap (take (length part)) h ∙ take-append_seam part rest;
      left = sym (drop-drop (length part) from block) ∙ ap (drop (length part)) h ∙ drop-append_seam part rest;
    }

-- the values of the next row are at the front of the rest of the block
pub next_values : (shape : Shape) (block : List (Option ℤ)) (rows : List (List (Option ℤ))) (values : List (Option ℤ)) (rest : List (List (Option ℤ))) (from n : ℕ) → from ≤ length block → drop from block ≡ flat_map (others_of shape) rows → rows ≡ values ∷ rest → n ≡ length shape.others → IsPart block (others_of shape values) (flat_map (others_of shape) rest) from (from + n)
next_values shape block rows values rest from n le left first count =
    let size : n ≡ length (others_of shape values) = count ∙ sym (length-map shape.others (value_at values)) in
    subst (λ k. IsPart block (others_of shape values) (flat_map (others_of shape) rest) from (from + k)) (sym size)
    (next_part block (others_of shape values) (flat_map (others_of shape) rest) from le (left ∙ ap (flat_map (others_of shape)) first))

-- one more row is built, and one less is left
pub row_made : (shape : Shape) (made new all : List Row) (rows : List (List (Option ℤ))) (values : List (Option ℤ)) (rest : List (List (Option ℤ))) (row : Row) → made ++ rows_of shape rows ≡ all → rows ≡ values ∷ rest → row ≡ row_of shape.time shape.others values → new ≡ made ++ row ∷ [] → new ++ rows_of shape rest ≡ all
row_made shape made new all rows values rest row before first is more =
    ap (λ n. n ++ rows_of shape rest) more
    ∙ append_assoc made (row ∷ []) (rows_of shape rest)
    ∙ ap (λ r. made ++ r ∷ rows_of shape rest) is
    ∙ ap (λ rs. made ++ rows_of shape rs) (sym first)
    ∙ before
