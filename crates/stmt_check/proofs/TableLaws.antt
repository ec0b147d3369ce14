-- Tables that aren't refused have 1 to 16 columns with different names.
use Rattle.std.proofs.Common.{◌≡◌, ◌∙◌, refl, sym, subst, ap, ℕ, ◌+◌, ◌<◌, ◌≤◌, true, false, ◌||◌, List, [], ◌∷◌, ◌++◌, map, length, arith, None}
use Rattle.std.specs.Prelude.{nat_le, nat_lt, ◌&&◌}
use Rattle.std.specs.List.{list_any, list_all, AllByRecursion}
use Rattle.std.proofs.lemmas.Bool.{and_parts, and_from, lt-ltb, le-leb, leb-false}
use Rattle.std.proofs.lemmas.List.{length-append, append_assoc, append-nil}
use Rattle.ts_schema.specs.Names.{is_name}
use Rattle.stmt_syntax.specs.Proper.{IsProperColumn}
use Rattle.ts_schema.specs.declared.columns.Column.{Column}
use Rattle.ts_model.specs.Roster.{same_name}
use Rattle.ts_model.specs.Sound.{all_apart, columns_fit}
use Rattle.stmt_check.specs.Refusals.{marked_refusal, refusal_if}
use Rattle.stmt_check.specs.Tables.{columns_refusal, is_column}
use Rattle.stmt_check.proofs.PassedLaws.{neither, not_wrong}
use Rattle.stmt_check.proofs.FoldLaws.{apart_push}

abbrev pub names_of : List Column → List (List ℕ)
names_of cols = map (λ c. c.name) cols

pub names_push : (cols : List Column) (c : Column) → names_of (cols ++ c ∷ []) ≡ names_of cols ++ c.name ∷ []
names_push [] c = refl
names_push (d ∷ cols) c = ap (λ ns. d.name ∷ ns) (names_push cols c)

pub any_column : (cols : List Column) (name : List ℕ) → is_column name cols ≡ list_any (λ other. same_name other name) (names_of cols)
any_column [] name = refl
any_column (d ∷ cols) name = ap (λ b. same_name d.name name || b) (any_column cols name)

-- columns that aren't refused, after those before
record Columns (before cols : List Column) : Type 0 where
  pub apart : all_apart (names_of before ++ names_of cols) ≡ true
  pub few : length before ≤ 16 → length before + length cols ≤ 16

columns_pass : (p count : ℕ) (before cols : List Column) → all_apart (names_of before) ≡ true → columns_refusal p count before cols ≡ None → Columns before cols
columns_pass p count before [] a e = record { apart = subst (λ (ns : List (List ℕ)). all_apart ns ≡ true) (sym (append-nil (names_of before))) a; few = λ h. omega arith }
columns_pass p count before (c ∷ cols) a e =
    let one = neither (refusal_if p 7 (is_column c.name before)) _ e in
    let two = neither (marked_refusal p 21 count (nat_le 16 (length before))) _ one.1 in
    let new : list_any (λ other. same_name other c.name) (names_of before) ≡ false = sym (any_column before c.name) ∙ not_wrong p 7 0 (is_column c.name before) one.0 in
    let few : length before < 16 = leb-false 16 (length before) (not_wrong p 21 count (nat_le 16 (length before)) two.0) in
    let pushed : all_apart (names_of (before ++ c ∷ [])) ≡ true = subst (λ (ns : List (List ℕ)). all_apart ns ≡ true) (sym (names_push before c)) (apart_push (names_of before) c.name a new) in
    let rest = columns_pass p count (before ++ c ∷ []) cols pushed two.1 in
    let longer : length (before ++ c ∷ []) ≡ length before + 1 = length-append before (c ∷ []) in
    record {
      apart = subst (λ (ns : List (List ℕ)). all_apart ns ≡ true)
          (ap (λ ns. ns ++ names_of cols) (names_push before c) ∙ append_assoc (names_of before) (c.name ∷ []) (names_of cols)) rest.apart;
      few = λ h. omega (arith, rest.few (omega arith));
    }

are_all_names : (cols : List Column) → AllByRecursion IsProperColumn cols → list_all is_name (names_of cols) ≡ true
are_all_names [] proper = refl
are_all_names (c ∷ cols) proper = and_from _ _ proper.0 (are_all_names cols proper.1)

-- the columns of a table
pub table_columns_fit : (p count : ℕ) (cols : List Column) → 0 < length cols → AllByRecursion IsProperColumn cols → columns_refusal p count [] cols ≡ None → columns_fit cols ≡ true
table_columns_fit p count cols some proper e =
    let all = columns_pass p count [] cols refl e in
    and_from _ _ (and_from _ _ (lt-ltb _ _ some) (le-leb _ _ (omega (arith, all.few (omega arith))))) (and_from _ _ (are_all_names cols proper) all.apart)

-- the names of columns that fit are apart
pub columns_apart : (cols : List Column) → columns_fit cols ≡ true → all_apart (map (λ c. c.name) cols) ≡ true
columns_apart cols e =
    let parts = and_parts (nat_lt 0 (length cols) && nat_le (length cols) 16) _ e in
    (and_parts (list_all is_name (names_of cols)) _ parts.1).1
