-- What a state that represents a history says about a commit that may come next.
use Rattle.std.proofs.Common.{◌≡◌, ℕ, suc, ◌+◌, ◌^◌, ◌≤◌, true, false, ◌&&◌, nat_lt, List, [], ◌∷◌, length, Option, Some, None, sym, refl, ap, ◌∙◌, subst, arith}
use Rattle.std.specs.List.{list_all, slice_get}
use Rattle.std.proofs.lemmas.Bool.{true≢false, and_parts, and_from}
use Rattle.ts_schema.specs.declared.rows.Row.{Row}
use Rattle.ts_model.specs.declared.events.Event.TheVariants.{Commit}
use Rattle.ts_model.specs.declared.events.Op.{Op}
use Rattle.ts_model.specs.declared.tables.Hyper.{Hyper as HyperInfo}
use Rattle.ts_model.specs.declared.tables.TableInfo.{TableInfo}
use Rattle.ts_model.specs.History.{History, ◌▸◌, position}
use Rattle.ts_model.specs.Roster.{roster, table_of, of_hyper, of_table}
use Rattle.ts_model.specs.Rows.{rows}
use Rattle.ts_model.specs.Effect.{all_appended, all_taken, sum_below}
use Rattle.ts_model.specs.Calls.{commit_result}
use Rattle.ts_model.specs.Sound.{op_fits, row_fits, sound}
use Rattle.ts_model.specs.Allowed.{all_consistent, consistent}
use Rattle.ts_model.specs.Laws.{fits_table}
use Rattle.ts_model.proofs.FitLaws.{appended_fit, moved_hold, rows_fit_tables}
use Rattle.ts_model.proofs.HistoryLaws.{prefix_end}
use Rattle.ts_model.proofs.SoundLaws.{rosters_are_sound}
use Rattle.engine_state.specs.Lists.{Each, EachFrom}
use Rattle.engine_state.specs.Tables.{TableValue, TableIs}
use Rattle.engine_state.specs.Stands.{StateValue, StandsFor, TableAt}
use Rattle.engine_state.specs.Steps.{AllFrom, AsksIf, appended_to, taken_from, sum_from}
use Rattle.engine_state.proofs.EachLaws.{each_length, each_placed}
use Rattle.engine_state.proofs.TableSteps.{table_asks, rows_are}

-- ---- the number of tables

pub tables_are_few : (h : History) (s : StateValue) → StandsFor h s → length s.tables ≤ 2 ^ 32
tables_are_few h s st =
    let few : length (roster h).tables ≤ 64 = (rosters_are_sound h st.consistent).few_tables in
    let same : length (roster h).tables ≡ length s.tables = each_length (TableAt h) 0 (roster h).tables s.tables st.tables in
    omega arith

-- ---- what the operations ask

asks_from : (h : History) (ops : List Op) (i : ℕ) (infos : List TableInfo) (tables : List (Option TableValue)) → all_consistent (h ▸ Commit ops) ≡ true → EachFrom (TableAt h) i infos tables → AllFrom (AsksIf ops (suc (position h))) i tables
asks_from h ops i [] [] ok s = tt
asks_from h ops i [] (table ∷ tables) ok s = absurd s
asks_from h ops i (info ∷ infos) [] ok s = absurd s
asks_from h ops i (info ∷ infos) (table ∷ tables) ok s = (table_asks h i ops info.hyper table ok s.0, asks_from h ops (suc i) infos tables ok s.1)

pub commit_asks : (h : History) (ops : List Op) (s : StateValue) (pos : ℕ) → StandsFor h s → consistent h (Commit ops) ≡ true → pos ≡ suc s.position → AllFrom (AsksIf ops pos) 0 s.tables
commit_asks h ops s pos st fits is =
    subst (λ p. AllFrom (AsksIf ops p) 0 s.tables) (sym (is ∙ ap suc st.position)) (asks_from h ops 0 (roster h).tables s.tables (and_from _ _ st.consistent fits) st.tables)

-- ---- how many rows they move

none_fits : (info : TableInfo) (row : Row) → info.hyper ≡ None → of_table (λ def hyper. row_fits def hyper row) (Some info) ≡ false
none_fits info row none = ap (of_hyper (λ def hyper. row_fits def hyper row) info.def) none

no_rows : (o : Option TableInfo) (info : TableInfo) (xs : List Row) → o ≡ Some info → info.hyper ≡ None → list_all (λ row. of_table (λ def hyper. row_fits def hyper row) o) xs ≡ true → 0 ≡ length xs
no_rows o info [] is none ok = refl
no_rows o info (x ∷ xs) is none ok =
    absurd (true≢false (sym (and_parts (of_table (λ def hyper. row_fits def hyper x) o) (list_all (λ row. of_table (λ def hyper. row_fits def hyper row) o) xs) ok).0 ∙ ap (of_table (λ def hyper. row_fits def hyper x)) is ∙ none_fits info x none))

module _ (h : History) (ops : List Op) (ok : all_consistent h ≡ true) (fits : consistent h (Commit ops) ≡ true) where
  all_fit : list_all (op_fits (roster h)) ops ≡ true
  all_fit = (and_parts (nat_lt 0 (length ops)) _ (and_parts (nat_lt 0 (length ops) && list_all (op_fits (roster h)) ops) _ (and_parts (sound h (Commit ops)) _ fits).0).0).1

  rows_fit_now : (t : ℕ) → list_all (fits_table (roster h) t) (rows t h) ≡ true
  rows_fit_now t = subst (λ g. list_all (fits_table (roster h) t) (rows t g) ≡ true) (prefix_end h (position h) (omega arith)) (rows_fit_tables.rows t h (position h) ok)

  appended_is : (t : ℕ) (info : TableInfo) (table : Option TableValue) → table_of (roster h) t ≡ Some info → TableAt h t info table → appended_to ops t table ≡ length (all_appended t ops)
  appended_is t info table is s = by_state info.hyper refl table s
    where
      by_state : (o : Option HyperInfo) → info.hyper ≡ o → (table : Option TableValue) → TableIs h t o table → appended_to ops t table ≡ length (all_appended t ops)
      by_state None none None s = no_rows (table_of (roster h) t) info (all_appended t ops) is none (appended_fit (roster h) t ops all_fit)
      by_state None none (Some table) s = absurd s
      by_state (Some hyper) some None s = absurd s
      by_state (Some hyper) some (Some table) s = refl

  taken_is : (t : ℕ) (info : TableInfo) (table : Option TableValue) → table_of (roster h) t ≡ Some info → TableAt h t info table → taken_from ops (suc (position h)) t table ≡ length (all_taken t ops (rows t h))
  taken_is t info table is s = by_state info.hyper refl table s
    where
      by_state : (o : Option HyperInfo) → info.hyper ≡ o → (table : Option TableValue) → TableIs h t o table → taken_from ops (suc (position h)) t table ≡ length (all_taken t ops (rows t h))
      by_state None none None s = no_rows (table_of (roster h) t) info (all_taken t ops (rows t h)) is none (moved_hold (fits_table (roster h) t) t ops (rows t h) (appended_fit (roster h) t ops all_fit) (rows_fit_now t)).0
      by_state None none (Some table) s = absurd s
      by_state (Some hyper) some None s = absurd s
      by_state (Some hyper) some (Some table) s = ap (λ xs. length (all_taken t ops xs)) (rows_are h t table s.rows)

-- the sum over related lists is the sum over the places
sums_are : {A B : Type 0} (R : ℕ → A → B → Type 0) (f : ℕ → B → ℕ) (g : ℕ → ℕ) → ((t : ℕ) (a : A) (b : B) → R t a b → f t b ≡ g t) → (i : ℕ) (xs : List A) (ys : List B) → EachFrom R i xs ys → sum_below i g + sum_from f i ys ≡ sum_below (i + length xs) g
sums_are R f g same i [] [] e = let place : i ≡ i + 0 = omega arith in let sum : sum_below i g + 0 ≡ sum_below i g = omega arith in sum ∙ ap (λ n. sum_below n g) place
sums_are R f g same i [] (y ∷ ys) e = absurd e
sums_are R f g same i (x ∷ xs) [] e = absurd e
sums_are R f g same i (x ∷ xs) (y ∷ ys) e =
    let rest : (sum_below i g + g i) + sum_from f (suc i) ys ≡ sum_below (suc i + length xs) g = sums_are R f g same (suc i) xs ys e.1 in
    let place : suc i + length xs ≡ i + suc (length xs) = omega arith in
    let here : sum_below i g + (f i y + sum_from f (suc i) ys) ≡ (sum_below i g + g i) + sum_from f (suc i) ys = ap (λ n. sum_below i g + (n + sum_from f (suc i) ys)) (same i x y e.0) ∙ omega arith in
    here ∙ rest ∙ ap (λ n. sum_below n g) place

-- from the first place on
sums_match : {A B : Type 0} (R : ℕ → A → B → Type 0) (f : ℕ → B → ℕ) (g : ℕ → ℕ) → ((t : ℕ) (a : A) (b : B) → R t a b → f t b ≡ g t) → (xs : List A) (ys : List B) → Each R xs ys → sum_from f 0 ys ≡ sum_below (length xs) g
sums_match R f g same xs ys e =
    let from : sum_from f 0 ys ≡ 0 + sum_from f 0 ys = omega arith in
    let end : 0 + length xs ≡ length xs = omega arith in
    from ∙ sums_are R f g same 0 xs ys e ∙ ap (λ n. sum_below n g) end

pub commit_appends : (h : History) (ops : List Op) (s : StateValue) → StandsFor h s → consistent h (Commit ops) ≡ true → sum_from (appended_to ops) 0 s.tables ≡ (commit_result ops h).inserted
commit_appends h ops s st fits =
    sums_match (λ t info table. (slice_get (roster h).tables t ≡ Some info) × TableAt h t info table) (appended_to ops) (λ t. length (all_appended t ops)) (λ t info table e. appended_is h ops st.consistent fits t info table e.0 e.1) (roster h).tables s.tables (each_placed (TableAt h) (roster h).tables s.tables st.tables)

pub commit_takes : (h : History) (ops : List Op) (s : StateValue) (pos : ℕ) → StandsFor h s → consistent h (Commit ops) ≡ true → pos ≡ suc s.position → sum_from (taken_from ops pos) 0 s.tables ≡ (commit_result ops h).removed
commit_takes h ops s pos st fits is =
    ap (λ p. sum_from (taken_from ops p) 0 s.tables) (is ∙ ap suc st.position)
    ∙ sums_match (λ t info table. (slice_get (roster h).tables t ≡ Some info) × TableAt h t info table) (taken_from ops (suc (position h))) (λ t. length (all_taken t ops (rows t h))) (λ t info table e. taken_is h ops st.consistent fits t info table e.0 e.1) (roster h).tables s.tables (each_placed (TableAt h) (roster h).tables s.tables st.tables)
