-- The rows of an image, commit by commit.
use Rattle.std.proofs.Common.{◌≡◌, ℕ, suc, Bool, true, false, ◌&&◌, cond, nat_le, List, [], ◌∷◌, ◌++◌, refl, sym, ap, ◌∙◌, subst}
use Rattle.std.specs.List.{list_all}
use Rattle.std.specs.Ordering.{is_gt}
use Rattle.std.proofs.lemmas.Bool.{and_parts, and_from, true≢false}
use Rattle.std.proofs.lemmas.List.{append-nil}
use Rattle.std.proofs.lemmas.List.Folds.{list_all-append}
use Rattle.ts_bucket.specs.Bucket.{is_time}
use Rattle.ts_schema.proofs.Cases.{same_number}
use Rattle.ts_schema.specs.declared.rows.Row.{Row}
use Rattle.ts_schema.specs.Rows.{row_cmp}
use Rattle.ts_model.specs.Laws.{fits_table}
use Rattle.ts_model.specs.Rows.{with_row, in_order}
use Rattle.ts_model.specs.Saved.{all_appended, appended_by, appended_over}
use Rattle.ts_model.specs.Sound.{op_fits}
use Rattle.ts_model.specs.Valid.{all_stand, hold_rows}
use Rattle.ts_model.specs.declared.events.Event.{Event}
use Rattle.ts_model.specs.declared.events.Event.TheVariants.{Table, Hyper, View, Mode, Commit, Cut, Built}
use Rattle.ts_model.specs.declared.events.Op.{Op}
use Rattle.ts_model.specs.declared.events.Op.TheVariants.{Insert, Delete}
use Rattle.ts_model.specs.declared.rosters.Roster.{Roster}
use Rattle.ts_model.proofs.FitLaws.{all_times, appended_fit}
use Rattle.base_image.specs.Held.{is_held, is_timed, next_table}

-- ---- one commit after the other

pub hold_next : (r : Roster) (low : ℕ) (e : Event) (es : List Event) → hold_rows r low (e ∷ es) ≡ (is_held r low e && hold_rows r (next_table e) es)
hold_next r low (Table def) es = refl
hold_next r low (Hyper t hyper) es = refl
hold_next r low (View def) es = refl
hold_next r low (Mode v only) es = refl
hold_next r low (Commit []) es = refl
hold_next r low (Commit (Insert t new ∷ [])) es = refl
hold_next r low (Commit (Insert t new ∷ op ∷ ops)) es = refl
hold_next r low (Commit (Delete t tests ∷ [])) es = refl
hold_next r low (Commit (Delete t tests ∷ op ∷ ops)) es = refl
hold_next r low (Cut v span) es = refl
hold_next r low (Built cut snap) es = refl

-- ---- the times of the rows

insert_timed : (r : Roster) (t : ℕ) (new : List Row) → op_fits r (Insert t new) ≡ true → list_all (λ row. is_time row.at) new ≡ true
insert_timed r t new fits =
    let all : all_appended t (Insert t new ∷ []) ≡ new = append-nil (appended_by t (Insert t new)) ∙ ap (λ (b : Bool). cond b new []) (same_number t) in
    all_times r t new (subst (λ rows. list_all (fits_table r t) rows ≡ true) all (appended_fit r t (Insert t new ∷ []) (and_from _ _ fits refl)))

pub held_timed : (r : Roster) (low : ℕ) (es : List Event) → hold_rows r low es ≡ true → list_all is_timed es ≡ true
held_timed r low [] h = refl
held_timed r low (Commit (Insert t new ∷ []) ∷ es) h =
    let rest = and_parts _ (hold_rows r (suc t) es) h in
    let stand = and_parts _ (all_stand row_cmp new) rest.0 in
    let fits = and_parts (nat_le low t) (op_fits r (Insert t new)) stand.0 in
    and_from _ _ (insert_timed r t new fits.1) (held_timed r (suc t) es rest.1)
held_timed r low (e ∷ es) h = absurd (true≢false (sym h))

-- ---- rows of a table, in order

module _ (p : Row → Bool) where
  swapped : (a b c : Bool) → (a && (b && c)) ≡ (b && (a && c))
  swapped true b c = refl
  swapped false true c = refl
  swapped false false c = refl

  all_with_row : (row : Row) (xs : List Row) → list_all p (with_row row xs) ≡ (p row && list_all p xs)
  all_with_row row [] = refl
  all_with_row row (x ∷ xs) =
      elim (is_gt (row_cmp row x)) as (λ t. list_all p (cond t (x ∷ with_row row xs) (row ∷ x ∷ xs)) ≡ (p row && (p x && list_all p xs))) [
        | true ↦ ap (λ (t : Bool). p x && t) (all_with_row row xs) ∙ swapped (p x) (p row) (list_all p xs)
        | false ↦ refl
      ]

  pub all_in_order : (xs : List Row) → list_all p (in_order xs) ≡ list_all p xs
  all_in_order [] = refl
  all_in_order (x ∷ xs) = all_with_row x (in_order xs) ∙ ap (λ (t : Bool). p x && t) (all_in_order xs)

-- ---- the rows of a table, commit by commit

pub appended_one : (t : ℕ) (op : Op) → appended_over t (Commit (op ∷ []) ∷ []) ≡ appended_by t op
appended_one t op = append-nil (all_appended t (op ∷ [])) ∙ append-nil (appended_by t op)

appended_next : (t : ℕ) (e : Event) (es : List Event) → appended_over t (e ∷ es) ≡ appended_over t (e ∷ []) ++ appended_over t es
appended_next t (Table def) es = refl
appended_next t (Hyper u hyper) es = refl
appended_next t (View def) es = refl
appended_next t (Mode v only) es = refl
appended_next t (Commit ops) es = ap (λ (rows : List Row). rows ++ appended_over t es) (sym (append-nil (all_appended t ops)))
appended_next t (Cut v span) es = refl
appended_next t (Built cut snap) es = refl

-- each row of a table passes if each row that a commit appends does
pub all_by_commit : (p : Row → Bool) (t : ℕ) (es : List Event) → list_all (λ (e : Event). list_all p (appended_over t (e ∷ []))) es ≡ list_all p (in_order (appended_over t es))
all_by_commit p t es = by_commit es ∙ sym (all_in_order p (appended_over t es))
  where
    by_commit : (es : List Event) → list_all (λ (e : Event). list_all p (appended_over t (e ∷ []))) es ≡ list_all p (appended_over t es)
    by_commit [] = refl
    by_commit (e ∷ es) =
        ap (λ (b : Bool). list_all p (appended_over t (e ∷ [])) && b) (by_commit es)
        ∙ sym (list_all-append p (appended_over t (e ∷ [])) (appended_over t es))
        ∙ ap (list_all p) (sym (appended_next t e es))
