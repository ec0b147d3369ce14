-- A missing aggregate has no marks, and a cut is of one aggregate.
use Rattle.std.proofs.Common.{◌≡◌, ℕ, suc, ◌≤◌, true, false, ◌&&◌, ◌==◌, cond, nat_lt, List, [], ◌∷◌, map, Option, Some, None, sym, refl, ap, ◌∙◌, arith}
use Rattle.std.specs.List.{list_all}
use Rattle.std.specs.Ordering.{is_lt, nat_cmp}
use Rattle.std.specs.declared.cmp.Ordering.TheVariants.{Less, Equal, Greater}
use Rattle.std.proofs.lemmas.Bool.{and_left, and_parts, cond-false, eqb-true}
use Rattle.std.proofs.lemmas.Bool.Decides.{nat_tests}
use Rattle.ts_model.specs.declared.refreshes.Waiting.{Waiting as WaitingRefresh}
use Rattle.ts_model.specs.Saved.{span_among}
use Rattle.ts_model.specs.Laws.{Rises}
use Rattle.ts_model.proofs.ValidLaws.{absent_kept, span_within, waiting_rising}
use Rattle.ts_num.specs.Aggregates.{greater}
use Rattle.ts_bucket.specs.declared.spans.Span.{Span}
use Rattle.ts_model.specs.declared.events.Event.TheVariants.{Cut, Built}
use Rattle.ts_model.specs.declared.views.ViewDef.{ViewDef}
use Rattle.ts_model.specs.History.{History, start, resumed, ◌▸◌, position}
use Rattle.ts_model.specs.Roster.{roster, view_of}
use Rattle.ts_model.specs.Allowed.{all_consistent}
use Rattle.ts_model.specs.Refreshes.{watermark, span_of_cut, top_of}
use Rattle.ts_model.proofs.AllowedLaws.{cut_bounded}
use Rattle.coverage.proofs.ModelLaws.{absent_before, never_cut}

pub never_marked : (n : ℕ) (def : ViewDef) (h : History) → all_consistent h ≡ true → view_of (roster h) n ≡ None → watermark n def h ≡ None
never_marked n def start ok none = refl
never_marked n def (resumed i) ok none = ap (λ v. v.mark) (absent_kept n i ok none)
never_marked n def (h ▸ Built cut snap) ok none =
    let before = (and_parts (all_consistent h) _ ok).0 in
    ap (λ m. greater m (top_of def h snap (span_of_cut n h cut))) (never_marked n def h before none)
    ∙ ap (λ o. greater None (top_of def h snap o)) (never_cut n h cut before none)
never_marked n def (h ▸ x) ok none = never_marked n def h (and_parts (all_consistent h) _ ok).0 (absent_before h x n none)

less_apart : (c k d : ℕ) → c ≡ k → is_lt (nat_cmp c d) ≡ true → (k == d) ≡ false
less_apart c k d e f =
    let below : nat_lt c d ≡ true = elim (nat_lt c d) as (λ t. is_lt (cond t Less (cond (c == d) Equal Greater)) ≡ true → t ≡ true) [ true ↦ λ _. refl | false ↦ λ g. elim (c == d) as (λ t. is_lt (cond t Equal Greater) ≡ true → false ≡ true) [ true ↦ λ x. x | false ↦ λ x. x ] g ] f in
    grind (arith, nat_tests)

-- the present cut is of its aggregate
cut_now : (n : ℕ) (h : History) (k v : ℕ) (s span : Span) → all_consistent h ≡ true → (k == suc (position h)) ≡ true → cond (v == n) (Some s) (span_of_cut n h k) ≡ Some span → v ≡ n
cut_now n h k v s span ok number e =
    elim (v == n) as (λ t. (v == n) ≡ t → cond t (Some s) (span_of_cut n h k) ≡ Some span → v ≡ n) [
      | true ↦ λ same _. eqb-true v n same
      | false ↦ λ _ f.
          let is : k ≡ suc (position h) = eqb-true k (suc (position h)) number in
          let bound : k ≤ position h = cut_bounded n h k span f in
          absurd (omega arith)
    ] refl e

-- in an image, the first waiting refresh with a number is the only one
later_apart : (n k c : ℕ) (ws : List WaitingRefresh) → k ≡ c → list_all (λ d. is_lt (nat_cmp c d)) (map (λ (w : WaitingRefresh). w.cut) ws) ≡ true → span_among n ws k ≡ None
later_apart n k c [] e rising = refl
later_apart n k c (w ∷ ws) e rising =
    let parts = and_parts (is_lt (nat_cmp c w.cut)) (list_all (λ d. is_lt (nat_cmp c d)) (map (λ (w : WaitingRefresh). w.cut) ws)) rising in
    cond-false (k == w.cut && w.view == n) (Some w.span) (span_among n ws k) (and_left _ _ (less_apart c k w.cut (sym e) parts.0)) ∙ later_apart n k c ws e parts.1

none_some : {s : Span} → (let nothing : Option Span = None in nothing ≡ Some s) → ⊥
none_some e = absurd (cc)

among_one : (n m : ℕ) (ws : List WaitingRefresh) (k : ℕ) (span other : Span) → Rises nat_cmp (map (λ (w : WaitingRefresh). w.cut) ws) → span_among n ws k ≡ Some span → span_among m ws k ≡ Some other → n ≡ m
among_one n m [] k span other r e f = absurd (cc)
among_one n m (w ∷ ws) k span other r e f =
    elim (k == w.cut) as (λ t. (k == w.cut) ≡ t → cond (t && w.view == n) (Some w.span) (span_among n ws k) ≡ Some span → cond (t && w.view == m) (Some w.span) (span_among m ws k) ≡ Some other → n ≡ m) [
      | true ↦ λ here a b. sym (own n span here a) ∙ own m other here b
      | false ↦ λ _ a b. among_one n m ws k span other r.1 a b
    ] refl e f
  where
    own : (n : ℕ) (s : Span) → (k == w.cut) ≡ true → cond (w.view == n) (Some w.span) (span_among n ws k) ≡ Some s → w.view ≡ n
    own n s here a =
        elim (w.view == n) as (λ t. (w.view == n) ≡ t → cond t (Some w.span) (span_among n ws k) ≡ Some s → w.view ≡ n) [
          | true ↦ λ same_view _. eqb-true w.view n same_view
          | false ↦ λ _ g. absurd (let none : span_among n ws k ≡ None = later_apart n k w.cut ws (eqb-true k w.cut here) r.0 in let apart : (let nothing : Option Span = None in nothing ≡ Some s) = sym none ∙ g in none_some apart)
        ] refl a

pub cut_of_one : (n m : ℕ) (h : History) (k : ℕ) (span other : Span) → all_consistent h ≡ true → span_of_cut n h k ≡ Some span → span_of_cut m h k ≡ Some other → n ≡ m
cut_of_one n m start k span other ok e f = absurd (cc)
cut_of_one n m (resumed i) k span other ok e f = among_one n m i.waiting k span other (waiting_rising i ok) (span_within i n k span e).1 (span_within i m k other f).1
cut_of_one n m (h ▸ Cut v s) k span other ok e f =
    elim (k == suc (position h)) as (λ t. (k == suc (position h)) ≡ t → cond (t && v == n) (Some s) (span_of_cut n h k) ≡ Some span → cond (t && v == m) (Some s) (span_of_cut m h k) ≡ Some other → n ≡ m) [
      | true ↦ λ number a b. sym (cut_now n h k v s span (and_parts (all_consistent h) _ ok).0 number a) ∙ cut_now m h k v s other (and_parts (all_consistent h) _ ok).0 number b
      | false ↦ λ _ a b. cut_of_one n m h k span other (and_parts (all_consistent h) _ ok).0 a b
    ] refl e f
cut_of_one n m (h ▸ x) k span other ok e f = cut_of_one n m h k span other (and_parts (all_consistent h) _ ok).0 e f

-- so it isn't a cut of another
pub cut_of_no_other : (n m : ℕ) (h : History) (k : ℕ) (span : Span) → all_consistent h ≡ true → span_of_cut n h k ≡ Some span → (m ≡ n → ⊥) → span_of_cut m h k ≡ None
cut_of_no_other n m h k span ok e differs = by_span (span_of_cut m h k) refl
  where
    by_span : (o : Option Span) → span_of_cut m h k ≡ o → span_of_cut m h k ≡ None
    by_span None is = is
    by_span (Some other) is = absurd (differs (cut_of_one m n h k other span ok is e))
