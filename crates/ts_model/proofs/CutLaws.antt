-- Laws of cuts and of last refreshes.
use Rattle.std.proofs.Common.{◌≡◌, ℕ, suc, ◌≤◌, Bool, true, false, ◌&&◌, ◌||◌, cond, nat_le, nat_lt, ◌==◌, List, [], ◌∷◌, ℤ, Option, Some, None, ⊎_elim, sym, refl, ap, ◌∙◌, subst, arith}
use Rattle.std.proofs.lemmas.Bool.{true≢false, or_left, or_right, and_left, and_parts, and_from, eqb-true, eq-eqb, le-leb, leb-true, and_right}
use Rattle.std.proofs.lemmas.Bool.Decides.{nat_tests}
use Rattle.ts_bucket.specs.Positions.{later, is_before}
use Rattle.ts_bucket.specs.Spans.{in_span}
use Rattle.ts_bucket.specs.declared.spans.Span.{Span}
use Rattle.ts_model.specs.declared.events.Event.TheVariants.{Cut, Built}
use Rattle.ts_model.specs.declared.refreshes.Waiting.{Waiting as WaitingRefresh}
use Rattle.ts_model.specs.History.{History, start, resumed, ◌▸◌, position, base_position}
use Rattle.ts_model.specs.Roster.{IsOf, roster, view_of}
use Rattle.ts_model.specs.Refreshes.{span_of_cut, is_covered, is_by, is_pos, waits_over, was_cut, last, was_refreshed}
use Rattle.ts_model.specs.Saved.{span_among, saved_last}
use Rattle.ts_model.specs.Pending.{pending, is_known}
use Rattle.ts_model.specs.Sound.{span_fits, finish_fits, sound_in, sound}
use Rattle.ts_model.specs.Allowed.{all_consistent, consistent}
use Rattle.ts_model.specs.RefreshLaws.{CutsFit, BucketsWereCut, LastsAreLast}
use Rattle.ts_model.specs.declared.views.Fold.{Fold}
use Rattle.ts_model.specs.declared.views.ViewDef.{ViewDef}
use Rattle.ts_model.proofs.ValidLaws.{among_at, span_within, kept_facts}
use Rattle.ts_model.proofs.RosterLaws.{relations_further, is_of_before}
use Rattle.ts_model.proofs.AllowedLaws.{sound_in_stays}
use Rattle.ts_model.proofs.RefreshLaws.{later_is, covered_snap}

-- ---- cuts of a consistent history fit its aggregates

this_cut : (n : ℕ) (h : History) (k v : ℕ) (span other : Span) (c : Bool) → (k == suc (position h) && v == n) ≡ c → sound_in (roster h) (Cut v other) ≡ true → (span_of_cut n h k ≡ Some span → sound_in (roster h) (Cut n span) ≡ true) → cond c (Some other) (span_of_cut n h k) ≡ Some span → sound_in (roster h) (Cut n span) ≡ true
this_cut n h k v span other true t fits before e =
    let same_view : v ≡ n = eqb-true v n (and_parts (k == suc (position h)) (v == n) t).1 in
    let same_span : other ≡ span = cc in
    let P : ℕ → Type 0 = λ m. sound_in (roster h) (Cut m span) ≡ true in
    let Q : Span → Type 0 = λ s. sound_in (roster h) (Cut v s) ≡ true in
    subst P same_view (subst Q same_span fits)
this_cut n h k v span other false t fits before e = before e

pub cut_sound : (n : ℕ) (h : History) (k : ℕ) (span : Span) → all_consistent h ≡ true → span_of_cut n h k ≡ Some span → sound_in (roster h) (Cut n span) ≡ true
cut_sound n start k span ok e = absurd (cc)
cut_sound n (resumed i) k span ok e = (among_at i n k span ok (span_within i n k span e).1).fits
cut_sound n (h ▸ Cut v other) k span ok e =
    let parts = and_parts (all_consistent h) (consistent h (Cut v other)) ok in
    let fits = (and_parts (sound_in (roster h) (Cut v other)) _ (and_parts (sound h (Cut v other)) _ parts.1).0).0 in
    this_cut n h k v span other (k == suc (position h) && v == n) refl fits (cut_sound n h k span parts.0) e
cut_sound n (h ▸ x) k span ok e =
    sound_in_stays (roster h) (roster (h ▸ x)) (Cut n span) (relations_further (roster h) x) (cut_sound n h k span (and_parts (all_consistent h) _ ok).0 e)

pub cuts_fit : CutsFit
cuts_fit n def h k span ok there e = ap (span_fits span) (sym there) ∙ cut_sound n h k span ok e

-- ---- buckets that were cut

was_cut_now : (n : ℕ) (h : History) (v k s : ℕ) (other span : Span) (b : ℤ) (c : Bool) → (k == suc (position h) && v == n) ≡ c → in_span span b ≡ true → k ≤ s → (span_of_cut n h k ≡ Some span → was_cut n h b s ≡ true) → cond c (Some other) (span_of_cut n h k) ≡ Some span → was_cut n (h ▸ Cut v other) b s ≡ true
was_cut_now n h v k s other span b true t inside l before e =
    let parts = and_parts (k == suc (position h)) (v == n) t in
    let number : k ≡ suc (position h) = eqb-true k (suc (position h)) parts.0 in
    let same_span : other ≡ span = cc in
    let here : in_span other b ≡ true = ap (λ x. in_span x b) same_span ∙ inside in
    or_right (was_cut n h b s) _ (and_from _ _ (and_from _ _ parts.1 here) (le-leb (suc (position h)) s (omega arith)))
was_cut_now n h v k s other span b false t inside l before e = or_left _ _ (before e)

waits_was_cut : (n : ℕ) (ws : List WaitingRefresh) (k s : ℕ) (span : Span) (b : ℤ) → span_among n ws k ≡ Some span → in_span span b ≡ true → k ≤ s → waits_over n b s ws ≡ true
waits_was_cut n [] k s span b e inside l = absurd (cc)
waits_was_cut n (w ∷ ws) k s span b e inside l =
    elim (k == w.cut && w.view == n) as (λ t. (k == w.cut && w.view == n) ≡ t → cond t (Some w.span) (span_among n ws k) ≡ Some span → waits_over n b s (w ∷ ws) ≡ true) [
      | true ↦ λ here f.
          let both = and_parts (k == w.cut) (w.view == n) here in
          let number : k ≡ w.cut = eqb-true k w.cut both.0 in
          let same_span : w.span ≡ span = cc in
          let covers : in_span w.span b ≡ true = ap (λ x. in_span x b) same_span ∙ inside in
          or_left _ _ (and_from _ _ (and_from _ _ both.1 covers) (le-leb w.cut s (omega arith)))
      | false ↦ λ _ f. or_right (w.view == n && in_span w.span b && nat_le w.cut s) _ (waits_was_cut n ws k s span b f inside l)
    ] refl e

pub span_was_cut : (n : ℕ) (h : History) (k s : ℕ) (span : Span) (b : ℤ) → span_of_cut n h k ≡ Some span → in_span span b ≡ true → k ≤ s → was_cut n h b s ≡ true
span_was_cut n start k s span b e inside l = absurd (cc)
span_was_cut n (resumed i) k s span b e inside l = or_right (is_by s (saved_last n i b)) _ (waits_was_cut n i.waiting k s span b (span_within i n k span e).1 inside l)
span_was_cut n (h ▸ Cut v other) k s span b e inside l =
    was_cut_now n h v k s other span b (k == suc (position h) && v == n) refl inside l (λ f. span_was_cut n h k s span b f inside l) e
span_was_cut n (h ▸ x) k s span b e inside l = span_was_cut n h k s span b e inside l

pub covered_was_cut : (n : ℕ) (h : History) (k s : ℕ) (b : ℤ) → is_covered b (span_of_cut n h k) ≡ true → k ≤ s → was_cut n h b s ≡ true
covered_was_cut n h k s b e l = by_span (span_of_cut n h k) refl e
  where
    by_span : (o : Option Span) → span_of_cut n h k ≡ o → is_covered b o ≡ true → was_cut n h b s ≡ true
    by_span None is inside = absurd (true≢false (sym inside))
    by_span (Some span) is inside = span_was_cut n h k s span b is inside l

pub cut_before : (h : History) (cut snap : ℕ) → consistent h (Built cut snap) ≡ true → cut ≤ snap
cut_before h cut snap e =
    let is_sound = and_parts (finish_fits h cut snap) _ (and_parts (sound h (Built cut snap)) _ e).0 in
    let taken = and_parts _ (nat_le snap (position h)) is_sound.0 in
    let from_base = and_parts _ (nat_le (base_position h) snap) taken.0 in
    leb-true cut snap (and_parts (is_known (pending h cut)) (nat_le cut snap) from_base.0).1

last_by : (o : Option ℕ) (s : ℕ) → o ≡ Some s → is_by s o ≡ true
last_by None s e = absurd (cc)
last_by (Some p) s e = let same : p ≡ s = cc in le-leb p s (omega arith)

pub last_was_cut : (n : ℕ) (h : History) (b : ℤ) (s : ℕ) → all_consistent h ≡ true → last n h b ≡ Some s → was_cut n h b s ≡ true
last_was_cut n start b s ok e = absurd (cc)
last_was_cut n (resumed i) b s ok e = or_left _ _ (last_by (saved_last n i b) s e)
last_was_cut n (h ▸ Built cut snap) b s ok e =
    let parts = and_parts (all_consistent h) (consistent h (Built cut snap)) ok in
    ⊎_elim
    (λ before. last_was_cut n h b s parts.0 before)
    (λ now.
    let this = covered_snap (is_covered b (span_of_cut n h cut)) snap s now in
    subst (λ k. was_cut n h b k ≡ true) this.1 (covered_was_cut n h cut snap b this.0 (cut_before h cut snap parts.1)))
    (later_is (last n h b) (cond (is_covered b (span_of_cut n h cut)) (Some snap) None) s e)
last_was_cut n (h ▸ Cut v span) b s ok e = or_left _ _ (last_was_cut n h b s (and_parts (all_consistent h) _ ok).0 e)
last_was_cut n (h ▸ x) b s ok e = last_was_cut n h b s (and_parts (all_consistent h) _ ok).0 e

pub buckets_were_cut : BucketsWereCut
buckets_were_cut = record { spans = span_was_cut; lasts = last_was_cut }

-- ---- last refreshes

pub pos_is : (o : Option ℕ) (r : ℕ) → is_pos r o ≡ true → o ≡ Some r
pos_is None r e = absurd (true≢false (sym e))
pos_is (Some p) r e = ap Some (eqb-true p r e)

is_pos_at : (o : Option ℕ) (r : ℕ) → o ≡ Some r → is_pos r o ≡ true
is_pos_at None r e = absurd (cc)
is_pos_at (Some p) r e = let same : p ≡ r = cc in eq-eqb p r same

not_before : (o : Option ℕ) (r : ℕ) → is_pos r o ≡ true → is_before r o ≡ false
not_before None r e = absurd (true≢false (sym e))
not_before (Some p) r e = grind (arith, nat_tests)

last_refreshed : (n : ℕ) (h : History) (b : ℤ) (s : ℕ) → last n h b ≡ Some s → was_refreshed n h b s ≡ true
last_refreshed n start b s e = absurd (cc)
last_refreshed n (resumed i) b s e = is_pos_at (saved_last n i b) s e
last_refreshed n (h ▸ Built cut snap) b s e =
    ⊎_elim
    (λ before. or_left _ _ (last_refreshed n h b s before))
    (λ now.
    let this = covered_snap (is_covered b (span_of_cut n h cut)) snap s now in
    or_right (was_refreshed n h b s) _ (and_from _ _ (eq-eqb snap s this.1) this.0))
    (later_is (last n h b) (cond (is_covered b (span_of_cut n h cut)) (Some snap) None) s e)
last_refreshed n (h ▸ x) b s e = last_refreshed n h b s e

is_before-later : (r : ℕ) (p q : Option ℕ) → is_before r (later p q) ≡ (is_before r p && is_before r q)
is_before-later r None q = refl
is_before-later r (Some p) None = elim (nat_lt p r) as (λ t. t ≡ (t && true)) [ true ↦ refl | false ↦ refl ]
is_before-later r (Some p) (Some q) = grind (arith, nat_tests)

refreshed_now : (b : ℤ) (o : Option Span) (snap r : ℕ) → (snap == r && is_covered b o) ≡ true → is_before r (cond (is_covered b o) (Some snap) None) ≡ false
refreshed_now b o snap r e =
    let parts = and_parts (snap == r) (is_covered b o) e in
    let same : snap ≡ r = eqb-true snap r parts.0 in
    ap (λ c. is_before r (cond c (Some snap) None)) parts.1 ∙ not_below snap r same
  where
    not_below : (snap r : ℕ) → snap ≡ r → nat_lt snap r ≡ false
    not_below snap r e = grind (arith, nat_tests)

pub last_latest : (n : ℕ) (h : History) (b : ℤ) (r : ℕ) → was_refreshed n h b r ≡ true → is_before r (last n h b) ≡ false
last_latest n start b r e = absurd (true≢false (sym e))
last_latest n (resumed i) b r e = not_before (saved_last n i b) r e
last_latest n (h ▸ Built cut snap) b r e =
    let o = span_of_cut n h cut in
    is_before-later r (last n h b) (cond (is_covered b o) (Some snap) None)
    ∙ elim (was_refreshed n h b r) as (λ t. was_refreshed n h b r ≡ t → (t || (snap == r && is_covered b o)) ≡ true → (is_before r (last n h b) && is_before r (cond (is_covered b o) (Some snap) None)) ≡ false) [
      | true ↦ λ before _. and_left _ _ (last_latest n h b r before)
      | false ↦ λ _ now. and_right (is_before r (last n h b)) _ (refreshed_now b o snap r now)
    ] refl e
last_latest n (h ▸ x) b r e = last_latest n h b r e

pub lasts_are_last : LastsAreLast
lasts_are_last = record { refreshed = last_refreshed; latest = last_latest }

-- ---- a bucket with a last refresh

-- it lies in a span of whole buckets of its aggregate, from the first on
pub record IsSpanned (def : ViewDef) (b : ℤ) : Type 0 where
  pub span : Span
  pub inside : in_span span b ≡ true
  pub fits : span_fits span (Some def) ≡ true

fits_of : (def : ViewDef) (span : Span) (o : Option ViewDef) → IsOf def o → span_fits span o ≡ true → span_fits span (Some def) ≡ true
fits_of def span None is e = absurd (true≢false (sym e))
fits_of def span (Some found) is e = subst (λ (f : Fold). span_fits span (Some (record found { fold = f })) ≡ true) is.1 e

pub last_spanned : (n : ℕ) (def : ViewDef) (h : History) (b : ℤ) (s : ℕ) → IsOf def (view_of (roster h) n) → all_consistent h ≡ true → last n h b ≡ Some s → IsSpanned def b
last_spanned n def start b s is ok e = absurd (cc)
last_spanned n def (resumed i) b s is ok e = let l = (kept_facts n def i ok is).lasts b s e in record { span = l.last.span; inside = l.inside; fits = l.fits }
last_spanned n def (h ▸ Built cut snap) b s is ok e =
    ⊎_elim
    (λ before. last_spanned n def h b s is (and_parts (all_consistent h) _ ok).0 before)
    (λ now. by_span (span_of_cut n h cut) refl (covered_snap _ snap s now).0)
    (later_is (last n h b) (cond (is_covered b (span_of_cut n h cut)) (Some snap) None) s e)
  where
    by_span : (o : Option Span) → span_of_cut n h cut ≡ o → is_covered b o ≡ true → IsSpanned def b
    by_span None at inside = absurd (true≢false (sym inside))
    by_span (Some span) at inside = record { span = span; inside = inside; fits = fits_of def span (view_of (roster h) n) is (cut_sound n h cut span (and_parts (all_consistent h) _ ok).0 at) }
last_spanned n def (h ▸ x) b s is ok e = last_spanned n def h b s (is_of_before def h x n is) (and_parts (all_consistent h) _ ok).0 e
