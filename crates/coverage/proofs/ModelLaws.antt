-- Laws of histories that coverage needs: where cuts are, when an aggregate exists, and that nothing has a later
-- position.
use Rattle.std.proofs.Common.{◌≡◌, ℕ, suc, Bool, true, false, ◌&&◌, ◌||◌, cond, nat_le, ◌==◌, List, [], ◌∷◌, ℤ, Option, Some, None, refl, sym, ap, ◌∙◌, subst, arith}
use Rattle.std.proofs.lemmas.Bool.{true≢false, and_parts, or_from, eqb-true}
use Rattle.ts_bucket.specs.Positions.{later, is_above}
use Rattle.ts_bucket.specs.Spans.{in_span}
use Rattle.ts_bucket.specs.declared.spans.Span.{Span}
use Rattle.ts_bucket.proofs.PositionLaws.{is_above-later, is_above-greater, is_above-at}
use Rattle.ts_model.specs.declared.events.Event.{Event}
use Rattle.ts_model.specs.declared.events.Event.TheVariants.{Commit, Cut, Built}
use Rattle.ts_model.specs.declared.views.ViewDef.{ViewDef}
use Rattle.ts_model.specs.History.{History, start, resumed, ◌▸◌, position}
use Rattle.ts_model.specs.Roster.{roster, view_of}
use Rattle.ts_model.specs.Refreshes.{span_of_cut, is_covered, was_cut, last, is_by, waits_over, touches, last_touch}
use Rattle.ts_model.specs.Allowed.{consistent, all_consistent}
use Rattle.ts_model.specs.Sound.{span_fits, sound}
use Rattle.ts_model.specs.Laws.{KeepsView}
use Rattle.ts_model.proofs.RosterLaws.{relations_further}
use Rattle.std.specs.List.{list_all}
use Rattle.ts_model.specs.declared.refreshes.Waiting.{Waiting as WaitingRefresh}
use Rattle.ts_model.specs.declared.rosters.Roster.{Roster}
use Rattle.ts_model.specs.Saved.{pos_in, is_dirty}
use Rattle.ts_model.specs.Valid.{is_number, image_roster}
use Rattle.ts_model.proofs.ValidLaws.{valid_is, among_at, span_within, absent_kept}

-- ---- nothing has a later position

-- the last touch is not after the history
pub touched_past : (n : ℕ) (def : ViewDef) (h : History) (b : ℤ) → is_above (position h) (last_touch n def h b) ≡ false
touched_past n def start b = refl
touched_past n def (resumed i) b = elim (is_dirty n i b) as (λ t. is_above i.pos (cond t (Some i.pos) None) ≡ false) [ true ↦ is_above-at i.pos i.pos (omega arith) | false ↦ refl ]
touched_past n def (h ▸ Commit ops) b =
    is_above-later (suc (position h)) (last_touch n def h b) (cond (touches def ops h b) (Some (suc (position h))) None)
    ∙ or_from _ _ (is_above-greater (position h) (suc (position h)) (last_touch n def h b) (omega arith) (touched_past n def h b))
    (elim (touches def ops h b) as (λ t. is_above (suc (position h)) (cond t (Some (suc (position h))) None) ≡ false) [ true ↦ is_above-at (suc (position h)) (suc (position h)) (omega arith) | false ↦ refl ])
touched_past n def (h ▸ x) b = is_above-greater (position h) (suc (position h)) (last_touch n def h b) (omega arith) (touched_past n def h b)

-- ---- a missing aggregate

-- a missing aggregate after an event wasn't there before it
absent_in : (was now : Option ViewDef) → ((def : ViewDef) → was ≡ Some def → KeepsView def now) → now ≡ None → was ≡ None
absent_in None now keeps e = refl
absent_in (Some def) now keeps e = let there = (keeps def refl).there in absurd (cc)

pub absent_before : (h : History) (e : Event) (n : ℕ) → view_of (roster (h ▸ e)) n ≡ None → view_of (roster h) n ≡ None
absent_before h e n none = absent_in (view_of (roster h) n) (view_of (roster (h ▸ e)) n) ((relations_further (roster h) e).views n) none

-- a cut of another aggregate isn't a cut of this one
pub other_cut : (here mine : Bool) (span : Span) (o : Option Span) → mine ≡ false → cond (here && mine) (Some span) o ≡ o
other_cut true mine span o e = ap (λ t. cond t (Some span) o) e
other_cut false mine span o e = refl

pub no_cut : (before mine inside late : Bool) → mine ≡ false → (before || (mine && inside && late)) ≡ before
no_cut true mine inside late e = refl
no_cut false mine inside late e = ap (λ t. t && inside && late) e

pub cut_view : (h : History) (v : ℕ) (span : Span) → consistent h (Cut v span) ≡ true → span_fits span (view_of (roster h) v) ≡ true
cut_view h v span e = (and_parts (span_fits span (view_of (roster h) v)) _ (and_parts (sound h (Cut v span)) _ e).0).0

-- it was never cut
never_here : (n : ℕ) (h : History) (v : ℕ) (span : Span) → consistent h (Cut v span) ≡ true → view_of (roster h) n ≡ None → (v == n) ≡ false
never_here n h v span ok none = by_view (v == n) refl
  where
    by_view : (t : Bool) → (v == n) ≡ t → t ≡ false
    by_view true e =
        let absent : view_of (roster h) v ≡ None = ap (view_of (roster h)) (eqb-true v n e) ∙ none in
        absurd (true≢false (sym (cut_view h v span ok) ∙ ap (span_fits span) absent))
    by_view false e = refl

pub never_cut : (n : ℕ) (h : History) (k : ℕ) → all_consistent h ≡ true → view_of (roster h) n ≡ None → span_of_cut n h k ≡ None
never_cut n start k ok none = refl
never_cut n (resumed i) k ok none = by_span (span_of_cut n (resumed i) k) refl
  where
    by_span : (o : Option Span) → span_of_cut n (resumed i) k ≡ o → o ≡ None
    by_span None e = refl
    by_span (Some span) e = absurd (true≢false (sym (among_at i n k span ok (span_within i n k span e).1).fits ∙ ap (span_fits span) none))
never_cut n (h ▸ Cut v span) k ok none =
    let parts = and_parts (all_consistent h) (consistent h (Cut v span)) ok in
    other_cut (k == suc (position h)) (v == n) span (span_of_cut n h k) (never_here n h v span parts.1 none) ∙ never_cut n h k parts.0 none
never_cut n (h ▸ x) k ok none = never_cut n h k (and_parts (all_consistent h) _ ok).0 (absent_before h x n none)

never_waits : (r : Roster) (p n : ℕ) (b : ℤ) (s : ℕ) (ws : List WaitingRefresh) → list_all (λ (w : WaitingRefresh). is_number p w.cut && span_fits w.span (view_of r w.view)) ws ≡ true → view_of r n ≡ None → waits_over n b s ws ≡ false
never_waits r p n b s [] e none = refl
never_waits r p n b s (w ∷ ws) e none =
    let parts = and_parts (is_number p w.cut && span_fits w.span (view_of r w.view)) (list_all (λ (w : WaitingRefresh). is_number p w.cut && span_fits w.span (view_of r w.view)) ws) e in
    let fits = and_parts (is_number p w.cut) (span_fits w.span (view_of r w.view)) parts.0 in
    or_from _ _ (other (w.view == n) refl fits.1) (never_waits r p n b s ws parts.1 none)
  where
    other : (t : Bool) → (w.view == n) ≡ t → span_fits w.span (view_of r w.view) ≡ true → (t && in_span w.span b && nat_le w.cut s) ≡ false
    other true e fits = absurd (true≢false (sym fits ∙ ap (span_fits w.span) (ap (view_of r) (eqb-true w.view n e) ∙ none)))
    other false e fits = refl

pub never_was_cut : (n : ℕ) (h : History) (b : ℤ) (s : ℕ) → all_consistent h ≡ true → view_of (roster h) n ≡ None → was_cut n h b s ≡ false
never_was_cut n start b s ok none = refl
never_was_cut n (resumed i) b s ok none = or_from _ _ (ap (λ v. is_by s (pos_in v.lasts b)) (absent_kept n i ok none)) (never_waits (image_roster i) i.pos n b s i.waiting (and_parts (list_all (λ (w : WaitingRefresh). is_number i.pos w.cut && span_fits w.span (view_of (image_roster i) w.view)) i.waiting) _ (valid_is i ok).waiting).0 none)
never_was_cut n (h ▸ Cut v span) b s ok none =
    let parts = and_parts (all_consistent h) (consistent h (Cut v span)) ok in
    no_cut (was_cut n h b s) (v == n) (in_span span b) (nat_le (suc (position h)) s) (never_here n h v span parts.1 none) ∙ never_was_cut n h b s parts.0 none
never_was_cut n (h ▸ x) b s ok none = never_was_cut n h b s (and_parts (all_consistent h) _ ok).0 (absent_before h x n none)

-- and never refreshed
pub never_refreshed : (n : ℕ) (h : History) (b : ℤ) → all_consistent h ≡ true → view_of (roster h) n ≡ None → last n h b ≡ None
never_refreshed n start b ok none = refl
never_refreshed n (resumed i) b ok none = ap (λ v. pos_in v.lasts b) (absent_kept n i ok none)
never_refreshed n (h ▸ Built cut snap) b ok none =
    ap (λ p. later p (cond (is_covered b (span_of_cut n h cut)) (Some snap) None)) (never_refreshed n h b (and_parts (all_consistent h) _ ok).0 none)
    ∙ ap (λ o. cond (is_covered b o) (Some snap) None) (never_cut n h cut (and_parts (all_consistent h) _ ok).0 none)
never_refreshed n (h ▸ x) b ok none = never_refreshed n h b (and_parts (all_consistent h) _ ok).0 (absent_before h x n none)
