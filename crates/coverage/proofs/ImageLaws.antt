-- The notes of a valid image cover each aggregate.
use Rattle.std.proofs.Common.{◌≡◌, ℕ, zero, suc, ◌≤◌, Bool, true, false, ◌&&◌, ◌||◌, cond, nat_lt, nat_le, ◌==◌, List, [], ◌∷◌, ℤ, ◌+ℤ◌, ◌≤ℤ◌, Option, Some, None, refl, sym, ap, ◌∙◌, subst, arith}
use Rattle.std.specs.Prelude.{is_some, is_none, unwrap_or, slice_get}
use Rattle.std.specs.Int.{int_max}
use Rattle.std.specs.List.{list_all}
use Rattle.std.proofs.lemmas.Bool.{true≢false, and_parts, eqb-true, eq-eqb, leb-true, lt-ltb, cond-true}
use Rattle.std.proofs.lemmas.Bool.Decides.{nat_tests}
use Rattle.std.proofs.lemmas.Int.{ints}
use Rattle.ts_num.specs.Aggregates.{greater}
use Rattle.ts_bucket.specs.Bucket.{is_bucket}
use Rattle.ts_bucket.specs.Positions.{later, is_above, above, above_last}
use Rattle.ts_bucket.specs.Spans.{in_span}
use Rattle.ts_bucket.specs.WholeSpans.{whole_span, least}
use Rattle.ts_bucket.specs.declared.spans.Span.{Span}
use Rattle.ts_bucket.specs.declared.widths.Width.{Width}
use Rattle.ts_bucket.proofs.PositionLaws.{above-nothing, is_above-at}
use Rattle.ts_model.specs.declared.images.Image.{Image}
use Rattle.ts_model.specs.declared.images.SavedView.{SavedView}
use Rattle.ts_model.specs.declared.refreshes.Waiting.{Waiting as WaitingRefresh}
use Rattle.ts_model.specs.declared.rosters.Roster.{Roster}
use Rattle.ts_model.specs.declared.views.ViewDef.{ViewDef}
use Rattle.ts_model.specs.History.{resumed}
use Rattle.ts_model.specs.Saved.{saved_view, nothing_saved, saved_last, is_dirty, pos_in, last_hi}
use Rattle.ts_model.specs.Roster.{IsOf, view_of}
use Rattle.ts_model.specs.Refreshes.{is_by, waits_over, is_over, lasts_end, waiting_end, threshold, was_cut}
use Rattle.ts_model.specs.Sound.{span_fits}
use Rattle.ts_model.specs.Valid.{is_number, image_roster, valid}
use Rattle.ts_model.proofs.ValidLaws.{AtMost, at_most_left, at_most_right, LastsAt, KeptFacts, kept_facts, valid_is, absent_kept}
use Rattle.ts_model.proofs.SoundLaws.{view_width}
use Rattle.coverage.specs.Notes.{number_of, pending_from, notes_from}
use Rattle.coverage.specs.Coverage.{pending_position, IsCovered}
use Rattle.coverage.specs.Laws.{EndsWhole}
use Rattle.coverage.proofs.LogLaws.{pending-alone}
use Rattle.coverage.proofs.StepLaws.{bucket_ends}
use Rattle.coverage.proofs.ModelLaws.{never_was_cut}
use Rattle.ts_model.specs.declared.views.Fold.{Fold}

-- ---- thresholds

reached : (x : ℤ) (o : Option ℤ) → AtMost x o → x ≤ℤ number_of o
reached x None m = absurd m
reached x (Some y) m = up x y m
  where
    up : (x y : ℤ) → x ≤ℤ y → x ≤ℤ int_max least y
    up x y l = grind (arith, ints)

lasts_reach : (t : ℕ) (defs : List ViewDef) (vs : List SavedView) (n : ℕ) (def : ViewDef) (x : ℤ) → slice_get defs n ≡ Some def → (def.table == t) ≡ true → AtMost x (last_hi (unwrap_or (slice_get vs n) nothing_saved).lasts) → AtMost x (lasts_end t defs vs)
lasts_reach t [] vs n def x e over m = absurd (cc)
lasts_reach t (d ∷ defs) [] n def x e over m = absurd m
lasts_reach t (d ∷ defs) (v ∷ vs) zero def x e over m =
    let same_view : d ≡ def = cc in
    at_most_left x (cond (d.table == t) (last_hi v.lasts) None) (lasts_end t defs vs)
    (subst (AtMost x) (sym (cond-true (d.table == t) (last_hi v.lasts) None (ap (λ (a : ViewDef). a.table == t) same_view ∙ over))) m)
lasts_reach t (d ∷ defs) (v ∷ vs) (suc n) def x e over m =
    at_most_right x (cond (d.table == t) (last_hi v.lasts) None) (lasts_end t defs vs) (lasts_reach t defs vs n def x e over m)

-- a refresh that waits over a bucket
record Waits (r : Roster) (t : ℕ) (def : ViewDef) (ws : List WaitingRefresh) (b : ℤ) : Type 0 where
  span : Span
  inside : in_span span b ≡ true
  fits : span_fits span (Some def) ≡ true
  ends : AtMost span.hi (waiting_end t r ws)

waits_reach : (r : Roster) (p t n : ℕ) (def : ViewDef) (b : ℤ) (s : ℕ) (ws : List WaitingRefresh) → list_all (λ (w : WaitingRefresh). is_number p w.cut && span_fits w.span (view_of r w.view)) ws ≡ true → view_of r n ≡ Some def → (def.table == t) ≡ true → waits_over n b s ws ≡ true → Waits r t def ws b
waits_reach r p t n def b s [] e there over cut = absurd (true≢false (sym cut))
waits_reach r p t n def b s (w ∷ ws) e there over cut =
    let parts = and_parts (is_number p w.cut && span_fits w.span (view_of r w.view)) (list_all (λ (w : WaitingRefresh). is_number p w.cut && span_fits w.span (view_of r w.view)) ws) e in
    elim (w.view == n && in_span w.span b && nat_le w.cut s) as (λ c. (w.view == n && in_span w.span b && nat_le w.cut s) ≡ c → (c || waits_over n b s ws) ≡ true → Waits r t def (w ∷ ws) b) [
      | true ↦ λ here _.
          let both = and_parts (w.view == n && in_span w.span b) (nat_le w.cut s) here in
          let mine = and_parts (w.view == n) (in_span w.span b) both.0 in
          let it : view_of r w.view ≡ Some def = ap (view_of r) (eqb-true w.view n mine.0) ∙ there in
          let fits = (and_parts (is_number p w.cut) (span_fits w.span (view_of r w.view)) parts.0).1 in
          let counted : is_over t (view_of r w.view) ≡ true = ap (is_over t) it ∙ over in
          record {
            span = w.span;
            inside = mine.1;
            fits = ap (span_fits w.span) (sym it) ∙ fits;
            ends = at_most_left w.span.hi (cond (is_over t (view_of r w.view)) (Some w.span.hi) None) (waiting_end t r ws)
                (subst (AtMost w.span.hi) (sym (cond-true (is_over t (view_of r w.view)) (Some w.span.hi) None counted)) (let l : w.span.hi ≤ℤ w.span.hi = omega (arith, ints) in l));
          }
      | false ↦ λ _ rest.
          let more = waits_reach r p t n def b s ws parts.1 there over rest in
          record {
            span = more.span;
            inside = more.inside;
            fits = more.fits;
            ends = at_most_right more.span.hi (cond (is_over t (view_of r w.view)) (Some w.span.hi) None) (waiting_end t r ws) more.ends;
          }
    ] refl cut

span_whole : (def : ViewDef) (span : Span) → span_fits span (Some def) ≡ true → is_bucket def.fold.width span.hi ≡ true
span_whole def span fits =
    let high = and_parts _ _ fits in
    let low = and_parts _ _ high.0 in
    let first = and_parts _ _ low.0 in
    let some = and_parts _ _ first.0 in
    (and_parts (is_bucket def.fold.width span.lo) (is_bucket def.fold.width span.hi) some.0).1

-- a bucket that was cut ends at or below the threshold
cut_below : (n : ℕ) (found : ViewDef) (i : Image) → valid i ≡ true → view_of (image_roster i) n ≡ Some found → (b : ℤ) (s : ℕ) → is_bucket found.fold.width b ≡ true → was_cut n (resumed i) b s ≡ true → (b +ℤ found.fold.width.step) ≤ℤ number_of (threshold found.table (resumed i))
cut_below n found i ok there b s bucket cut = by_last (saved_last n i b) refl cut
  where
    facts : KeptFacts found i (saved_view n i)
    facts = kept_facts n found i ok (let P : Option ViewDef → Type 0 = λ o. IsOf found o in subst P (sym there) (refl, refl))

    over : (found.table == found.table) ≡ true
    over = eq-eqb found.table found.table refl

    ends_by : (span : Span) → span_fits span (Some found) ≡ true → in_span span b ≡ true → AtMost span.hi (threshold found.table (resumed i)) → (b +ℤ found.fold.width.step) ≤ℤ number_of (threshold found.table (resumed i))
    ends_by span fits inside m =
        let whole : EndsWhole found.fold.width span = record { width = view_width (resumed i) n found ok there; ends = span_whole found span fits } in
        let end : (b +ℤ found.fold.width.step) ≤ℤ span.hi = bucket_ends found.fold.width span b whole bucket inside in
        let upto : span.hi ≤ℤ number_of (threshold found.table (resumed i)) = reached span.hi (threshold found.table (resumed i)) m in
        omega (arith, ints)

    waits : waits_over n b s i.waiting ≡ true → (b +ℤ found.fold.width.step) ≤ℤ number_of (threshold found.table (resumed i))
    waits c =
        let w = waits_reach (image_roster i) i.pos found.table n found b s i.waiting (and_parts (list_all (λ (w : WaitingRefresh). is_number i.pos w.cut && span_fits w.span (view_of (image_roster i) w.view)) i.waiting) _ (valid_is i ok).waiting).0 there over c in
        ends_by w.span w.fits w.inside (at_most_right w.span.hi (lasts_end found.table (image_roster i).views i.views) (waiting_end found.table (image_roster i) i.waiting) w.ends)

    by_last : (o : Option ℕ) → saved_last n i b ≡ o → (is_by s o || waits_over n b s i.waiting) ≡ true → (b +ℤ found.fold.width.step) ≤ℤ number_of (threshold found.table (resumed i))
    by_last None e c = waits c
    by_last (Some p) e c =
        let l = facts.lasts b p e in
        ends_by l.last.span l.fits l.inside
        (at_most_left l.last.span.hi (lasts_end found.table (image_roster i).views i.views) (waiting_end found.table (image_roster i) i.waiting)
        (lasts_reach found.table (image_roster i).views i.views n found l.last.span.hi there over l.ends))

-- ---- what is pending

never_above : (s : ℕ) → is_above s (Some 0) ≡ false
never_above s = is_above-at s 0 (omega arith)

pending_is : (s p : ℕ) (dirty never : Bool) → above s (cond dirty (Some p) (cond never (Some 0) None)) ≡ above s (cond dirty (Some p) None)
pending_is s p true never = refl
pending_is s p false true = above-nothing s (Some 0) (never_above s)
pending_is s p false false = refl

fresh_is : (p : ℕ) (dirty whole : Bool) (last : Option ℕ) → ((s : ℕ) → last ≡ Some s → nat_lt s p ≡ true) → above_last last (cond dirty (Some p) (cond (whole && is_none last) (Some 0) None)) ≡ cond dirty (Some p) (cond (whole && is_none last) (Some 0) None)
fresh_is p dirty whole None below = refl
fresh_is p true whole (Some s) below = cond-true (nat_lt s p) (Some p) None (below s refl)
fresh_is p false true (Some s) below = refl
fresh_is p false false (Some s) below = refl

marked_is : (p : ℕ) (dirty : Bool) (last : Option ℕ) → (is_some last || is_some (cond dirty (Some p) (cond (true && is_none last) (Some 0) None))) ≡ true
marked_is p dirty (Some s) = refl
marked_is p true None = refl
marked_is p false None = refl

past_is : (p : ℕ) (dirty never : Bool) → is_above p (cond dirty (Some p) (cond never (Some 0) None)) ≡ false
past_is p true never = is_above-at p p (omega arith)
past_is p false true = is_above-at p 0 (omega arith)
past_is p false false = refl

pub image_covered : (n : ℕ) (def : ViewDef) (i : Image) → valid i ≡ true → IsOf def (view_of (image_roster i) n) → IsCovered n def (resumed i) (notes_from n def i)
image_covered n def i ok is = record {
  refreshed = λ b bucket. refl;
  exact = λ b s bucket cut low.
      ap (above s) (pending-alone (saved_last n i b) (pending_from n def.fold.width i b))
      ∙ pending_is s i.pos (is_dirty n i b) (in_span (whole_span def.fold.width) b && is_none (saved_last n i b));
  fresh = λ b bucket. fresh_is i.pos (is_dirty n i b) (in_span (whole_span def.fold.width) b) (saved_last n i b) (λ s e. lt-ltb s i.pos ((kept_facts n def i ok is).lasts b s e).below);
  marked = λ b bucket there inside.
      subst (λ t. (is_some (saved_last n i b) || is_some (cond (is_dirty n i b) (Some i.pos) (cond (t && is_none (saved_last n i b)) (Some 0) None))) ≡ true) (sym inside)
      (marked_is i.pos (is_dirty n i b) (saved_last n i b));
  below = λ b s bucket cut. below (view_of (image_roster i) n) refl is b s bucket cut;
  rising = λ b s bucket cut. tt;
  pending_past = λ b bucket. past_is i.pos (is_dirty n i b) (in_span (whole_span def.fold.width) b && is_none (saved_last n i b));
  log_past = refl;
}
  where
    below : (o : Option ViewDef) → view_of (image_roster i) n ≡ o → IsOf def o → (b : ℤ) (s : ℕ) → is_bucket def.fold.width b ≡ true → was_cut n (resumed i) b s ≡ true → (b +ℤ def.fold.width.step) ≤ℤ number_of (threshold def.table (resumed i))
    below None e is b s bucket cut = absurd (true≢false (sym cut ∙ never_was_cut n (resumed i) b s ok e))
    below (Some found) e is b s bucket cut =
        let it : is_bucket found.fold.width b ≡ true = ap (λ (f : Fold). is_bucket f.width b) is.1 ∙ bucket in
        let end : (b +ℤ found.fold.width.step) ≤ℤ number_of (threshold found.table (resumed i)) = cut_below n found i ok e b s it cut in
        let same_table : (b +ℤ found.fold.width.step) ≤ℤ number_of (threshold def.table (resumed i)) = subst (λ t. (b +ℤ found.fold.width.step) ≤ℤ number_of (threshold t (resumed i))) is.0 end in
        subst (λ (f : Fold). (b +ℤ f.width.step) ≤ℤ number_of (threshold def.table (resumed i))) is.1 same_table
