-- Each kind of event keeps coverage.
use Rattle.std.proofs.Common.{◌≡◌, ◌≢◌, ℕ, zero, suc, ◌≤◌, Bool, true, false, ◌&&◌, ◌||◌, cond, nat_le, ◌==◌, List, [], ◌∷◌, ◌++◌, length, ℤ, ◌+ℤ◌, ◌≤ℤ◌, Option, Some, None, refl, sym, ap, ◌∙◌, subst, arith}
use Rattle.std.specs.Prelude.{is_some, slice_get}
use Rattle.std.specs.Int.{int_max}
use Rattle.std.proofs.lemmas.Bool.{true≢false, or_parts, or_left, and_parts, leb-true, not-true}
use Rattle.std.proofs.lemmas.Bool.Decides.{nat_tests}
use Rattle.std.proofs.lemmas.Int.{ints}
use Rattle.ts_bucket.specs.Bucket.{is_bucket}
use Rattle.ts_bucket.specs.Positions.{later, is_above, above, above_last}
use Rattle.ts_bucket.specs.Spans.{in_span}
use Rattle.ts_bucket.specs.declared.spans.Span.{Span}
use Rattle.ts_bucket.proofs.PositionLaws.{later-none, later-assoc, above-later, is_above-later, is_above-greater, above-nothing, above-lesser, is_above-above, is_before-above, above_last-raised, above-raised, at_or_below, is_above-at}
use Rattle.ts_bucket.proofs.BucketLaws.{buckets_apart}
use Rattle.ts_bucket.proofs.SpanLaws.{in_span-ends}
use Rattle.ts_bucket.specs.Touches.{Noted, log_touch}
use Rattle.ts_bucket.specs.WholeSpans.{whole_span}
use Rattle.ts_bucket.specs.declared.widths.Width.{Width}
use Rattle.ts_model.proofs.ModeLaws.{mode_plays_no_part}
use Rattle.ts_model.specs.declared.events.Event.{Event}
use Rattle.ts_model.specs.declared.events.Event.TheVariants.{View, Mode, Commit, Cut, Built}
use Rattle.ts_model.specs.declared.views.ViewDef.{ViewDef}
use Rattle.ts_model.specs.History.{History, ◌▸◌, position}
use Rattle.ts_model.specs.Roster.{roster, view_of, change_at, set_only}
use Rattle.ts_model.specs.Rows.{rows}
use Rattle.ts_model.specs.Effect.{hull_of_ops}
use Rattle.ts_model.specs.Refreshes.{span_of_cut, is_covered, was_cut, last, touches, last_touch}
use Rattle.coverage.specs.Notes.{Notes, fed_at, notes_after_refresh}
use Rattle.coverage.specs.Coverage.{pending_position, RisesFrom, is_upto, IsCovered}
use Rattle.coverage.specs.Laws.{EndsWhole, CommitsKeep, CutsKeep, FinishesKeep, QuietKeeps, FeedsKeep, ModesKeep, BeginningsCover, SameCover, FinishesClear}
use Rattle.coverage.proofs.LogLaws.{log_touch-logged, rises-logged, upto-logged, upto_next, above-fed, is_some-fed, fresh-fed, past-fed, above-pending, pending-alone, fresh-pending}
use Rattle.coverage.proofs.ModelLaws.{no_cut, touched_past, never_was_cut, never_refreshed}

-- ---- a commit

-- one more touch is added to both sides
one_more : (s : ℕ) (last p q t x : Option ℕ) → is_above s last ≡ false → above s (later p (above_last last q)) ≡ above s t → above s (later p (above_last last (later q x))) ≡ above s (later t x)
one_more s last p q t x low e =
    above-pending s last p (later q x) low
    ∙ (ap (above s) (sym (later-assoc p q x))
    ∙ (above-later s (later p q) x
    ∙ (ap (λ y. later y (above s x)) (sym (above-pending s last p q low) ∙ e)
    ∙ sym (above-later s t x))))

pub commits_keep : CommitsKeep
commits_keep n def h ops notes covered = record {
  refreshed = covered.refreshed;
  exact = λ b s bucket cut low.
      let low_noted : is_above s (notes.refreshed b) ≡ false = ap (is_above s) (covered.refreshed b bucket) ∙ low in
      ap (λ q. above s (later (notes.pending b) (above_last (notes.refreshed b) q))) (log_touch-logged def.fold.width b (hull_of_ops def.table ops (rows def.table h)) (suc (position h)) notes.threshold notes.log (covered.below b s bucket cut))
      ∙ one_more s (notes.refreshed b) (notes.pending b) (log_touch def.fold.width b notes.log) (last_touch n def h b) (cond (touches def ops h b) (Some (suc (position h))) None) low_noted (covered.exact b s bucket cut low);
  fresh = covered.fresh;
  marked = covered.marked;
  below = covered.below;
  rising = λ b s bucket cut. rises-logged (position h) (notes.pending b) notes.log (hull_of_ops def.table ops (rows def.table h)) notes.threshold (covered.pending_past b bucket) covered.log_past (covered.rising b s bucket cut);
  pending_past = λ b bucket. is_above-greater (position h) (suc (position h)) (notes.pending b) (omega arith) (covered.pending_past b bucket);
  log_past = upto-logged (position h) notes.log (hull_of_ops def.table ops (rows def.table h)) notes.threshold covered.log_past;
}

-- ---- a cut

-- nothing is above a position that isn't before any other
nothing_above : (m s : ℕ) (p q : Option ℕ) → m ≤ s → is_above m p ≡ false → is_above m q ≡ false → above s p ≡ above s q
nothing_above m s p q l e f = above-nothing s p (is_above-greater m s p l e) ∙ sym (above-nothing s q (is_above-greater m s q l f))

-- feeding the log makes pending what it touches
fed_exact : (n : ℕ) (def : ViewDef) (h : History) (notes : Notes) (b : ℤ) (s : ℕ) → IsCovered n def h notes → is_bucket def.fold.width b ≡ true → was_cut n h b s ≡ true → is_above s (last n h b) ≡ false → above s (fed_at def.fold.width notes b) ≡ above s (last_touch n def h b)
fed_exact n def h notes b s covered bucket before low =
    let low_noted : is_above s (notes.refreshed b) ≡ false = ap (is_above s) (covered.refreshed b bucket) ∙ low in
    above-fed def.fold.width b s (notes.refreshed b) (notes.pending b) notes.log low_noted (covered.rising b s bucket before)
    ∙ (sym (above-pending s (notes.refreshed b) (notes.pending b) (log_touch def.fold.width b notes.log) low_noted)
    ∙ covered.exact b s bucket before low)

-- a bucket was cut before, or is cut now
either_cut : (P : Type 0) (n : ℕ) (h : History) (v : ℕ) (span : Span) (b : ℤ) (s : ℕ) → was_cut n (h ▸ Cut v span) b s ≡ true → (was_cut n h b s ≡ true → P) → ((v == n) ≡ true → in_span span b ≡ true → suc (position h) ≤ s → P) → P
either_cut P n h v span b s cut before now =
    elim (was_cut n h b s) as (λ t. was_cut n h b s ≡ t → (t || (v == n && in_span span b && nat_le (suc (position h)) s)) ≡ true → P) [
      | true ↦ λ e _. before e
      | false ↦ λ _ e.
          let late = and_parts (v == n && in_span span b) (nat_le (suc (position h)) s) e in
          let mine = and_parts (v == n) (in_span span b) late.0 in
          now mine.0 mine.1 (leb-true (suc (position h)) s late.1)
    ] refl cut

cut_exact : (n : ℕ) (def : ViewDef) (h : History) (v : ℕ) (span : Span) (notes : Notes) (b : ℤ) (s : ℕ) → IsCovered n def h notes → is_bucket def.fold.width b ≡ true → was_cut n (h ▸ Cut v span) b s ≡ true → is_above s (last n h b) ≡ false → above s (fed_at def.fold.width notes b) ≡ above s (last_touch n def h b)
cut_exact n def h v span notes b s covered bucket cut low =
    either_cut (above s (fed_at def.fold.width notes b) ≡ above s (last_touch n def h b)) n h v span b s cut
    (λ before. fed_exact n def h notes b s covered bucket before low)
    (λ mine inside late.
    let l : position h ≤ s = omega arith in
    nothing_above (position h) s (fed_at def.fold.width notes b) (last_touch n def h b) l (past-fed (position h) def.fold.width b (notes.refreshed b) (notes.pending b) notes.log (covered.pending_past b bucket) covered.log_past) (touched_past n def h b))

still_marked : (last p q : Option ℕ) → (is_some p ≡ true → is_some q ≡ true) → (is_some last || is_some p) ≡ true → (is_some last || is_some q) ≡ true
still_marked None p q f e = f e
still_marked (Some s) p q f e = refl

raised_from : (a b c : ℤ) → c ≤ℤ a → c ≤ℤ int_max a b
raised_from a b c l = grind (arith, ints)

-- a bucket of a span that ends where a bucket does ends at or below the end of the span
pub bucket_ends : (w : Width) (span : Span) (b : ℤ) → EndsWhole w span → is_bucket w b ≡ true → in_span span b ≡ true → (b +ℤ w.step) ≤ℤ span.hi
bucket_ends w span b whole bucket inside = buckets_apart w b span.hi whole.width bucket whole.ends (in_span-ends span b inside).1

reached : (w : Width) (b threshold hi : ℤ) → (b +ℤ w.step) ≤ℤ hi → (b +ℤ w.step) ≤ℤ int_max threshold hi
reached w b threshold hi l = grind (arith, ints)

pub cuts_keep : CutsKeep
cuts_keep n def h v span notes ends covered = record {
  refreshed = covered.refreshed;
  exact = λ b s bucket cut low.
      ap (above s) (pending-alone (notes.refreshed b) (fed_at def.fold.width notes b))
      ∙ cut_exact n def h v span notes b s covered bucket cut low;
  fresh = λ b bucket. fresh-fed def.fold.width b (notes.refreshed b) (notes.pending b) notes.log (covered.fresh b bucket);
  marked = λ b bucket there inside. still_marked (notes.refreshed b) (notes.pending b) (fed_at def.fold.width notes b) (λ e. is_some-fed def.fold.width b (notes.refreshed b) (notes.pending b) notes.log e) (covered.marked b bucket there inside);
  below = λ b s bucket cut.
      either_cut ((b +ℤ def.fold.width.step) ≤ℤ int_max notes.threshold span.hi) n h v span b s cut
      (λ before. raised_from notes.threshold span.hi (b +ℤ def.fold.width.step) (covered.below b s bucket before))
      (λ mine inside late. reached def.fold.width b notes.threshold span.hi (bucket_ends def.fold.width span b (ends mine) bucket inside));
  rising = λ b s bucket cut. tt;
  pending_past = λ b bucket. is_above-greater (position h) (suc (position h)) _ (omega arith) (past-fed (position h) def.fold.width b (notes.refreshed b) (notes.pending b) notes.log (covered.pending_past b bucket) covered.log_past);
  log_past = refl;
}

-- ---- feeding alone

pub feeds_keep : FeedsKeep
feeds_keep n def h notes covered = record {
  refreshed = covered.refreshed;
  exact = λ b s bucket cut low.
      ap (above s) (pending-alone (notes.refreshed b) (fed_at def.fold.width notes b))
      ∙ fed_exact n def h notes b s covered bucket cut low;
  fresh = λ b bucket. fresh-fed def.fold.width b (notes.refreshed b) (notes.pending b) notes.log (covered.fresh b bucket);
  marked = λ b bucket there inside. still_marked (notes.refreshed b) (notes.pending b) (fed_at def.fold.width notes b) (λ e. is_some-fed def.fold.width b (notes.refreshed b) (notes.pending b) notes.log e) (covered.marked b bucket there inside);
  below = covered.below;
  rising = λ b s bucket cut. tt;
  pending_past = λ b bucket. past-fed (position h) def.fold.width b (notes.refreshed b) (notes.pending b) notes.log (covered.pending_past b bucket) covered.log_past;
  log_past = refl;
}

-- ---- a finish

raised_is : (covers : Bool) (p : Option ℕ) (snap : ℕ) → cond covers (later p (Some snap)) p ≡ later p (cond covers (Some snap) None)
raised_is true p snap = refl
raised_is false p snap = sym (later-none p)

-- after a finish, nothing up to its snapshot is pending
settle_exact : (covers : Bool) (s snap : ℕ) (last p q t : Option ℕ) → is_above s (later last (cond covers (Some snap) None)) ≡ false → above s (later p q) ≡ above s t → above s (later (cond covers (above snap p) p) q) ≡ above s t
settle_exact true s snap last p q t low e =
    let parts : (is_above s last ≡ false) × (is_above s (Some snap) ≡ false) = or_parts (is_above s last) (is_above s (Some snap)) (sym (is_above-later s last (Some snap)) ∙ low) in
    above-later s (above snap p) q ∙ (ap (λ x. later x (above s q)) (above-lesser s snap p (at_or_below s snap parts.1)) ∙ (sym (above-later s p q) ∙ e))
settle_exact false s snap last p q t low e = e

settle_fresh : (covers : Bool) (snap : ℕ) (last p : Option ℕ) → above_last last p ≡ p → above_last (cond covers (later last (Some snap)) last) (cond covers (above snap p) p) ≡ cond covers (above snap p) p
settle_fresh true snap last p e = above_last-raised last p snap e
settle_fresh false snap last p e = e

is_some-raised : (last : Option ℕ) (snap : ℕ) → is_some (later last (Some snap)) ≡ true
is_some-raised None snap = refl
is_some-raised (Some s) snap = refl

settle_marked : (covers : Bool) (snap : ℕ) (last p : Option ℕ) → (is_some last || is_some p) ≡ true → (is_some (cond covers (later last (Some snap)) last) || is_some (cond covers (above snap p) p)) ≡ true
settle_marked true snap last p e = or_left _ _ (is_some-raised last snap)
settle_marked false snap last p e = e

rises_settled : (covers : Bool) (snap : ℕ) (p : Option ℕ) (log : List Noted) → RisesFrom p log → RisesFrom (cond covers (above snap p) p) log
rises_settled true snap p [] r = tt
rises_settled true snap p (entry ∷ log) r = (is_before-above entry.at snap p r.0, r.1)
rises_settled false snap p log r = r

past_settled : (covers : Bool) (m snap : ℕ) (p : Option ℕ) → is_above m p ≡ false → is_above m (cond covers (above snap p) p) ≡ false
past_settled true m snap p e = is_above-above m snap p e
past_settled false m snap p e = e

pub low_before : (s : ℕ) (last x : Option ℕ) → is_above s (later last x) ≡ false → is_above s last ≡ false
low_before s last x low = (or_parts _ _ (sym (is_above-later s last x) ∙ low)).0

settled_exact : (n : ℕ) (def : ViewDef) (h : History) (cut snap : ℕ) (notes : Notes) (b : ℤ) (s : ℕ) → IsCovered n def h notes → is_bucket def.fold.width b ≡ true → was_cut n h b s ≡ true → is_above s (last n (h ▸ Built cut snap) b) ≡ false → above s (pending_position def.fold.width (notes_after_refresh (span_of_cut n h cut) snap notes) b) ≡ above s (last_touch n def h b)
settled_exact n def h cut snap notes b s covered bucket was low =
    let covers : Bool = is_covered b (span_of_cut n h cut) in
    let same_last : notes.refreshed b ≡ last n h b = covered.refreshed b bucket in
    let low_was : is_above s (last n h b) ≡ false = low_before s (last n h b) (cond covers (Some snap) None) low in
    let low_noted : is_above s (notes.refreshed b) ≡ false = ap (is_above s) same_last ∙ low_was in
    let low_now : is_above s (later (notes.refreshed b) (cond covers (Some snap) None)) ≡ false = ap (λ x. is_above s (later x (cond covers (Some snap) None))) same_last ∙ low in
    let low_raised : is_above s (cond covers (later (notes.refreshed b) (Some snap)) (notes.refreshed b)) ≡ false = ap (is_above s) (raised_is covers (notes.refreshed b) snap) ∙ low_now in
    let touch : Option ℕ = log_touch def.fold.width b notes.log in
    above-pending s (cond covers (later (notes.refreshed b) (Some snap)) (notes.refreshed b)) (cond covers (above snap (notes.pending b)) (notes.pending b)) touch low_raised
    ∙ settle_exact covers s snap (notes.refreshed b) (notes.pending b) touch (last_touch n def h b) low_now (sym (above-pending s (notes.refreshed b) (notes.pending b) touch low_noted) ∙ covered.exact b s bucket was low_was)

pub finishes_keep : FinishesKeep
finishes_keep n def h cut snap notes covered = record {
  refreshed = λ b bucket. raised_is (is_covered b (span_of_cut n h cut)) (notes.refreshed b) snap ∙ ap (λ p. later p (cond (is_covered b (span_of_cut n h cut)) (Some snap) None)) (covered.refreshed b bucket);
  exact = λ b s bucket was low. settled_exact n def h cut snap notes b s covered bucket was low;
  fresh = λ b bucket. settle_fresh (is_covered b (span_of_cut n h cut)) snap (notes.refreshed b) (notes.pending b) (covered.fresh b bucket);
  marked = λ b bucket there inside. settle_marked (is_covered b (span_of_cut n h cut)) snap (notes.refreshed b) (notes.pending b) (covered.marked b bucket there inside);
  below = covered.below;
  rising = λ b s bucket was. rises_settled (is_covered b (span_of_cut n h cut)) snap (notes.pending b) notes.log (covered.rising b s bucket was);
  pending_past = λ b bucket. past_settled (is_covered b (span_of_cut n h cut)) (suc (position h)) snap (notes.pending b) (is_above-greater (position h) (suc (position h)) (notes.pending b) (omega arith) (covered.pending_past b bucket));
  log_past = upto_next (position h) notes.log covered.log_past;
}

pub finishes_clear : FinishesClear
finishes_clear n def h cut snap span b notes covered bucket this inside =
    let covers : is_covered b (span_of_cut n h cut) ≡ true = ap (is_covered b) this ∙ inside in
    let touch : Option ℕ = log_touch def.fold.width b notes.log in
    let fresh_now : above_last (later (notes.refreshed b) (Some snap)) (later (above snap (notes.pending b)) (above_last (later (notes.refreshed b) (Some snap)) touch)) ≡ later (above snap (notes.pending b)) (above_last (later (notes.refreshed b) (Some snap)) touch) = fresh-pending (later (notes.refreshed b) (Some snap)) (above snap (notes.pending b)) touch (above_last-raised (notes.refreshed b) (notes.pending b) snap (covered.fresh b bucket)) in
    let P : Bool → Type 0 = λ t. above snap (later (cond t (above snap (notes.pending b)) (notes.pending b)) (above_last (cond t (later (notes.refreshed b) (Some snap)) (notes.refreshed b)) touch)) ≡ later (cond t (above snap (notes.pending b)) (notes.pending b)) (above_last (cond t (later (notes.refreshed b) (Some snap)) (notes.refreshed b)) touch) in
    subst P (sym covers) (above-raised (notes.refreshed b) (later (above snap (notes.pending b)) (above_last (later (notes.refreshed b) (Some snap)) touch)) snap fresh_now)

-- ---- events that don't change the notes

-- an event that doesn't change the aggregate: its cuts, refreshes and touches stay, and it exists afterwards
-- only if it did before
quiet : (n : ℕ) (def : ViewDef) (h : History) (e : Event) (notes : Notes) → ((b : ℤ) → last n (h ▸ e) b ≡ last n h b) → ((b : ℤ) (s : ℕ) → was_cut n (h ▸ e) b s ≡ was_cut n h b s) → ((b : ℤ) → last_touch n def (h ▸ e) b ≡ last_touch n def h b) → (is_some (view_of (roster (h ▸ e)) n) ≡ true → is_some (view_of (roster h) n) ≡ true) → IsCovered n def h notes → IsCovered n def (h ▸ e) notes
quiet n def h e notes lasts cuts touched there covered = record {
  refreshed = λ b bucket. covered.refreshed b bucket ∙ sym (lasts b);
  exact = λ b s bucket cut low. covered.exact b s bucket (sym (cuts b s) ∙ cut) (ap (is_above s) (sym (lasts b)) ∙ low) ∙ ap (above s) (sym (touched b));
  fresh = covered.fresh;
  marked = λ b bucket now inside. covered.marked b bucket (there now) inside;
  below = λ b s bucket cut. covered.below b s bucket (sym (cuts b s) ∙ cut);
  rising = λ b s bucket cut. covered.rising b s bucket (sym (cuts b s) ∙ cut);
  pending_past = λ b bucket. is_above-greater (position h) (suc (position h)) (notes.pending b) (omega arith) (covered.pending_past b bucket);
  log_past = upto_next (position h) notes.log covered.log_past;
}

-- a list that grows at its end changes at no other place
apart : (a b : ℕ) → (a == b) ≡ false → a ≢ b
apart a b e = λ same. absurd (grind (arith, nat_tests))

grown_place : {X : Type 0} (xs : List X) (x : X) (i : ℕ) → length xs ≢ i → is_some (slice_get (xs ++ (x ∷ [])) i) ≡ true → is_some (slice_get xs i) ≡ true
grown_place [] x zero e there = absurd (e refl)
grown_place [] x (suc i) e there = there
grown_place (y ∷ xs) x zero e there = refl
grown_place (y ∷ xs) x (suc i) e there = grown_place xs x i (λ same. e (ap suc same)) there

changed_place : {X : Type 0} (xs : List X) (j i : ℕ) (f : X → X) → is_some (slice_get (change_at xs j f) i) ≡ true → is_some (slice_get xs i) ≡ true
changed_place [] j i f there = there
changed_place (x ∷ xs) zero zero f there = refl
changed_place (x ∷ xs) zero (suc i) f there = there
changed_place (x ∷ xs) (suc j) zero f there = refl
changed_place (x ∷ xs) (suc j) (suc i) f there = changed_place xs j i f there

pub quiet_keeps : QuietKeeps
quiet_keeps n def h (View made) notes e covered = quiet n def h (View made) notes (λ b. refl) (λ b s. refl) (λ b. refl) (λ there. grown_place (roster h).views made n (apart (length (roster h).views) n (not-true (length (roster h).views == n) e)) there) covered
quiet_keeps n def h (Mode v only) notes e covered = quiet n def h (Mode v only) notes (λ b. refl) (λ b s. refl) (λ b. refl) (λ there. changed_place (roster h).views v n (set_only only) there) covered
quiet_keeps n def h (Commit ops) notes e covered = absurd (true≢false (sym e))
quiet_keeps n def h (Cut v span) notes e covered = quiet n def h (Cut v span) notes (λ b. refl) (λ b s. no_cut (was_cut n h b s) (v == n) (in_span span b) (nat_le (suc (position h)) s) (not-true (v == n) e)) (λ b. refl) (λ there. there) covered
quiet_keeps n def h (Built cut snap) notes e covered = absurd (true≢false (sym e))
quiet_keeps n def h x notes e covered = quiet n def h x notes (λ b. refl) (λ b s. refl) (λ b. refl) (λ there. there) covered

-- ---- a new aggregate

pub beginnings_cover : BeginningsCover
beginnings_cover n def h made notes ok absent upto = record {
  refreshed = λ b bucket. sym (never_refreshed n h b ok absent);
  exact = λ b s bucket cut low. absurd (true≢false (sym cut ∙ never_was_cut n h b s ok absent));
  fresh = λ b bucket. refl;
  marked = λ b bucket there inside. ap (λ t. is_some (cond t (Some (suc (position h))) None)) inside;
  below = λ b s bucket cut. absurd (true≢false (sym cut ∙ never_was_cut n h b s ok absent));
  rising = λ b s bucket cut. absurd (true≢false (sym cut ∙ never_was_cut n h b s ok absent));
  pending_past = λ b bucket. elim (in_span (whole_span def.fold.width) b) as (λ t. is_above (suc (position h)) (cond t (Some (suc (position h))) None) ≡ false) [ true ↦ is_above-at (suc (position h)) (suc (position h)) (omega arith) | false ↦ refl ];
  log_past = upto_next (position h) notes.log upto;
}

-- ---- notes that say the same

pub same_cover : SameCover
same_cover n def h a b same covered = record {
  refreshed = λ t bucket. same.refreshed t bucket ∙ covered.refreshed t bucket;
  exact = λ t s bucket cut low.
      ap (above s) (cc (same.refreshed t bucket, same.pending t bucket, same.log)) ∙ covered.exact t s bucket cut low;
  fresh = λ t bucket. cc (same.refreshed t bucket, same.pending t bucket, covered.fresh t bucket);
  marked = λ t bucket there inside. cc (same.refreshed t bucket, same.pending t bucket, covered.marked t bucket there inside);
  below = λ t s bucket cut. let P : ℤ → Type 0 = λ x. (t +ℤ def.fold.width.step) ≤ℤ x in subst P (sym same.threshold) (covered.below t s bucket cut);
  rising = λ t s bucket cut.
      let P : Option ℕ → Type 0 = λ p. RisesFrom p b.log in
      let Q : List Noted → Type 0 = λ log. RisesFrom (a.pending t) log in
      subst P (sym (same.pending t bucket)) (subst Q (sym same.log) (covered.rising t s bucket cut));
  pending_past = λ t bucket. ap (is_above (position h)) (same.pending t bucket) ∙ covered.pending_past t bucket;
  log_past = ap (is_upto (position h)) same.log ∙ covered.log_past;
}

-- ---- another mode

pub modes_keep : ModesKeep
modes_keep n def only h notes covered = record {
  refreshed = covered.refreshed;
  exact = λ b s bucket cut low. covered.exact b s bucket cut low ∙ ap (above s) (sym (mode_plays_no_part.touches n def only h b));
  fresh = covered.fresh;
  marked = covered.marked;
  below = covered.below;
  rising = covered.rising;
  pending_past = covered.pending_past;
  log_past = covered.log_past;
}
