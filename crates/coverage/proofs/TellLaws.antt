-- What notes that cover an aggregate say.
use Rattle.std.proofs.Common.{◌≡◌, ℕ, Bool, true, false, ◌&&◌, ◌||◌, ℤ, Option, Some, None, refl, sym, ap, ◌∙◌, arith}
use Rattle.std.specs.Prelude.{is_some, is_none}
use Rattle.std.proofs.lemmas.Bool.{or_left}
use Rattle.ts_bucket.specs.Bucket.{is_bucket}
use Rattle.ts_bucket.specs.Positions.{later, is_above, above, above_last}
use Rattle.ts_bucket.specs.Touches.{log_touch}
use Rattle.ts_bucket.specs.WholeSpans.{whole_span}
use Rattle.ts_bucket.specs.declared.widths.Width.{Width}
use Rattle.ts_bucket.specs.Spans.{in_span}
use Rattle.ts_model.specs.declared.views.ViewDef.{ViewDef}
use Rattle.ts_model.specs.History.{History}
use Rattle.ts_model.specs.Roster.{roster, view_of}
use Rattle.ts_model.specs.Refreshes.{last, last_touch, watermark, is_invalid, invalid}
use Rattle.ts_bucket.specs.WholeSpans.{is_below}
use Rattle.ts_model.specs.Allowed.{all_consistent}
use Rattle.coverage.specs.Notes.{Notes, fed_at, all_fed}
use Rattle.coverage.specs.Coverage.{pending_position, IsCovered}
use Rattle.coverage.specs.Laws.{CoveredTells, FeedsTell, CoveredTellsFed}
use Rattle.ts_bucket.proofs.PositionLaws.{is_above-at, is_some-above, is_some-later}
use Rattle.coverage.proofs.LogLaws.{some-fed, pending-alone, fresh-pending}
use Rattle.coverage.proofs.StepLaws.{feeds_keep}
use Rattle.ts_model.proofs.CutLaws.{last_was_cut}

-- the pending position of a bucket with a last refresh
tells_touched : (n : ℕ) (def : ViewDef) (h : History) (notes : Notes) (b : ℤ) (s : ℕ) → all_consistent h ≡ true → IsCovered n def h notes → is_bucket def.fold.width b ≡ true → last n h b ≡ Some s → pending_position def.fold.width notes b ≡ above s (last_touch n def h b)
tells_touched n def h notes b s ok covered bucket e =
    let low : is_above s (last n h b) ≡ false = ap (is_above s) e ∙ is_above-at s s (omega arith) in
    let it : notes.refreshed b ≡ Some s = covered.refreshed b bucket ∙ e in
    let fresh_now : above_last (notes.refreshed b) (pending_position def.fold.width notes b) ≡ pending_position def.fold.width notes b = fresh-pending (notes.refreshed b) (notes.pending b) (log_touch def.fold.width b notes.log) (covered.fresh b bucket) in
    sym (sym (ap (λ o. above_last o (pending_position def.fold.width notes b)) it) ∙ fresh_now)
    ∙ covered.exact b s bucket (last_was_cut n h b s ok e) low

-- something is pending in a bucket without one
tells_never : (n : ℕ) (def : ViewDef) (h : History) (notes : Notes) (b : ℤ) → is_some (view_of (roster h) n) ≡ true → IsCovered n def h notes → is_bucket def.fold.width b ≡ true → in_span (whole_span def.fold.width) b ≡ true → last n h b ≡ None → is_some (notes.pending b) ≡ true
tells_never n def h notes b there covered bucket inside e =
    let none : notes.refreshed b ≡ None = covered.refreshed b bucket ∙ e in
    sym (ap (λ o. is_some o || is_some (notes.pending b)) none) ∙ covered.marked b bucket there inside

tells_invalid : (n : ℕ) (def : ViewDef) (h : History) (notes : Notes) (b : ℤ) (o : Option ℕ) → (o ≡ None → is_some (notes.pending b) ≡ true) → ((s : ℕ) → o ≡ Some s → pending_position def.fold.width notes b ≡ above s (last_touch n def h b)) → is_some (pending_position def.fold.width notes b) ≡ is_invalid n def h b o
tells_invalid n def h notes b None never touched =
    is_some-later (notes.pending b) (above_last (notes.refreshed b) (log_touch def.fold.width b notes.log)) ∙ or_left _ _ (never refl)
tells_invalid n def h notes b (Some s) never touched =
    ap is_some (touched s refl) ∙ is_some-above s (last_touch n def h b)

-- a bucket that was never refreshed is pending, so the buckets that are dirty, or noted after their last
-- refresh, are those with a pending position
dirty_is : (last p q : Option ℕ) → (is_some last || is_some p) ≡ true → ((is_none last || is_some p) || is_some q) ≡ is_some (later p q)
dirty_is None p q e = sym (is_some-later p q ∙ or_left _ _ e)
dirty_is (Some s) p q e = sym (is_some-later p q)

tells_exactly : (n : ℕ) (def : ViewDef) (h : History) (notes : Notes) (b : ℤ) → all_consistent h ≡ true → is_some (view_of (roster h) n) ≡ true → IsCovered n def h notes → is_bucket def.fold.width b ≡ true → in_span (whole_span def.fold.width) b ≡ true → is_some (pending_position def.fold.width notes b) ≡ invalid n def h b
tells_exactly n def h notes b ok there covered bucket inside =
    tells_invalid n def h notes b (last n h b) (λ e. tells_never n def h notes b there covered bucket inside e) (λ s e. tells_touched n def h notes b s ok covered bucket e)

pub covered_tells : CoveredTells
covered_tells n def h notes ok there covered = record {
  refreshed = covered.refreshed;
  touched = λ b s bucket e. tells_touched n def h notes b s ok covered bucket e;
  never = λ b bucket inside e. tells_never n def h notes b there covered bucket inside e;
  exact = λ b bucket inside. tells_exactly n def h notes b ok there covered bucket inside;
  dirty = λ b bucket inside.
      dirty_is (notes.refreshed b) (notes.pending b) (above_last (notes.refreshed b) (log_touch def.fold.width b notes.log)) (covered.marked b bucket there inside)
      ∙ tells_exactly n def h notes b ok there covered bucket inside;
  stale = λ b bucket inside. ap (λ t. is_below b (watermark n def h) && t) (tells_exactly n def h notes b ok there covered bucket inside);
}

-- ---- once all that is logged was fed

pub feeds_tell : FeedsTell
feeds_tell w notes b = some-fed w b (notes.refreshed b) (notes.pending b) notes.log

fed_touched : (n : ℕ) (def : ViewDef) (h : History) (notes : Notes) (b : ℤ) (s : ℕ) → all_consistent h ≡ true → IsCovered n def h notes → is_bucket def.fold.width b ≡ true → last n h b ≡ Some s → fed_at def.fold.width notes b ≡ above s (last_touch n def h b)
fed_touched n def h notes b s ok covered bucket e =
    sym (pending-alone (notes.refreshed b) (fed_at def.fold.width notes b))
    ∙ tells_touched n def h (all_fed def.fold.width notes) b s ok (feeds_keep n def h notes covered) bucket e

fed_dirty : (w : Width) (notes : Notes) (b : ℤ) → (is_none (notes.refreshed b) || is_some (fed_at w notes b)) ≡ ((is_none (notes.refreshed b) || is_some (notes.pending b)) || is_some (above_last (notes.refreshed b) (log_touch w b notes.log)))
fed_dirty w notes b =
    ap (λ t. is_none (notes.refreshed b) || t) (feeds_tell w notes b)
    ∙ or_or (is_none (notes.refreshed b)) (is_some (notes.pending b)) (is_some (above_last (notes.refreshed b) (log_touch w b notes.log)))
  where
    or_or : (x y z : Bool) → (x || (y || z)) ≡ ((x || y) || z)
    or_or true y z = refl
    or_or false y z = refl

pub covered_tells_fed : CoveredTellsFed
covered_tells_fed n def h notes ok there covered =
    let told = covered_tells n def h notes ok there covered in
    record {
      touched = λ b s bucket e. fed_touched n def h notes b s ok covered bucket e;
      dirty = λ b bucket inside. fed_dirty def.fold.width notes b ∙ told.dirty b bucket inside;
      stale = λ b bucket inside. ap (λ t. is_below b (watermark n def h) && t) (fed_dirty def.fold.width notes b ∙ told.dirty b bucket inside);
    }
