-- Coverage of whole histories.
use Rattle.std.proofs.Common.{◌≡◌, ◌≢◌, ℕ, suc, ◌≤◌, Bool, true, false, ◌&&◌, not, cond, ◌==◌, length, ℤ, pos, ◌+ℤ◌, ◌-ℤ◌, ◌≤ℤ◌, ◌<ℤ◌, int_le, int_lt, Option, Some, None, refl, sym, ap, ◌∙◌, subst, arith}
use Rattle.std.specs.Prelude.{is_some}
use Rattle.std.specs.Int.{int_max}
use Rattle.std.proofs.lemmas.Bool.{true≢false, and_parts, eqb-true, eq-eqb}
use Rattle.std.proofs.lemmas.Bool.Decides.{same_from_decides}
use Rattle.std.proofs.lemmas.Int.{ints}
use Rattle.std.proofs.lemmas.Option.{slice_get_past}
use Rattle.ts_num.specs.Aggregates.{greater}
use Rattle.ts_bucket.specs.Bucket.{IsWidth, is_bucket, bucket_of, first_of}
use Rattle.ts_bucket.specs.declared.spans.Span.{Span}
use Rattle.ts_bucket.specs.declared.widths.Width.{Width}
use Rattle.ts_bucket.proofs.BucketLaws.{bucket_of_meets, buckets_apart, is_bucket-bucket_of, bucket_of-last, is_bucket-next, is_bucket-before}
use Rattle.ts_bucket.proofs.SpanLaws.{in_span-from_ends}
use Rattle.ts_bucket.specs.Spans.{in_span}
use Rattle.ts_bucket.specs.WholeSpans.{greatest, least}
use Rattle.ts_model.specs.declared.events.Event.TheVariants.{View, Commit, Cut, Built}
use Rattle.ts_model.specs.declared.views.Fold.{Fold}
use Rattle.ts_model.specs.declared.views.ViewDef.{ViewDef}
use Rattle.ts_model.specs.History.{History, start, resumed, ◌▸◌, position}
use Rattle.ts_model.specs.Roster.{IsOf, roster, view_of}
use Rattle.ts_model.specs.Refreshes.{is_over, threshold}
use Rattle.ts_model.specs.Allowed.{consistent, all_consistent}
use Rattle.ts_model.specs.Limits.{is_word}
use Rattle.ts_model.proofs.SoundLaws.{view_width}
use Rattle.ts_model.proofs.CutLaws.{cuts_fit, span_was_cut}
use Rattle.ts_model.specs.Sound.{span_fits}
use Rattle.coverage.specs.Notes.{Notes, number_of, no_notes, notes_of_new, cut_to, notes_after, notes_of}
use Rattle.coverage.specs.Coverage.{IsCovered}
use Rattle.coverage.specs.Laws.{EndsWhole, EventsKeep, HistoriesCovered, HistoriesTell, ThresholdsAre, ThresholdsReach, AllBucketsAre}
use Rattle.coverage.proofs.ModelLaws.{cut_view}
use Rattle.ts_model.proofs.RosterLaws.{is_of_before, is_of_itself}
use Rattle.coverage.proofs.ImageLaws.{image_covered}
use Rattle.coverage.proofs.StepLaws.{commits_keep, cuts_keep, finishes_keep, quiet_keeps, beginnings_cover}
use Rattle.coverage.proofs.TellLaws.{covered_tells}
use Rattle.ts_schema.proofs.Cases.{int_lt-true}
use Rattle.ts_num.proofs.EndLaws.{int_max_assoc}

-- ---- each consistent event

view_keeps : (n : ℕ) (def : ViewDef) (h : History) (made : ViewDef) (notes : Notes) → all_consistent h ≡ true → IsCovered n def h notes → IsCovered n def (h ▸ View made) (notes_after n def h (View made) notes)
view_keeps n def h made notes ok covered =
    elim (length (roster h).views == n) as (λ t. (length (roster h).views == n) ≡ t → IsCovered n def (h ▸ View made) (cond t (notes_of_new def.fold.width (suc (position h)) notes) notes)) [
      | true ↦ λ this.
          let at : length (roster h).views ≡ n = eqb-true (length (roster h).views) n this in
          let l : length (roster h).views ≤ n = omega arith in
          beginnings_cover n def h made notes ok (slice_get_past (roster h).views n l) covered.log_past
      | false ↦ λ other. quiet_keeps n def h (View made) notes (ap not other) covered
    ] refl

-- a span that fits an aggregate is one of whole buckets that isn't empty
pub record IsWholeOf (w : Width) (span : Span) : Type 0 where
  pub starts : is_bucket w span.lo ≡ true
  pub ends : is_bucket w span.hi ≡ true
  pub some : span.lo <ℤ span.hi

span_bounds : (def : ViewDef) (span : Span) → span_fits span (Some def) ≡ true → IsWholeOf def.fold.width span
span_bounds def span fits =
    let high = and_parts _ (is_word span.hi) fits in
    let low = and_parts _ (is_word span.lo) high.0 in
    let first = and_parts _ (int_le (first_of def.fold.width) span.lo) low.0 in
    let some = and_parts _ (int_lt span.lo span.hi) first.0 in
    let ends = and_parts (is_bucket def.fold.width span.lo) (is_bucket def.fold.width span.hi) some.0 in
    record { starts = ends.0; ends = ends.1; some = int_lt-true span.lo span.hi some.1 }

span_ends : (def : ViewDef) (span : Span) → span_fits span (Some def) ≡ true → is_bucket def.fold.width span.hi ≡ true
span_ends def span fits = (span_bounds def span fits).ends

-- a cut of the aggregate is of one over its table, and has a span that ends where a bucket does
cut_of : (n : ℕ) (def : ViewDef) (span : Span) (o : Option ViewDef) → ((d : ViewDef) → o ≡ Some d → IsWidth d.fold.width) → IsOf def o → span_fits span o ≡ true → EndsWhole def.fold.width span × (is_over def.table o ≡ true)
cut_of n def span None wide i fits = absurd (true≢false (sym fits))
cut_of n def span (Some d) wide i fits =
    let ends : is_bucket d.fold.width span.hi ≡ true = span_ends d span fits in
    let whole : EndsWhole d.fold.width span = record { width = wide d refl; ends = ends } in
    (subst (λ (f : Fold). EndsWhole f.width span) i.1 whole, eq-eqb d.table def.table i.0)

not_same : (t : Bool) → t ≢ true → not t ≡ true
not_same true e = absurd (e refl)
not_same false e = refl

cut_keeps : (n : ℕ) (def : ViewDef) (h : History) (v : ℕ) (span : Span) (notes : Notes) → all_consistent h ≡ true → span_fits span (view_of (roster h) v) ≡ true → IsOf def (view_of (roster h) n) → IsCovered n def h notes → IsCovered n def (h ▸ Cut v span) (notes_after n def h (Cut v span) notes)
cut_keeps n def h v span notes ok fits i covered =
    let mine : (v == n) ≡ true → EndsWhole def.fold.width span × (is_over def.table (view_of (roster h) v) ≡ true) = λ e.
    let it : v ≡ n = eqb-true v n e in
    cut_of n def span (view_of (roster h) v) (λ d there. view_width h v d ok there) (subst (λ x. IsOf def (view_of (roster h) x)) (sym it) i) fits
    in
    elim (is_over def.table (view_of (roster h) v)) as (λ t. is_over def.table (view_of (roster h) v) ≡ t → IsCovered n def (h ▸ Cut v span) (cond t (cut_to def.fold.width span.hi notes) notes)) [
      | true ↦ λ _. cuts_keep n def h v span notes (λ e. (mine e).0) covered
      | false ↦ λ other. quiet_keeps n def h (Cut v span) notes (not_same (v == n) (λ e. true≢false (sym (mine e).1 ∙ other))) covered
    ] refl

pub events_keep : EventsKeep
events_keep n def h (View made) notes ok i covered = view_keeps n def h made notes (and_parts (all_consistent h) _ ok).0 covered
events_keep n def h (Commit ops) notes ok i covered = commits_keep n def h ops notes covered
events_keep n def h (Cut v span) notes ok i covered =
    let parts = and_parts (all_consistent h) (consistent h (Cut v span)) ok in
    cut_keeps n def h v span notes parts.0 (cut_view h v span parts.1) i covered
events_keep n def h (Built cut snap) notes ok i covered = finishes_keep n def h cut snap notes covered
events_keep n def h x notes ok i covered = quiet_keeps n def h x notes refl covered

-- ---- whole histories

start_covered : (n : ℕ) (def : ViewDef) → IsCovered n def start no_notes
start_covered n def = record {
  refreshed = λ b bucket. refl;
  exact = λ b s bucket cut low. absurd (true≢false (sym cut));
  fresh = λ b bucket. refl;
  marked = λ b bucket there inside. absurd (true≢false (sym there));
  below = λ b s bucket cut. absurd (true≢false (sym cut));
  rising = λ b s bucket cut. tt;
  pending_past = λ b bucket. refl;
  log_past = refl;
}

covered_so_far : (n : ℕ) (def : ViewDef) (h : History) → all_consistent h ≡ true → IsOf def (view_of (roster h) n) → IsCovered n def h (notes_of n def h)
covered_so_far n def start ok i = start_covered n def
covered_so_far n def (resumed image) ok i = image_covered n def image ok i
covered_so_far n def (h ▸ e) ok i =
    let before = is_of_before def h e n i in
    events_keep n def h e (notes_of n def h) ok before (covered_so_far n def h (and_parts (all_consistent h) _ ok).0 before)

pub histories_covered : HistoriesCovered
histories_covered n def h ok there = covered_so_far n def h ok (is_of_itself def (view_of (roster h) n) there)

pub histories_tell : HistoriesTell
histories_tell n def h ok there = covered_tells n def h (notes_of n def h) ok (ap is_some there) (histories_covered n def h ok there)

-- ---- thresholds

number_raised : (o : Option ℤ) (over : Bool) (hi : ℤ) → cond over (int_max (number_of o) hi) (number_of o) ≡ number_of (greater o (cond over (Some hi) None))
number_raised None true hi = refl
number_raised None false hi = refl
number_raised (Some x) true hi = int_max_assoc least x hi
number_raised (Some x) false hi = refl

pub thresholds_are : ThresholdsAre
thresholds_are n def start = refl
thresholds_are n def (resumed i) = refl
thresholds_are n def (h ▸ View made) =
    elim (length (roster h).views == n) as (λ t. (cond t (notes_of_new def.fold.width (suc (position h)) (notes_of n def h)) (notes_of n def h)).threshold ≡ number_of (threshold def.table h)) [ true ↦ thresholds_are n def h | false ↦ thresholds_are n def h ]
thresholds_are n def (h ▸ Cut v span) =
    elim (is_over def.table (view_of (roster h) v)) as (λ t. (cond t (cut_to def.fold.width span.hi (notes_of n def h)) (notes_of n def h)).threshold ≡ number_of (greater (threshold def.table h) (cond t (Some span.hi) None))) [
      | true ↦ ap (λ x. int_max x span.hi) (thresholds_are n def h) ∙ number_raised (threshold def.table h) true span.hi
      | false ↦ thresholds_are n def h ∙ number_raised (threshold def.table h) false span.hi
    ]
thresholds_are n def (h ▸ x) = thresholds_are n def h

-- the last bucket of a span of whole buckets ends where the span does
last_bucket : (w : Width) (span : Span) → IsWidth w → is_bucket w span.lo ≡ true → is_bucket w span.hi ≡ true → span.lo <ℤ span.hi → (is_bucket w (span.hi -ℤ w.step) ≡ true) × (in_span span (span.hi -ℤ w.step) ≡ true)
last_bucket w span width starts ends some =
    let positive : pos 0 <ℤ w.step = width.positive in
    let apart : (span.lo +ℤ w.step) ≤ℤ span.hi = buckets_apart w span.lo span.hi width starts ends some in
    (is_bucket-before w span.hi width ∙ ends, in_span-from_ends span (span.hi -ℤ w.step) (omega (arith, ints)) (omega (arith, ints)))

end_reached : (w : Width) (hi threshold : ℤ) → ((hi -ℤ w.step) +ℤ w.step) ≤ℤ threshold → hi ≤ℤ threshold
end_reached w hi threshold l = omega (arith, ints)

pub thresholds_reach : ThresholdsReach
thresholds_reach n v def other h k span ok there same_table cut =
    let width = view_width h v other ok there in
    let fits = cuts_fit v other h k span ok there cut in
    let bounds = span_bounds other span fits in
    let last = last_bucket other.fold.width span width bounds.starts bounds.ends bounds.some in
    let was = span_was_cut v h k k span (span.hi -ℤ other.fold.width.step) cut last.1 (omega arith) in
    let below : span.hi ≤ℤ (notes_of v other h).threshold = end_reached other.fold.width span.hi (notes_of v other h).threshold ((histories_covered v other h ok there).below (span.hi -ℤ other.fold.width.step) k last.0 was) in
    let same : (notes_of v other h).threshold ≡ (notes_of n def h).threshold = thresholds_are v other h ∙ (ap (λ t. number_of (threshold t h)) same_table ∙ sym (thresholds_are n def h)) in
    let P : ℤ → Type 0 = λ x. span.hi ≤ℤ x in
    subst P same below

-- ---- the buckets of an aggregate

in_whole : (w : Width) (b top : ℤ) → IsWidth w → is_bucket w b ≡ true → int_lt b (bucket_of w top) ≡ int_le (b +ℤ w.step) top
in_whole w b top width bucket =
    let positive : pos 0 <ℤ w.step = width.positive in
    let at_or_below : bucket_of w top ≤ℤ top = (bucket_of_meets w top width).at_or_below in
    let forth : int_lt b (bucket_of w top) ≡ true → (b +ℤ w.step) ≤ℤ top = λ below.
    let l : b <ℤ bucket_of w top = grind (arith, ints) in
    let apart : (b +ℤ w.step) ≤ℤ bucket_of w top = buckets_apart w b (bucket_of w top) width bucket (is_bucket-bucket_of w top width) l in
    omega (arith, ints)
    in
    let back : (b +ℤ w.step) ≤ℤ top → int_lt b (bucket_of w top) ≡ true = λ ends.
    let l : (b +ℤ w.step) ≤ℤ bucket_of w top = bucket_of-last w (b +ℤ w.step) top width (is_bucket-next w b width ∙ bucket) ends in
    grind (arith, ints)
    in
    same_from_decides (int_lt b (bucket_of w top)) (int_le (b +ℤ w.step) top) (forth, back) (λ t. grind (arith, ints), λ l. grind (arith, ints))

pub all_buckets_are : AllBucketsAre
all_buckets_are w b width bucket = ap (λ t. int_le (first_of w) b && t) (in_whole w b greatest width bucket)
