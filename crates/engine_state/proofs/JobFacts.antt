-- What a state that represents a history says about a finish that may come next, and about its job.
use Rattle.std.proofs.Common.{◌≡◌, Bool, true, false, not, ◌&&◌, List, [], ◌∷◌, ℤ, ◌≤ℤ◌, ◌<ℤ◌, int_le, int_lt, Option, Some, None, sym, refl, ap, ◌∙◌, subst, arith}
use Rattle.std.specs.List.{AllByRecursion, list_all}
use Rattle.std.proofs.lemmas.Bool.{and_parts, and_from}
use Rattle.std.proofs.lemmas.Int.{ints}
use Rattle.std.proofs.Math.Bool.{and-false}
use Rattle.ts_bucket.specs.Bucket.{first_of, is_bucket}
use Rattle.ts_bucket.specs.Positions.{is_above}
use Rattle.ts_bucket.specs.Ranges.{AreRanges, IsWholeRange, RiseApart, is_asked, lies_in}
use Rattle.ts_bucket.specs.Spans.{in_span}
use Rattle.ts_bucket.specs.WholeSpans.{IsWholeSpan}
use Rattle.ts_bucket.specs.declared.spans.Span.{Span}
use Rattle.ts_bucket.specs.declared.widths.Width.{Width}
use Rattle.mat_log.specs.Logs.{LogValue, is_renewed, last_at}
use Rattle.mat_rows.specs.Replacing.{AreSpans, SpansRise}
use Rattle.ts_model.specs.declared.views.ViewDef.{ViewDef}
use Rattle.ts_model.specs.History.{History}
use Rattle.ts_model.specs.Roster.{roster, view_of}
use Rattle.ts_model.specs.Refreshes.{last}
use Rattle.ts_model.specs.Jobs.{Fits, is_part_of}
use Rattle.ts_model.specs.Sound.{span_fits}
use Rattle.ts_model.specs.Allowed.{all_consistent}
use Rattle.ts_model.proofs.CutLaws.{cut_sound}
use Rattle.refresh_build.specs.declared.jobs.Job.{Job}
use Rattle.refresh_build.specs.Fitting.{FitsView, JobFits}
use Rattle.engine_state.specs.Groups.{AreRenewed}
use Rattle.ts_model.proofs.FinishLaws.{covers_part}

-- ---- a job that fits

-- the definition of its aggregate
pub record JobHas (h : History) (job : Job) : Type 0 where
  pub def : ViewDef
  pub there : view_of (roster h) job.view ≡ Some def
  pub fits : Fits job.view def h job.cut job.snap job.span job.spans job.groups job.top

pub job_has : (h : History) (job : Job) → JobFits h job → JobHas h job
job_has h job f = by_view (view_of (roster h) job.view) refl f
  where
    by_view : (o : Option ViewDef) → view_of (roster h) job.view ≡ o → FitsView o h job → JobHas h job
    by_view None is f = absurd f
    by_view (Some def) is f = record { def = def; there = is; fits = f }

-- ---- its span and its ranges

whole_of_fit : (span : Span) (def : ViewDef) → span_fits span (Some def) ≡ true → IsWholeSpan def.fold.width span
whole_of_fit span def e =
    let words = and_parts _ _ e in
    let word = and_parts _ _ words.0 in
    let first = and_parts _ (int_le (first_of def.fold.width) span.lo) word.0 in
    let some = and_parts _ (int_lt span.lo span.hi) first.0 in
    let ends = and_parts (is_bucket def.fold.width span.lo) (is_bucket def.fold.width span.hi) some.0 in
    let low : int_le (first_of def.fold.width) span.lo ≡ true = first.1 in
    record { starts = ends.0; ends = ends.1; from_first = grind (arith, ints) }

pub job_whole : (h : History) (job : Job) (def : ViewDef) → all_consistent h ≡ true → view_of (roster h) job.view ≡ Some def → Fits job.view def h job.cut job.snap job.span job.spans job.groups job.top → IsWholeSpan def.fold.width job.span
job_whole h job def ok there f = whole_of_fit job.span def (ap (span_fits job.span) (sym there) ∙ cut_sound job.view h job.cut job.span ok f.cut_is)

part_whole : (w : Width) (whole part : Span) → is_part_of w whole part ≡ true → IsWholeRange w part
part_whole w whole part e =
    let upto = and_parts _ (int_le part.hi whole.hi) e in
    let some = and_parts _ (int_lt part.lo part.hi) upto.0 in
    let from = and_parts _ (int_le whole.lo part.lo) some.0 in
    let ends = and_parts (is_bucket w part.lo) (is_bucket w part.hi) from.0 in
    let less : int_lt part.lo part.hi ≡ true = some.1 in
    record { starts = ends.0; ends = ends.1; some = grind (arith, ints) }

pub parts_whole : (w : Width) (whole : Span) (parts : List Span) → list_all (is_part_of w whole) parts ≡ true → AllByRecursion (IsWholeRange w) parts
parts_whole w whole [] e = tt
parts_whole w whole (part ∷ parts) e = let all = and_parts (is_part_of w whole part) (list_all (is_part_of w whole) parts) e in (part_whole w whole part all.0, parts_whole w whole parts all.1)

-- a number in a part of a span lies in the span
part_inside : (w : Width) (whole part : Span) (b : ℤ) → is_part_of w whole part ≡ true → in_span part b ≡ true → in_span whole b ≡ true
part_inside w whole part b e inside =
    let upto = and_parts _ (int_le part.hi whole.hi) e in
    let some = and_parts _ (int_lt part.lo part.hi) upto.0 in
    let from = and_parts _ (int_le whole.lo part.lo) some.0 in
    let here = and_parts (int_le part.lo b) (int_lt b part.hi) inside in
    let high : int_le part.hi whole.hi ≡ true = upto.1 in
    let low : int_le whole.lo part.lo ≡ true = from.1 in
    let after : int_le part.lo b ≡ true = here.0 in
    let before : int_lt b part.hi ≡ true = here.1 in
    and_from _ _ (let l : int_le whole.lo b ≡ true = grind (arith, ints) in l) (let g : int_lt b whole.hi ≡ true = grind (arith, ints) in g)

-- ---- the ranges that it updates

pub ranges_sizes : (w : Width) (ranges : List Span) → AllByRecursion (IsWholeRange w) ranges → AreSpans ranges
ranges_sizes w [] all = tt
ranges_sizes w (s ∷ ss) all = let some : s.lo <ℤ s.hi = all.0.some in (omega (arith, ints), ranges_sizes w ss all.1)

pub ranges_rise : (ranges : List Span) → RiseApart ranges → SpansRise ranges
ranges_rise [] r = tt
ranges_rise (s ∷ []) r = tt
ranges_rise (s ∷ t ∷ ss) r = let apart : s.hi <ℤ t.lo = r.0 in (omega (arith, ints), ranges_rise (t ∷ ss) r.1)

asked_inside : (w : Width) (whole : Span) (parts : List Span) (b : ℤ) (above : Bool) → IsWholeSpan w whole → is_bucket w b ≡ true → list_all (is_part_of w whole) parts ≡ true → (is_asked w whole b && (lies_in parts b && not above)) ≡ (lies_in parts b && not above)
asked_inside w whole parts b above s bucket e = by_parts (lies_in parts b) refl
  where
    by_parts : (t : Bool) → lies_in parts b ≡ t → (is_asked w whole b && (t && not above)) ≡ (t && not above)
    by_parts true is =
        let inside = covers_part w whole parts b e is in
        let first : first_of w ≤ℤ whole.lo = s.from_first in
        let low : int_le whole.lo b ≡ true = (and_parts (int_le whole.lo b) (int_lt b whole.hi) inside).0 in
        let from : int_le (first_of w) b ≡ true = grind (arith, ints) in
        let asked : is_asked w whole b ≡ true = and_from _ _ inside (and_from _ _ bucket from) in
        ap (λ t. t && not above) asked
    by_parts false is = and-false (is_asked w whole b)

-- the groups of a job update those of its ranges whose last refresh isn't above its snapshot
pub job_renews : (h : History) (job : Job) (def : ViewDef) (log : LogValue) (renewed : List Span) → IsWholeSpan def.fold.width job.span → Fits job.view def h job.cut job.snap job.span job.spans job.groups job.top → log.width ≡ def.fold.width → ((b : ℤ) → is_bucket def.fold.width b ≡ true → last_at log b ≡ last job.view h b) → AreRanges log.width job.span (λ b. lies_in job.spans b && is_renewed log job.snap b) renewed → AreRenewed job.view def h job.snap job.spans job.groups renewed job.groups
job_renews h job def log renewed whole f width lasts ranges = record {
  spans_are = λ b bucket.
      ranges.exact b (subst (λ w. is_bucket w b ≡ true) (sym width) bucket)
      ∙ ap (λ w. is_asked w job.span b && (lies_in job.spans b && is_renewed log job.snap b)) width
      ∙ ap (λ o. is_asked def.fold.width job.span b && (lies_in job.spans b && not (is_above job.snap o))) (lasts b bucket)
      ∙ asked_inside def.fold.width job.span job.spans b (is_above job.snap (last job.view h b)) whole bucket f.whole;
  groups_are = λ b inside. refl;
  all = λ test e. e;
}
