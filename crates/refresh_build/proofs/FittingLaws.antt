-- A job that fits a history fits every history that begins with it, and may finish its refresh.
use Rattle.std.proofs.Common.{◌≡◌, ℕ, suc, Bool, true, false, ◌&&◌, cond, nat_le, ◌==◌, List, [], ◌∷◌, ℤ, Option, Some, None, sym, refl, ap, ◌∙◌, subst}
use Rattle.std.specs.Prelude.{IsTrue}
use Rattle.std.proofs.lemmas.Bool.{and_from, le-leb}
use Rattle.ts_bucket.specs.Positions.{is_above}
use Rattle.ts_bucket.specs.declared.spans.Span.{Span}
use Rattle.partial_agg.specs.declared.groups.Group.{Group}
use Rattle.ts_model.specs.declared.events.Event.TheVariants.{Table, Hyper, View, Mode, Commit, Cut, Built}
use Rattle.ts_model.specs.declared.images.Finished.{Finished as FinishedRefresh}
use Rattle.ts_model.specs.declared.refreshes.Pending.TheVariants.{Waiting, Unknown}
use Rattle.ts_model.specs.declared.refreshes.Waiting.{Waiting as WaitingRefresh}
use Rattle.ts_model.specs.Saved.{span_among, pending_among}
use Rattle.ts_model.specs.declared.views.ViewDef.{ViewDef}
use Rattle.ts_model.specs.History.{History, start, resumed, ◌▸◌, position, prefix, Begins, same, further}
use Rattle.ts_model.specs.Roster.{roster, view_of, set_only}
use Rattle.ts_model.specs.Pending.{pending, is_known}
use Rattle.ts_model.specs.Refreshes.{span_of_cut}
use Rattle.ts_model.specs.Sound.{sound}
use Rattle.ts_model.specs.Jobs.{Fits}
use Rattle.ts_model.proofs.AllowedLaws.{fits_stays, known_stays}
use Rattle.ts_model.proofs.RosterLaws.{relations_stay}
use Rattle.ts_model.proofs.ModeLaws.{mode_plays_no_part}
use Rattle.refresh_build.specs.declared.jobs.Job.{Job}
use Rattle.refresh_build.specs.Fitting.{FitsView, JobFits}

-- whether an aggregate shows only materialized rows has no effect
fits_any_mode : (n : ℕ) (def : ViewDef) (only : Bool) (h : History) (cut snap : ℕ) (span : Span) (spans : List Span) (groups : List Group) (top : Option ℤ) → Fits n def h cut snap span spans groups top → Fits n (set_only only def) h cut snap span spans groups top
fits_any_mode n def only h cut snap span spans groups top f = record {
  cut_is = f.cut_is;
  after_cut = f.after_cut;
  above_base = f.above_base;
  taken = f.taken;
  whole = f.whole;
  groups_are = f.groups_are;
  top_is = f.top_is;
  others = λ b bucket inside apart.
      let other = f.others b bucket inside apart in
      (other.0, other.1, other.2, ap (is_above other.0) (mode_plays_no_part.touches n def only (prefix h snap) b) ∙ other.3);
}

fits_view_on : (found : Option ViewDef) (job : Job) (g h : History) → Begins g h → view_of (roster g) job.view ≡ found → FitsView found g job → JobFits h job
fits_view_on None job g h q is f = absurd f
fits_view_on (Some def) job g h q is f =
    let kept = (relations_stay g h q).views job.view def is in
    subst (λ o. FitsView o h job) (sym kept.there)
    (fits_any_mode job.view def kept.only h job.cut job.snap job.span job.spans job.groups job.top
    (fits_stays job.view def g h job.cut job.snap job.span job.spans job.groups job.top q f).0)

pub job_fits_on : (job : Job) (g h : History) → Begins g h → JobFits g job → JobFits h job
job_fits_on job g h q f = fits_view_on (view_of (roster g) job.view) job g h q refl f

-- a refresh whose span is known was cut
among_known : (n : ℕ) (ws : List WaitingRefresh) (fs : List FinishedRefresh) (k : ℕ) (span : Span) → span_among n ws k ≡ Some span → is_known (pending_among ws fs k) ≡ true
among_known n [] fs k span e = absurd (none_apart span e)
  where
    none_apart : (span : Span) → (let none : Option Span = None in none ≡ Some span) → ⊥
    none_apart span e = cc
among_known n (w ∷ ws) fs k span e =
    elim (k == w.cut) as (λ t. cond (t && w.view == n) (Some w.span) (span_among n ws k) ≡ Some span → is_known (cond t (Waiting w.view) (pending_among ws fs k)) ≡ true) [
      | true ↦ λ _. refl
      | false ↦ λ f. among_known n ws fs k span f
    ] e

pub cut_known : (n : ℕ) (h : History) (k : ℕ) (span : Span) → span_of_cut n h k ≡ Some span → is_known (pending h k) ≡ true
cut_known n start k span e = absurd (none_apart span e)
  where
    none_apart : (span : Span) → None ≡ Some span → ⊥
    none_apart span e = cc
cut_known n (resumed i) k span e =
    elim (nat_le k i.pos) as (λ t. cond t (span_among n i.waiting k) None ≡ Some span → is_known (cond t (pending_among i.waiting i.done k) Unknown) ≡ true) [
      | true ↦ λ f. among_known n i.waiting i.done k span f
      | false ↦ λ f. absurd (none_here span f)
    ] e
  where
    none_here : (span : Span) → (let none : Option Span = None in none ≡ Some span) → ⊥
    none_here span e = cc
cut_known n (h ▸ Table def) k span e = cut_known n h k span e
cut_known n (h ▸ Hyper t hyper) k span e = cut_known n h k span e
cut_known n (h ▸ View def) k span e = cut_known n h k span e
cut_known n (h ▸ Mode v only) k span e = cut_known n h k span e
cut_known n (h ▸ Commit ops) k span e = cut_known n h k span e
cut_known n (h ▸ Cut v s) k span e =
    elim (k == suc (position h)) as (λ t. cond (t && v == n) (Some s) (span_of_cut n h k) ≡ Some span → is_known (cond t (Waiting v) (pending h k)) ≡ true) [
      | true ↦ λ _. refl
      | false ↦ λ f. cut_known n h k span f
    ] e
cut_known n (h ▸ Built cut snap) k span e = known_stays {g = h} {h = h ▸ Built cut snap} k (further same) (cut_known n h k span e)

fits_view_sound : (found : Option ViewDef) (job : Job) (h : History) → FitsView found h job → sound h (Built job.cut job.snap) ≡ true
fits_view_sound None job h f = absurd f
fits_view_sound (Some def) job h f =
    let known = cut_known job.view h job.cut job.span f.cut_is in
    let after = le-leb job.cut job.snap f.after_cut in
    let based = le-leb _ job.snap f.above_base in
    let taken = le-leb job.snap (position h) f.taken in
    and_from _ _ (and_from _ _ (and_from _ _ (and_from _ _ known after) based) taken) refl

pub job_sound : (job : Job) (h : History) → JobFits h job → IsTrue (sound h (Built job.cut job.snap))
job_sound job h f = fits_view_sound (view_of (roster h) job.view) job h f
