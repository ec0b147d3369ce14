-- The effect of each event on the state of an aggregate.
use Rattle.std.proofs.Common.{◌≡◌, ℕ, suc, Bool, true, false, cond, int_lt, ◌==◌, List, [], ◌∷◌, ◌++◌, ℤ, Option, Some, None, sym, refl, ap, ◌∙◌, subst}
use Rattle.std.specs.Int.{int_max}
use Rattle.std.specs.List.{AllByRecursion}
use Rattle.std.proofs.lemmas.Bool.{true≢false, and_parts}
use Rattle.ts_num.specs.Aggregates.{greater}
use Rattle.ts_bucket.specs.Bucket.{IsWidth, is_bucket}
use Rattle.ts_bucket.specs.Positions.{later, above}
use Rattle.ts_bucket.specs.Spans.{in_span}
use Rattle.ts_bucket.specs.Touches.{Noted}
use Rattle.ts_bucket.specs.WholeSpans.{whole_span}
use Rattle.ts_bucket.specs.declared.spans.Hull.{Hull}
use Rattle.ts_bucket.specs.declared.spans.Span.{Span}
use Rattle.inval_log.specs.Logs.{LogValue as TableLog}
use Rattle.mat_log.specs.Logs.{pending_at, last_at}
use Rattle.partial_agg.specs.declared.groups.Group.{Group}
use Rattle.ts_model.specs.declared.events.Event.{Event}
use Rattle.ts_model.specs.declared.events.Event.TheVariants.{Table, Hyper, View, Mode, Commit, Cut, Built}
use Rattle.ts_model.specs.declared.events.Op.{Op}
use Rattle.ts_model.specs.declared.views.ViewDef.{ViewDef}
use Rattle.ts_model.specs.History.{History, ◌▸◌, position}
use Rattle.ts_model.specs.Roster.{roster, view_of, set_only}
use Rattle.ts_model.specs.Rows.{rows}
use Rattle.ts_model.specs.Effect.{hull_of_ops}
use Rattle.ts_model.specs.Allowed.{all_consistent}
use Rattle.ts_model.specs.Refreshes.{watermark, span_of_cut, is_covered, top_of}
use Rattle.ts_model.specs.Jobs.{Fits}
use Rattle.ts_model.specs.Sound.{span_fits}
use Rattle.ts_model.proofs.ModeLaws.{mode_plays_no_part}
use Rattle.ts_model.proofs.FinishLaws.{finishes_mark}
use Rattle.ts_model.proofs.SoundLaws.{view_width}
use Rattle.coverage.specs.Notes.{notes_of_new, notes_after_hull, log_after, cut_to, notes_after_refresh}
use Rattle.coverage.specs.Coverage.{RisesFrom, is_upto}
use Rattle.coverage.specs.Laws.{is_quiet, EndsWhole}
use Rattle.coverage.proofs.StepLaws.{commits_keep, cuts_keep, finishes_keep, quiet_keeps, beginnings_cover, same_cover, modes_keep}
use Rattle.coverage.proofs.LogLaws.{upto_next, upto-logged, rises-logged}
use Rattle.coverage.proofs.TimeLaws.{hulls_are_of_times}
use Rattle.engine_state.specs.Groups.{GroupsStand, AreRenewed, AreReplaced}
use Rattle.engine_state.specs.Notes.{noted_in, notes_in, IsFedTo, IsOfTimes, LogStands}
use Rattle.engine_state.specs.Views.{ViewValue, ViewStands}
use Rattle.engine_state.proofs.GroupSteps.{groups_stay, groups_of_mode, groups_begin, groups_finished, groups_unfinished, is_built}

-- ---- the log of a table

pub log_begins : (h : History) (log : TableLog) → log.entries ≡ [] → LogStands h log
log_begins h log none = record {
  times = subst (λ es. AllByRecursion (λ entry. IsOfTimes entry.hull) (noted_in es)) (sym none) tt;
  rising = subst (λ es. RisesFrom None (noted_in es)) (sym none) tt;
  past = ap (λ es. is_upto (position h) (noted_in es)) none;
}

pub log_stays : (h : History) (e : Event) (log : TableLog) → LogStands h log → LogStands (h ▸ e) log
log_stays h e log s = record { times = s.times; rising = s.rising; past = upto_next (position h) (noted_in log.entries) s.past }

-- ---- events that don't change an aggregate

pub view_stays : (n : ℕ) (def : ViewDef) (h : History) (e : Event) (log : TableLog) (view : ViewValue) → all_consistent h ≡ true → is_quiet n h e ≡ true → ViewStands h n def log view → ViewStands (h ▸ e) n def log view
view_stays n def h e log view ok quiet s = record {
  table = s.table;
  width = s.width;
  covered = quiet_keeps n def h e (notes_in log view.log) quiet s.covered;
  mark = s.mark ∙ sym (mark_stays e quiet);
  groups = groups_stay n def h e view.mark view.groups ok (not_built e quiet) s.groups;
}
  where
    mark_stays : (e : Event) → is_quiet n h e ≡ true → watermark n def (h ▸ e) ≡ watermark n def h
    mark_stays (Table made) quiet = refl
    mark_stays (Hyper t hyper) quiet = refl
    mark_stays (View made) quiet = refl
    mark_stays (Mode v only) quiet = refl
    mark_stays (Commit ops) quiet = refl
    mark_stays (Cut v span) quiet = refl
    mark_stays (Built cut snap) quiet = absurd (true≢false (sym quiet))

    not_built : (e : Event) → is_quiet n h e ≡ true → is_built e ≡ false
    not_built (Table made) quiet = refl
    not_built (Hyper t hyper) quiet = refl
    not_built (View made) quiet = refl
    not_built (Mode v only) quiet = refl
    not_built (Commit ops) quiet = refl
    not_built (Cut v span) quiet = refl
    not_built (Built cut snap) quiet = absurd (true≢false (sym quiet))

-- a mode has no effect
pub view_of_mode : (n : ℕ) (def : ViewDef) (only : Bool) (h : History) (log : TableLog) (view : ViewValue) → ViewStands h n def log view → ViewStands h n (set_only only def) log view
view_of_mode n def only h log view s = record {
  table = s.table;
  width = s.width;
  covered = modes_keep n def only h (notes_in log view.log) s.covered;
  mark = s.mark ∙ sym (mode_plays_no_part.marks n def only h);
  groups = groups_of_mode n def only h view.mark view.groups s.groups;
}

-- ---- the event that makes it

pub view_begins : (n : ℕ) (def : ViewDef) (h : History) (made : ViewDef) (log : TableLog) (view : ViewValue) → all_consistent h ≡ true → view_of (roster h) n ≡ None → LogStands h log → view.table ≡ def.table → view.log.width ≡ def.fold.width → ((b : ℤ) → pending_at view.log b ≡ cond (in_span (whole_span def.fold.width) b) (Some (suc (position h))) None) → ((b : ℤ) → last_at view.log b ≡ None) → view.groups ≡ [] → view.mark ≡ None → watermark n def h ≡ None → ViewStands (h ▸ View made) n def log view
view_begins n def h made log view ok none l table width pending refreshed groups mark no_mark = record {
  table = table;
  width = width;
  covered = same_cover n def (h ▸ View made) (notes_of_new def.fold.width (suc (position h)) (notes_in log view.log)) (notes_in log view.log)
      (record { threshold = refl; log = refl; pending = λ b bucket. pending b; refreshed = λ b bucket. refreshed b })
      (beginnings_cover n def h made (notes_in log view.log) ok none l.past);
  mark = mark ∙ sym no_mark;
  groups = subst (GroupsStand n def (h ▸ View made) view.mark) (sym groups) (groups_stay n def h (View made) view.mark [] ok refl (groups_begin n def h view.mark ok none));
}

-- ---- a commit

times-logged : (o : Option Hull) (k : ℕ) (threshold : ℤ) (log : List Noted) → ((hull : Hull) → o ≡ Some hull → IsOfTimes hull) → AllByRecursion (λ entry. IsOfTimes entry.hull) log → AllByRecursion (λ entry. IsOfTimes entry.hull) (log_after o k threshold log)
times-logged None k threshold log times all = all
times-logged (Some hull) k threshold log times all =
    elim (int_lt hull.least threshold) as (λ t. AllByRecursion (λ entry. IsOfTimes entry.hull) (cond t (log ++ (record { hull = hull; at = k } ∷ [])) log)) [
      | true ↦ pushed log all
      | false ↦ all
    ]
  where
    pushed : (log : List Noted) → AllByRecursion (λ entry. IsOfTimes entry.hull) log → AllByRecursion (λ entry. IsOfTimes entry.hull) (log ++ (record { hull = hull; at = k } ∷ []))
    pushed [] all = (times hull refl, tt)
    pushed (x ∷ xs) all = (all.0, pushed xs all.1)

hull_is_of_times : (t : ℕ) (h : History) (ops : List Op) (hull : Hull) → all_consistent (h ▸ Commit ops) ≡ true → hull_of_ops t ops (rows t h) ≡ Some hull → IsOfTimes hull
hull_is_of_times t h ops hull ok is = let bounds = hulls_are_of_times t h ops hull ok is in record { from = bounds.0; order = bounds.1; upto = bounds.2 }

-- the log of a table notes the hull of a commit
pub log_commits : (t : ℕ) (h : History) (ops : List Op) (old new : TableLog) → all_consistent (h ▸ Commit ops) ≡ true → noted_in new.entries ≡ log_after (hull_of_ops t ops (rows t h)) (suc (position h)) old.threshold (noted_in old.entries) → LogStands h old → LogStands (h ▸ Commit ops) new
log_commits t h ops old new ok entries s = record {
  times = subst (AllByRecursion (λ entry. IsOfTimes entry.hull)) (sym entries) (times-logged (hull_of_ops t ops (rows t h)) (suc (position h)) old.threshold (noted_in old.entries) (λ hull is. hull_is_of_times t h ops hull ok is) s.times);
  rising = subst (RisesFrom None) (sym entries) (rises-logged (position h) None (noted_in old.entries) (hull_of_ops t ops (rows t h)) old.threshold refl s.past s.rising);
  past = ap (is_upto (suc (position h))) entries ∙ upto-logged (position h) (noted_in old.entries) (hull_of_ops t ops (rows t h)) old.threshold s.past;
}

pub view_commits : (n : ℕ) (def : ViewDef) (h : History) (ops : List Op) (old new : TableLog) (view : ViewValue) → all_consistent h ≡ true → new.threshold ≡ old.threshold → noted_in new.entries ≡ log_after (hull_of_ops def.table ops (rows def.table h)) (suc (position h)) old.threshold (noted_in old.entries) → ViewStands h n def old view → ViewStands (h ▸ Commit ops) n def new view
view_commits n def h ops old new view ok threshold entries s = record {
  table = s.table;
  width = s.width;
  covered = same_cover n def (h ▸ Commit ops) (notes_after_hull (hull_of_ops def.table ops (rows def.table h)) (suc (position h)) (notes_in old view.log)) (notes_in new view.log)
      (record { threshold = threshold; log = entries; pending = λ b bucket. refl; refreshed = λ b bucket. refl })
      (commits_keep n def h ops (notes_in old view.log) s.covered);
  mark = s.mark;
  groups = groups_stay n def h (Commit ops) view.mark view.groups ok refl s.groups;
}

-- ---- a cut

-- for an aggregate over the table: the log is emptied, and its entries were fed
pub view_cut : (n : ℕ) (def : ViewDef) (h : History) (v : ℕ) (span : Span) (old new : TableLog) (view fed_view : ViewValue) → all_consistent h ≡ true → ((v == n) ≡ true → EndsWhole def.fold.width span) → new.threshold ≡ int_max old.threshold span.hi → new.entries ≡ [] → fed_view.table ≡ view.table → fed_view.groups ≡ view.groups → fed_view.mark ≡ view.mark → IsFedTo def.fold.width (noted_in old.entries) view.log fed_view.log → ViewStands h n def old view → ViewStands (h ▸ Cut v span) n def new fed_view
view_cut n def h v span old new view fed_view ok ends threshold emptied table groups mark is_fed s = record {
  table = table ∙ s.table;
  width = is_fed.width ∙ s.width;
  covered = same_cover n def (h ▸ Cut v span) (cut_to def.fold.width span.hi (notes_in old view.log)) (notes_in new fed_view.log)
      (record { threshold = threshold; log = ap noted_in emptied; pending = is_fed.pending; refreshed = λ b bucket. is_fed.refreshed b })
      (cuts_keep n def h v span (notes_in old view.log) ends s.covered);
  mark = mark ∙ s.mark;
  groups = subst (λ m. GroupsStand n def (h ▸ Cut v span) m fed_view.groups) (sym mark) (subst (GroupsStand n def (h ▸ Cut v span) view.mark) (sym groups) (groups_stay n def h (Cut v span) view.mark view.groups ok refl s.groups));
}

-- a span that fits ends where a bucket does
pub fit_ends : (span : Span) (def : ViewDef) → IsWidth def.fold.width → span_fits span (Some def) ≡ true → EndsWhole def.fold.width span
fit_ends span def width e =
    let words = and_parts _ _ e in
    let word = and_parts _ _ words.0 in
    let first = and_parts _ _ word.0 in
    let some = and_parts _ _ first.0 in
    let ends = and_parts (is_bucket def.fold.width span.lo) (is_bucket def.fold.width span.hi) some.0 in
    record { width = width; ends = ends.1 }

-- ---- a finish

greater_none : (x : Option ℤ) → greater x None ≡ x
greater_none None = refl
greater_none (Some m) = refl

-- the aggregate after its own refresh finished
pub view_finished : (n : ℕ) (def : ViewDef) (h : History) (cut snap : ℕ) (span : Span) (spans : List Span) (groups : List Group) (top : Option ℤ) (log : TableLog) (old new : ViewValue) (renewed : List Span) (put : List Group) → all_consistent h ≡ true → view_of (roster h) n ≡ Some def → Fits n def h cut snap span spans groups top → new.table ≡ old.table → new.log.width ≡ old.log.width → ((b : ℤ) → pending_at new.log b ≡ cond (in_span span b) (above snap (pending_at old.log b)) (pending_at old.log b)) → ((b : ℤ) → last_at new.log b ≡ cond (in_span span b) (later (last_at old.log b) (Some snap)) (last_at old.log b)) → new.mark ≡ greater old.mark top → AreRenewed n def h snap spans groups renewed put → AreReplaced renewed put old.groups new.groups → ViewStands h n def log old → ViewStands (h ▸ Built cut snap) n def log new
view_finished n def h cut snap span spans groups top log old new renewed put ok there f table width pending refreshed mark renews replaces s = record {
  table = table ∙ s.table;
  width = width ∙ s.width;
  covered = same_cover n def (h ▸ Built cut snap) (notes_after_refresh (span_of_cut n h cut) snap (notes_in log old.log)) (notes_in log new.log)
      (record {
        threshold = refl;
        log = refl;
        pending = λ b bucket. pending b ∙ sym (ap (λ o. cond (is_covered b o) (above snap (pending_at old.log b)) (pending_at old.log b)) f.cut_is);
        refreshed = λ b bucket. refreshed b ∙ sym (ap (λ o. cond (is_covered b o) (later (last_at old.log b) (Some snap)) (last_at old.log b)) f.cut_is);
      })
      (finishes_keep n def h cut snap (notes_in log old.log) s.covered);
  mark = mark ∙ ap (λ m. greater m top) s.mark ∙ sym (finishes_mark n def h cut snap span spans groups top ok there f);
  groups = subst (λ m. GroupsStand n def (h ▸ Built cut snap) m new.groups) (sym mark) (groups_finished n def h cut snap span spans groups top ok (view_width h n def ok there) f old.mark old.groups put new.groups renewed s.groups renews replaces);
}

-- after the finish of another refresh
pub view_unfinished : (n : ℕ) (def : ViewDef) (h : History) (cut snap : ℕ) (log : TableLog) (view : ViewValue) → all_consistent h ≡ true → span_of_cut n h cut ≡ None → ViewStands h n def log view → ViewStands (h ▸ Built cut snap) n def log view
view_unfinished n def h cut snap log view ok other s = record {
  table = s.table;
  width = s.width;
  covered = same_cover n def (h ▸ Built cut snap) (notes_after_refresh (span_of_cut n h cut) snap (notes_in log view.log)) (notes_in log view.log)
      (record {
        threshold = refl;
        log = refl;
        pending = λ b bucket. sym (ap (λ o. cond (is_covered b o) (above snap (pending_at view.log b)) (pending_at view.log b)) other);
        refreshed = λ b bucket. sym (ap (λ o. cond (is_covered b o) (later (last_at view.log b) (Some snap)) (last_at view.log b)) other);
      })
      (finishes_keep n def h cut snap (notes_in log view.log) s.covered);
  mark = s.mark ∙ sym (ap (λ o. greater (watermark n def h) (top_of def h snap o)) other ∙ greater_none (watermark n def h));
  groups = groups_unfinished n def h cut snap view.mark view.groups ok other s.groups;
}
