-- What calls of a session do to a history and to its image, and the session state after them.
use Rattle.std.proofs.Common.{◌≡◌, ℕ, ◌≤◌, true, List, [], ◌∷◌, Option, Some, None, ℤ, sym, refl, ap, ◌∙◌, subst, arith}
use Rattle.std.specs.Prelude.{Result, Ok, Err, IsTrue, is_some}
use Rattle.std.specs.Option.{ForSome}
use Rattle.std.proofs.lemmas.Bool.{true≢false, and_from, le-leb}
use Rattle.ts_bucket.specs.Bucket.{is_time}
use Rattle.ts_bucket.specs.declared.spans.Span.{Span}
use Rattle.ts_model.specs.declared.events.Event.{Event}
use Rattle.ts_model.specs.declared.events.Event.TheVariants.{Built}
use Rattle.ts_model.specs.declared.images.Image.{Image}
use Rattle.ts_model.specs.declared.outcomes.CutDone.{CutDone}
use Rattle.ts_model.specs.declared.outcomes.CutDone.TheVariants.{Cut as CutMade, Nothing as NothingDone}
use Rattle.ts_model.specs.declared.outcomes.Refusal.{Refusal}
use Rattle.ts_model.specs.declared.refreshes.Pending.{Pending}
use Rattle.ts_model.specs.declared.refreshes.Pending.TheVariants.{Waiting, Finished, Unknown}
use Rattle.ts_model.specs.Allowed.{all_allowed}
use Rattle.ts_model.specs.Calls.{act_of_cut, finish_of, act_of_finish}
use Rattle.ts_model.specs.Numbers.{no_refresh, no_snapshot}
use Rattle.ts_model.specs.History.{History, ◌▸▸◌, position, base_position}
use Rattle.ts_model.specs.Laws.{MakesAllowed}
use Rattle.ts_model.specs.Pending.{is_known, pending}
use Rattle.ts_model.specs.Sound.{sound}
use Rattle.ts_model.proofs.AllowedLaws.{consistent_of}
use Rattle.ts_model.proofs.HistoryLaws.{base_below, begins_followed}
use Rattle.ts_model.proofs.MadeLaws.{calls_make_allowed}
use Rattle.image_laws.specs.Images.{IsImage}
use Rattle.image_laws.proofs.AlikeAnswers.{alike_answers, refusal_same}
use Rattle.image_laws.proofs.ImageLaws.{known_bounds}
use Rattle.result_text.specs.declared.replies.Said.{Said}
use Rattle.result_text.specs.declared.replies.Said.TheVariants as said
use Rattle.stmt_syntax.specs.Limits.{longest_input}
use Rattle.ts_sessions.specs.Places.{Places, Turn, cuts, held_for, holds, turns}
use Rattle.ts_sessions.specs.Procedures.{Procedure, followed_by, tries_at}
use Rattle.ts_sessions.specs.Step.{after_cut, after_snapshot, finish_turn, finishes, finishes_held, turn_of_refresh, refreshes, snap_turn, snaps, snapshot_taken, taken_of, unfinished_refusal}
use Rattle.image_runs.proofs.PlaceLaws.{IsFrom, IsHeld, PlacesFit, gone_held, held_there, places_on, put_held}
use Rattle.image_runs.proofs.TwinLaws.{Alongside, Same, SameEnd, Twins, along_as, along_call, along_ends, along_sees, along_then, along_tries, twins_alike, twins_base, twins_on}

-- two turns of a session end the same
abbrev pub SameTurn : ℕ → ℕ → History → Turn Places → Turn Places → Type 0
SameTurn base used = SameEnd (PlacesFit base used)

-- a session has the same turn at two histories
abbrev pub TurnsAlong : ℕ → ℕ → History → History → Procedure (Turn Places) → Procedure (Turn Places) → Type 0
TurnsAlong base used g k d e = Alongside (SameTurn base used) g k d e

no_time : ForSome None (λ t. IsTrue (is_time t))
no_time t e = absurd (true≢false (sym (ap is_some e)))

-- turns with the same session state and the same line
pub same_said : (base used : ℕ) (k : History) (p : Places) (s : Said) → PlacesFit base used k p → SameTurn base used k (turns p s) (turns p s)
same_said base used k p s fit = record { places = refl; said = refl; fit = fit }

pub same_turns : (base used : ℕ) (k : History) (p : Places) (s z : Said) → s ≡ z → PlacesFit base used k p → SameTurn base used k (turns p s) (turns p z)
same_turns base used k p s z e fit = record { places = refl; said = ap (λ x. x ∷ []) e; fit = fit }

-- a finish is sound if its refresh is pending and its snapshot is held
finish_sound : (base : ℕ) (k : History) (c at : ℕ) → base_position k ≡ base → is_known (pending k c) ≡ true → IsHeld base k c at → sound k (Built c at) ≡ true
finish_sound base k c at root known i =
    let from : base_position k ≤ at = subst (λ b. b ≤ at) (sym root) i.from.above in
    and_from _ _ (and_from _ _ (and_from _ _ (and_from _ _ known (le-leb c at i.after)) (le-leb (base_position k) at from)) (le-leb at (position k) i.from.below)) refl

finish_allowed_as : (base : ℕ) (k : History) (c at : ℕ) (q : Pending) → base_position k ≡ base → pending k c ≡ q → IsHeld base k c at → MakesAllowed k (finish_of c at k q)
finish_allowed_as base k c at (Waiting n) root e i = subst (λ q. MakesAllowed k (finish_of c at k q)) e (calls_make_allowed.finishes c at k (finish_sound base k c at root (ap is_known e) i))
finish_allowed_as base k c at (Finished f) root e i = tt
finish_allowed_as base k c at Unknown root e i = tt

pub finish_allowed : (base : ℕ) (k : History) (c at : ℕ) → base_position k ≡ base → IsHeld base k c at → MakesAllowed k (act_of_finish c at k)
finish_allowed base k c at root i = finish_allowed_as base k c at (pending k c) root refl i

-- the current position is at or above the base
pub now_from : (base : ℕ) (k : History) → base_position k ≡ base → IsFrom base k (position k)
now_from base k root = record { above = subst (λ b. b ≤ position k) root (base_below k); below = omega arith }

-- a snapshot at the current position is held if its refresh is known
now_held : (base : ℕ) (k : History) (c : ℕ) → base_position k ≡ base → all_allowed k ≡ true → is_known (pending k c) ≡ true → IsHeld base k c (position k)
now_held base k c root ok known = record { from = now_from base k root; after = (known_bounds k c ok known).1 }

-- the same session state fits the history with more events
pub fit_on : (base used : ℕ) (k : History) (es : List Event) (p : Places) → used ≤ longest_input → PlacesFit base used k p → PlacesFit base used (k ▸▸ es) p
fit_on base used k es p few fit = places_on base used used k (k ▸▸ es) p (begins_followed k es) (omega arith) few fit

module _ (h : History) (i : Image) (ok : all_allowed h ≡ true) (is : IsImage h i) (used : ℕ) (few : used ≤ longest_input) where
  -- ---- the finish of a refresh that was cut

  snapshot_along : (p : Places) (c : ℕ) (span : Span) (min : ℤ) (g k : History) (t : Twins h i g k) (q : Pending) → PlacesFit i.pos used k p → pending k c ≡ q → TurnsAlong i.pos used g k (after_snapshot p c span min (taken_of g c q)) (after_snapshot p c span min (taken_of k c q))
  snapshot_along p c span min g k t (Waiting n) fit e =
      let alike = twins_alike h i ok is g k t in
      let held : IsHeld i.pos k c (position k) = now_held i.pos k c (twins_base h i g k t) t.allowed (ap is_known e) in
      let calls : act_of_finish c (position g) g ≡ act_of_finish c (position k) k = ap (λ s. act_of_finish c s g) alike.places ∙ alike_answers.finishes c (position k) g k alike in
      along_sees (SameTurn i.pos used) g k _ _ _ _
      (along_as Same (SameTurn i.pos used) g k _ _ _ _
      (along_tries g k (act_of_finish c (position g) g) (act_of_finish c (position k) k) calls t.allowed (finish_allowed i.pos k c (position k) (twins_base h i g k t) held))
      (λ es a b s. finished (k ▸▸ es) a b (position g) (position k) _ _ s alike.places (fit_on i.pos used k es p few fit)))
    where
      finished_as : (l : History) (at at_too reads reads_too : ℕ) (r : Result ℕ Refusal) → at ≡ at_too → PlacesFit i.pos used l p → SameTurn i.pos used l (turn_of_refresh p c span min (record { at = at; reads = reads }) r) (turn_of_refresh p c span min (record { at = at_too; reads = reads_too }) r)
      finished_as l at at_too reads reads_too (Ok n) e fit = record { places = refl; said = ap (λ x. said.Refresh c n x span min ∷ []) e; fit = fit }
      finished_as l at at_too reads reads_too (Err r) e fit = record { places = refl; said = refl; fit = fit }

      finished : (l : History) (a b : Result ℕ Refusal) (at at_too reads reads_too : ℕ) → a ≡ b → at ≡ at_too → PlacesFit i.pos used l p → SameTurn i.pos used l (turn_of_refresh p c span min (record { at = at; reads = reads }) a) (turn_of_refresh p c span min (record { at = at_too; reads = reads_too }) b)
      finished l a b at at_too reads reads_too s e fit = subst (λ x. SameTurn i.pos used l (turn_of_refresh p c span min (record { at = at; reads = reads }) x) (turn_of_refresh p c span min (record { at = at_too; reads = reads_too }) b)) (sym s) (finished_as l at at_too reads reads_too b e fit)
  snapshot_along p c span min g k t (Finished f) fit e = along_ends (SameTurn i.pos used) g k _ _ t.allowed (record { places = refl; said = ap (λ r. said.Cut c span min ∷ said.Fault r ∷ []) (refusal_same no_refresh f g k (twins_alike h i ok is g k t).places); fit = fit })
  snapshot_along p c span min g k t Unknown fit e = along_ends (SameTurn i.pos used) g k _ _ t.allowed (record { places = refl; said = ap (λ r. said.Cut c span min ∷ said.Fault r ∷ []) (refusal_same no_refresh 0 g k (twins_alike h i ok is g k t).places); fit = fit })

  -- ---- a whole refresh

  cut_along : (p : Places) (min : ℤ) (g k : History) (t : Twins h i g k) (r : Result CutDone Refusal) → PlacesFit i.pos used k p → TurnsAlong i.pos used g k (after_cut p min r) (after_cut p min r)
  cut_along p min g k t (Ok (CutMade c span)) fit =
      let alike = twins_alike h i ok is g k t in
      along_sees (SameTurn i.pos used) g k _ _ _ _
      (subst (λ q. TurnsAlong i.pos used g k (after_snapshot (cuts c p) c span min (taken_of g c q)) (after_snapshot (cuts c p) c span min (snapshot_taken c k))) (sym (alike.refreshes c))
      (snapshot_along (cuts c p) c span min g k t (pending k c) (record { block = fit.block; held = fit.held }) refl))
  cut_along p min g k t (Ok (NothingDone at)) fit = along_ends (SameTurn i.pos used) g k _ _ t.allowed (same_said i.pos used k p (said.Nothing at) fit)
  cut_along p min g k t (Err r) fit = along_ends (SameTurn i.pos used) g k _ _ t.allowed (same_said i.pos used k p (said.Fault r) fit)

  pub cut_first : (p : Places) (n : ℕ) (lo hi : Option ℤ) (min : ℤ) (g k : History) (t : Twins h i g k) → PlacesFit i.pos used k p → ForSome hi (λ t. IsTrue (is_time t)) → TurnsAlong i.pos used g k (followed_by (tries_at g (act_of_cut n lo hi g)) (after_cut p min)) (followed_by (tries_at k (act_of_cut n lo hi k)) (after_cut p min))
  cut_first p n lo hi min g k t fit time =
      along_then Same (SameTurn i.pos used) g k _ _ (after_cut p min) (after_cut p min)
      (along_tries g k (act_of_cut n lo hi g) (act_of_cut n lo hi k) (alike_answers.cuts n lo hi g k (twins_alike h i ok is g k t)) t.allowed (calls_make_allowed.cuts n lo hi k (consistent_of k t.allowed) time))
      (λ es a b allowed s. subst (λ x. TurnsAlong i.pos used (g ▸▸ es) (k ▸▸ es) (after_cut p min x) (after_cut p min b)) (sym s) (cut_along p min (g ▸▸ es) (k ▸▸ es) (twins_on h i g k es t allowed) b (fit_on i.pos used k es p few fit)))

  pub refresh_along : (p : Places) (n : ℕ) (min : ℤ) (g k : History) (t : Twins h i g k) → PlacesFit i.pos used k p → TurnsAlong i.pos used g k (refreshes p n None None min) (refreshes p n None None min)
  refresh_along p n min g k t fit = along_sees (SameTurn i.pos used) g k _ _ _ _ (cut_first p n None None min g k t fit no_time)

  -- ---- a snapshot, and a finish by the session itself

  snap_as : (p : Places) (c : ℕ) (g k : History) (t : Twins h i g k) (q : Pending) → PlacesFit i.pos used k p → pending k c ≡ q → SameTurn i.pos used k (snap_turn p c (taken_of g c q)) (snap_turn p c (taken_of k c q))
  snap_as p c g k t (Waiting n) fit e =
      let places = (twins_alike h i ok is g k t).places in
      let held : IsHeld i.pos k c (position k) = now_held i.pos k c (twins_base h i g k t) t.allowed (ap is_known e) in
      record { places = ap (λ at. holds c at p) places; said = ap (λ at. said.Snap c at ∷ []) places; fit = record { block = fit.block; held = put_held i.pos k p.held c (position k) held fit.held } }
  snap_as p c g k t (Finished f) fit e = same_turns i.pos used k p _ _ (ap said.Fault (refusal_same no_refresh f g k (twins_alike h i ok is g k t).places)) fit
  snap_as p c g k t Unknown fit e = same_turns i.pos used k p _ _ (ap said.Fault (refusal_same no_refresh 0 g k (twins_alike h i ok is g k t).places)) fit

  pub snaps_along : (p : Places) (o : Option ℕ) (g k : History) (t : Twins h i g k) → PlacesFit i.pos used k p → SameTurn i.pos used k (snaps p g o) (snaps p k o)
  snaps_along p None g k t fit = same_turns i.pos used k p _ _ (ap said.Fault (refusal_same no_refresh 0 g k (twins_alike h i ok is g k t).places)) fit
  snaps_along p (Some c) g k t fit = subst (λ q. SameTurn i.pos used k (snap_turn p c (taken_of g c q)) (snap_turn p c (snapshot_taken c k))) (sym ((twins_alike h i ok is g k t).refreshes c)) (snap_as p c g k t (pending k c) fit refl)

  unfinished_same : (code : ℕ) (g k : History) (q : Pending) → position g ≡ position k → unfinished_refusal code g q ≡ unfinished_refusal code k q
  unfinished_same code g k (Waiting n) e = refusal_same code 0 g k e
  unfinished_same code g k (Finished f) e = refusal_same no_refresh f g k e
  unfinished_same code g k Unknown e = refusal_same no_refresh 0 g k e

  finish_said : (p : Places) (c at : ℕ) (l : History) (r : Result ℕ Refusal) → PlacesFit i.pos used l p → SameTurn i.pos used l (finish_turn p c at r) (finish_turn p c at r)
  finish_said p c at l (Ok n) fit = record { places = refl; said = refl; fit = record { block = fit.block; held = gone_held i.pos l p.held c fit.held } }
  finish_said p c at l (Err r) fit = same_said i.pos used l p (said.Fault r) fit

  held_along : (p : Places) (c : ℕ) (o : Option ℕ) (g k : History) (t : Twins h i g k) → PlacesFit i.pos used k p → held_for c p.held ≡ o → TurnsAlong i.pos used g k (finishes_held p g c o) (finishes_held p k c o)
  held_along p c None g k t fit e =
      let alike = twins_alike h i ok is g k t in
      along_ends (SameTurn i.pos used) g k _ _ t.allowed
      (same_turns i.pos used k p _ _ (ap said.Fault (ap (unfinished_refusal no_snapshot g) (alike.refreshes c) ∙ unfinished_same no_snapshot g k (pending k c) alike.places)) fit)
  held_along p c (Some at) g k t fit e =
      along_call (SameTurn i.pos used) g k (act_of_finish c at g) (act_of_finish c at k) (finish_turn p c at) (alike_answers.finishes c at g k (twins_alike h i ok is g k t)) t.allowed
      (finish_allowed i.pos k c at (twins_base h i g k t) (held_there i.pos k p.held c at fit.held e))
      (λ es r. finish_said p c at (k ▸▸ es) r (fit_on i.pos used k es p few fit))

  pub finishes_along : (p : Places) (o : Option ℕ) (g k : History) (t : Twins h i g k) → PlacesFit i.pos used k p → TurnsAlong i.pos used g k (finishes p g o) (finishes p k o)
  finishes_along p None g k t fit = along_ends (SameTurn i.pos used) g k _ _ t.allowed (same_turns i.pos used k p _ _ (ap said.Fault (refusal_same no_refresh 0 g k (twins_alike h i ok is g k t).places)) fit)
  finishes_along p (Some c) g k t fit = held_along p c (held_for c p.held) g k t fit refl
