-- What statements do to a history and to its image.
use Rattle.std.proofs.Common.{◌≡◌, ℕ, ◌+◌, ◌≤◌, Bool, true, false, List, [], ◌∷◌, ◌++◌, length, None, ℤ, sym, ap, subst, arith}
use Rattle.std.specs.Prelude.{Result, Ok, Err}
use Rattle.ts_bucket.specs.Bucket.{first_of}
use Rattle.ts_model.specs.declared.events.Event.{Event}
use Rattle.ts_model.specs.declared.events.Event.TheVariants.{Commit}
use Rattle.ts_model.specs.declared.events.Op.{Op}
use Rattle.ts_model.specs.declared.images.Image.{Image}
use Rattle.ts_model.specs.declared.outcomes.Committed.{Committed}
use Rattle.ts_model.specs.declared.outcomes.CutDone.{CutDone}
use Rattle.ts_model.specs.declared.outcomes.CutDone.TheVariants.{Cut as CutMade, Nothing as NothingDone}
use Rattle.ts_model.specs.declared.outcomes.Refusal.{Refusal}
use Rattle.ts_model.specs.declared.rosters.Roster.{Roster}
use Rattle.ts_model.specs.declared.views.ViewDef.{ViewDef}
use Rattle.ts_model.specs.Allowed.{all_allowed}
use Rattle.ts_model.specs.Calls.{act_of_commit, act_of_cut, making_hyper, making_table, making_view, setting_mode}
use Rattle.ts_model.specs.History.{History, ◌▸▸◌, position}
use Rattle.ts_model.specs.Roster.{roster, view_of}
use Rattle.ts_model.specs.Sound.{sound}
use Rattle.ts_model.proofs.AllowedLaws.{consistent_of}
use Rattle.ts_model.proofs.HistoryLaws.{begins_followed}
use Rattle.ts_model.proofs.MadeLaws.{calls_make_allowed}
use Rattle.image_laws.specs.Alike.{Alike}
use Rattle.image_laws.specs.Images.{IsImage}
use Rattle.image_laws.proofs.AlikeAnswers.{alike_answers}
use Rattle.stmt_syntax.specs.Limits.{longest_input}
use Rattle.stmt_check.specs.declared.actions.Action.{Action}
use Rattle.stmt_check.specs.declared.actions.Action.TheVariants as actions
use Rattle.stmt_check.specs.Sound.{IsOperation, IsSound}
use Rattle.stmt_check.proofs.QueueLaws.{queues_are_sound}
use Rattle.result_text.specs.declared.replies.Said.{Said}
use Rattle.result_text.specs.declared.replies.Said.TheVariants as said
use Rattle.ts_sessions.specs.Places.{Block, none, writing, reading, Places, Turn, cuts, enters, turns}
use Rattle.ts_sessions.specs.Procedures.{Procedure, ends, ending_as, followed_by, tries_at}
use Rattle.ts_sessions.specs.Step.{acts, answers, after_cut, after_line, after_view, calendar_plan, changes, closes, commits, turn_of_commit, cut_turn, given_up, least_start, plan_of, refresh_meant, refreshes, turn_of_line, unit_of, view_made}
use Rattle.image_runs.proofs.AskLaws.{answers_along}
use Rattle.image_runs.proofs.CallLaws.{SameTurn, TurnsAlong, cut_first, finishes_along, now_from, refresh_along, same_said, snaps_along}
use Rattle.image_runs.proofs.PlaceLaws.{BlockFits, PlacesFit, places_on}
use Rattle.image_runs.proofs.TwinLaws.{Same, Twins, along_as, along_call, along_ends, along_then, along_tries, twins_alike, twins_allowed, twins_base, twins_on}

module _ (h : History) (i : Image) (ok : all_allowed h ≡ true) (is : IsImage h i) (used bytes : ℕ) (few : used + bytes ≤ longest_input) (p : Places) (g k : History) (t : Twins h i g k) (fit : PlacesFit i.pos used k p) where
  -- the session has the same turn at both histories
  abbrev Along : Procedure (Turn Places) → Procedure (Turn Places) → Type 0
  Along d e = TurnsAlong i.pos (used + bytes) g k d e

  -- a turn without events
  quiet : (x y : Turn Places) → SameTurn i.pos (used + bytes) k x y → Along (ends x) (ends y)
  quiet x y same_turn = along_ends (SameTurn i.pos (used + bytes)) g k x y t.allowed same_turn

  alike : Alike g k
  alike = twins_alike h i ok is g k t

  -- the session state still fits later
  later : (es : List Event) → PlacesFit i.pos (used + bytes) (k ▸▸ es) p
  later es = places_on i.pos used (used + bytes) k (k ▸▸ es) p (begins_followed k es) (omega arith) (omega (arith, few)) fit

  now : PlacesFit i.pos (used + bytes) k p
  now = later []

  -- a session state in another block
  entered : (l : History) (b : Block) → BlockFits i.pos (used + bytes) l b → PlacesFit i.pos (used + bytes) l p → PlacesFit i.pos (used + bytes) l (enters b p)
  entered l b block f = record { block = block; held = f.held }

  -- the end of a turn without events
  ended : (q : Places) (s : Said) → PlacesFit i.pos (used + bytes) k q → Along (ends (turns q s)) (ends (turns q s))
  ended q s f = quiet _ _ (same_said i.pos (used + bytes) k q s f)

  -- ---- replies to calls

  reported_same : {A : Type 0} (line : A → Said) (es : List Event) (r : Result A Refusal) → SameTurn i.pos (used + bytes) (k ▸▸ es) (turn_of_line p line r) (turn_of_line p line r)
  reported_same line es (Ok a) = same_said i.pos (used + bytes) (k ▸▸ es) p (line a) (later es)
  reported_same line es (Err r) = same_said i.pos (used + bytes) (k ▸▸ es) p (said.Fault r) (later es)

  cut_said : (min : ℤ) (es : List Event) (r : Result CutDone Refusal) → SameTurn i.pos (used + bytes) (k ▸▸ es) (cut_turn p min r) (cut_turn p min r)
  cut_said min es (Ok (CutMade c span)) = same_said i.pos (used + bytes) (k ▸▸ es) (cuts c p) (said.Cut c span min) (record { block = (later es).block; held = (later es).held })
  cut_said min es (Ok (NothingDone at)) = same_said i.pos (used + bytes) (k ▸▸ es) p (said.Nothing at) (later es)
  cut_said min es (Err r) = same_said i.pos (used + bytes) (k ▸▸ es) p (said.Fault r) (later es)

  commits_said : (after : Places) → ((es : List Event) → PlacesFit i.pos (used + bytes) (k ▸▸ es) after) → (es : List Event) (r : Result Committed Refusal) → SameTurn i.pos (used + bytes) (k ▸▸ es) (turn_of_commit p after r) (turn_of_commit p after r)
  commits_said after f es (Ok done) = same_said i.pos (used + bytes) (k ▸▸ es) after (said.Commit done) (f es)
  commits_said after f es (Err r) = same_said i.pos (used + bytes) (k ▸▸ es) p (said.Fault r) (later es)

  -- ---- operations

  commits_along : (after : Places) (ops : List Op) → ((es : List Event) → PlacesFit i.pos (used + bytes) (k ▸▸ es) after) → sound k (Commit ops) ≡ true → Along (commits p after g ops) (commits p after k ops)
  commits_along after ops f s = along_call (SameTurn i.pos (used + bytes)) g k (act_of_commit ops g) (act_of_commit ops k) (turn_of_commit p after) (alike_answers.commits ops g k alike) t.allowed (calls_make_allowed.commits ops k s) (commits_said after f)

  changes_along : (op : Op) (b : Block) → BlockFits i.pos used k b → IsOperation k bytes op → Along (changes p bytes g op b) (changes p bytes k op b)
  changes_along op none f s = commits_along p (op ∷ []) later s.event.is_sound
  changes_along op (writing ops n) f s = ended _ said.Queued (entered k (writing (ops ++ op ∷ []) (n + bytes)) (queues_are_sound.grows k n bytes ops op f.0 s, omega (arith, f.1)) now)
  changes_along op (reading at) f s = commits_along p (op ∷ []) later s.event.is_sound

  closes_along : (b : Block) → BlockFits i.pos used k b → Along (closes p g b) (closes p k b)
  closes_along none f = ended _ said.End (entered k none tt now)
  closes_along (writing [] n) f = ended _ said.CommitEmpty (entered k none tt now)
  closes_along (writing (op ∷ ops) n) f =
      let may = queues_are_sound.commits k n (op ∷ ops) f.0 (omega arith) (omega (arith, f.1, few)) in
      commits_along (enters none p) (op ∷ ops) (λ es. entered (k ▸▸ es) none tt (later es)) may.is_sound
  closes_along (reading at) f = ended _ said.End (entered k none tt now)

  -- ---- aggregates

  line_first : (s : Said) (l : History) (x y : Turn Places) → SameTurn i.pos (used + bytes) l x y → SameTurn i.pos (used + bytes) l (after_line s x) (after_line s y)
  line_first s l x y e = record { places = e.places; said = ap (λ z. s ∷ z) e.said; fit = e.fit }

  filled_along : (es : List Event) (n : ℕ) (min : ℤ) (v : ℕ) (filled : Bool) → all_allowed (k ▸▸ es) ≡ true → TurnsAlong i.pos (used + bytes) (g ▸▸ es) (k ▸▸ es) (view_made p n min v filled) (view_made p n min v filled)
  filled_along es n min v false allowed = along_ends (SameTurn i.pos (used + bytes)) (g ▸▸ es) (k ▸▸ es) _ _ allowed (same_said i.pos (used + bytes) (k ▸▸ es) p (said.View v) (later es))
  filled_along es n min v true allowed =
      along_as (SameTurn i.pos (used + bytes)) (SameTurn i.pos (used + bytes)) (g ▸▸ es) (k ▸▸ es) (refreshes p n None None min) (refreshes p n None None min) (after_line (said.View v)) (after_line (said.View v))
      (refresh_along h i ok is (used + bytes) few p n min (g ▸▸ es) (k ▸▸ es) (twins_on h i g k es t allowed) (later es))
      (λ fs x y e. line_first (said.View v) ((k ▸▸ es) ▸▸ fs) x y e)

  view_along : (es : List Event) (n : ℕ) (def : ViewDef) (filled : Bool) (r : Result ℕ Refusal) → all_allowed (k ▸▸ es) ≡ true → TurnsAlong i.pos (used + bytes) (g ▸▸ es) (k ▸▸ es) (after_view p n def filled r) (after_view p n def filled r)
  view_along es n def filled (Ok v) allowed = filled_along es n (first_of def.fold.width) v filled allowed
  view_along es n def filled (Err r) allowed = along_ends (SameTurn i.pos (used + bytes)) (g ▸▸ es) (k ▸▸ es) _ _ allowed (same_said i.pos (used + bytes) (k ▸▸ es) p (said.Fault r) (later es))

  -- ---- actions

  -- a procedure that depends only on the roster is the same
  by_roster : (d : Roster → Procedure (Turn Places)) (e : Procedure (Turn Places)) → Along (d (roster k)) e → Along (d (roster g)) e
  by_roster d e a = subst (λ r. Along (d r) e) (sym alike.relations) a

  pub acts_along : (a : Action) → IsSound k bytes a → Along (acts p bytes g a) (acts p bytes k a)
  acts_along (actions.Table def) s = along_call (SameTurn i.pos (used + bytes)) g k (making_table def g) (making_table def k) (turn_of_line p said.Table) (alike_answers.tables def g k alike) t.allowed (calls_make_allowed.tables def k s.is_sound) (reported_same said.Table)
  acts_along (actions.Hyper n hyper) s = along_call (SameTurn i.pos (used + bytes)) g k (making_hyper n hyper g) (making_hyper n hyper k) (turn_of_line p said.Hypertable) (alike_answers.hypers n hyper g k alike) t.allowed (calls_make_allowed.hypers n hyper k s.is_sound) (reported_same said.Hypertable)
  acts_along (actions.View def filled) s =
      by_roster (λ r. followed_by (tries_at g (making_view def g)) (after_view p (length r.views) def filled)) _
      (along_then Same (SameTurn i.pos (used + bytes)) g k (tries_at g (making_view def g)) (tries_at k (making_view def k)) (after_view p (length (roster k).views) def filled) (after_view p (length (roster k).views) def filled)
      (along_tries g k (making_view def g) (making_view def k) (alike_answers.views_made def g k alike) t.allowed (calls_make_allowed.views def k s.event.is_sound))
      (λ es a b allowed e. subst (λ x. TurnsAlong i.pos (used + bytes) (g ▸▸ es) (k ▸▸ es) (after_view p (length (roster k).views) def filled x) (after_view p (length (roster k).views) def filled b)) (sym e) (view_along es (length (roster k).views) def filled b allowed)))
  acts_along (actions.Mode n only) s = along_call (SameTurn i.pos (used + bytes)) g k (setting_mode n only g) (setting_mode n only k) (turn_of_line p said.Mode) (alike_answers.modes n only g k alike) t.allowed (calls_make_allowed.modes n only k s.is_sound) (reported_same said.Mode)
  acts_along (actions.Change op) s = changes_along op p.block fit.block s
  acts_along (actions.Refresh n lo hi) s =
      by_roster (λ r. followed_by (tries_at g (act_of_cut n lo hi g)) (after_cut p (least_start (view_of r n)))) _
      (cut_first h i ok is (used + bytes) few p n lo hi (least_start (view_of (roster k) n)) g k t now s.high)
  acts_along (actions.Cut n lo hi) s =
      by_roster (λ r. ending_as (cut_turn p (least_start (view_of r n))) (tries_at g (act_of_cut n lo hi g))) _
      (along_call (SameTurn i.pos (used + bytes)) g k (act_of_cut n lo hi g) (act_of_cut n lo hi k) (cut_turn p (least_start (view_of (roster k) n))) (alike_answers.cuts n lo hi g k alike) t.allowed (calls_make_allowed.cuts n lo hi k (consistent_of k t.allowed) s.high) (cut_said (least_start (view_of (roster k) n))))
  acts_along (actions.Snap cut) s = quiet _ _ (snaps_along h i ok is (used + bytes) few p (refresh_meant p cut) g k t now)
  acts_along (actions.Finish cut) s = finishes_along h i ok is (used + bytes) few p (refresh_meant p cut) g k t now
  acts_along actions.Begin s = ended _ said.Begin (entered k (writing [] 0) (queues_are_sound.begins k, omega arith) now)
  acts_along actions.BeginRead s = quiet _ _ (record {
    places = ap (λ at. enters (reading at) p) alike.places;
    said = ap (λ at. said.BeginRead at ∷ []) alike.places;
    fit = entered k (reading (position k)) (now_from i.pos k (twins_base h i g k t)) now;
  })
  acts_along actions.Commit s = closes_along p.block fit.block
  acts_along actions.Rollback s = ended _ (given_up p.block) (entered k none tt now)
  acts_along (actions.Ask q) s =
      by_roster (λ r. ends (answers p g (plan_of r q))) _
      (quiet _ _ (answers_along i.pos (used + bytes) p (plan_of (roster k) q) g k k alike (twins_allowed h i ok is g k t) t.allowed now))
  acts_along (actions.Calendar n number unit at fold) s = quiet _ _ (answers_along i.pos (used + bytes) p (calendar_plan n (record { number = number; unit = unit_of unit; at = at; fold = fold })) g k k alike (twins_allowed h i ok is g k t) t.allowed now)
