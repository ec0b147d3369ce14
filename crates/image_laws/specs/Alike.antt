-- Histories that are alike: from now on, both have the same answers.
use Rattle.std.specs.Prelude.{◌≡◌, ℕ, ◌≤◌, Bool, true, false, ◌&&◌, nat_le, List, [], ◌∷◌, ℤ, Option, Some, None}
use Rattle.ts_bucket.specs.Bucket.{is_bucket}
use Rattle.ts_model.specs.declared.events.Event.{Event}
use Rattle.ts_model.specs.declared.events.Event.TheVariants.{Built}
use Rattle.ts_model.specs.declared.events.Op.{Op}
use Rattle.ts_model.specs.declared.images.Image.{Image}
use Rattle.ts_model.specs.declared.queries.Query.{Query}
use Rattle.ts_model.specs.declared.tables.Hyper.{Hyper as HyperInfo}
use Rattle.ts_model.specs.declared.tables.TableDef.{TableDef}
use Rattle.ts_model.specs.declared.views.ViewDef.{ViewDef}
use Rattle.ts_model.specs.History.{History, resumed, ◌▸◌, ◌▸▸◌, position}
use Rattle.ts_model.specs.Roster.{IsOf, roster, view_of}
use Rattle.ts_model.specs.Rows.{rows}
use Rattle.ts_model.specs.Groups.{groups_at}
use Rattle.ts_model.specs.Pending.{is_waiting, pending}
use Rattle.ts_model.specs.Refreshes.{span_of_cut, last, touched, watermark}
use Rattle.ts_model.specs.Answers.{answer, with_queue}
use Rattle.ts_model.specs.Windows.{window}
use Rattle.ts_model.specs.Allowed.{all_allowed}
use Rattle.ts_model.specs.Calls.{making_table, making_hyper, making_view, setting_mode, act_of_commit, act_of_cut, act_of_finish}

-- two histories agree on an aggregate: its watermark, the last refresh of each bucket, whether the bucket was
-- touched after it, and what it stored in a touched bucket
pub record AlikeView (n : ℕ) (def : ViewDef) (g h : History) : Type 0 where
  pub marks : watermark n def g ≡ watermark n def h
  pub lasts : (b : ℤ) → is_bucket def.fold.width b ≡ true → last n g b ≡ last n h b
  pub touches : (b : ℤ) (s : ℕ) → is_bucket def.fold.width b ≡ true → last n g b ≡ Some s
      → touched n def g b s ≡ touched n def h b s
  pub left : (b : ℤ) (s : ℕ) → is_bucket def.fold.width b ≡ true → last n g b ≡ Some s → touched n def g b s ≡ true
      → groups_at n def g s b ≡ groups_at n def h s b

-- two histories are alike
pub record Alike (g h : History) : Type 0 where
  pub places : position g ≡ position h
  pub relations : roster g ≡ roster h
  pub stored : (t : ℕ) → rows t g ≡ rows t h
  pub refreshes : (k : ℕ) → pending g k ≡ pending h k
  -- the span of each pending refresh
  pub spans : (n k : ℕ) → is_waiting (pending g k) ≡ true → span_of_cut n g k ≡ span_of_cut n h k
  pub views : (n : ℕ) (def : ViewDef) → IsOf def (view_of (roster g) n) → AlikeView n def g h

-- the snapshot of a finish is at or above a position
abbrev pub is_from : ℕ → Event → Bool
is_from p (Built cut snap) = nat_le p snap
is_from p e = true

abbrev pub are_from : ℕ → List Event → Bool
are_from p [] = true
are_from p (e ∷ es) = is_from p e && are_from p es

-- a history that is alike to one that consists of an image stays alike to it under the same events. These are
-- allowed after the image if and only if they are allowed after the history and no snapshot is below the image
pub record AlikeStays : Type 0 where
  pub allowed :
      (h : History) (i : Image) (es : List Event) → all_allowed h ≡ true → all_allowed (resumed i) ≡ true
      → Alike h (resumed i)
      → all_allowed (resumed i ▸▸ es) ≡ (all_allowed (h ▸▸ es) && are_from i.pos es)
  pub alike :
      (h : History) (i : Image) (es : List Event) → all_allowed h ≡ true → all_allowed (resumed i ▸▸ es) ≡ true
      → Alike h (resumed i) → Alike (h ▸▸ es) (resumed i ▸▸ es)
  -- so do histories with a queue on top, even if there is no room to commit it
  pub queued : (g h : History) (ops : List Op) → all_allowed g ≡ true → all_allowed h ≡ true → Alike g h
      → Alike (with_queue ops g) (with_queue ops h)

-- alike histories have the same answers and windows, and each call does the same at both
pub record AlikeAnswers : Type 0 where
  pub answers : (query : Query) (g h : History) → Alike g h → answer query g ≡ answer query h
  pub windows :
      (n : ℕ) (def : ViewDef) (lo hi : Option ℤ) (g h : History) → Alike g h → view_of (roster g) n ≡ Some def
      → window n def g lo hi ≡ window n def h lo hi
  pub tables : (def : TableDef) (g h : History) → Alike g h → making_table def g ≡ making_table def h
  pub hypers :
      (t : ℕ) (hyper : HyperInfo) (g h : History) → Alike g h → making_hyper t hyper g ≡ making_hyper t hyper h
  pub views_made : (def : ViewDef) (g h : History) → Alike g h → making_view def g ≡ making_view def h
  pub modes : (n : ℕ) (only : Bool) (g h : History) → Alike g h → setting_mode n only g ≡ setting_mode n only h
  pub commits : (ops : List Op) (g h : History) → Alike g h → act_of_commit ops g ≡ act_of_commit ops h
  pub cuts : (n : ℕ) (lo hi : Option ℤ) (g h : History) → Alike g h → act_of_cut n lo hi g ≡ act_of_cut n lo hi h
  pub finishes : (cut snap : ℕ) (g h : History) → Alike g h → act_of_finish cut snap g ≡ act_of_finish cut snap h
