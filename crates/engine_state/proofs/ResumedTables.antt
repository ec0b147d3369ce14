-- Hypertables of a history that begins with an image.
use Rattle.std.proofs.Common.{◌≡◌, ℕ, zero, suc, ◌+◌, ◌<◌, ◌≤◌, Bool, true, false, cond, nat_le, ◌==◌, List, [], ◌∷◌, ◌++◌, length, take, get_or, add-one, ℤ, Option, Some, None, sym, refl, ap, ◌∙◌, subst, arith, append_assoc}
use Rattle.std.specs.List.{list_all}
use Rattle.std.proofs.lemmas.Bool.{true≢false, and_parts, and_from, le-leb, leb-true}
use Rattle.std.proofs.lemmas.List.{append-nil}
use Rattle.ts_bucket.specs.Bucket.{is_time}
use Rattle.ts_num.specs.Aggregates.{greater}
use Rattle.ts_num.proofs.EndLaws.{greater_assoc}
use Rattle.ts_schema.specs.declared.rows.Row.{Row}
use Rattle.seg_rows.specs.Versions.{Version, rows_of}
use Rattle.chunk_catalog.specs.Chunks.{ChunksValue, HaveTimes}
use Rattle.inval_log.specs.declared.entries.Entry.{Entry}
use Rattle.ts_model.specs.declared.events.Event.{Event}
use Rattle.ts_model.specs.declared.events.Event.TheVariants.{Table, Hyper, View, Mode, Commit, Cut, Built}
use Rattle.ts_model.specs.declared.events.Op.{Op}
use Rattle.ts_model.specs.declared.events.Op.TheVariants.{Insert, Delete}
use Rattle.ts_model.specs.declared.images.Image.{Image}
use Rattle.ts_model.specs.declared.images.SavedLast.{SavedLast}
use Rattle.ts_model.specs.declared.refreshes.Waiting.{Waiting as WaitingRefresh}
use Rattle.ts_model.specs.declared.rosters.Roster.{Roster}
use Rattle.ts_model.specs.declared.tables.Hyper.{Hyper as HyperInfo}
use Rattle.ts_model.specs.History.{resumed}
use Rattle.ts_model.specs.Refreshes.{is_over, waiting_end}
use Rattle.ts_model.specs.Roster.{view_of}
use Rattle.ts_model.specs.Rows.{after_ops, in_order, with_rows}
use Rattle.ts_model.specs.Effect.{all_appended}
use Rattle.ts_model.specs.Saved.{appended_over, last_hi}
use Rattle.ts_model.specs.Valid.{image_roster, valid}
use Rattle.ts_model.proofs.RowLaws.{in_order-append, in_order-append_swap, same_before}
use Rattle.ts_model.proofs.ValidLaws.{valid_is}
use Rattle.base_image.specs.Held.{is_timed}
use Rattle.base_image.proofs.HeldLaws.{held_timed}
use Rattle.row_versions.specs.Tables.{Follows, IsUpTo, is_up_to, died_by}
use Rattle.engine_state.specs.Notes.{LogStands}
use Rattle.engine_state.specs.Resumed.{IsHeld}
use Rattle.engine_state.specs.Tables.{TableStands, TableValue}

-- ---- events that insert rows

pub over_cons : (t : ℕ) (d : Event) (ds : List Event) → appended_over t (d ∷ ds) ≡ appended_over t (d ∷ []) ++ appended_over t ds
over_cons t (Table def) ds = refl
over_cons t (Hyper u hyper) ds = refl
over_cons t (View def) ds = refl
over_cons t (Mode v only) ds = refl
over_cons t (Commit ops) ds = ap (λ xs. xs ++ appended_over t ds) (sym (append-nil (all_appended t ops)))
over_cons t (Cut v span) ds = refl
over_cons t (Built cut snap) ds = refl

-- one more event
pub over_more : (t : ℕ) (es : List Event) (i : ℕ) (e : Event) → i < length es → e ≡ get_or es i e → appended_over t (take i es) ++ appended_over t (e ∷ []) ≡ appended_over t (take (i + 1) es)
over_more t es i e l is = sym (step es i l is) ∙ ap (λ n. appended_over t (take n es)) (sym (add-one i))
  where
    step : (es : List Event) (i : ℕ) → i < length es → e ≡ get_or es i e → appended_over t (take (suc i) es) ≡ appended_over t (take i es) ++ appended_over t (e ∷ [])
    step [] i l is = absurd (omega arith)
    step (d ∷ ds) zero l is = ap (λ (x : Event). appended_over t (x ∷ [])) (sym is)
    step (d ∷ ds) (suc i) l is =
        over_cons t d (take (suc i) ds)
        ∙ ap (λ xs. appended_over t (d ∷ []) ++ xs) (step ds i (omega arith) is)
        ∙ sym (append_assoc (appended_over t (d ∷ [])) (appended_over t (take i ds)) (appended_over t (e ∷ [])))
        ∙ ap (λ xs. xs ++ appended_over t (e ∷ [])) (sym (over_cons t d (take i ds)))

-- a commit of an insert appends rows of times
pub times_appended : (t : ℕ) (ops : List Op) → is_timed (Commit ops) ≡ true → HaveTimes (all_appended t ops)
times_appended t [] e = absurd (true≢false (sym e))
times_appended t (Insert u new ∷ []) e =
    elim (u == t) as (λ b. list_all (λ row. is_time row.at) (cond b new [] ++ []) ≡ true) [
      | true ↦ ap (list_all (λ row. is_time row.at)) (append-nil new) ∙ e
      | false ↦ refl
    ]
times_appended t (Delete u tests ∷ []) e = absurd (true≢false (sym e))
times_appended t (op ∷ other ∷ ops) e = absurd (true≢false (sym e))

inserted_rows : (t u : ℕ) (new xs : List Row) → after_ops t (Insert u new ∷ []) (in_order xs) ≡ in_order (xs ++ all_appended t (Insert u new ∷ []))
inserted_rows t u new xs =
    elim (u == t) as (λ b. cond b (with_rows new (in_order xs)) (in_order xs) ≡ in_order (xs ++ (cond b new [] ++ []))) [
      | true ↦ sym (ap (λ ys. in_order (xs ++ ys)) (append-nil new) ∙ in_order-append_swap xs new ∙ in_order-append new xs)
      | false ↦ ap in_order (sym (append-nil xs))
    ]

-- a table that holds rows since the first position, after such a commit at that position
pub held_next : (t : ℕ) (ops : List Op) (rows : List Row) (old made : ChunksValue) → is_timed (Commit ops) ≡ true → IsHeld rows old → Follows t ops 0 old made → IsHeld (rows ++ appended_over t (Commit ops ∷ [])) made
held_next t [] rows old made e held f = absurd (true≢false (sym e))
held_next t (Delete u tests ∷ []) rows old made e held f = absurd (true≢false (sym e))
held_next t (op ∷ other ∷ ops) rows old made e held f = absurd (true≢false (sym e))
held_next t (Insert u new ∷ []) rows old made e held f =
    let one : all_appended t (Insert u new ∷ []) ≡ appended_over t (Commit (Insert u new ∷ []) ∷ []) = sym (append-nil (all_appended t (Insert u new ∷ []))) in
    record {
      seen = λ q. f.later q (omega arith) ∙ ap (after_ops t (Insert u new ∷ [])) (held.seen q) ∙ inserted_rows t u new rows ∙ ap (λ xs. in_order (rows ++ xs)) one;
      stored = f.stored ∙ same_before (rows_of old.versions) rows (all_appended t (Insert u new ∷ [])) held.stored ∙ ap (λ xs. in_order (rows ++ xs)) one;
      up_to = f.up_to;
    }

-- no other event inserts rows
pub not_timed : {A : Type 0} (e d : Event) → e ≡ d → is_timed d ≡ false → is_timed e ≡ true → A
not_timed e d is none timed = absurd (true≢false (sym timed ∙ ap is_timed is ∙ none))

-- a table without rows holds none
pub held_none : (table : ChunksValue) → table.versions ≡ [] → IsHeld [] table
held_none table none = record {
  seen = λ q. ap (λ (vs : List Version). in_order (Rattle.row_versions.specs.Tables.visible_rows q vs)) none;
  stored = ap (λ (vs : List Version). in_order (rows_of vs)) none;
  up_to = ap (list_all (is_up_to 0)) none;
}

-- the commits of a valid image insert rows of times
pub image_timed : (i : Image) → valid i ≡ true → list_all is_timed i.rows ≡ true
image_timed i ok = held_timed (image_roster i) 0 i.rows (valid_is i ok).rows

pub all_at : {X : Type 0} (p : X → Bool) (xs : List X) (i : ℕ) (x : X) → list_all p xs ≡ true → i < length xs → x ≡ get_or xs i x → p x ≡ true
all_at p [] i x all l is = absurd (omega arith)
all_at p (y ∷ ys) zero x all l is = subst (λ z. p z ≡ true) (sym is) (and_parts (p y) (list_all p ys) all).0
all_at p (y ∷ ys) (suc i) x all l is = all_at p ys i x (and_parts (p y) (list_all p ys) all).1 (omega arith) is

-- ---- the state of a table

up_to_more : (p : ℕ) (vs : List Version) → IsUpTo 0 vs → IsUpTo p vs
up_to_more p [] e = refl
up_to_more p (v ∷ vs) e =
    let parts = and_parts (is_up_to 0 v) (list_all (is_up_to 0) vs) e in
    let own = and_parts (nat_le v.born 0) (died_by 0 v.died) parts.0 in
    and_from _ _ (and_from _ _ (more v.born own.0) (died v.died own.1)) (up_to_more p vs parts.1)
  where
    more : (n : ℕ) → nat_le n 0 ≡ true → nat_le n p ≡ true
    more n e = let l : n ≤ 0 = leb-true n 0 e in le-leb n p (omega arith)

    died : (d : Option ℕ) → died_by 0 d ≡ true → died_by p d ≡ true
    died None e = refl
    died (Some n) e = more n e

pub table_resumed : (i : Image) (t : ℕ) (hyper : HyperInfo) (table : TableValue) → IsHeld (appended_over t i.rows) table.rows → table.rows.interval ≡ hyper.interval → table.log.entries ≡ [] → TableStands (resumed i) t hyper table
table_resumed i t hyper table held interval empty = record {
  rows = record { seen = held.seen; stored = held.stored; up_to = up_to_more i.pos table.rows.versions held.up_to };
  interval = interval;
  log = subst (λ (es : List Entry). LogStands (resumed i) (record { threshold = table.log.threshold; entries = es; room = table.log.room })) (sym empty)
      (record { times = tt; rising = tt; past = refl });
}

-- ---- ends

greater_none : (a : Option ℤ) → greater a None ≡ a
greater_none None = refl
greater_none (Some x) = refl

-- one more end
pub last_hi_more : (ls : List SavedLast) (i : ℕ) (l : SavedLast) → i < length ls → l ≡ get_or ls i l → greater (last_hi (take i ls)) (Some l.span.hi) ≡ last_hi (take (i + 1) ls)
last_hi_more ls i l less is = step ls i less is ∙ ap (λ n. last_hi (take n ls)) (sym (add-one i))
  where
    step : (ls : List SavedLast) (i : ℕ) → i < length ls → l ≡ get_or ls i l → greater (last_hi (take i ls)) (Some l.span.hi) ≡ last_hi (take (suc i) ls)
    step [] i less is = absurd (omega arith)
    step (m ∷ ms) zero less is = ap (λ (x : SavedLast). Some x.span.hi) is
    step (m ∷ ms) (suc i) less is = greater_assoc (Some m.span.hi) (last_hi (take i ms)) (Some l.span.hi) ∙ ap (greater (Some m.span.hi)) (step ms i (omega arith) is)

pub waiting_end_more : (t : ℕ) (r : Roster) (ws : List WaitingRefresh) (i : ℕ) (w : WaitingRefresh) → i < length ws → w ≡ get_or ws i w → greater (waiting_end t r (take i ws)) (cond (is_over t (view_of r w.view)) (Some w.span.hi) None) ≡ waiting_end t r (take (i + 1) ws)
waiting_end_more t r ws i w less is = step ws i less is ∙ ap (λ n. waiting_end t r (take n ws)) (sym (add-one i))
  where
    one : WaitingRefresh → Option ℤ
    one v = cond (is_over t (view_of r v.view)) (Some v.span.hi) None

    step : (ws : List WaitingRefresh) (i : ℕ) → i < length ws → w ≡ get_or ws i w → greater (waiting_end t r (take i ws)) (one w) ≡ waiting_end t r (take (suc i) ws)
    step [] i less is = absurd (omega arith)
    step (v ∷ vs) zero less is = ap one is ∙ sym (greater_none (one v))
    step (v ∷ vs) (suc i) less is = greater_assoc (one v) (waiting_end t r (take i vs)) (one w) ∙ ap (greater (one v)) (step vs i (omega arith) is)
