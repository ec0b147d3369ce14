-- Alike histories stay alike under the same events.
use Rattle.std.proofs.Common.{◌≡◌, ℕ, suc, ◌<◌, ◌≤◌, Bool, true, false, ◌&&◌, ◌||◌, cond, nat_lt, nat_le, ◌==◌, List, [], ◌∷◌, map, ℤ, Option, Some, None, ◌⊎◌, inl, inr, ⊎_elim, sym, refl, ap, ◌∙◌, subst, arith}
use Rattle.std.proofs.lemmas.Bool.{true≢false, and_parts, and_from, and_left, and_right, or_parts, cond-true, cond-false, le-leb, leb-true, lt-ltb, le-ltb, ltb-true, ltb-false, eqb-true, cases_Bool}
use Rattle.std.proofs.lemmas.Bool.Decides.{nat_tests}
use Rattle.ts_num.specs.Aggregates.{greater}
use Rattle.ts_bucket.specs.Bucket.{is_bucket}
use Rattle.ts_bucket.specs.Positions.{later, is_above}
use Rattle.ts_bucket.specs.declared.spans.Span.{Span}
use Rattle.ts_bucket.proofs.PositionLaws.{is_above-later, is_above-greater, is_above-at}
use Rattle.ts_model.specs.declared.events.Event.{Event}
use Rattle.ts_model.specs.declared.events.Event.TheVariants.{Table, Hyper, View, Mode, Commit, Cut, Built}
use Rattle.ts_model.specs.declared.events.Op.{Op}
use Rattle.ts_model.specs.declared.images.Image.{Image}
use Rattle.ts_model.specs.declared.refreshes.Pending.{Pending}
use Rattle.ts_model.specs.declared.refreshes.Pending.TheVariants.{Waiting, Finished, Unknown}
use Rattle.ts_model.specs.declared.views.ViewDef.{ViewDef}
use Rattle.ts_model.specs.History.{History, start, resumed, ◌▸◌, ◌▸▸◌, position, base_position, prefix}
use Rattle.ts_model.specs.Saved.{is_dirty}
use Rattle.ts_model.specs.Roster.{IsOf, roster_after, roster, view_of}
use Rattle.ts_model.specs.Rows.{after_ops, rows, rows_at}
use Rattle.ts_model.specs.Effect.{hull_of_ops}
use Rattle.ts_model.specs.Groups.{groups_in, groups_at_last, groups_at}
use Rattle.ts_model.specs.Pending.{finished_by, is_waiting, is_known, pending}
use Rattle.ts_model.specs.Refreshes.{span_of_cut, is_covered, is_met, last, touches, last_touch, touched, top_in, top_of, watermark}
use Rattle.ts_model.specs.Allowed.{allowed, all_allowed}
use Rattle.ts_model.specs.Answers.{with_queue}
use Rattle.ts_model.specs.Bytes.{event_bytes}
use Rattle.ts_model.specs.Limits.{bytes_limit, last_position}
use Rattle.ts_model.specs.Sound.{finish_fits, sound_in, sound_at, sound}
use Rattle.ts_model.specs.Timely.{timely_in, timely_at, has_room, timely}
use Rattle.image_laws.specs.Alike.{AlikeView, Alike, is_from, are_from, AlikeStays}
use Rattle.ts_model.proofs.HistoryLaws.{begins_followed, prefix_end, prefix_further, base_below}
use Rattle.ts_model.proofs.GroupLaws.{groups_at_is}
use Rattle.ts_model.proofs.RosterLaws.{is_of_before}
use Rattle.ts_model.proofs.AllowedLaws.{allowed_begins, consistent_of, consistent_next, cut_bounded}
use Rattle.ts_model.proofs.RefreshLaws.{later_is, covered_snap, last_bounded, built_bounds}
use Rattle.ts_model.proofs.UntouchedLaws.{untouched_groups}

-- histories that are alike, and have had the same events from position p on
pub record AlikeSince (p : ℕ) (g h : History) : Type 0 where
  pub now : Alike g h
  pub base_g : base_position g ≤ p
  pub base_h : base_position h ≤ p
  pub stored_at : (t s : ℕ) → p ≤ s → rows t (prefix g s) ≡ rows t (prefix h s)
  pub touched_since : (n : ℕ) (def : ViewDef) (b : ℤ) (s : ℕ) → p ≤ s → touched n def g b s ≡ touched n def h b s

-- ---- what one event does

-- a bucket is touched after a position by a commit if it was before, or the commit is after it and touches the
-- bucket
touched_further : (n : ℕ) (def : ViewDef) (h : History) (ops : List Op) (b : ℤ) (s : ℕ) → touched n def (h ▸ Commit ops) b s ≡ (touched n def h b s || is_above s (cond (touches def ops h b) (Some (suc (position h))) None))
touched_further n def h ops b s = is_above-later s (last_touch n def h b) (cond (touches def ops h b) (Some (suc (position h))) None)

same_touches : (def : ViewDef) (ops : List Op) (g h : History) (b : ℤ) → ((t : ℕ) → rows t g ≡ rows t h) → touches def ops g b ≡ touches def ops h b
same_touches def ops g h b e = ap (λ rs. is_met def.fold.width b (hull_of_ops def.table ops rs)) (e def.table)

touched_same : (n : ℕ) (def : ViewDef) (g h : History) (ops : List Op) (b : ℤ) (s : ℕ) → position g ≡ position h → ((t : ℕ) → rows t g ≡ rows t h) → touched n def g b s ≡ touched n def h b s → touched n def (g ▸ Commit ops) b s ≡ touched n def (h ▸ Commit ops) b s
touched_same n def g h ops b s places stored e =
    touched_further n def g ops b s
    ∙ ap (λ t. t || is_above s (cond (touches def ops g b) (Some (suc (position g))) None)) e
    ∙ ap (λ t. touched n def h b s || is_above s (cond t (Some (suc (position g))) None)) (same_touches def ops g h b stored)
    ∙ ap (λ p. touched n def h b s || is_above s (cond (touches def ops h b) (Some (suc p)) None)) places
    ∙ sym (touched_further n def h ops b s)

groups_further : (n : ℕ) (def : ViewDef) (h : History) (e : Event) (s : ℕ) (b : ℤ) → s ≤ position h → groups_at n def (h ▸ e) s b ≡ groups_at n def h s b
groups_further n def h e s b l = ap (λ g. groups_at_last n def g s b) (prefix_further h e s l)

-- the stored groups of a touched bucket, after an event that keeps its last refresh
left_further : (n : ℕ) (def : ViewDef) (g h : History) (e : Event) (b : ℤ) (s : ℕ) → all_allowed g ≡ true → all_allowed h ≡ true → last n g b ≡ Some s → last n h b ≡ Some s → groups_at n def g s b ≡ groups_at n def h s b → groups_at n def (g ▸ e) s b ≡ groups_at n def (h ▸ e) s b
left_further n def g h e b s ok_g ok_h last_g last_h left =
    groups_further n def g e s b (last_bounded n g b s (consistent_of g ok_g) last_g) ∙ left ∙ sym (groups_further n def h e s b (last_bounded n h b s (consistent_of h ok_h) last_h))

-- an event that touches nothing and finishes nothing
record IsQuiet (e : Event) : Type 0 where
  marks : (n : ℕ) (def : ViewDef) (h : History) → watermark n def (h ▸ e) ≡ watermark n def h
  lasts : (n : ℕ) (h : History) (b : ℤ) → last n (h ▸ e) b ≡ last n h b
  touch : (n : ℕ) (def : ViewDef) (h : History) (b : ℤ) → last_touch n def (h ▸ e) b ≡ last_touch n def h b

view_quiet : (n : ℕ) (def : ViewDef) (g h : History) (e : Event) → IsQuiet e → all_allowed g ≡ true → all_allowed h ≡ true → AlikeView n def g h → AlikeView n def (g ▸ e) (h ▸ e)
view_quiet n def g h e q ok_g ok_h v = record {
  marks = q.marks n def g ∙ v.marks ∙ sym (q.marks n def h);
  lasts = λ b bucket. q.lasts n g b ∙ v.lasts b bucket ∙ sym (q.lasts n h b);
  touches = λ b s bucket l.
      ap (is_above s) (q.touch n def g b) ∙ v.touches b s bucket (sym (q.lasts n g b) ∙ l) ∙ sym (ap (is_above s) (q.touch n def h b));
  left = λ b s bucket l t.
      let before : last n g b ≡ Some s = sym (q.lasts n g b) ∙ l in
      left_further n def g h e b s ok_g ok_h before (sym (v.lasts b bucket) ∙ before) (v.left b s bucket before (sym (ap (is_above s) (q.touch n def g b)) ∙ t));
}

view_commit : (n : ℕ) (def : ViewDef) (g h : History) (ops : List Op) → position g ≡ position h → ((t : ℕ) → rows t g ≡ rows t h) → all_allowed g ≡ true → all_allowed h ≡ true → AlikeView n def g h → AlikeView n def (g ▸ Commit ops) (h ▸ Commit ops)
view_commit n def g h ops places stored ok_g ok_h v = record {
  marks = v.marks;
  lasts = v.lasts;
  touches = λ b s bucket l. touched_same n def g h ops b s places stored (v.touches b s bucket l);
  left = λ b s bucket l _. left_further n def g h (Commit ops) b s ok_g ok_h l (sym (v.lasts b bucket) ∙ l) (left_before b s bucket l);
}
  where
    -- a bucket untouched until now has as stored groups its present groups, on both sides
    left_before : (b : ℤ) (s : ℕ) → is_bucket def.fold.width b ≡ true → last n g b ≡ Some s → groups_at n def g s b ≡ groups_at n def h s b
    left_before b s bucket l =
        ⊎_elim
        (λ (t : touched n def g b s ≡ true). v.left b s bucket l t)
        (λ (t : touched n def g b s ≡ false).
        sym (untouched_groups n def g b s t)
        ∙ ap (λ rs. groups_in def.fold rs b) (stored def.table)
        ∙ untouched_groups n def h b s (sym (v.touches b s bucket l) ∙ t))
        (cases_Bool (touched n def g b s))

view_built : (p n : ℕ) (def : ViewDef) (g h : History) (cut snap : ℕ) → AlikeSince p g h → p ≤ snap → all_allowed g ≡ true → all_allowed h ≡ true → span_of_cut n g cut ≡ span_of_cut n h cut → snap ≤ position g → snap ≤ position h → AlikeView n def g h → AlikeView n def (g ▸ Built cut snap) (h ▸ Built cut snap)
view_built p n def g h cut snap a from ok_g ok_h spans bound_g bound_h v = record {
  marks =
      ap (λ m. greater m (top_of def g snap (span_of_cut n g cut))) v.marks
      ∙ ap (λ o. greater (watermark n def h) (top_of def g snap o)) spans
      ∙ ap (greater (watermark n def h)) (same_top (span_of_cut n h cut));
  lasts = new_last;
  touches = λ b s bucket l.
      ⊎_elim
      (λ before. v.touches b s bucket before)
      (λ now. subst (λ k. touched n def g b k ≡ touched n def h b k) (covered_snap _ snap s now).1 (a.touched_since n def b snap from))
      (later_is (last n g b) (cond (is_covered b (span_of_cut n g cut)) (Some snap) None) s l);
  left = λ b s bucket l t.
      ⊎_elim
      (λ before. left_further n def g h (Built cut snap) b s ok_g ok_h before (sym (v.lasts b bucket) ∙ before) (v.left b s bucket before t))
      (λ now. subst (λ k. groups_at n def (g ▸ Built cut snap) k b ≡ groups_at n def (h ▸ Built cut snap) k b) (covered_snap _ snap s now).1 (left_now b))
      (later_is (last n g b) (cond (is_covered b (span_of_cut n g cut)) (Some snap) None) s l);
}
  where
    same_top : (o : Option Span) → top_of def g snap o ≡ top_of def h snap o
    same_top None = refl
    same_top (Some span) = ap (top_in def.fold span) (a.stored_at def.table snap from)

    new_last : (b : ℤ) → is_bucket def.fold.width b ≡ true → last n (g ▸ Built cut snap) b ≡ last n (h ▸ Built cut snap) b
    new_last b bucket =
        ap (λ o. later o (cond (is_covered b (span_of_cut n g cut)) (Some snap) None)) (v.lasts b bucket)
        ∙ ap (λ o. later (last n h b) (cond (is_covered b o) (Some snap) None)) spans

    left_now : (b : ℤ) → groups_at n def (g ▸ Built cut snap) snap b ≡ groups_at n def (h ▸ Built cut snap) snap b
    left_now b =
        let low_g : base_position g ≤ p = a.base_g in
        let low_h : base_position h ≤ p = a.base_h in
        groups_further n def g (Built cut snap) snap b bound_g
        ∙ groups_at_is n def g snap b (omega arith)
        ∙ ap (λ rs. groups_in def.fold rs b) (a.stored_at def.table snap from)
        ∙ sym (groups_at_is n def h snap b (omega arith))
        ∙ sym (groups_further n def h (Built cut snap) snap b bound_h)

-- ---- allowed events

same_sound : (g h : History) (e : Event) → roster g ≡ roster h → sound_in (roster g) e ≡ sound_in (roster h) e
same_sound g h e r = ap (λ x. sound_in x e) r

same_timely : (g h : History) (e : Event) → roster g ≡ roster h → timely_in (roster g) e ≡ timely_in (roster h) e
same_timely g h e r = ap (λ x. timely_in x e) r

same_room : (g h : History) (e : Event) → position g ≡ position h → timely_at g e ≡ timely_at h e → timely g e ≡ timely h e
same_room g h e p t = ap (λ x. x && has_room g) t ∙ ap (λ q. timely_at h e && nat_lt q last_position) p

same_allowed : (g h : History) (e : Event) → (sound_at g e ≡ sound_at h e) → (timely g e ≡ timely h e) → allowed g e ≡ allowed h e
same_allowed g h e s t = ap (λ x. (x && nat_lt (event_bytes e) bytes_limit) && timely g e) s ∙ ap (λ x. sound h e && x) t

finish_same : (p : ℕ) (g h : History) (cut snap : ℕ) → AlikeSince p g h → p ≤ snap → finish_fits g cut snap ≡ finish_fits h cut snap
finish_same p g h cut snap a from =
    let low_g : base_position g ≤ p = a.base_g in
    let low_h : base_position h ≤ p = a.base_h in
    ap (λ q. is_known q && nat_le cut snap && nat_le (base_position g) snap && nat_le snap (position g)) (a.now.refreshes cut)
    ∙ ap (λ t. is_known (pending h cut) && nat_le cut snap && t && nat_le snap (position g)) (le-leb (base_position g) snap (omega arith) ∙ sym (le-leb (base_position h) snap (omega arith)))
    ∙ ap (λ q. is_known (pending h cut) && nat_le cut snap && nat_le (base_position h) snap && nat_le snap q) a.now.places

allowed_same : (p : ℕ) (g h : History) (e : Event) → AlikeSince p g h → is_from p e ≡ true → allowed g e ≡ allowed h e
allowed_same p g h (Built cut snap) a from = same_allowed g h (Built cut snap) (finish_same p g h cut snap a (leb-true p snap from)) (same_room g h (Built cut snap) a.now.places (ap is_waiting (a.now.refreshes cut)))
allowed_same p g h (Table def) a from = same_allowed g h (Table def) (same_sound g h (Table def) a.now.relations) (same_room g h (Table def) a.now.places (same_timely g h (Table def) a.now.relations))
allowed_same p g h (Hyper t hyper) a from = same_allowed g h (Hyper t hyper) (same_sound g h (Hyper t hyper) a.now.relations) (same_room g h (Hyper t hyper) a.now.places (same_timely g h (Hyper t hyper) a.now.relations))
allowed_same p g h (View def) a from = same_allowed g h (View def) (same_sound g h (View def) a.now.relations) (same_room g h (View def) a.now.places (same_timely g h (View def) a.now.relations))
allowed_same p g h (Mode v only) a from = same_allowed g h (Mode v only) (same_sound g h (Mode v only) a.now.relations) (same_room g h (Mode v only) a.now.places refl)
allowed_same p g h (Commit ops) a from = same_allowed g h (Commit ops) (same_sound g h (Commit ops) a.now.relations) (same_room g h (Commit ops) a.now.places refl)
allowed_same p g h (Cut v span) a from = same_allowed g h (Cut v span) (same_sound g h (Cut v span) a.now.relations) (same_room g h (Cut v span) a.now.places refl)

-- ---- refreshes

-- no refresh has a span above the history
pub none_above : (n : ℕ) (h : History) (k : ℕ) → all_allowed h ≡ true → position h < k → span_of_cut n h k ≡ None
none_above n h k ok l = by_span (span_of_cut n h k) refl
  where
    by_span : (o : Option Span) → span_of_cut n h k ≡ o → o ≡ None
    by_span None e = refl
    by_span (Some span) e = absurd (let m : k ≤ position h = cut_bounded n h k span e in let n : k < k = omega arith in omega (arith, n))

pending_same : (g h : History) (e : Event) → position g ≡ position h → ((k : ℕ) → pending g k ≡ pending h k) → (k : ℕ) → pending (g ▸ e) k ≡ pending (h ▸ e) k
pending_same g h (Cut v span) places same k =
    ap (λ q. cond (k == suc (position g)) (Waiting v) q) (same k) ∙ ap (λ q. cond (k == suc q) (Waiting v) (pending h k)) places
pending_same g h (Built cut snap) places same k =
    ap (λ q. cond (k == cut) (finished_by (suc (position g)) q) q) (same k) ∙ ap (λ q. cond (k == cut) (finished_by (suc q) (pending h k)) (pending h k)) places
pending_same g h x places same k = same k

spans_same : (g h : History) (e : Event) → all_allowed g ≡ true → all_allowed h ≡ true → Alike g h → (n k : ℕ) → is_waiting (pending (g ▸ e) k) ≡ true → span_of_cut n (g ▸ e) k ≡ span_of_cut n (h ▸ e) k
spans_same g h (Cut v span) ok_g ok_h a n k waits =
    ap (λ q. cond (k == suc (position g) && v == n) (Some span) q) before
    ∙ ap (λ q. cond (k == suc q && v == n) (Some span) (span_of_cut n h k)) a.places
  where
    before : span_of_cut n g k ≡ span_of_cut n h k
    before =
        elim (k == suc (position g)) as (λ t. (k == suc (position g)) ≡ t → is_waiting (cond t (Waiting v) (pending g k)) ≡ true → span_of_cut n g k ≡ span_of_cut n h k) [
          | true ↦ λ here _.
              let is : k ≡ suc (position g) = eqb-true k (suc (position g)) here in
              let places : position g ≡ position h = a.places in
              none_above n g k ok_g (omega arith) ∙ sym (none_above n h k ok_h (omega arith))
          | false ↦ λ _ w. a.spans n k w
        ] refl waits
spans_same g h (Built cut snap) ok_g ok_h a n k waits =
    elim (k == cut) as (λ t. is_waiting (cond t (finished_by (suc (position g)) (pending g k)) (pending g k)) ≡ true → span_of_cut n g k ≡ span_of_cut n h k) [
      | true ↦ λ w. absurd (true≢false (sym w ∙ finished (pending g k)))
      | false ↦ λ w. a.spans n k w
    ] waits
  where
    finished : (q : Pending) → is_waiting (finished_by (suc (position g)) q) ≡ false
    finished (Waiting m) = refl
    finished (Finished f) = refl
    finished Unknown = refl
spans_same g h x ok_g ok_h a n k waits = a.spans n k waits

-- ---- one event

pub finish_waits : (g : History) (cut snap : ℕ) → allowed g (Built cut snap) ≡ true → is_waiting (pending g cut) ≡ true
finish_waits g cut snap e = (and_parts (is_waiting (pending g cut)) (has_room g) (and_parts (sound g (Built cut snap)) _ e).1).0

views_same : (p : ℕ) (g h : History) (e : Event) → all_allowed (g ▸ e) ≡ true → all_allowed (h ▸ e) ≡ true → is_from p e ≡ true → AlikeSince p g h → (n : ℕ) (def : ViewDef) → AlikeView n def g h → AlikeView n def (g ▸ e) (h ▸ e)
views_same p g h (Commit ops) ok_g ok_h from a n def v = view_commit n def g h ops a.now.places a.now.stored (and_parts (all_allowed g) _ ok_g).0 (and_parts (all_allowed h) _ ok_h).0 v
views_same p g h (Built cut snap) ok_g ok_h from a n def v =
    let parts_g = and_parts (all_allowed g) (allowed g (Built cut snap)) ok_g in
    let parts_h = and_parts (all_allowed h) (allowed h (Built cut snap)) ok_h in
    view_built p n def g h cut snap a (leb-true p snap from) parts_g.0 parts_h.0 (a.now.spans n cut (finish_waits g cut snap parts_g.1)) (built_bounds g cut snap (consistent_next g (Built cut snap) parts_g.1)) (built_bounds h cut snap (consistent_next h (Built cut snap) parts_h.1)) v
views_same p g h (Table made) ok_g ok_h from a n def v = view_quiet n def g h (Table made) (record { marks = λ n def h. refl; lasts = λ n h b. refl; touch = λ n def h b. refl }) (and_parts (all_allowed g) _ ok_g).0 (and_parts (all_allowed h) _ ok_h).0 v
views_same p g h (Hyper t hyper) ok_g ok_h from a n def v = view_quiet n def g h (Hyper t hyper) (record { marks = λ n def h. refl; lasts = λ n h b. refl; touch = λ n def h b. refl }) (and_parts (all_allowed g) _ ok_g).0 (and_parts (all_allowed h) _ ok_h).0 v
views_same p g h (View made) ok_g ok_h from a n def v = view_quiet n def g h (View made) (record { marks = λ n def h. refl; lasts = λ n h b. refl; touch = λ n def h b. refl }) (and_parts (all_allowed g) _ ok_g).0 (and_parts (all_allowed h) _ ok_h).0 v
views_same p g h (Mode m only) ok_g ok_h from a n def v = view_quiet n def g h (Mode m only) (record { marks = λ n def h. refl; lasts = λ n h b. refl; touch = λ n def h b. refl }) (and_parts (all_allowed g) _ ok_g).0 (and_parts (all_allowed h) _ ok_h).0 v
views_same p g h (Cut m span) ok_g ok_h from a n def v = view_quiet n def g h (Cut m span) (record { marks = λ n def h. refl; lasts = λ n h b. refl; touch = λ n def h b. refl }) (and_parts (all_allowed g) _ ok_g).0 (and_parts (all_allowed h) _ ok_h).0 v

stored_same : (g h : History) (e : Event) → ((t : ℕ) → rows t g ≡ rows t h) → (t : ℕ) → rows t (g ▸ e) ≡ rows t (h ▸ e)
stored_same g h (Commit ops) same t = ap (after_ops t ops) (same t)
stored_same g h x same t = same t

since_same : (p : ℕ) (g h : History) (e : Event) → AlikeSince p g h → (n : ℕ) (def : ViewDef) (b : ℤ) (s : ℕ) → p ≤ s → touched n def (g ▸ e) b s ≡ touched n def (h ▸ e) b s
since_same p g h (Commit ops) a n def b s l = touched_same n def g h ops b s a.now.places a.now.stored (a.touched_since n def b s l)
since_same p g h x a n def b s l = a.touched_since n def b s l

pub alike_further : (p : ℕ) (g h : History) (e : Event) → all_allowed (g ▸ e) ≡ true → all_allowed (h ▸ e) ≡ true → is_from p e ≡ true → AlikeSince p g h → AlikeSince p (g ▸ e) (h ▸ e)
alike_further p g h e ok_g ok_h from a =
    let before_g = (and_parts (all_allowed g) (allowed g e) ok_g).0 in
    let before_h = (and_parts (all_allowed h) (allowed h e) ok_h).0 in
    let stored : (t : ℕ) → rows t (g ▸ e) ≡ rows t (h ▸ e) = stored_same g h e a.now.stored in
    record {
      now = record {
        places = ap suc a.now.places;
        relations = ap (λ r. roster_after r e) a.now.relations;
        stored = stored;
        refreshes = pending_same g h e a.now.places a.now.refreshes;
        spans = spans_same g h e before_g before_h a.now;
        views = λ n def is. views_same p g h e ok_g ok_h from a n def (a.now.views n def (is_of_before def g e n is));
      };
      base_g = a.base_g;
      base_h = a.base_h;
      stored_at = λ t s l.
          ap (λ q. rows t (cond (nat_lt q s) (g ▸ e) (prefix g s))) a.now.places
          ∙ elim (nat_lt (position h) s) as (λ c. rows t (cond c (g ▸ e) (prefix g s)) ≡ rows t (cond c (h ▸ e) (prefix h s))) [ true ↦ stored t | false ↦ a.stored_at t s l ];
      touched_since = since_same p g h e a;
    }

-- alike histories stay so with the same commit on top, even one that isn't allowed
pub alike_commit : (g h : History) (ops : List Op) → all_allowed g ≡ true → all_allowed h ≡ true → Alike g h → Alike (g ▸ Commit ops) (h ▸ Commit ops)
alike_commit g h ops ok_g ok_h a = record {
  places = ap suc a.places;
  relations = a.relations;
  stored = stored_same g h (Commit ops) a.stored;
  refreshes = a.refreshes;
  spans = a.spans;
  views = λ n def is. view_commit n def g h ops a.places a.stored ok_g ok_h (a.views n def is);
}

queued : (g h : History) (ops : List Op) → all_allowed g ≡ true → all_allowed h ≡ true → Alike g h → Alike (with_queue ops g) (with_queue ops h)
queued g h [] ok_g ok_h a = a
queued g h (op ∷ ops) ok_g ok_h a = alike_commit g h (op ∷ ops) ok_g ok_h a

-- ---- the beginning

-- an image has nothing touched above it
since_image : (p n : ℕ) (def : ViewDef) (g : History) (i : Image) (b : ℤ) (s : ℕ) → position g ≤ s → i.pos ≤ s → is_above (position g) (last_touch n def g b) ≡ false → touched n def g b s ≡ touched n def (resumed i) b s
since_image p n def g i b s l m e =
    is_above-greater (position g) s (last_touch n def g b) l e
    ∙ sym (elim (is_dirty n i b) as (λ t. is_above s (cond t (Some i.pos) None) ≡ false) [ true ↦ is_above-at s i.pos m | false ↦ refl ])

-- the last touch is not after the history
pub touched_past : (n : ℕ) (def : ViewDef) (h : History) (b : ℤ) → is_above (position h) (last_touch n def h b) ≡ false
touched_past n def start b = refl
touched_past n def (resumed i) b = elim (is_dirty n i b) as (λ t. is_above i.pos (cond t (Some i.pos) None) ≡ false) [ true ↦ is_above-at i.pos i.pos (omega arith) | false ↦ refl ]
touched_past n def (h ▸ Commit ops) b =
    touched_further n def h ops b (suc (position h))
    ∙ ap (λ t. t || is_above (suc (position h)) (cond (touches def ops h b) (Some (suc (position h))) None)) (is_above-greater (position h) (suc (position h)) (last_touch n def h b) (omega arith) (touched_past n def h b))
    ∙ elim (touches def ops h b) as (λ t. is_above (suc (position h)) (cond t (Some (suc (position h))) None) ≡ false) [ true ↦ is_above-at (suc (position h)) (suc (position h)) (omega arith) | false ↦ refl ]
touched_past n def (h ▸ x) b = is_above-greater (position h) (suc (position h)) (last_touch n def h b) (omega arith) (touched_past n def h b)

pub since_start : (g : History) (i : Image) → Alike g (resumed i) → AlikeSince i.pos g (resumed i)
since_start g i a =
    let places : position g ≡ i.pos = a.places in
    record {
      now = a;
      base_g = omega (arith, base_below g);
      base_h = omega arith;
      stored_at = λ t s l. ap (rows t) (prefix_end g s (omega arith)) ∙ a.stored t;
      touched_since = λ n def b s l. since_image i.pos n def g i b s (omega arith) l (touched_past n def g b);
    }

-- ---- many events

never_allowed : (h : History) (es : List Event) → all_allowed h ≡ false → all_allowed (h ▸▸ es) ≡ false
never_allowed h es e = by_case (all_allowed (h ▸▸ es)) refl
  where
    by_case : (t : Bool) → all_allowed (h ▸▸ es) ≡ t → t ≡ false
    by_case true ok = absurd (true≢false (sym (allowed_begins (begins_followed h es) ok) ∙ e))
    by_case false ok = refl

-- a finish with a snapshot below the base isn't allowed
below_base : (p : ℕ) (h : History) (e : Event) → base_position h ≡ p → is_from p e ≡ false → allowed h e ≡ false
below_base p h (Built cut snap) base e =
    let less : nat_le (base_position h) snap ≡ false = ap (λ q. nat_le q snap) base ∙ e in
    and_left _ _ (and_left _ _ (and_left _ _ (and_right (is_known (pending h cut) && nat_le cut snap) _ less)))
below_base p h (Table def) base e = absurd (true≢false e)
below_base p h (Hyper t hyper) base e = absurd (true≢false e)
below_base p h (View def) base e = absurd (true≢false e)
below_base p h (Mode v only) base e = absurd (true≢false e)
below_base p h (Commit ops) base e = absurd (true≢false e)
below_base p h (Cut v span) base e = absurd (true≢false e)

-- one more event, if the law is known after it
over_one : (p : ℕ) (g h : History) (e : Event) (es : List Event) → base_position h ≡ p → all_allowed g ≡ true → all_allowed h ≡ true → AlikeSince p g h → (all_allowed (g ▸ e) ≡ true → all_allowed (h ▸ e) ≡ true → AlikeSince p (g ▸ e) (h ▸ e) → all_allowed ((h ▸ e) ▸▸ es) ≡ (all_allowed ((g ▸ e) ▸▸ es) && are_from p es)) → all_allowed ((h ▸ e) ▸▸ es) ≡ (all_allowed ((g ▸ e) ▸▸ es) && (is_from p e && are_from p es))
over_one p g h e es base ok_g ok_h a rest = by_from (is_from p e) refl
  where
    by_allowed : (t : Bool) → is_from p e ≡ true → allowed g e ≡ t → all_allowed ((h ▸ e) ▸▸ es) ≡ (all_allowed ((g ▸ e) ▸▸ es) && are_from p es)
    by_allowed true from is =
        let now_g : all_allowed (g ▸ e) ≡ true = and_from _ _ ok_g is in
        let now_h : all_allowed (h ▸ e) ≡ true = and_from _ _ ok_h (sym (allowed_same p g h e a from) ∙ is) in
        rest now_g now_h (alike_further p g h e now_g now_h from a)
    by_allowed false from is =
        never_allowed (h ▸ e) es (and_right (all_allowed h) _ (sym (allowed_same p g h e a from) ∙ is))
        ∙ sym (and_left _ _ (never_allowed (g ▸ e) es (and_right (all_allowed g) _ is)))

    by_from : (t : Bool) → is_from p e ≡ t → all_allowed ((h ▸ e) ▸▸ es) ≡ (all_allowed ((g ▸ e) ▸▸ es) && (t && are_from p es))
    by_from true from = by_allowed (allowed g e) from refl
    by_from false below = never_allowed (h ▸ e) es (and_right (all_allowed h) _ (below_base p h e base below)) ∙ sym (and_right (all_allowed ((g ▸ e) ▸▸ es)) _ refl)

allowed_over : (p : ℕ) (g h : History) (es : List Event) → base_position h ≡ p → all_allowed g ≡ true → all_allowed h ≡ true → AlikeSince p g h → all_allowed (h ▸▸ es) ≡ (all_allowed (g ▸▸ es) && are_from p es)
allowed_over p g h [] base ok_g ok_h a = ok_h ∙ sym (ap (λ t. t && true) ok_g)
allowed_over p g h (e ∷ es) base ok_g ok_h a = over_one p g h e es base ok_g ok_h a (λ now_g now_h b. allowed_over p (g ▸ e) (h ▸ e) es base now_g now_h b)

pub alike_over : (p : ℕ) (g h : History) (es : List Event) → base_position h ≡ p → all_allowed (g ▸▸ es) ≡ true → all_allowed (h ▸▸ es) ≡ true → are_from p es ≡ true → AlikeSince p g h → AlikeSince p (g ▸▸ es) (h ▸▸ es)
alike_over p g h [] base ok_g ok_h from a = a
alike_over p g h (e ∷ es) base ok_g ok_h from a =
    let first = and_parts (is_from p e) (are_from p es) from in
    alike_over p (g ▸ e) (h ▸ e) es base ok_g ok_h first.1
    (alike_further p g h e (allowed_begins (begins_followed (g ▸ e) es) ok_g) (allowed_begins (begins_followed (h ▸ e) es) ok_h) first.0 a)

pub alike_stays : AlikeStays
alike_stays = record {
  allowed = λ h i es ok_h ok_i a. allowed_over i.pos h (resumed i) es refl ok_h ok_i (since_start h i a);
  alike = λ h i es ok_h ok a.
      let ok_i : all_allowed (resumed i) ≡ true = allowed_begins (begins_followed (resumed i) es) ok in
      let both = and_parts (all_allowed (h ▸▸ es)) (are_from i.pos es) (sym (allowed_over i.pos h (resumed i) es refl ok_h ok_i (since_start h i a)) ∙ ok) in
      (alike_over i.pos h (resumed i) es refl both.0 ok both.1 (since_start h i a)).now;
  queued = queued;
}
