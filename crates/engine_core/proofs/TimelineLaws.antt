-- A history at its positions, and the states kept for it there.
use Rattle.std.proofs.Common.{◌≡◌, ℕ, zero, suc, ◌+◌, ◌-◌, Bool, ◌<◌, ◌≤◌, true, false, cond, ◌==◌, List, [], ◌∷◌, ◌++◌, drop, get_or, length, take, slice_get, Option, Some, None, sym, refl, ap, ◌∙◌, subst, arith}
use Rattle.std.specs.Prelude.{nat_le}
use Rattle.std.proofs.lemmas.Bool.{and_parts, eqb-true, le-ltb, leb-false, leb-true, lt-ltb, ltb-true, cond-false, cond-true}
use Rattle.std.proofs.Common.{length-append}
use Rattle.std.proofs.lemmas.List.{length-take-le, take-append-drop, take_all, take_more}
use Rattle.std.proofs.lemmas.Option.{none-some, same_Some}
use Rattle.ts_model.specs.declared.events.Event.{Event}
use Rattle.ts_model.specs.declared.events.Event.TheVariants.{Table, Hyper, View, Mode, Commit, Cut, Built}
use Rattle.ts_model.specs.declared.images.Image.{Image}
use Rattle.ts_model.specs.Allowed.{all_allowed, allowed}
use Rattle.ts_model.specs.History.{Begins, History, start, resumed, ◌▸◌, ◌▸▸◌, base_position, event_at, position, prefix}
use Rattle.ts_model.specs.Limits.{last_position}
use Rattle.ts_model.specs.Sound.{sound}
use Rattle.ts_model.specs.Timely.{has_room, timely, timely_at}
use Rattle.ts_model.proofs.AllowedLaws.{allowed_begins}
use Rattle.ts_model.proofs.ValidLaws.{valid_is}
use Rattle.ts_model.proofs.HistoryLaws.{begins_followed, followed_append, followed_push, position_followed, prefix_begins, prefix_end}
use Rattle.engine_state.specs.Afters.{CountsAre}
use Rattle.engine_state.specs.Stands.{StandsFor}
use Rattle.engine_core.specs.Effects.{effect_of}
use Rattle.engine_core.specs.Histories.{begun_by, history_of}
use Rattle.engine_core.specs.Timelines.{AreMoments, IsMomentOf, IsTimeline}
use Rattle.engine_core.specs.Values.{MomentValue, Past}

-- ---- positions

-- the position of an allowed history has 64 bits
pub allowed_fits : (h : History) → all_allowed h ≡ true → position h ≤ last_position
allowed_fits start ok = omega arith
allowed_fits (resumed i) ok = leb-true i.pos last_position (valid_is i ok).bounded
allowed_fits (h ▸ e) ok =
    let parts = and_parts (all_allowed h) (allowed h e) ok in
    let fits = and_parts (sound h e) (timely h e) parts.1 in
    let room = and_parts (timely_at h e) (has_room h) fits.1 in
    let below : position h < last_position = ltb-true (position h) last_position room.1 in
    omega (arith, below)

-- an event of a history has a number up to its position
pub event_within : (h : History) (k : ℕ) (e : Event) → event_at h k ≡ Some e → k ≤ position h
event_within start k e at = absurd (none-some e at)
event_within (resumed i) k e at = absurd (none-some e at)
event_within (h ▸ x) k e at =
    elim (k == suc (position h)) as (λ t. (k == suc (position h)) ≡ t → cond t (Some x) (event_at h k) ≡ Some e → k ≤ suc (position h)) [
      | true ↦ λ same _. let is : k ≡ suc (position h) = eqb-true k (suc (position h)) same in omega arith
      | false ↦ λ _ there. let below = event_within h k e there in omega (arith, below)
    ] refl at

-- the history after an event is that before it and the event
pub prefix_next : (h : History) (p : ℕ) (e : Event) → event_at h (suc p) ≡ Some e → prefix h (suc p) ≡ prefix h p ▸ e
prefix_next start p e at = absurd (none-some e at)
prefix_next (resumed i) p e at = absurd (none-some e at)
prefix_next (h ▸ x) p e at =
    elim (suc p == suc (position h)) as (λ t. (suc p == suc (position h)) ≡ t → cond t (Some x) (event_at h (suc p)) ≡ Some e → prefix (h ▸ x) (suc p) ≡ prefix (h ▸ x) p ▸ e) [
      | true ↦ λ same now.
          let is : suc p ≡ suc (position h) = eqb-true (suc p) (suc (position h)) same in
          let last : prefix (h ▸ x) (suc p) ≡ h ▸ x = cond-true _ (h ▸ x) (prefix h (suc p)) (lt-ltb (position h) (suc p) (omega arith)) in
          let before : prefix (h ▸ x) p ≡ h = cond-false _ (h ▸ x) (prefix h p) (le-ltb (position h) p (omega arith)) ∙ prefix_end h p (omega arith) in
          last ∙ (λ i. sym before i ▸ same_Some x e now i)
      | false ↦ λ _ there.
          let within : suc p ≤ position h = event_within h (suc p) e there in
          cond-false _ (h ▸ x) (prefix h (suc p)) (le-ltb (position h) (suc p) within)
          ∙ prefix_next h p e there
          ∙ sym (ap (λ g. g ▸ e) (cond-false _ (h ▸ x) (prefix h p) (le-ltb (position h) p (omega arith))))
    ] refl at

-- ---- events in order

-- the history with the first events
abbrev pub up_to : Past → ℕ → History
up_to past i = begun_by past.base ▸▸ take i past.events

-- it is a beginning of the whole history
pub first_begins : (past : Past) (i : ℕ) → Begins (up_to past i) (history_of past)
first_begins past i =
    subst (λ h. Begins (up_to past i) h)
    (sym (followed_append (begun_by past.base) (take i past.events) (drop i past.events)) ∙ ap (λ es. begun_by past.base ▸▸ es) (take-append-drop i past.events))
    (begins_followed (up_to past i) (drop i past.events))

pub first_position : (past : Past) (i : ℕ) → i ≤ length past.events → position (up_to past i) ≡ position (begun_by past.base) + i
first_position past i within =
    position_followed (begun_by past.base) (take i past.events)
    ∙ ap (λ n. position (begun_by past.base) + n) (length-take-le i past.events within)

-- and the history at its position
pub first_prefix : (past : Past) (i p : ℕ) → i ≤ length past.events → p ≡ position (begun_by past.base) + i → prefix (history_of past) p ≡ up_to past i
first_prefix past i p within is =
    ap (prefix (history_of past)) (is ∙ sym (first_position past i within)) ∙ prefix_begins (first_begins past i)

pub first_next : (past : Past) (i : ℕ) (e : Event) → i < length past.events → e ≡ get_or past.events i e → up_to past (i + 1) ≡ up_to past i ▸ e
first_next past i e within at =
    ap (λ es. begun_by past.base ▸▸ es) (take_more past.events i e within ∙ ap (λ x. take i past.events ++ x ∷ []) (sym at))
    ∙ followed_push (begun_by past.base) (take i past.events) e

-- the next event is allowed there
pub next_allowed : (past : Past) (i : ℕ) (e : Event) → all_allowed (history_of past) ≡ true → i < length past.events → e ≡ get_or past.events i e → allowed (up_to past i) e ≡ true
next_allowed past i e ok within at =
    let longer : all_allowed (up_to past i ▸ e) ≡ true = subst (λ h. all_allowed h ≡ true) (first_next past i e within at) (allowed_begins (first_begins past (i + 1)) ok) in
    (and_parts (all_allowed (up_to past i)) (allowed (up_to past i) e) longer).1

-- ---- what is kept

-- the beginning has no last event
pub opening_moment : (base : Option Image) (m : MomentValue) → StandsFor (begun_by base) m.state → IsMomentOf (begun_by base) m
opening_moment base m stands = record { stands = stands; counts = λ g e is. absurd (no_event base g e is) }
  where
    no_event : (base : Option Image) (g : History) (e : Event) → begun_by base ≡ g ▸ e → ⊥
    no_event None g e is = cc
    no_event (Some image) g e is = cc

-- the rows moved by the last event
pub next_moment : (h : History) (e : Event) (m : MomentValue) → StandsFor (h ▸ e) m.state → CountsAre h e m.inserted m.removed → IsMomentOf (h ▸ e) m
next_moment h e m stands counts = record {
  stands = stands;
  counts = λ g f is.
      let same_history : h ≡ g = cc in
      let same_event : e ≡ f = cc in
      subst (λ k. CountsAre k f m.inserted m.removed) same_history (subst (λ d. CountsAre h d m.inserted m.removed) same_event counts);
}

-- one more state after those kept
moments_more : (P : ℕ → MomentValue → Type 0) (ms : List MomentValue) (x : MomentValue) → ((k : ℕ) (m : MomentValue) → slice_get ms k ≡ Some m → P k m) → P (length ms) x → (k : ℕ) (m : MomentValue) → slice_get (ms ++ x ∷ []) k ≡ Some m → P k m
moments_more P [] x all last zero m at = subst (P 0) (same_Some x m at) last
moments_more P [] x all last (suc k) m at = absurd (none-some m at)
moments_more P (y ∷ ms) x all last zero m at = all 0 m at
moments_more P (y ∷ ms) x all last (suc k) m at = moments_more (λ n. P (suc n)) ms x (λ n d e. all (suc n) d e) last k m at

pub kept_more : (h : History) (from : ℕ) (ms : List MomentValue) (m : MomentValue) (p : ℕ) → AreMoments h from ms → p ≡ from + length ms → IsMomentOf (prefix h p) m → AreMoments h from (ms ++ m ∷ [])
kept_more h from ms m p kept is one =
    moments_more (λ k x. IsMomentOf (prefix h (from + k)) x) ms m kept (subst (λ q. IsMomentOf (prefix h q) m) is one)

-- the states kept before an event, of a history with this many events before it
pub record AreKept (past : Past) (from i : ℕ) (ms : List MomentValue) : Type 0 where
  pub moments : AreMoments (history_of past) from ms
  pub count : length ms ≡ (position (begun_by past.base) + i) - from

pub kept_none : (past : Past) (from : ℕ) → position (begun_by past.base) ≤ from → AreKept past from 0 []
kept_none past from low = record { moments = λ k m at. absurd (none-some m at); count = omega arith }

pub kept_next : (past : Past) (from i : ℕ) (ms : List MomentValue) (m : MomentValue) (kept : Bool) (new : List MomentValue) → AreKept past from i ms → i ≤ length past.events → IsMomentOf (up_to past i) m → kept ≡ nat_le from (position (begun_by past.base) + i) → new ≡ cond kept (ms ++ m ∷ []) ms → AreKept past from (i + 1) new
kept_next past from i ms m kept new k within one is new_is =
    subst (AreKept past from (i + 1)) (sym (new_is ∙ ap (λ t. cond t (ms ++ m ∷ []) ms) is))
    (elim (nat_le from (position (begun_by past.base) + i)) as (λ t. nat_le from (position (begun_by past.base) + i) ≡ t → AreKept past from (i + 1) (cond t (ms ++ m ∷ []) ms)) [
      | true ↦ λ e.
          let le : from ≤ position (begun_by past.base) + i = leb-true from (position (begun_by past.base) + i) e in
          let n = k.count in
          let here : position (begun_by past.base) + i ≡ from + length ms = omega (arith, le, n) in
          let longer = length-append ms (m ∷ []) in
          record {
            moments = kept_more (history_of past) from ms m (position (begun_by past.base) + i) k.moments here (subst (λ h. IsMomentOf h m) (sym (first_prefix past i (position (begun_by past.base) + i) within refl)) one);
            count = omega (arith, le, n, longer);
          }
      | false ↦ λ e.
          let above : position (begun_by past.base) + i < from = leb-false from (position (begun_by past.base) + i) e in
          let n = k.count in
          record { moments = k.moments; count = omega (arith, above, n) }
    ] refl)

-- the whole history
pub first_whole : (past : Past) → up_to past (length past.events) ≡ history_of past
first_whole past = ap (λ es. begun_by past.base ▸▸ es) (take_all (length past.events) past.events (omega arith))

-- ---- what an event did

pub effect_by : (g : History) (e : Event) (p inserted removed : ℕ) → p ≡ suc (position g) → CountsAre g e inserted removed → record { pos = p; inserted = inserted; removed = removed } ≡ effect_of g e
effect_by g (Table def) p inserted removed is c = λ i. record { pos = is i; inserted = c.0 i; removed = c.1 i }
effect_by g (Hyper t hyper) p inserted removed is c = λ i. record { pos = is i; inserted = c.0 i; removed = c.1 i }
effect_by g (View def) p inserted removed is c = λ i. record { pos = is i; inserted = c.0 i; removed = c.1 i }
effect_by g (Mode v only) p inserted removed is c = λ i. record { pos = is i; inserted = c.0 i; removed = c.1 i }
effect_by g (Commit ops) p inserted removed is c = λ i. record { pos = is i; inserted = c.0 i; removed = c.1 i }
effect_by g (Cut v span) p inserted removed is c = λ i. record { pos = is i; inserted = c.0 i; removed = c.1 i }
effect_by g (Built cut snap) p inserted removed is c = λ i. record { pos = is i; inserted = c.0 i; removed = c.1 i }

-- the state kept after an event has the effect of the event
pub effect_kept : (h : History) (p : ℕ) (e : Event) (m : MomentValue) → event_at h (suc p) ≡ Some e → IsMomentOf (prefix h (p + 1)) m → record { pos = m.state.position; inserted = m.inserted; removed = m.removed } ≡ effect_of (prefix h p) e
effect_kept h p e m at kept =
    let next : p + 1 ≡ suc p = omega arith in
    let is : prefix h (p + 1) ≡ prefix h p ▸ e = ap (prefix h) next ∙ prefix_next h p e at in
    effect_by (prefix h p) e m.state.position m.inserted m.removed (kept.stands.position ∙ ap position is) (kept.counts (prefix h p) e is)

-- ---- a timeline

-- the state before an event is kept at the place of its position
pub next_kept : (past : Past) (from i : ℕ) (ms : List MomentValue) (m : MomentValue) (new : List MomentValue) (p : ℕ) → AreKept past from i ms → i < length past.events → IsMomentOf (up_to past i) m → p ≡ m.state.position → new ≡ cond (nat_le from p) (ms ++ m ∷ []) ms → AreKept past from (i + 1) new
next_kept past from i ms m new p kept within one at new_is =
    let le : i ≤ length past.events = omega arith in
    kept_next past from i ms m (nat_le from p) new kept le one (ap (nat_le from) (at ∙ one.stands.position ∙ first_position past i le)) new_is

-- the states at all positions from one on, up to the end
pub timeline_made : (past : Past) (from end i : ℕ) (ms : List MomentValue) (m : MomentValue) (new : List MomentValue) → all_allowed (history_of past) ≡ true → base_position (history_of past) ≤ from → from ≤ position (history_of past) → i ≡ length past.events → AreKept past from i ms → IsMomentOf (up_to past i) m → end ≡ m.state.position → new ≡ ms ++ m ∷ [] → IsTimeline past from end new
timeline_made past from end i ms m new ok low high whole kept one at new_is =
    let le : i ≤ length past.events = omega arith in
    let n = kept.count in
    let here = first_position past i le in
    let last : up_to past i ≡ history_of past = ap (up_to past) whole ∙ first_whole past in
    let ends : end ≡ position (history_of past) = at ∙ one.stands.position ∙ ap position last in
    let end_is : position (history_of past) ≡ position (begun_by past.base) + i = sym (ap position last) ∙ here in
    let longer = length-append ms (m ∷ []) in
    let place : position (history_of past) ≡ from + length ms = omega (arith, end_is, n, high) in
    let count = ap length new_is in
    record {
      allowed = ok;
      low = low;
      ends = ends;
      moments = subst (AreMoments (history_of past) from) (sym new_is) (kept_more (history_of past) from ms m (position (history_of past)) kept.moments place (subst (λ h. IsMomentOf h m) (sym (prefix_end (history_of past) (position (history_of past)) (omega arith))) (subst (λ h. IsMomentOf h m) last one)));
      all = omega (arith, ends, place, count, longer);
    }
