-- Events of a history by their numbers.
use Rattle.std.proofs.Common.{◌≡◌, ℕ, zero, suc, ◌+◌, ◌<◌, ◌≤◌, true, false, cond, ◌==◌, List, [], ◌∷◌, length, slice_get, Option, Some, None, sym, refl, ap, ◌∙◌, arith}
use Rattle.std.specs.Prelude.{IfSome, get_or, is_some, nat_lt, option_map}
use Rattle.std.proofs.lemmas.Bool.{eqb-true, ltb-false, ltb-true}
use Rattle.std.proofs.lemmas.Option.{slice_get_past, slice_get_read}
use Rattle.ts_model.specs.declared.events.Event.{Event}
use Rattle.ts_model.specs.declared.images.Image.{Image}
use Rattle.ts_model.specs.History.{History, start, resumed, ◌▸◌, ◌▸▸◌, position, base_position, event_at}
use Rattle.ts_model.proofs.HistoryLaws.{position_followed, base_begins, begins_followed}
use Rattle.engine_core.specs.Histories.{begun_by, history_of}
use Rattle.engine_core.specs.Values.{Past}

pub position_of : (past : Past) → position (history_of past) ≡ position (begun_by past.base) + length past.events
position_of past = omega (arith, position_followed (begun_by past.base) past.events)

begun_there : (base : Option Image) → base_position (begun_by base) ≡ position (begun_by base)
begun_there None = refl
begun_there (Some image) = refl

pub base_of : (past : Past) → position (begun_by past.base) ≡ base_position (history_of past)
base_of past = sym (begun_there past.base) ∙ sym (base_begins (begins_followed (begun_by past.base) past.events))

-- no event has a number above the position
event_above : (h : History) (k : ℕ) → position h < k → event_at h k ≡ None
event_above start k l = refl
event_above (resumed i) k l = refl
event_above (h ▸ e) k l =
    elim (k == suc (position h)) as (λ t. (k == suc (position h)) ≡ t → cond t (Some e) (event_at h k) ≡ None) [
      | true ↦ λ same. let is : k ≡ suc (position h) = eqb-true k (suc (position h)) same in absurd (omega arith)
      | false ↦ λ _. event_above h k (omega arith)
    ] refl

-- an event of the beginning
event_before : (h : History) (es : List Event) (k : ℕ) → k ≤ position h → event_at (h ▸▸ es) k ≡ event_at h k
event_before h [] k l = refl
event_before h (e ∷ es) k l =
    event_before (h ▸ e) es k (omega arith)
    ∙ (elim (k == suc (position h)) as (λ t. (k == suc (position h)) ≡ t → cond t (Some e) (event_at h k) ≡ event_at h k) [
      | true ↦ λ same. let is : k ≡ suc (position h) = eqb-true k (suc (position h)) same in absurd (omega arith)
      | false ↦ λ _. refl
    ] refl)

-- the event at a place among those after the base
event_after : (h : History) (es : List Event) (i : ℕ) → event_at (h ▸▸ es) (suc (position h) + i) ≡ slice_get es i
event_after h [] i = event_above h (suc (position h) + i) (omega arith)
event_after h (e ∷ es) zero = event_before (h ▸ e) es (suc (position h) + 0) (omega arith) ∙ own (suc (position h) + 0) (omega arith)
  where
    own : (k : ℕ) → k ≡ suc (position h) → event_at (h ▸ e) k ≡ Some e
    own k is = ap (λ k. event_at (h ▸ e) k) is ∙ same_number (suc (position h))
      where
        same_number : (n : ℕ) → cond (n == n) (Some e) (event_at h n) ≡ Some e
        same_number n = ap (λ t. cond t (Some e) (event_at h n)) (equal n)
          where
            equal : (n : ℕ) → (n == n) ≡ true
            equal n = grind arith
event_after h (e ∷ es) (suc i) =
    let moved : suc (position h) + suc i ≡ suc (suc (position h)) + i = omega arith in
    ap (λ k. event_at ((h ▸ e) ▸▸ es) k) moved ∙ event_after (h ▸ e) es i

-- events are numbered from the position at which the history begins
pub event_numbered : (past : Past) (k i : ℕ) → k ≡ suc (position (begun_by past.base)) + i → event_at (history_of past) k ≡ slice_get past.events i
event_numbered past k i is = ap (λ n. event_at (history_of past) n) is ∙ event_after (begun_by past.base) past.events i

-- no event has that number or one below it
pub event_unnumbered : (past : Past) (k : ℕ) → k ≤ position (begun_by past.base) → event_at (history_of past) k ≡ None
event_unnumbered past k l = event_before (begun_by past.base) past.events k l ∙ none past.base
  where
    none : (base : Option Image) → event_at (begun_by base) k ≡ None
    none None = refl
    none (Some image) = refl

-- the item at a place of a list, read through a reference
pub read_at : {A B : Type 0} (now : B → A) (o : Option B) (xs : List A) (i : ℕ) → is_some o ≡ nat_lt i (length xs) → IfSome o (λ x. now x ≡ get_or xs i (now x)) → option_map now o ≡ slice_get xs i
read_at now None xs i there is = sym (slice_get_past xs i (ltb-false i (length xs) (sym there)))
read_at now (Some x) xs i there is = sym (slice_get_read xs (length xs) i (now x) refl (ltb-true i (length xs) (sym there)) is)
