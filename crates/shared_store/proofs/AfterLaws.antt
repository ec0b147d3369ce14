-- Laws of the events of a history after an earlier one.
use Rattle.std.proofs.Common.{◌≡◌, ◌≤◌, List, [], ◌∷◌, ◌++◌, length, length-append, sym, ap, ◌∙◌, subst, arith}
use Rattle.std.proofs.lemmas.List.{drop-append-le, drop_all}
use mathlib.Core.List.{IsPrefix}
use Rattle.ts_model.specs.declared.events.Event.{Event}
use Rattle.ts_model.specs.History.{History, ◌▸◌, ◌▸▸◌, position, events_of, Begins, same, further}
use Rattle.ts_model.proofs.HistoryLaws.{begins_trans, begins_followed, position_followed, followed_append, followed_push}
use Rattle.turn_lock.specs.Positions.{end_of}
use Rattle.turn_lock.proofs.Lists.{prefix_self, prefix_then}
use Rattle.shared_store.specs.Histories.{events_after}

-- a history has no fewer events than an earlier one
fewer : {g h : History} → Begins g h → length (events_of g) ≤ length (events_of h)
fewer same = omega arith
fewer (further {h} {e} q) = let l = fewer q in omega (arith, length-append (events_of h) (e ∷ []))

pub after_self : (g : History) → events_after g g ≡ []
after_self g = drop_all (length (events_of g)) (events_of g) (omega arith)

pub after_push : {g h : History} (e : Event) → Begins g h → events_after g (h ▸ e) ≡ events_after g h ++ (e ∷ [])
after_push {g} {h} e q = drop-append-le (length (events_of g)) (events_of h) (e ∷ []) (fewer q)

-- a history is an earlier one with its later events
pub followed_after : {g h : History} → Begins g h → g ▸▸ events_after g h ≡ h
followed_after {g} same = ap (λ es. g ▸▸ es) (after_self g)
followed_after {g} (further {h} {e} q) = ap (λ es. g ▸▸ es) (after_push e q) ∙ followed_push g (events_after g h) e ∙ ap (λ k. k ▸ e) (followed_after q)

pub end_after : {g h : History} → Begins g h → position h ≡ end_of (position g) (events_after g h)
end_after {g} {h} q = ap position (sym (followed_after q)) ∙ position_followed g (events_after g h)

-- as a history grows, so do its events after an earlier one
pub prefix_after : {g h k : History} → Begins g h → Begins h k → IsPrefix (events_after g h) (events_after g k)
prefix_after {g} {h} p same = prefix_self (events_after g h)
prefix_after {g} {h} p (further {h = k} {e = e} q) =
    let whole : Begins g k = begins_trans p q in
    prefix_then (events_after g h) (events_after g k) (events_after g (k ▸ e)) (prefix_after p q) (e ∷ [], sym (after_push e whole))

-- the longer events lead to a history that begins with the one to which the shorter events lead
pub begins_longer : (g : History) (xs ys : List Event) → IsPrefix xs ys → Begins (g ▸▸ xs) (g ▸▸ ys)
begins_longer g xs ys p =
    subst (λ l. Begins (g ▸▸ xs) (g ▸▸ l)) p.1
    (subst (λ h. Begins (g ▸▸ xs) h) (sym (followed_append g xs p.0)) (begins_followed (g ▸▸ xs) p.0))
