-- The values of a row from one place on, one by one.
use Rattle.std.proofs.Common.{◌≡◌, sym, ap, ap₂, ◌∙◌, ℕ, ◌+◌, ◌-◌, ◌≤◌, ◌<◌, ℤ, List, [], ◌∷◌, ◌++◌, Option, None, length, take, drop, get_or, map, append_assoc, arith, length-drop}
use Rattle.std.proofs.lemmas.List.{take_more, get_or-drop, map_push}

-- one more value of those from a place on
pub part_more : {Y : Type 0} (f : Option ℤ → Y) (before made more : List Y) (from i : ℕ) (vals : List (Option ℤ)) (y : Y) → from ≤ i → i < length vals → made ≡ before ++ map f (take (i - from) (drop from vals)) → more ≡ made ++ y ∷ [] → y ≡ f (get_or vals i None) → more ≡ before ++ map f (take (i + 1 - from) (drop from vals))
part_more f before made more from i vals y past within so_far put is =
    let n = i - from in
    let part = drop from vals in
    let left : n < length part = let all = length-drop from vals in omega (arith, past, within, all) in
    let one : i + 1 - from ≡ n + 1 = omega (arith, past) in
    let place : from + n ≡ i = omega (arith, past) in
    let next : take (i + 1 - from) part ≡ take n part ++ get_or vals i None ∷ [] =
    ap (λ k. take k part) one ∙ take_more part n None left
    ∙ ap (λ v. take n part ++ v ∷ []) (get_or-drop from vals n None ∙ ap (λ k. get_or vals k None) place) in
    put
    ∙ ap₂ (λ l v. l ++ v ∷ []) so_far is
    ∙ append_assoc before (map f (take n part)) (f (get_or vals i None) ∷ [])
    ∙ ap (λ l. before ++ l) (sym (ap (map f) next ∙ map_push f (take n part) (get_or vals i None)))
