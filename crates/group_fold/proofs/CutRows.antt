-- Rows that come in pieces.
use Rattle.std.proofs.Common.{◌≡◌, ℕ, zero, suc, ◌+◌, ◌<◌, ◌^◌, List, [], ◌∷◌, ◌++◌, length, get_or, take, drop, sym, refl, ap, ◌∙◌, subst, arith, append_assoc, length-append}
use Rattle.std.specs.List.{AllByRecursion}
use Rattle.std.proofs.lemmas.List.{append-nil, take_more}
use Rattle.ts_schema.specs.declared.rows.Row.{Row}
use Rattle.ts_bucket.specs.Bucket.{IsWidth}
use Rattle.ts_model.specs.declared.views.Fold.{Fold}
use Rattle.partial_agg.specs.declared.groups.Group.{Group}
use Rattle.group_fold.specs.Grouping.{all_rows, AreTimes, PiecesAreTimes}
use Rattle.ts_model.specs.Groups.{groups_of}
use Rattle.group_fold.specs.Merging.{CanJoin, with_groups}
use Rattle.group_fold.proofs.RowGroups.{groups_of-append}
use Rattle.group_fold.proofs.Merges.{can_join_groups}

pub all_rows-append : (ps qs : List (List Row)) → all_rows (ps ++ qs) ≡ all_rows ps ++ all_rows qs
all_rows-append [] qs = refl
all_rows-append (p ∷ ps) qs = ap (λ rows. p ++ rows) (all_rows-append ps qs) ∙ sym (append_assoc p (all_rows ps) (all_rows qs))

pub take_drop : {X : Type 0} (k : ℕ) (xs : List X) → take k xs ++ drop k xs ≡ xs
take_drop zero xs = refl
take_drop (suc k) [] = refl
take_drop (suc k) (x ∷ xs) = ap (λ ys. x ∷ ys) (take_drop k xs)

-- one more piece
pub all_rows-more : (pieces : List (List Row)) (i : ℕ) (piece : List Row) → i < length pieces → piece ≡ get_or pieces i piece → all_rows (take (i + 1) pieces) ≡ all_rows (take i pieces) ++ piece
all_rows-more pieces i piece h is =
    ap all_rows (take_more pieces i piece h) ∙ (all_rows-append (take i pieces) (get_or pieces i piece ∷ []) ∙ ap (λ rows. all_rows (take i pieces) ++ rows) (append-nil (get_or pieces i piece) ∙ sym is))

pub length-more : (pieces : List (List Row)) (i : ℕ) (piece : List Row) → i < length pieces → piece ≡ get_or pieces i piece → length (all_rows (take (i + 1) pieces)) ≡ length (all_rows (take i pieces)) + length piece
length-more pieces i piece h is =
    let more : take (i + 1) pieces ≡ take i pieces ++ piece ∷ [] = take_more pieces i piece h ∙ ap (λ p. take i pieces ++ p ∷ []) (sym is) in
    let rows : all_rows (take (i + 1) pieces) ≡ all_rows (take i pieces) ++ (piece ++ []) = ap all_rows more ∙ all_rows-append (take i pieces) (piece ∷ []) in
    ap length rows ∙ omega (arith, length-append (all_rows (take i pieces)) (piece ++ []), length-append piece [])

-- ---- pieces cut in two

pub halves : (pieces front back : List (List Row)) (m : ℕ) → front ≡ take m pieces → back ≡ drop m pieces → all_rows pieces ≡ all_rows front ++ all_rows back
halves pieces front back m p q =
    ap all_rows (sym (take_drop m pieces)) ∙ all_rows-append (take m pieces) (drop m pieces) ∙ ap (λ xs. all_rows xs ++ all_rows (drop m pieces)) (sym p) ∙ ap (λ ys. all_rows front ++ all_rows ys) (sym q)

pub few_parts : (pieces front back : List (List Row)) (m : ℕ) → front ≡ take m pieces → back ≡ drop m pieces → length (all_rows pieces) < 2 ^ 62 → length (all_rows front) + length (all_rows back) < 2 ^ 62
few_parts pieces front back m p q few =
    let whole = ap length (halves pieces front back m p q) in
    omega (arith, whole, length-append (all_rows front) (all_rows back), few)

pub parts_can_join : (fold : Fold) → IsWidth fold.width → (pieces front back : List (List Row)) (m : ℕ) (gs hs : List Group) → front ≡ take m pieces → back ≡ drop m pieces → length (all_rows pieces) < 2 ^ 62 → gs ≡ groups_of fold (all_rows front) → hs ≡ groups_of fold (all_rows back) → CanJoin gs hs
parts_can_join fold wide pieces front back m gs hs p q few mine theirs =
    subst (λ xs. CanJoin xs hs) (sym mine) (subst (λ ys. CanJoin (groups_of fold (all_rows front)) ys) (sym theirs) (can_join_groups fold wide (all_rows front) (all_rows back) (few_parts pieces front back m p q few)))

pub parts_joined : (fold : Fold) → IsWidth fold.width → (pieces front back : List (List Row)) (m : ℕ) (gs hs : List Group) → front ≡ take m pieces → back ≡ drop m pieces → gs ≡ groups_of fold (all_rows front) → hs ≡ groups_of fold (all_rows back) → with_groups gs hs ≡ groups_of fold (all_rows pieces)
parts_joined fold wide pieces front back m gs hs p q mine theirs =
    ap (λ xs. with_groups xs hs) mine ∙ ap (with_groups (groups_of fold (all_rows front))) theirs ∙ sym (groups_of-append fold wide (all_rows front) (all_rows back)) ∙ ap (groups_of fold) (sym (halves pieces front back m p q))

all-take : {X : Type 0} (P : X → Type 0) (m : ℕ) (xs : List X) → AllByRecursion P xs → AllByRecursion P (take m xs)
all-take P zero xs h = tt
all-take P (suc m) [] h = tt
all-take P (suc m) (x ∷ xs) h = (h.0, all-take P m xs h.1)

all-drop : {X : Type 0} (P : X → Type 0) (m : ℕ) (xs : List X) → AllByRecursion P xs → AllByRecursion P (drop m xs)
all-drop P zero xs h = h
all-drop P (suc m) [] h = tt
all-drop P (suc m) (x ∷ xs) h = all-drop P m xs h.1

pub front_fits : (pieces front : List (List Row)) (m : ℕ) → front ≡ take m pieces → PiecesAreTimes pieces → PiecesAreTimes front
front_fits pieces front m p h = subst PiecesAreTimes (sym p) (all-take AreTimes m pieces h)

pub back_fits : (pieces back : List (List Row)) (m : ℕ) → back ≡ drop m pieces → PiecesAreTimes pieces → PiecesAreTimes back
back_fits pieces back m q h = subst PiecesAreTimes (sym q) (all-drop AreTimes m pieces h)
