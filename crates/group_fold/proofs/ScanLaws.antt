-- Laws of rows in spans and in pieces.
use Rattle.std.proofs.Common.{◌≡◌, ℕ, ◌+◌, ◌≤◌, ◌<◌, ◌^◌, ◌-◌, length, get_or, take, take_all, drop, Bool, true, false, ◌||◌, cond, List, [], ◌∷◌, ◌++◌, ℤ, refl, sym, ◌∙◌, ap, arith}
use Rattle.std.specs.List.{filter, list_all}
use Rattle.std.specs.Prelude.{Result, Ok, Err, MatchResult}
use Rattle.std.proofs.lemmas.Bool.{and_parts, and_from}
use Rattle.std.proofs.lemmas.List.{append_assoc, append-nil, drop-drop, drop_all}
use Rattle.std.proofs.lemmas.List.Folds.{list_all-append}
use Rattle.ts_bucket.specs.Bucket.{IsWidth, is_time}
use Rattle.ts_bucket.specs.Ranges.{lies_in}
use Rattle.ts_bucket.specs.Spans.{in_span}
use Rattle.ts_bucket.specs.declared.spans.Span.{Span}
use Rattle.ts_schema.specs.declared.rows.Row.{Row}
use Rattle.ts_schema.specs.Counts.{raised_by, RaisedUpTo}
use Rattle.ts_model.specs.declared.views.Fold.{Fold}
use Rattle.ts_model.specs.Rows.{with_row, with_rows, in_order}
use Rattle.ts_model.specs.Groups.{groups_of}
use Rattle.ts_model.proofs.RowLaws.{in_order-append, with_rows-with_row, all-in_order, same_before}
use Rattle.group_fold.specs.Grouping.{AreTimes, PiecesAreTimes, all_rows}
use Rattle.group_fold.proofs.BucketGroups.{order_plays_no_part}
use Rattle.group_fold.proofs.CutRows.{all_rows-append, take_drop}
use Rattle.group_fold.specs.Spans.{HaveTimes, rows_in}

-- ---- rows in order

pub same_all : (p : Row → Bool) (xs ys : List Row) → in_order xs ≡ in_order ys → list_all p xs ≡ list_all p ys
same_all p xs ys e = sym (all-in_order p xs) ∙ (ap (list_all p) e ∙ all-in_order p ys)

-- rows after others may be in any order
pub same_behind : (xs ys zs : List Row) → in_order ys ≡ in_order zs → in_order (xs ++ ys) ≡ in_order (xs ++ zs)
same_behind xs ys zs e = in_order-append xs ys ∙ (ap (with_rows xs) e ∙ sym (in_order-append xs zs))

-- ---- pieces

-- the rest of a list from a place on is a part of it and the items after the part
part_and_rest : (whole : List Row) (from to : ℕ) → from ≤ to → take (to - from) (drop from whole) ++ drop to whole ≡ drop from whole
part_and_rest whole from to low =
    let sum : from + (to - from) ≡ to = omega (arith, low) in
    ap (λ rest. take (to - from) (drop from whole) ++ rest) (sym (drop-drop (to - from) from whole ∙ ap (λ n. drop n whole) sum)) ∙ take_drop (to - from) (drop from whole)

-- one more piece, of the first rows left
pub piece_step : (before after : List (List Row)) (piece whole all : List Row) (from to : ℕ) → from ≤ to → piece ≡ take (to - from) (drop from whole) → after ≡ before ++ piece ∷ []
    → all_rows before ++ drop from whole ≡ all → all_rows after ++ drop to whole ≡ all
piece_step before after piece whole all from to low part pushed so_far =
    let rows : all_rows after ≡ all_rows before ++ piece = ap all_rows pushed ∙ (all_rows-append before (piece ∷ []) ∙ ap (λ rs. all_rows before ++ rs) (append-nil piece)) in
    ap (λ rs. rs ++ drop to whole) rows
    ∙ (append_assoc (all_rows before) piece (drop to whole)
    ∙ (ap (λ rs. all_rows before ++ rs) (ap (λ rs. rs ++ drop to whole) part ∙ part_and_rest whole from to low) ∙ so_far))

-- the last piece has all rows left
pub last_piece : (before after : List (List Row)) (piece whole all : List Row) (from to : ℕ) → from ≤ to → length whole ≤ to → piece ≡ take (to - from) (drop from whole) → after ≡ before ++ piece ∷ []
    → all_rows before ++ drop from whole ≡ all → all_rows after ≡ all
last_piece before after piece whole all from to low high part pushed so_far =
    sym (append-nil (all_rows after)) ∙ (ap (λ rest. all_rows after ++ rest) (sym (drop_all to whole high)) ∙ piece_step before after piece whole all from to low part pushed so_far)

are_times : (rows : List Row) → list_all (λ row. is_time row.at) rows ≡ true → AreTimes rows
are_times [] e = tt
are_times (row ∷ rows) e =
    let parts = and_parts (is_time row.at) (list_all (λ r. is_time r.at) rows) e in
    (parts.0, are_times rows parts.1)

-- rows that all have times have them in each piece
pub pieces_are_times : (pieces : List (List Row)) → HaveTimes (all_rows pieces) → PiecesAreTimes pieces
pieces_are_times [] e = tt
pieces_are_times (piece ∷ pieces) e =
    let parts = and_parts (list_all (λ row. is_time row.at) piece) (list_all (λ row. is_time row.at) (all_rows pieces)) (sym (list_all-append (λ row. is_time row.at) piece (all_rows pieces)) ∙ e) in
    (are_times piece parts.0, pieces_are_times pieces parts.1)

-- ---- spans

pub all-filter : (p q : Row → Bool) (xs : List Row) → list_all p xs ≡ true → list_all p (filter q xs) ≡ true
all-filter p q [] e = refl
all-filter p q (x ∷ xs) e =
    let parts = and_parts (p x) (list_all p xs) e in
    elim (q x) as (λ b. list_all p (cond b (x ∷ filter q xs) (filter q xs)) ≡ true) [
      | true ↦ and_from (p x) (list_all p (filter q xs)) parts.0 (all-filter p q xs parts.1)
      | false ↦ all-filter p q xs parts.1
    ]

-- the rows found in spans have times if all rows do
pub found_times : (spans : List Span) (pieces : List (List Row)) (rows : List Row) → in_order (all_rows pieces) ≡ in_order (rows_in spans rows) → HaveTimes rows → HaveTimes (all_rows pieces)
found_times spans pieces rows found times =
    same_all (λ row. is_time row.at) (all_rows pieces) (rows_in spans rows) found ∙ all-filter (λ row. is_time row.at) (λ row. lies_in spans row.at) rows times

-- and has the groups of the rows of the spans
pub found_groups : (fold : Fold) → IsWidth fold.width → (spans : List Span) (pieces : List (List Row)) (rows : List Row) → in_order (all_rows pieces) ≡ in_order (rows_in spans rows) → groups_of fold (all_rows pieces) ≡ groups_of fold (rows_in spans rows)
found_groups fold wide spans pieces rows found = order_plays_no_part fold (all_rows pieces) (rows_in spans rows) wide found

in_order-middle : (x : Row) (xs ys : List Row) → in_order (xs ++ x ∷ ys) ≡ with_row x (in_order (xs ++ ys))
in_order-middle x xs ys = in_order-append xs (x ∷ ys) ∙ (with_rows-with_row xs x (in_order ys) ∙ ap (with_row x) (sym (in_order-append xs ys)))

-- rows of one span, and then those of later ones; no later span holds a number of the first
both_spans : (s : Span) (ss : List Span) (xs : List Row) → ((t : ℤ) → in_span s t ≡ true → lies_in ss t ≡ false)
    → in_order (filter (λ row. in_span s row.at) xs ++ filter (λ row. lies_in ss row.at) xs) ≡ in_order (filter (λ row. in_span s row.at || lies_in ss row.at) xs)
both_spans s ss [] apart = refl
both_spans s ss (x ∷ xs) apart =
    let rest = both_spans s ss xs apart in
    let first = filter (λ (row : Row). in_span s row.at) xs in
    let others = filter (λ (row : Row). lies_in ss row.at) xs in
    let all = filter (λ (row : Row). in_span s row.at || lies_in ss row.at) xs in
    elim (in_span s x.at) as (λ b. in_span s x.at ≡ b → in_order (cond b (x ∷ first) first ++ cond (lies_in ss x.at) (x ∷ others) others) ≡ in_order (cond (b || lies_in ss x.at) (x ∷ all) all)) [
      | true ↦ λ here. ap (λ b. in_order ((x ∷ first) ++ cond b (x ∷ others) others)) (apart x.at here) ∙ ap (with_row x) rest
      | false ↦ λ _.
          elim (lies_in ss x.at) as (λ b. in_order (first ++ cond b (x ∷ others) others) ≡ in_order (cond b (x ∷ all) all)) [
            | true ↦ in_order-middle x first others ∙ ap (with_row x) rest
            | false ↦ rest
          ]
    ] refl

-- one span more was scanned
pub span_step : (s : Span) (left : List Span) (rows found : List Row) (before after : List (List Row)) → ((t : ℤ) → in_span s t ≡ true → lies_in left t ≡ false)
    → in_order found ≡ in_order (filter (λ row. in_span s row.at) rows) → all_rows after ≡ all_rows before ++ found
    → in_order (all_rows after ++ rows_in left rows) ≡ in_order (all_rows before ++ rows_in (s ∷ left) rows)
span_step s left rows found before after apart same cut =
    ap (λ rs. in_order (rs ++ rows_in left rows)) cut
    ∙ (ap in_order (append_assoc (all_rows before) found (rows_in left rows))
    ∙ same_behind (all_rows before) (found ++ rows_in left rows) (rows_in (s ∷ left) rows)
    (same_before found (filter (λ row. in_span s row.at) rows) (rows_in left rows) same ∙ both_spans s left rows apart))

-- ---- counts

-- the count of one span, and then of those that are left
pub count_step : (near rest whole old now next : ℕ) → now < 2 ^ 64 → next ≡ raised_by near now → raised_by (near + rest) now ≡ raised_by whole old → old ≤ now → (raised_by rest next ≡ raised_by whole old) × (old ≤ next)
count_step near rest whole old now next small one all up = (omega (arith, small, one, all), omega (arith, small, one, up))

-- a scan that ended early
pub count_cut : (near rest whole old now next : ℕ) → now < 2 ^ 64 → RaisedUpTo near now next → raised_by (near + rest) now ≡ raised_by whole old → old ≤ now → RaisedUpTo whole old next
count_cut near rest whole old now next small up all low = (omega (arith, low, up.0), omega (arith, up.1, all))

-- a whole scan, after which memory ran out
pub count_kept : (near rest whole old now next : ℕ) → now < 2 ^ 64 → next ≡ raised_by near now → raised_by (near + rest) now ≡ raised_by whole old → old ≤ now → RaisedUpTo whole old next
count_kept near rest whole old now next small one all low = (omega (arith, small, one, low), omega (arith, one, all))

pub small_step : (near now next : ℕ) → next ≡ raised_by near now → next < 2 ^ 64
small_step near now next one = omega (arith, one)

-- a call's result, if both of its cases are known
pub ended : {T E A B : Type 0} (r : Result T E) → A → B → MatchResult r (λ _. A) (λ _. B)
ended (Ok t) a b = a
ended (Err e) a b = b

pub raised_whole : (n old new : ℕ) → old < 2 ^ 64 → new ≡ raised_by n old → RaisedUpTo n old new
raised_whole n old new small one = (omega (arith, small, one), omega (arith, one))

-- ---- the first span and those that are left

pub front : (left rest : List Span) (s : Span) → 1 ≤ length left → rest ≡ take (length left - 1) (drop 1 left) → s ≡ get_or left 0 s → left ≡ s ∷ rest
front [] rest s h r e = absurd (omega (arith, h))
front (x ∷ xs) rest s h r e =
    let whole : rest ≡ xs = r ∙ take_all (length (x ∷ xs) - 1) xs (omega arith) in
    ap (λ y. y ∷ xs) (sym e) ∙ ap (λ ys. s ∷ ys) (sym whole)

pub none_left : (left : List Span) → length left < 1 → left ≡ []
none_left [] h = refl
none_left (x ∷ xs) h = absurd (omega arith)

-- without spans there are no rows
pub nothing_in : (rows : List Row) → rows_in [] rows ≡ []
nothing_in [] = refl
nothing_in (row ∷ rows) = nothing_in rows
