-- Laws of new rows in the chunks that hold their times.
use Rattle.std.proofs.Common.{◌≡◌, ℕ, zero, suc, ◌+◌, ◌-◌, ◌<◌, ◌≤◌, ◌&&◌, not, Bool, true, false, cond, List, [], ◌∷◌, ◌++◌, length, get_or, take, drop, map, append_assoc, ℤ, refl, sym, ◌∙◌, ap, arith}
use Rattle.std.specs.List.{list_all, count_by}
use Rattle.std.specs.Ordering.{int_eq}
use Rattle.std.proofs.lemmas.Bool.Decides.{Decides-int_eq}
use Rattle.std.proofs.lemmas.Bool.{and_from}
use Rattle.std.proofs.lemmas.List.{append-nil, map-append, drop_more, drop_all, take-append-drop, take_all, take_rest}
use Rattle.std.proofs.Math.Seq.{take-add}
use Rattle.std.proofs.lemmas.List.Sums.{sum_by-cons}
use Rattle.ts_schema.specs.declared.rows.Row.{Row}
use Rattle.ts_bucket.specs.Bucket.{is_time}
use Rattle.seg_rows.specs.Versions.{AsOften, Version, newborn}
use Rattle.chunk_catalog.specs.Chunks.{HaveTimes}
use Rattle.ts_bucket.specs.Chunks.{chunk_start}
use Rattle.chunk_catalog.specs.Places.{Placed, in_chunk, versions_of, is_placed, ArePlaced}
use Rattle.chunk_catalog.specs.Parts.{AreIn, placed_row, placed_rows}
use Rattle.ts_schema.proofs.Cases.{and_first, and_second, count-append}

-- a test passes all items if it counts none that fails
pub all_from_count : {X : Type 0} (p : X → Bool) (xs : List X) → count_by (λ x. not (p x)) xs ≡ 0 → list_all p xs ≡ true
all_from_count p [] h = refl
all_from_count p (x ∷ xs) h =
    elim (p x) as (λ b. cond (not b) 1 0 + count_by (λ y. not (p y)) xs ≡ 0 → (b && list_all p xs) ≡ true) [
      | true ↦ λ e. all_from_count p xs (omega (arith, e))
      | false ↦ λ e. absurd (omega (arith, e))
    ] (sym (sum_by-cons (λ y. cond (not (p y)) 1 0) x xs) ∙ h)

pub count_from_all : {X : Type 0} (p : X → Bool) (xs : List X) → list_all p xs ≡ true → count_by (λ x. not (p x)) xs ≡ 0
count_from_all p [] h = refl
count_from_all p (x ∷ xs) h =
    sum_by-cons (λ y. cond (not (p y)) 1 0) x xs
    ∙ rw (and_first (p x) (list_all p xs) h) (omega (arith, count_from_all p xs (and_second (p x) (list_all p xs) h)))

-- every item passes the test that always passes
pub count_all : {X : Type 0} (xs : List X) → count_by (λ (x : X). true) xs ≡ length xs
count_all [] = refl
count_all (x ∷ xs) = sum_by-cons (λ y. 1) x xs ∙ omega (arith, count_all xs)

pub count_map : {X Y : Type 0} (f : X → Y) (p : Y → Bool) (xs : List X) → count_by p (map f xs) ≡ count_by (λ x. p (f x)) xs
count_map f p [] = refl
count_map f p (x ∷ xs) = sum_by-cons (λ y. cond (p y) 1 0) (f x) (map f xs) ∙ (ap (λ n. cond (p (f x)) 1 0 + n) (count_map f p xs) ∙ sym (sum_by-cons (λ y. cond (p (f y)) 1 0) x xs))

pub placed_rows-append : (interval : ℤ) (p : ℕ) (xs ys : List Row) → placed_rows interval p (xs ++ ys) ≡ placed_rows interval p xs ++ placed_rows interval p ys
placed_rows-append interval p xs ys = map-append (placed_row interval p) xs ys

-- rows of one chunk are placed there
pub placed_part : (interval start : ℤ) (p : ℕ) (rows : List Row) → AreIn interval start rows → placed_rows interval p rows ≡ in_chunk start (map (newborn p) rows)
placed_part interval start p [] here = refl
placed_part interval start p (row ∷ rows) here =
    let same : start ≡ chunk_start interval row.at = (Decides-int_eq start (chunk_start interval row.at)).0 (and_first (int_eq start (chunk_start interval row.at)) (list_all (λ r. int_eq start (chunk_start interval r.at)) rows) here) in
    let rest = placed_part interval start p rows (and_second (int_eq start (chunk_start interval row.at)) (list_all (λ r. int_eq start (chunk_start interval r.at)) rows) here) in
    rw (rest, ← same) refl

pub placed_rows-versions : (interval : ℤ) (p : ℕ) (rows : List Row) → versions_of (placed_rows interval p rows) ≡ map (newborn p) rows
placed_rows-versions interval p [] = refl
placed_rows-versions interval p (row ∷ rows) = ap (λ vs. newborn p row ∷ vs) (placed_rows-versions interval p rows)

-- rows with times are placed well
pub placed_rows-placed : (interval : ℤ) (p : ℕ) (rows : List Row) → HaveTimes rows → ArePlaced interval (placed_rows interval p rows)
placed_rows-placed interval p [] h = refl
placed_rows-placed interval p (row ∷ rows) h =
    let same : int_eq (chunk_start interval row.at) (chunk_start interval row.at) ≡ true = (Decides-int_eq (chunk_start interval row.at) (chunk_start interval row.at)).1 refl in
    rw (same, and_first (is_time row.at) (list_all (λ r. is_time r.at) rows) h) (placed_rows-placed interval p rows (and_second (is_time row.at) (list_all (λ r. is_time r.at) rows) h))

-- the last row is in its chunk
pub last_in : (interval start : ℤ) (rows : List Row) → 0 < length rows → ((row : Row) → chunk_start interval (get_or rows (length rows - 1) row).at ≡ start) → AreIn interval start (drop (length rows - 1) rows)
last_in interval start [] some last = absurd (omega arith)
last_in interval start (r ∷ rs) some last =
    let only : drop (length (r ∷ rs) - 1) (r ∷ rs) ≡ get_or (r ∷ rs) (length (r ∷ rs) - 1) r ∷ [] =
    drop_more (r ∷ rs) (length (r ∷ rs) - 1) r (omega arith) ∙ ap (λ ys. get_or (r ∷ rs) (length (r ∷ rs) - 1) r ∷ ys) (drop_all (length (r ∷ rs) - 1 + 1) (r ∷ rs) (omega arith)) in
    let same : int_eq start (chunk_start interval (get_or (r ∷ rs) (length (r ∷ rs) - 1) r).at) ≡ true = (Decides-int_eq start (chunk_start interval (get_or (r ∷ rs) (length (r ∷ rs) - 1) r).at)).1 (sym (last r)) in
    rw only (rw same refl)

-- the same rows, each as often
pub times_kept : (xs ys : List Row) → ((test : Row → Bool) → count_by test xs ≡ count_by test ys) → HaveTimes ys → HaveTimes xs
times_kept xs ys same h = all_from_count (λ row. is_time row.at) xs (same (λ row. not (is_time row.at)) ∙ count_from_all (λ row. is_time row.at) ys h)

pub length_kept : {X : Type 0} (xs ys : List X) → ((test : X → Bool) → count_by test xs ≡ count_by test ys) → length xs ≡ length ys
length_kept xs ys same = sym (count_all xs) ∙ (same (λ x. true) ∙ count_all ys)

pub placed_kept : (interval : ℤ) (p : ℕ) (xs ys : List Row) → ((test : Row → Bool) → count_by test xs ≡ count_by test ys) → (test : Placed → Bool) → count_by test (placed_rows interval p xs) ≡ count_by test (placed_rows interval p ys)
placed_kept interval p xs ys same test =
    count_map (placed_row interval p) test xs ∙ (same (λ row. test (placed_row interval p row)) ∙ sym (count_map (placed_row interval p) test ys))

-- the rows of one chunk move from the rows left to the tree
pub part_step : (interval start : ℤ) (p : ℕ) (before after : List Placed) (old new part : List Row) → old ≡ new ++ part → AreIn interval start part
    → ((test : Placed → Bool) → count_by test after ≡ count_by test before + count_by test (in_chunk start (map (newborn p) part)))
    → (test : Placed → Bool) → count_by test after + count_by test (placed_rows interval p new) ≡ count_by test before + count_by test (placed_rows interval p old)
part_step interval start p before after old new part split here put test =
    let moved : count_by test (placed_rows interval p part) ≡ count_by test (in_chunk start (map (newborn p) part)) = ap (count_by test) (placed_part interval start p part here) in
    let both : count_by test (placed_rows interval p old) ≡ count_by test (placed_rows interval p new) + count_by test (placed_rows interval p part) =
    ap (λ rows. count_by test (placed_rows interval p rows)) split ∙ (ap (count_by test) (placed_rows-append interval p new part) ∙ count-append test (placed_rows interval p new) (placed_rows interval p part)) in
    omega (arith, put test, moved, both)

-- a tree with more versions, counted by what each test passes
pub length_more : {X : Type 0} (xs ys zs : List X) → ((test : X → Bool) → count_by test xs ≡ count_by test ys + count_by test zs) → length xs ≡ length ys + length zs
length_more xs ys zs more = sym (count_all xs) ∙ (more (λ x. true) ∙ omega (arith, count_all ys, count_all zs))

pub placed_more : (interval : ℤ) (p : ℕ) (before after : List Placed) (rows : List Row) → ArePlaced interval before → HaveTimes rows
    → ((test : Placed → Bool) → count_by test after ≡ count_by test before + count_by test (placed_rows interval p rows)) → ArePlaced interval after
placed_more interval p before after rows placed times more =
    all_from_count (is_placed interval) after
    (more (λ x. not (is_placed interval x)) ∙ omega (arith, count_from_all (is_placed interval) before placed, count_from_all (is_placed interval) (placed_rows interval p rows) (placed_rows-placed interval p rows times)))

pub versions_more : (interval : ℤ) (p : ℕ) (before after : List Placed) (rows : List Row)
    → ((test : Placed → Bool) → count_by test after ≡ count_by test before + count_by test (placed_rows interval p rows))
    → AsOften (versions_of after) (versions_of before ++ map (newborn p) rows)
versions_more interval p before after rows more = λ test.
    count_map (λ x. x.version) test after
    ∙ (more (λ x. test x.version)
    ∙ omega (arith, sym (count_map (λ (x : Placed). x.version) test before), sym (count_map (λ (x : Placed). x.version) test (placed_rows interval p rows)), ap (count_by test) (placed_rows-versions interval p rows), count-append test (versions_of before) (map (newborn p) rows)))

-- one more piece of rows
pub piece_more : (p : ℕ) (start now new : List Version) (rows : List Row) (from to : ℕ) → from ≤ to → AsOften now (start ++ map (newborn p) (take from rows))
    → AsOften new (now ++ map (newborn p) (take (to - from) (drop from rows))) → AsOften new (start ++ map (newborn p) (take to rows))
piece_more p start now new rows from to order was put =
    let front = take from rows in
    let piece = take (to - from) (drop from rows) in
    let whole : to ≡ from + (to - from) = omega (arith, order) in
    let both : take to rows ≡ front ++ piece = ap (λ n. take n rows) whole ∙ take-add from (to - from) rows in
    λ test.
    put test ∙ count-append test now (map (newborn p) piece) ∙ ap (λ n. n + count_by test (map (newborn p) piece)) (was test)
    ∙ sym (count-append test (start ++ map (newborn p) front) (map (newborn p) piece))
    ∙ ap (count_by test) (append_assoc start (map (newborn p) front) (map (newborn p) piece) ∙ ap (λ vs. start ++ vs) (sym (map-append (newborn p) front piece)))
    ∙ ap (λ rs. count_by test (start ++ map (newborn p) rs)) (sym both)

pub nothing_put : (p : ℕ) (start now : List Version) (rows : List Row) → now ≡ start → AsOften now (start ++ map (newborn p) (take 0 rows))
nothing_put p start now rows same = λ test. ap (count_by test) (same ∙ sym (append-nil start))

-- parts of rows of times are of times
pub times_in_front : (rows : List Row) (k : ℕ) → HaveTimes rows → HaveTimes (take k rows)
times_in_front rows zero e = refl
times_in_front [] (suc k) e = refl
times_in_front (row ∷ rows) (suc k) e = and_from (is_time row.at) _ (and_first (is_time row.at) (list_all (λ r. is_time r.at) rows) e) (times_in_front rows k (and_second (is_time row.at) (list_all (λ r. is_time r.at) rows) e))

pub times_behind : (rows : List Row) (k : ℕ) → HaveTimes rows → HaveTimes (drop k rows)
times_behind rows zero e = e
times_behind [] (suc k) e = refl
times_behind (row ∷ rows) (suc k) e = times_behind rows k (and_second (is_time row.at) (list_all (λ r. is_time r.at) rows) e)

pub times_of_part : (rows : List Row) (from to : ℕ) → HaveTimes rows → HaveTimes (take (to - from) (drop from rows))
times_of_part rows from to h = times_in_front (drop from rows) (to - from) (times_behind rows from h)

-- if all rows are in front, all are inserted
pub all_put : (p : ℕ) (start now : List Version) (rows : List Row) (from : ℕ) → length rows ≤ from → AsOften now (start ++ map (newborn p) (take from rows)) → AsOften now (start ++ map (newborn p) rows)
all_put p start now rows from whole was =
    λ test. was test ∙ ap (λ rs. count_by test (start ++ map (newborn p) rs)) (take_all from rows whole)

-- a list is its items before a place and those from it on
pub two_parts : (rows : List Row) (n : ℕ) → rows ≡ take (n - 0) (drop 0 rows) ++ take (length rows - n) (drop n rows)
two_parts rows n =
    let first : n - 0 ≡ n = omega arith in
    sym (take-append-drop n rows) ∙ ap (λ rs. rs ++ drop n rows) (ap (λ k. take k rows) (sym first)) ∙ ap (λ rs. take (n - 0) rows ++ rs) (sym (take_rest rows n))
