-- Laws of versions: what one more version adds to the rows shown or deleted.
use Rattle.std.proofs.Common.{◌≡◌, ℕ, ◌<◌, ◌≤◌, ◌+◌, Bool, true, false, cond, ◌&&◌, Option, Some, None, ℤ, List, [], ◌∷◌, ◌++◌, length, get_or, take, drop, map, refl, sym, ◌∙◌, ap, arith}
use Rattle.std.specs.List.{filter}
use Rattle.std.proofs.Math.Bool.{and-false}
use Rattle.std.specs.Prelude.{not}
use Rattle.std.proofs.lemmas.Int.{ints, clamps}
use Rattle.std.proofs.lemmas.List.Folds.{list_all-append}
use Rattle.std.proofs.lemmas.List.{append_assoc, append-nil, map-append, length-append, length-map, take_at, take-append-drop}
use Rattle.std.proofs.lemmas.List.Elements.{filter_more, filter-append}
use Rattle.std.proofs.lemmas.List.Sums.{length-filter, count_by-le-length}
use Rattle.ts_bucket.specs.Spans.{HullValue, SpanValue, in_span}
use Rattle.ts_schema.specs.declared.rows.Row.{Row}
use Rattle.ts_schema.specs.declared.conditions.Test.{Test}
use Rattle.seg_rows.specs.Hulls.{joined_hull, hull_at, hull_of, misses}
use Rattle.seg_rows.specs.Versions.{Version, visible_at, shown_at, rows_of, rows_at, is_taken, taken_at, after_kill, later_time, latest_of, latest_at}
use Rattle.seg_rows.proofs.HullLaws.{hull_of-append, latest_of-append, later_time-assoc, later_apart}

map-cond : {X Y : Type 0} (f : X → Y) (b : Bool) (x : X) → map f (cond b (x ∷ []) []) ≡ cond b (f x ∷ []) []
map-cond f true x = refl
map-cond f false x = refl

-- the images under f of the items that pass, with one more item
pub picked_more : {X Y : Type 0} (f : X → Y) (p : X → Bool) (xs : List X) (i : ℕ) (d x : X) → i < length xs → get_or xs i d ≡ x
    → map f (filter p (take (i + 1) xs)) ≡ map f (filter p (take i xs)) ++ cond (p x) (f x ∷ []) []
picked_more f p xs i d x h e =
    ap (map f) (filter_more p xs i d h) ∙ (map-append f (filter p (take i xs)) (cond (p (get_or xs i d)) (get_or xs i d ∷ []) []) ∙ (ap (λ zs. map f (filter p (take i xs)) ++ zs) (map-cond f (p (get_or xs i d)) (get_or xs i d)) ∙ ap (λ y. map f (filter p (take i xs)) ++ cond (p y) (f y ∷ []) []) e))

-- the images under f of the items that pass, over two lists
pub picked-append : {X Y : Type 0} (f : X → Y) (p : X → Bool) (xs ys : List X)
    → map f (filter p (xs ++ ys)) ≡ map f (filter p xs) ++ map f (filter p ys)
picked-append f p xs ys = ap (map f) (filter-append p xs ys) ∙ map-append f (filter p xs) (filter p ys)

pub and_true : (a b r : Bool) → a ≡ true → r ≡ b → r ≡ (a && b)
and_true a b r e h = grind arith

pub and_false : (a b r : Bool) → a ≡ false → r ≡ false → r ≡ (a && b)
and_false a b r e h = grind arith

-- what one more version adds to the rows that are shown
pub rows_at-more : (p : ℕ) (s : SpanValue) (vs : List Version) (i : ℕ) (d v : Version) → i < length vs → get_or vs i d ≡ v
    → rows_at p s (take (i + 1) vs) ≡ rows_at p s (take i vs) ++ cond (shown_at p s v) (v.row ∷ []) []
rows_at-more p s vs i d v h e = picked_more (λ v. v.row) (shown_at p s) vs i d v h e

pub rows_at-append : (p : ℕ) (s : SpanValue) (xs ys : List Version) → rows_at p s (xs ++ ys) ≡ rows_at p s xs ++ rows_at p s ys
rows_at-append p s xs ys = picked-append (λ v. v.row) (shown_at p s) xs ys

-- the rows shown of the first versions are the first of the rows shown
pub rows_at-take : (p : ℕ) (s : SpanValue) (vs : List Version) (i : ℕ)
    → rows_at p s (take i vs) ≡ take (length (rows_at p s (take i vs))) (rows_at p s vs)
rows_at-take p s vs i =
    sym (take_at (rows_at p s (take i vs)) (rows_at p s (drop i vs)) _ refl)
    ∙ ap (take (length (rows_at p s (take i vs)))) (sym (rows_at-append p s (take i vs) (drop i vs)) ∙ ap (rows_at p s) (take-append-drop i vs))

-- a span that the hull of one more time misses doesn't hold it, and misses the hull without it
misses_time : (s : SpanValue) (t : ℤ) (k : Option HullValue) → misses s (joined_hull (hull_at t) k) ≡ true → in_span s t ≡ false
misses_time s t None e = grind (arith, ints)
misses_time s t (Some h) e = grind (arith, ints, clamps)

misses_rest : (s : SpanValue) (t : ℤ) (k : Option HullValue) → misses s (joined_hull (hull_at t) k) ≡ true → misses s k ≡ true
misses_rest s t None e = refl
misses_rest s t (Some h) e = grind (arith, ints, clamps)

-- if a span misses the hull of all times, nothing is shown
pub none_shown : (p : ℕ) (s : SpanValue) (vs : List Version) → misses s (hull_of (rows_of vs)) ≡ true → rows_at p s vs ≡ []
none_shown p s [] e = refl
none_shown p s (v ∷ vs) e =
    let outside : in_span s v.row.at ≡ false = misses_time s v.row.at (hull_of (rows_of vs)) e in
    let hidden : shown_at p s v ≡ false = rw outside (and-false (visible_at p v)) in
    rw hidden (none_shown p s vs (misses_rest s v.row.at (hull_of (rows_of vs)) e))

length-append-cond : {X : Type 0} (xs : List X) (b : Bool) (x : X) → length (xs ++ cond b (x ∷ []) []) ≡ length xs + cond b 1 0
length-append-cond xs true x = simp length-append
length-append-cond xs false x = simp length-append

hull_of-append-cond : (xs : List Row) (b : Bool) (x : Row) → hull_of (xs ++ cond b (x ∷ []) []) ≡ joined_hull (hull_of xs) (cond b (hull_at x.at) None)
hull_of-append-cond xs true x = hull_of-append xs (x ∷ [])
hull_of-append-cond xs false x = hull_of-append xs []

latest_of-append-cond : (xs : List Row) (b : Bool) (x : Row) → latest_of (xs ++ cond b (x ∷ []) []) ≡ later_time (latest_of xs) (cond b (Some x.at) None)
latest_of-append-cond xs true x = latest_of-append xs (x ∷ [])
latest_of-append-cond xs false x = latest_of-append xs []

-- what one more version adds to what a delete takes
pub taken_at-more : (p : ℕ) (tests : List Test) (vs : List Version) (i : ℕ) (d v : Version) → i < length vs → get_or vs i d ≡ v
    → taken_at p tests (take (i + 1) vs) ≡ taken_at p tests (take i vs) ++ cond (is_taken p tests v) (v.row ∷ []) []
taken_at-more p tests vs i d v h e = picked_more (λ v. v.row) (is_taken p tests) vs i d v h e

pub taken_at-more_length : (p : ℕ) (tests : List Test) (vs : List Version) (i : ℕ) (d v : Version) → i < length vs → get_or vs i d ≡ v
    → length (taken_at p tests (take (i + 1) vs)) ≡ length (taken_at p tests (take i vs)) + cond (is_taken p tests v) 1 0
taken_at-more_length p tests vs i d v h e =
    ap length (taken_at-more p tests vs i d v h e) ∙ length-append-cond (taken_at p tests (take i vs)) (is_taken p tests v) v.row

pub taken_at-more_hull : (p : ℕ) (tests : List Test) (vs : List Version) (i : ℕ) (d v : Version) → i < length vs → get_or vs i d ≡ v
    → hull_of (taken_at p tests (take (i + 1) vs)) ≡ joined_hull (hull_of (taken_at p tests (take i vs))) (cond (is_taken p tests v) (hull_at v.row.at) None)
taken_at-more_hull p tests vs i d v h e =
    ap hull_of (taken_at-more p tests vs i d v h e) ∙ hull_of-append-cond (taken_at p tests (take i vs)) (is_taken p tests v) v.row

-- a delete takes at most all versions
pub taken_at-length : (p : ℕ) (tests : List Test) (vs : List Version) → length (taken_at p tests vs) ≤ length vs
taken_at-length p tests vs = omega (arith, length-map (filter (is_taken p tests) vs) (λ (v : Version). v.row), length-filter (is_taken p tests) vs, count_by-le-length (is_taken p tests) vs)

-- the same, under a name that an attribute of code can write
pub taken_few : (p : ℕ) (tests : List Test) (vs : List Version) → length (taken_at p tests vs) ≤ length vs
taken_few p tests vs = taken_at-length p tests vs

pub taken_at-append : (p : ℕ) (tests : List Test) (xs ys : List Version) → taken_at p tests (xs ++ ys) ≡ taken_at p tests xs ++ taken_at p tests ys
taken_at-append p tests xs ys = picked-append (λ v. v.row) (is_taken p tests) xs ys

-- what one more version adds to the greatest visible time
pub latest_at-more : (p : ℕ) (vs : List Version) (i : ℕ) (d v : Version) → i < length vs → get_or vs i d ≡ v
    → latest_at p (take (i + 1) vs) ≡ later_time (latest_at p (take i vs)) (cond (visible_at p v) (Some v.row.at) None)
latest_at-more p vs i d v h e =
    ap latest_of (picked_more (λ v. v.row) (visible_at p) vs i d v h e) ∙ latest_of-append-cond (rows_of (filter (visible_at p) (take i vs))) (visible_at p v) v.row

pub latest_at-append : (p : ℕ) (xs ys : List Version) → latest_at p (xs ++ ys) ≡ later_time (latest_at p xs) (latest_at p ys)
latest_at-append p xs ys =
    ap latest_of (picked-append (λ v. v.row) (visible_at p) xs ys) ∙ latest_of-append (rows_of (filter (visible_at p) xs)) (rows_of (filter (visible_at p) ys))

-- a delete that takes no version changes none
pub after_kill-nothing : (p : ℕ) (tests : List Test) (vs : List Version) → length (taken_at p tests vs) ≡ 0 → map (after_kill p tests) vs ≡ vs
after_kill-nothing p tests [] e = refl
after_kill-nothing p tests (v ∷ vs) e =
    elim (is_taken p tests v) as (λ b. length (rows_of (cond b (v ∷ filter (is_taken p tests) vs) (filter (is_taken p tests) vs))) ≡ 0 → (cond b (record { row = v.row; born = v.born; died = Some p }) v) ∷ map (after_kill p tests) vs ≡ v ∷ vs) [
      | true ↦ λ f. absurd (omega (arith, f))
      | false ↦ λ f. ap (λ ws. v ∷ ws) (after_kill-nothing p tests vs f)
    ] e

-- the items pushed, after those done before
pub pushed_step : (out before done more new : List Row) → out ≡ before ++ done → new ≡ done ++ more → out ++ more ≡ before ++ new
pushed_step out before done more new e f = ap (λ x. x ++ more) e ∙ (append_assoc before done more ∙ ap (λ x. before ++ x) (sym f))

-- a delete that took nothing left the versions as they were
pub kill_nothing : (p : ℕ) (tests : List Test) (old new : List Version) (removed : ℕ)
    → new ≡ map (after_kill p tests) old → removed ≡ length (taken_at p tests old) → removed ≡ 0 → new ≡ old
kill_nothing p tests old new removed after counted none = after ∙ after_kill-nothing p tests old (sym counted ∙ none)

-- the versions visible in two lists, and those that a delete takes
pub ruleset parts = (rows_at-append, taken_at-append, latest_at-append, hull_of-append, latest_of-append, length-append, map-append, append-nil, list_all-append)

-- if no version has a later time, no visible one has
pub no_later : (p : ℕ) (best : Option ℤ) (vs : List Version) → later_time best (latest_of (rows_of vs)) ≡ best → later_time best (latest_at p vs) ≡ best
no_later p best [] h = h
no_later p best (v ∷ vs) h =
    let parts = later_apart best (Some v.row.at) (latest_of (rows_of vs)) h in
    elim (visible_at p v) as (λ b. later_time best (latest_of (rows_of (cond b (v ∷ filter (visible_at p) vs) (filter (visible_at p) vs)))) ≡ best) [
      | true ↦ later_time-assoc best (Some v.row.at) (latest_at p vs) ∙ (ap (λ t. later_time t (latest_at p vs)) parts.0 ∙ no_later p best vs parts.1)
      | false ↦ no_later p best vs parts.1
    ]

-- a delete doesn't change the rows of versions
pub rows_of-killed : (p : ℕ) (tests : List Test) (vs : List Version) → rows_of (map (after_kill p tests) vs) ≡ rows_of vs
rows_of-killed p tests [] = refl
rows_of-killed p tests (v ∷ vs) =
    elim (is_taken p tests v) as (λ b. (cond b (record { row = v.row; born = v.born; died = Some p }) v).row ∷ rows_of (map (after_kill p tests) vs) ≡ v.row ∷ rows_of vs) [
      | true ↦ ap (λ rs. v.row ∷ rs) (rows_of-killed p tests vs)
      | false ↦ ap (λ rs. v.row ∷ rs) (rows_of-killed p tests vs)
    ]
