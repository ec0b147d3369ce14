-- Laws of versions with the starts of their chunks.
use Rattle.std.proofs.Common.{◌≡◌, ℕ, ◌≤◌, ◌+◌, not, true, false, cond, Option, Some, None, List, [], ◌∷◌, ◌++◌, length, map, ℤ, ◌+ℤ◌, ◌≤ℤ◌, ◌<ℤ◌, refl, sym, ◌∙◌, ap, subst, arith}
use Rattle.std.specs.List.{filter, list_all}
use Rattle.std.specs.Int.{int_min, int_max}
use Rattle.std.proofs.lemmas.Int.{ints}
use Rattle.std.proofs.lemmas.List.{map-append, length-append}
use Rattle.std.proofs.lemmas.List.Folds.{list_all-append}
use Rattle.std.proofs.lemmas.Bool.{not-true}
use Rattle.ts_bucket.specs.Spans.{HullValue, in_hull}
use Rattle.ts_schema.specs.declared.conditions.Test.{Test}
use Rattle.seg_rows.specs.Hulls.{joined_hull, hull_at}
use Rattle.seg_rows.specs.Versions.{Version, visible_at, rows_of, after_kill, taken_at, later_time, latest_of, latest_at}
use Rattle.seg_rows.proofs.HullLaws.{later_time-assoc, later_time-comm, later_time-none}
use Rattle.seg_rows.proofs.VersionLaws.{picked-append, taken_at-append, after_kill-nothing}
use Rattle.chunk_catalog.specs.declared.time_ranges.TimeRange.{TimeRange}
use Rattle.chunk_catalog.specs.Reach.{in_reach}
use Rattle.ts_bucket.specs.Chunks.{IsInterval}
use Rattle.chunk_catalog.specs.Places.{Placed, place, in_chunk, versions_of, versions_in, after_kill_in, StartsIn, AreOut, is_placed, ArePlaced}
use Rattle.chunk_catalog.proofs.ReachLaws.{lies}
use Rattle.ts_schema.proofs.Cases.{and_first, and_second}

-- a chunk in reach has all its versions, and another one none
pub reached_in : (r : TimeRange) (s : ℤ) (vs : List Version) → in_reach r s ≡ true → versions_in r (in_chunk s vs) ≡ vs
reached_in r s [] h = refl
reached_in r s (v ∷ vs) h = rw h (ap (λ ws. v ∷ ws) (reached_in r s vs h))

pub reached_out : (r : TimeRange) (s : ℤ) (vs : List Version) → in_reach r s ≡ false → versions_in r (in_chunk s vs) ≡ []
reached_out r s [] h = refl
reached_out r s (v ∷ vs) h = rw h (reached_out r s vs h)

pub killed_in : (r : TimeRange) (p : ℕ) (tests : List Test) (s : ℤ) (vs : List Version) → in_reach r s ≡ true → map (after_kill_in r p tests) (in_chunk s vs) ≡ in_chunk s (map (after_kill p tests) vs)
killed_in r p tests s [] h = refl
killed_in r p tests s (v ∷ vs) h = rw h (ap (λ ps. place s (after_kill p tests v) ∷ ps) (killed_in r p tests s vs h))

pub killed_out : (r : TimeRange) (p : ℕ) (tests : List Test) (s : ℤ) (vs : List Version) → in_reach r s ≡ false → map (after_kill_in r p tests) (in_chunk s vs) ≡ in_chunk s vs
killed_out r p tests s [] h = refl
killed_out r p tests s (v ∷ vs) h = rw h (ap (λ ps. place s v ∷ ps) (killed_out r p tests s vs h))

pub versions_of-in_chunk : (s : ℤ) (vs : List Version) → versions_of (in_chunk s vs) ≡ vs
versions_of-in_chunk s [] = refl
versions_of-in_chunk s (v ∷ vs) = ap (λ ws. v ∷ ws) (versions_of-in_chunk s vs)

pub versions_of-append : (xs ys : List Placed) → versions_of (xs ++ ys) ≡ versions_of xs ++ versions_of ys
versions_of-append xs ys = map-append (λ (x : Placed). x.version) xs ys

pub reached-append : (r : TimeRange) (xs ys : List Placed) → versions_in r (xs ++ ys) ≡ versions_in r xs ++ versions_in r ys
reached-append r xs ys = picked-append (λ x. x.version) (λ x. in_reach r x.start) xs ys

-- how many versions of a chunk and two trees are reached
pub length_reached : (r : TimeRange) (xs ys zs : List Placed) → length (versions_in r (xs ++ ys ++ zs)) ≡ length (versions_in r xs) + length (versions_in r ys) + length (versions_in r zs)
length_reached r xs ys zs =
    omega (arith, ap length (reached-append r (xs ++ ys) zs), length-append (versions_in r (xs ++ ys)) (versions_in r zs), ap length (reached-append r xs ys), length-append (versions_in r xs) (versions_in r ys))

-- what is true of parts is true of the whole
pub ruleset places = (versions_of-in_chunk, versions_of-append, reached-append)

pub reached_few : (r : TimeRange) (ps : List Placed) → length (versions_in r ps) ≤ length ps
reached_few r [] = omega arith
reached_few r (x ∷ ps) =
    elim (in_reach r x.start) as (λ b. length (versions_of (cond b (x ∷ filter (λ y. in_reach r y.start) ps) (filter (λ y. in_reach r y.start) ps))) ≤ length (x ∷ ps)) [
      | true ↦ omega (arith, reached_few r ps)
      | false ↦ omega (arith, reached_few r ps)
    ]

-- if no start is in reach, no row is visible and none is deleted
pub out_reached : (r : TimeRange) (ps : List Placed) → AreOut r ps → versions_in r ps ≡ []
out_reached r [] h = refl
out_reached r (x ∷ ps) h =
    let here : in_reach r x.start ≡ false = not-true (in_reach r x.start) (and_first (not (in_reach r x.start)) (list_all (λ y. not (in_reach r y.start)) ps) h) in
    rw here (out_reached r ps (and_second (not (in_reach r x.start)) (list_all (λ y. not (in_reach r y.start)) ps) h))

pub out_killed : (r : TimeRange) (p : ℕ) (tests : List Test) (ps : List Placed) → AreOut r ps → map (after_kill_in r p tests) ps ≡ ps
out_killed r p tests [] h = refl
out_killed r p tests (x ∷ ps) h =
    let here : in_reach r x.start ≡ false = not-true (in_reach r x.start) (and_first (not (in_reach r x.start)) (list_all (λ y. not (in_reach r y.start)) ps) h) in
    rw here (ap (λ qs. x ∷ qs) (out_killed r p tests ps (and_second (not (in_reach r x.start)) (list_all (λ y. not (in_reach r y.start)) ps) h)))

-- a delete that takes no version changes none
pub killed_nothing_in : (r : TimeRange) (p : ℕ) (tests : List Test) (ps : List Placed) → length (taken_at p tests (versions_in r ps)) ≡ 0 → map (after_kill_in r p tests) ps ≡ ps
killed_nothing_in r p tests [] h = refl
killed_nothing_in r p tests (x ∷ ps) h =
    elim (in_reach r x.start) as (λ b. length (taken_at p tests (versions_of (cond b (x ∷ filter (λ y. in_reach r y.start) ps) (filter (λ y. in_reach r y.start) ps)))) ≡ 0
    → (cond b (place x.start (after_kill p tests x.version)) x) ∷ map (after_kill_in r p tests) ps ≡ x ∷ ps) [
      | true ↦ λ none.
          let both : length (taken_at p tests (x.version ∷ [])) + length (taken_at p tests (versions_in r ps)) ≡ 0 =
          sym (length-append (taken_at p tests (x.version ∷ [])) (taken_at p tests (versions_in r ps))) ∙ (ap length (sym (taken_at-append p tests (x.version ∷ []) (versions_in r ps))) ∙ none) in
          let first : map (after_kill p tests) (x.version ∷ []) ≡ x.version ∷ [] = after_kill-nothing p tests (x.version ∷ []) (omega (arith, both)) in
          let head : after_kill p tests x.version ≡ x.version = cc in
          rw (head, killed_nothing_in r p tests ps (omega (arith, both))) refl
      | false ↦ λ none. ap (λ qs. x ∷ qs) (killed_nothing_in r p tests ps none)
    ] h

pub kill_nothing_in : (r : TimeRange) (p : ℕ) (tests : List Test) (old new : List Placed) (removed : ℕ)
    → new ≡ map (after_kill_in r p tests) old → removed ≡ length (taken_at p tests (versions_in r old)) → removed ≡ 0 → new ≡ old
kill_nothing_in r p tests old new removed after counted none = after ∙ killed_nothing_in r p tests old (sym counted ∙ none)

-- the starts of a hull that a range doesn't meet are out of reach
pub apart_out : (r : TimeRange) (h : HullValue) (ps : List Placed) → ((t : ℤ) → in_hull h t ≡ true → in_reach r t ≡ false) → StartsIn (Some h) ps → AreOut r ps
apart_out r h [] apart inside = refl
apart_out r h (x ∷ ps) apart inside =
    let here : in_reach r x.start ≡ false = apart x.start (and_first (in_hull h x.start) (list_all (λ y. in_hull h y.start) ps) inside) in
    rw here (apart_out r h ps apart (and_second (in_hull h x.start) (list_all (λ y. in_hull h y.start) ps) inside))

-- a joined hull holds both
pub in_joined_first : (g : HullValue) (b : Option HullValue) (h : HullValue) (t : ℤ) → Some h ≡ joined_hull (Some g) b → in_hull g t ≡ true → in_hull h t ≡ true
in_joined_first g None h t e p = let same : h ≡ g = cc in rw same p
in_joined_first g (Some k) h t e p =
    let same : h ≡ record { least = int_min g.least k.least; most = int_max g.most k.most } = cc in
    rw same (grind (arith, ints))

in_joined_second : (a : Option HullValue) (g h : HullValue) (t : ℤ) → Some h ≡ joined_hull a (Some g) → in_hull g t ≡ true → in_hull h t ≡ true
in_joined_second None g h t e p = let same : h ≡ g = cc in rw same p
in_joined_second (Some k) g h t e p =
    let same : h ≡ record { least = int_min k.least g.least; most = int_max k.most g.most } = cc in
    rw same (grind (arith, ints))

-- starts stay in a hull that grows
wider : (g h : HullValue) (ps : List Placed) → ((t : ℤ) → in_hull g t ≡ true → in_hull h t ≡ true) → StartsIn (Some g) ps → StartsIn (Some h) ps
wider g h [] w inside = refl
wider g h (x ∷ ps) w inside =
    rw (w x.start (and_first (in_hull g x.start) (list_all (λ y. in_hull g y.start) ps) inside))
    (wider g h ps w (and_second (in_hull g x.start) (list_all (λ y. in_hull g y.start) ps) inside))

join_first : (a b : Option HullValue) (ps : List Placed) → StartsIn a ps → StartsIn (joined_hull a b) ps
join_first None None ps none = none
join_first None (Some k) ps none = rw none refl
join_first (Some g) None ps inside = inside
join_first (Some g) (Some k) ps inside = wider g (record { least = int_min g.least k.least; most = int_max g.most k.most }) ps (λ t p. in_joined_first g (Some k) (record { least = int_min g.least k.least; most = int_max g.most k.most }) t refl p) inside

join_second : (a b : Option HullValue) (ps : List Placed) → StartsIn b ps → StartsIn (joined_hull a b) ps
join_second None b ps inside = inside
join_second (Some g) None ps none = rw none refl
join_second (Some g) (Some k) ps inside = wider k (record { least = int_min g.least k.least; most = int_max g.most k.most }) ps (λ t p. in_joined_second (Some g) k (record { least = int_min g.least k.least; most = int_max g.most k.most }) t refl p) inside

starts_here : (h : HullValue) (s : ℤ) (vs : List Version) → in_hull h s ≡ true → StartsIn (Some h) (in_chunk s vs)
starts_here h s [] p = refl
starts_here h s (v ∷ vs) p = rw p (starts_here h s vs p)

both_parts : (h : HullValue) (xs ys : List Placed) → StartsIn (Some h) xs → StartsIn (Some h) ys → StartsIn (Some h) (xs ++ ys)
both_parts h xs ys p q = rw (list_all-append (λ x. in_hull h x.start) xs ys, p) q

-- the starts of two trees and a chunk between them lie in the joined hull
pub starts_of_fork : (a b : Option HullValue) (h : HullValue) (s : ℤ) (l r : List Placed) (vs : List Version)
    → StartsIn a l → StartsIn b r → Some h ≡ joined_hull (hull_at s) (joined_hull a b) → StartsIn (Some h) (l ++ in_chunk s vs ++ r)
starts_of_fork a b h s l r vs left right e =
    let on_left : StartsIn (Some h) l = subst (λ k. StartsIn k l) (sym e) (join_second (hull_at s) (joined_hull a b) l (join_first a b l left)) in
    let on_right : StartsIn (Some h) r = subst (λ k. StartsIn k r) (sym e) (join_second (hull_at s) (joined_hull a b) r (join_second a b r right)) in
    let point : in_hull (record { least = s; most = s }) s ≡ true = grind (arith, ints) in
    let here : StartsIn (Some h) (in_chunk s vs) = subst (λ k. StartsIn k (in_chunk s vs)) (sym e) (join_first (hull_at s) (joined_hull a b) (in_chunk s vs) (starts_here (record { least = s; most = s }) s vs point)) in
    both_parts h (l ++ in_chunk s vs) r (both_parts h l (in_chunk s vs) on_left here) on_right

-- if no chunk of a hull holds a time above the best, no version is later
pub past_all : (interval : ℤ) (best : Option ℤ) (h : HullValue) (ps : List Placed) → IsInterval interval
    → ((t : ℤ) → t <ℤ (h.most +ℤ interval) → later_time best (Some t) ≡ best) → StartsIn (Some h) ps → ArePlaced interval ps
    → (p : ℕ) → later_time best (latest_at p (versions_of ps)) ≡ best
past_all interval best h [] wide past inside placed p = later_time-none best
past_all interval best h (x ∷ ps) wide past inside placed p =
    let rest : later_time best (latest_at p (versions_of ps)) ≡ best = past_all interval best h ps wide past (and_second (in_hull h x.start) (list_all (λ y. in_hull h y.start) ps) inside) (and_second (is_placed interval x) (list_all (is_placed interval) ps) placed) p in
    let here = lies interval x wide (and_first (is_placed interval x) (list_all (is_placed interval) ps) placed) in
    let at : in_hull h x.start ≡ true = and_first (in_hull h x.start) (list_all (λ y. in_hull h y.start) ps) inside in
    let below : x.start ≤ℤ h.most = grind (arith, ints) in
    let before : x.version.row.at <ℤ (x.start +ℤ interval) = here.before_end in
    let this : later_time best (Some x.version.row.at) ≡ best = past x.version.row.at (omega (arith, ints)) in
    elim (visible_at p x.version) as (λ b. later_time best (latest_of (rows_of (cond b (x.version ∷ filter (visible_at p) (versions_of ps)) (filter (visible_at p) (versions_of ps))))) ≡ best) [
      | true ↦ later_time-assoc best (Some x.version.row.at) (latest_at p (versions_of ps)) ∙ (ap (λ t. later_time t (latest_at p (versions_of ps))) this ∙ rest)
      | false ↦ rest
    ]

-- the same of one chunk
pub past_chunk : (interval : ℤ) (best : Option ℤ) (s : ℤ) (vs : List Version) → IsInterval interval
    → ((t : ℤ) → t <ℤ (s +ℤ interval) → later_time best (Some t) ≡ best) → ArePlaced interval (in_chunk s vs)
    → (p : ℕ) → later_time best (latest_at p vs) ≡ best
past_chunk interval best s vs wide past placed p =
    let point : in_hull (record { least = s; most = s }) s ≡ true = grind (arith, ints) in
    ap (λ ws. later_time best (latest_at p ws)) (sym (versions_of-in_chunk s vs)) ∙ past_all interval best (record { least = s; most = s }) (in_chunk s vs) wide past (starts_here (record { least = s; most = s }) s vs point) placed p

-- the greatest time is the same with the latest parts first
pub later_first : (best l c r : Option ℤ) → later_time (later_time (later_time best r) c) l ≡ later_time best (later_time (later_time l c) r)
later_first best l c r =
    sym (later_time-assoc (later_time best r) c l)
    ∙ (sym (later_time-assoc best r (later_time c l))
    ∙ ap (later_time best) (later_time-comm r (later_time c l) ∙ ap (λ t. later_time t r) (later_time-comm c l)))
