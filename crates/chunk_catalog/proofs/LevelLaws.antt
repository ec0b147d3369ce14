-- Laws of levels: trees whose sides are even have few levels.
use Rattle.std.proofs.Common.{◌≡◌, ℕ, suc, zero, ◌<◌, ◌≤◌, ◌+◌, ◌*◌, ◌^◌, max, true, false, List, ◌++◌, map, length, ℤ, Option, refl, sym, ◌∙◌, ap, arith}
use Rattle.std.specs.Prelude.{nat_le}
use Rattle.std.proofs.Math.Nat.{pow-suc, lt_of_not-le}
use Rattle.std.proofs.lemmas.Bool.{leb-true}
use Rattle.std.proofs.lemmas.List.{length-append}
use Rattle.ts_bucket.specs.Spans.{HullValue}
use Rattle.seg_rows.specs.Hulls.{hull_of, joined_hull}
use Rattle.seg_rows.specs.Versions.{Version, HasMore, rows_of, died_out, later_death, later_time, after_kill}
use Rattle.seg_rows.proofs.DeathLaws.{died_out-append}
use Rattle.seg_rows.proofs.HullLaws.{hull_of-append, later_time-assoc, later_time-comm}
use Rattle.seg_rows.proofs.VersionLaws.{rows_of-killed}
use Rattle.ts_schema.specs.declared.conditions.Test.{Test}
use Rattle.std.proofs.lemmas.List.{length-map, map-append}
use Rattle.chunk_catalog.proofs.PartLaws.{length_more}
use Rattle.chunk_catalog.specs.Chunks.{AreLow}
use Rattle.chunk_catalog.specs.Levels.{AreFew, Levels, AreLevel, FewLevels, TreeValue, tree_over}
use Rattle.chunk_catalog.specs.Places.{Kept, Placed, in_chunk, placed_in, place}
use Rattle.chunk_catalog.specs.SegmentTrees.{AreEven, IsFork}

-- a number at most the greater of two is at most one of them
either : {C : Type 0} (k a b : ℕ) → k ≤ max a b → (k ≤ a → C) → (k ≤ b → C) → C
either {C} k a b h f g = elim (nat_le k a) as (λ t. nat_le k a ≡ t → C) [
  | true ↦ λ e. f (leb-true k a e)
  | false ↦ λ e. g (grind (arith, e, h))
] refl

doubled : (j n m : ℕ) → 2 ^ j ≤ n → 2 * n ≤ m → 2 ^ suc j ≤ m
doubled j n m h e = omega (arith, pow-suc 2 j, h, e)

-- fewer levels for a larger size are also few
pub few_of : (l n l2 n2 : ℕ) → AreFew l n → l2 ≤ l → n ≤ n2 → AreFew l2 n2
few_of l n l2 n2 few low wide k h = omega (arith, few k (omega (arith, h, low)), wide)

-- a segment as the sibling of a fork whose left side is smaller than its right side and the segment together
beside_segment : (la lb a b s : ℕ) → AreFew la (2 * a) → AreFew lb (2 * b) → (0 < lb → b ≤ a) → 0 < a → 0 < s → a < b + s → AreFew (suc (suc (max la lb))) (2 * (a + b + s))
beside_segment la lb a b s fa fb lean some more less zero h = omega (arith, some)
beside_segment la lb a b s fa fb lean some more less (suc zero) h = omega (arith, some, more)
beside_segment la lb a b s fa fb lean some more less (suc (suc j)) h =
    either (2 * suc j) la lb (omega (arith, h))
    (λ p. doubled (suc j) (2 * a) (2 * (a + b + s)) (fa (suc j) p) (omega (arith, less)))
    (λ p. doubled (suc j) (2 * b) (2 * (a + b + s)) (fb (suc j) p) (omega (arith, lean (omega (arith, p)))))

-- a later side that grew, and is no larger than the earlier one
grown_right : (la lb lc a b c : ℕ) → AreFew (suc (max la lb)) (2 * (a + b)) → AreFew lc (2 * c) → b ≤ c → c ≤ a → 0 < a → AreFew (suc (max la lc)) (2 * (a + c))
grown_right la lb lc a b c few fc more lean some zero h = omega (arith, some)
grown_right la lb lc a b c few fc more lean some (suc j) h =
    either (suc (2 * j)) la lc (omega (arith, h))
    (λ p. omega (arith, few (suc j) (omega (arith, p)), more))
    (λ p. doubled j (2 * c) (2 * (a + c)) (fc j (omega (arith, p))) (omega (arith, lean)))

-- two segments
two_segments : (a : ℕ) → 0 < a → AreFew 1 (2 * a)
two_segments a some zero h = omega (arith, some)
two_segments a some (suc j) h = absurd (omega (arith, h))

pub even_segments : (l r : List Version × ℕ) → l.1 ≡ 0 → r.1 ≡ 0 → 0 < length l.0 → AreEven l r
even_segments l r flat_l flat_r some = record {
  lean = λ p. absurd (omega (arith, p, flat_r));
  few = few_of 1 (2 * length l.0) (suc (max l.1 r.1)) (2 * length (l.0 ++ r.0)) (two_segments (length l.0) some) (omega (arith, flat_l, flat_r)) (omega (arith, length-append l.0 r.0));
}

pub even_beside : (whole l r s : List Version × ℕ) → whole.0 ≡ l.0 ++ r.0 → whole.1 ≡ suc (max l.1 r.1) → (0 < r.1 → length r.0 ≤ length l.0) → AreFew l.1 (2 * length l.0) → AreFew r.1 (2 * length r.0)
    → s.1 ≡ 0 → 0 < length l.0 → 0 < length s.0 → length l.0 < length r.0 + length s.0 → AreEven whole s
even_beside whole l r s versions levels lean fl fr flat some more less =
    let many : length whole.0 ≡ length l.0 + length r.0 = ap length versions ∙ length-append l.0 r.0 in
    record {
      lean = λ p. absurd (omega (arith, p, flat));
      few = few_of (suc (suc (max l.1 r.1))) (2 * (length l.0 + length r.0 + length s.0)) (suc (max whole.1 s.1)) (2 * length (whole.0 ++ s.0))
          (beside_segment l.1 r.1 (length l.0) (length r.0) (length s.0) fl fr lean some more less)
          (omega (arith, levels, flat)) (omega (arith, length-append whole.0 s.0, many));
    }

pub even_grown : (l r new : List Version × ℕ) → AreEven l r → AreFew new.1 (2 * length new.0) → length r.0 ≤ length new.0 → length new.0 ≤ length l.0 → 0 < length l.0 → AreEven l new
even_grown l r new even few more lean some = record {
  lean = λ _. lean;
  few = few_of (suc (max l.1 new.1)) (2 * (length l.0 + length new.0)) (suc (max l.1 new.1)) (2 * length (l.0 ++ new.0))
      (grown_right l.1 r.1 new.1 (length l.0) (length r.0) (length new.0)
      (few_of (suc (max l.1 r.1)) (2 * length (l.0 ++ r.0)) (suc (max l.1 r.1)) (2 * (length l.0 + length r.0)) even.few (omega arith) (omega (arith, length-append l.0 r.0)))
      few more lean some)
      (omega arith) (omega (arith, length-append l.0 new.0));
}

-- two segment trees that are even may be siblings
pub fork_is : (left right l r : List Version × ℕ) (n : ℕ) (hull g h : Option HullValue) (dead d e : Option ℕ) → AreEven left right → l ≡ left → r ≡ right → n ≡ length left.0 + length right.0
    → g ≡ hull_of (rows_of left.0) → h ≡ hull_of (rows_of right.0) → hull ≡ joined_hull g h → d ≡ died_out left.0 → e ≡ died_out right.0 → dead ≡ later_death d e → IsFork l r n hull dead
fork_is left right l r n hull g h dead d e even l_is r_is many g_is h_is hull_is d_is e_is dead_is = record {
  even = rw (l_is, r_is) even;
  counted = rw (l_is, r_is) (many ∙ sym (length-append left.0 right.0));
  hull_is = rw (l_is, r_is, map-append (λ (v : Version). v.row) left.0 right.0, hull_of-append (rows_of left.0) (rows_of right.0), ← g_is, ← h_is) hull_is;
  dead_is = rw (l_is, r_is, died_out-append left.0 right.0, ← d_is, ← e_is) dead_is;
}

-- a segment tree has few levels if there are few for the count of its versions
pub few_for : (seen pile : List Version × ℕ) (n : ℕ) → seen ≡ pile → n ≡ length pile.0 → AreFew seen.1 (2 * n) → AreFew pile.1 (2 * length pile.0)
few_for seen pile n same many few = few_of seen.1 (2 * n) pile.1 (2 * length pile.0) few (omega (arith, ap (λ d. d.1) same)) (omega (arith, many))

-- two segment trees are still siblings after a delete
pub fork_killed : (l r l2 r2 : List Version × ℕ) (n p : ℕ) (hull : Option HullValue) (old dead : Option ℕ) (tests : List Test) → IsFork l r n hull old
    → l2.0 ≡ map (after_kill p tests) l.0 → r2.0 ≡ map (after_kill p tests) r.0 → l2.1 ≡ l.1 → r2.1 ≡ r.1 → dead ≡ later_death (died_out l2.0) (died_out r2.0) → IsFork l2 r2 n hull dead
fork_killed l r l2 r2 n p hull old dead tests fork left right left_levels right_levels dead_is =
    let many_left : length l2.0 ≡ length l.0 = ap length left ∙ length-map l.0 (after_kill p tests) in
    let many_right : length r2.0 ≡ length r.0 = ap length right ∙ length-map r.0 (after_kill p tests) in
    let before : length (l.0 ++ r.0) ≡ length l.0 + length r.0 = length-append l.0 r.0 in
    let after : length (l2.0 ++ r2.0) ≡ length l2.0 + length r2.0 = length-append l2.0 r2.0 in
    let rows : rows_of (l2.0 ++ r2.0) ≡ rows_of (l.0 ++ r.0) =
    map-append (λ (v : Version). v.row) l2.0 r2.0
    ∙ (ap (λ vs. rows_of vs ++ rows_of r2.0) left ∙ (ap (λ vs. rows_of (map (after_kill p tests) l.0) ++ rows_of vs) right
    ∙ (ap (λ rs. rs ++ rows_of (map (after_kill p tests) r.0)) (rows_of-killed p tests l.0) ∙ (ap (λ rs. rows_of l.0 ++ rs) (rows_of-killed p tests r.0)
    ∙ sym (map-append (λ (v : Version). v.row) l.0 r.0))))) in
    record {
      even = record {
        lean = λ some. omega (arith, many_left, many_right, fork.even.lean (omega (arith, some, right_levels)));
        few = few_of (suc (max l.1 r.1)) (2 * length (l.0 ++ r.0)) (suc (max l2.1 r2.1)) (2 * length (l2.0 ++ r2.0)) fork.even.few (omega (arith, left_levels, right_levels)) (omega (arith, before, after, many_left, many_right));
      };
      counted = fork.counted ∙ omega (arith, before, after, many_left, many_right);
      hull_is = fork.hull_is ∙ ap hull_of (sym rows);
      dead_is = dead_is ∙ sym (died_out-append l2.0 r2.0);
    }

-- the greatest time is the same with the later part first
pub later_back : (best l r : Option ℤ) → later_time (later_time best r) l ≡ later_time best (later_time l r)
later_back best l r = sym (later_time-assoc best r l) ∙ ap (later_time best) (later_time-comm r l)

-- ---- trees

few_over_chunk : (la lb a b c : ℕ) → AreFew la (a + 1) → AreFew lb (b + 1) → la ≤ suc lb → lb ≤ suc la → 0 < c → AreFew (suc (max la lb)) (a + c + b + 1)
few_over_chunk la lb a b c fa fb left right some zero h = omega arith
few_over_chunk la lb a b c fa fb left right some (suc j) h = omega (arith, pow-suc 2 j, fa j (omega (arith, h, left, right)), fb j (omega (arith, h, left, right)), some)

few_of_three : (la lb lc a b c : ℕ) → AreFew la (2 * a + 1) → AreFew lb (2 * b + 1) → AreFew lc (2 * c) → AreFew (max lc (max la lb)) (2 * (a + c + b) + 1)
few_of_three la lb lc a b c fa fb fc k h =
    either k2 lc (max la lb) h2 (λ p. omega (arith, fc k p)) (λ p. either k2 la lb p (λ q. omega (arith, fa k q)) (λ q. omega (arith, fb k q)))
  where
    k2 : ℕ
    k2 = 2 * k

    h2 : k2 ≤ max lc (max la lb)
    h2 = h

pub placed_length : (l r : List Placed) (s : ℤ) (vs : List Version) → length (l ++ in_chunk s vs ++ r) ≡ length l + length vs + length r
placed_length l r s vs = omega (arith, length-append (l ++ in_chunk s vs) r, length-append l (in_chunk s vs), length-map vs (place s))

-- a chunk between two level trees
pub few_over : (l r : TreeValue) (chunk : Kept) → AreLevel l.1 r.1 → FewLevels l.1 (length l.0) → FewLevels r.1 (length r.0) → AreFew chunk.levels (2 * length chunk.versions) → 0 < length chunk.versions
    → FewLevels (tree_over l chunk r).1 (length (tree_over l chunk r).0)
few_over l r chunk even left right here some =
    let many = placed_length l.0 r.0 chunk.start chunk.versions in
    let n = length l.0 + length chunk.versions + length r.0 in
    record {
      chunks = few_of (suc (max l.1.chunks r.1.chunks)) (length l.0 + length chunk.versions + length r.0 + 1) (suc (max l.1.chunks r.1.chunks)) (length (tree_over l chunk r).0 + 1)
          (few_over_chunk l.1.chunks r.1.chunks (length l.0) (length r.0) (length chunk.versions) left.chunks right.chunks even.left even.right some) (omega arith) (omega (arith, many));
      segments = few_of (max chunk.levels (max l.1.segments r.1.segments)) (2 * (length l.0 + length chunk.versions + length r.0) + 1) (max chunk.levels (max l.1.segments r.1.segments)) (2 * length (tree_over l chunk r).0 + 1)
          (few_of_three l.1.segments r.1.segments chunk.levels (length l.0) (length r.0) (length chunk.versions) left.segments right.segments here) (omega arith) (omega (arith, many));
    }

-- both sides are no larger than the whole
pub sides_within : (l r : TreeValue) (chunk : Kept) → (length l.0 ≤ length (tree_over l chunk r).0) × (length r.0 ≤ length (tree_over l chunk r).0)
sides_within l r chunk = (omega (arith, placed_length l.0 r.0 chunk.start chunk.versions), omega (arith, placed_length l.0 r.0 chunk.start chunk.versions))

-- no tree that can be counted has as many levels as a number of 64 bits can count
pub few_counted : (levels : Levels) (size : ℕ) → FewLevels levels size → size < 2 ^ 64 → levels.chunks < 130
few_counted levels size few small = lt_of_not-le (λ many. omega (arith, few.chunks 65 (omega (arith, many)), small))

-- versions that were inserted into a tree on one side of a chunk can still be counted
pub countable_left : (whole l r new : List Placed) (chunk : Kept) (start : ℤ) (vs : List Version) → whole ≡ l ++ placed_in chunk ++ r → length whole + length vs < 2 ^ 64
    → HasMore (in_chunk start vs) l new → length (new ++ placed_in chunk ++ r) < 2 ^ 64
countable_left whole l r new chunk start vs is few more =
    omega (arith, few, ap length is, placed_length l r chunk.start chunk.versions, placed_length new r chunk.start chunk.versions, length_more new l (in_chunk start vs) more, length-map vs (place start))

pub countable_right : (whole l r new : List Placed) (chunk : Kept) (start : ℤ) (vs : List Version) → whole ≡ l ++ placed_in chunk ++ r → length whole + length vs < 2 ^ 64
    → HasMore (in_chunk start vs) r new → length (l ++ placed_in chunk ++ new) < 2 ^ 64
countable_right whole l r new chunk start vs is few more =
    omega (arith, few, ap length is, placed_length l r chunk.start chunk.versions, placed_length l new chunk.start chunk.versions, length_more new r (in_chunk start vs) more, length-map vs (place start))

-- few levels of chunks and few of segments are low in total
pub low_levels : (levels : Levels) (size : ℕ) → FewLevels levels size → AreLow (levels.chunks + levels.segments) size
low_levels levels size few k h =
    either (2 * k) levels.chunks levels.segments (omega (arith, h)) (λ p. omega (arith, few.chunks k p)) (few.segments k)
