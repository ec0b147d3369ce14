-- Laws of parts: each says where its items are.
use Rattle.std.proofs.Common.{◌≡◌, ℕ, zero, suc, ◌+◌, ◌-◌, ◌<◌, ◌≤◌, true, false, nat_le, List, [], ◌∷◌, ◌++◌, length, take, drop, get_or, ◌⊎◌, inl, inr, refl, sym, ap, ◌∙◌, subst, arith}
use Rattle.std.specs.List.Sorted.{IsPartitionPoint, IsPartitionedBy}
use Rattle.std.proofs.lemmas.Bool.{cases_lt}
use Rattle.std.proofs.lemmas.Bool.Decides.{nat_tests}
use Rattle.std.proofs.lemmas.List.{append_assoc, length-append, take-append-drop, drop_at, take_at, take_all}
use Rattle.std.proofs.Math.Seq.{take-suc, drop-cons}
use Rattle.block_list.specs.Blocks.{PartValue, AreParts, IsRun, items_of}

module _ {X : Type 0} where
  pub items_of-append : (cs bs : List (PartValue X)) → items_of (cs ++ bs) ≡ items_of cs ++ items_of bs
  items_of-append [] bs = refl
  items_of-append (c ∷ cs) bs = ap (λ xs. c.items ++ xs) (items_of-append cs bs) ∙ sym (append_assoc c.items (items_of cs) (items_of bs))

  items_of-last : (cs : List (PartValue X)) (b : PartValue X) → items_of (cs ++ b ∷ []) ≡ items_of cs ++ b.items
  items_of-last cs b = items_of-append cs (b ∷ []) ∙ ap (λ xs. items_of cs ++ xs) (append_nil b.items)
    where
      append_nil : (xs : List X) → xs ++ [] ≡ xs
      append_nil [] = refl
      append_nil (x ∷ xs) = ap (λ ys. x ∷ ys) (append_nil xs)

  -- each part says how many items are before it
  pub starts_at : (n : ℕ) (bs : List (PartValue X)) (k : ℕ) (d : PartValue X) → AreParts n bs → k < length bs → (get_or bs k d).start ≡ n + length (items_of (take k bs))
  starts_at n [] k d h l = absurd (omega arith)
  starts_at n (b ∷ bs) zero d h l = let e : b.start ≡ n = h.0 in omega arith
  starts_at n (b ∷ bs) (suc k) d h l =
      let rest = starts_at (n + length b.items) bs k d h.1 (omega arith) in
      let sum : length (b.items ++ items_of (take k bs)) ≡ length b.items + length (items_of (take k bs)) = length-append b.items (items_of (take k bs)) in
      omega arith

  -- one part more before a place
  pub taken_more : (bs : List (PartValue X)) (k : ℕ) (d : PartValue X) → k < length bs → items_of (take (suc k) bs) ≡ items_of (take k bs) ++ (get_or bs k d).items
  taken_more bs k d l = ap items_of (take-suc bs k d l) ∙ items_of-last (take k bs) (get_or bs k d)

  taken_up : (bs : List (PartValue X)) (k m : ℕ) → k ≤ m → length (items_of (take k bs)) ≤ length (items_of (take m bs))
  taken_up bs zero m l = omega arith
  taken_up bs (suc k) zero l = absurd (omega arith)
  taken_up [] (suc k) (suc m) l = omega arith
  taken_up (b ∷ bs) (suc k) (suc m) l =
      let rest = taken_up bs k m (omega arith) in
      let one = length-append b.items (items_of (take k bs)) in
      let two = length-append b.items (items_of (take m bs)) in
      omega arith

  -- a part is a run of the items
  pub run_at : (bs : List (PartValue X)) (k : ℕ) (d : PartValue X) → k < length bs → 0 < length (get_or bs k d).items → IsRun (items_of bs) (length (items_of (take k bs))) (length (items_of bs)) (get_or bs k d).items
  run_at bs k d l some =
      let b = get_or bs k d in
      let before = items_of (take k bs) in
      let after = items_of (drop (suc k) bs) in
      let split : items_of bs ≡ before ++ (b.items ++ after) = ap items_of (sym (take-append-drop k bs)) ∙ items_of-append (take k bs) (drop k bs) ∙ ap (λ xs. before ++ items_of xs) (drop-cons bs k d l) in
      let len : length (items_of bs) ≡ length before + length (b.items ++ after) = ap length split ∙ length-append before (b.items ++ after) in
      let len_after : length (b.items ++ after) ≡ length b.items + length after = length-append b.items after in
      record {
        some = some;
        within = omega arith;
        items =
            ap (λ xs. take (length b.items) (drop (length before) xs)) split
            ∙ ap (take (length b.items)) (drop_at before (b.items ++ after) (length before) refl)
            ∙ take_at b.items after (length b.items) refl;
      }

  -- ---- the search

  -- parts that begin at or before a place come before those that don't
  pub parted : (bs : List (PartValue X)) (i : ℕ) → AreParts 0 bs → IsPartitionedBy (λ (b : PartValue X). nat_le b.start i) bs
  parted bs i h a b d le l t =
      let one : (get_or bs a d).start ≡ 0 + length (items_of (take a bs)) = starts_at 0 bs a d h (omega arith) in
      let two : (get_or bs b d).start ≡ 0 + length (items_of (take b bs)) = starts_at 0 bs b d h l in
      let up : length (items_of (take a bs)) ≤ length (items_of (take b bs)) = taken_up bs a b le in
      grind (arith, nat_tests)

  -- the search finds the part after the one that holds the place
  found : (bs : List (PartValue X)) (i p : ℕ) → AreParts 0 bs → i < length (items_of bs) → p ≤ length bs → IsPartitionPoint (λ (b : PartValue X). nat_le b.start i ≡ true) (λ b. nat_le b.start i ≡ false) bs p → 0 < p
  found [] i p h l le point = absurd (omega arith)
  found (b ∷ bs) i zero h l le point =
      let late : nat_le b.start i ≡ false = point.1 0 b (omega arith) (omega arith) in
      let start : b.start ≡ 0 = h.0 in
      absurd (grind (arith, nat_tests))
  found (b ∷ bs) i (suc p) h l le point = omega arith

  pub found_some : (bs : List (PartValue X)) (i p : ℕ) → AreParts 0 bs → i < length (items_of bs) → p ≤ length bs → IsPartitionPoint (λ (b : PartValue X). nat_le b.start i ≡ true) (λ b. nat_le b.start i ≡ false) bs p → 1 ≤ p
  found_some bs i p h l le point = let some = found bs i p h l le point in omega arith

  pub found_from : (bs : List (PartValue X)) (i p : ℕ) (d : PartValue X) → AreParts 0 bs → 1 ≤ p → p ≤ length bs → IsPartitionPoint (λ (b : PartValue X). nat_le b.start i ≡ true) (λ b. nat_le b.start i ≡ false) bs p → length (items_of (take (p - 1) bs)) ≤ i
  found_from bs i p d h some le point =
      let early : nat_le (get_or bs (p - 1) d).start i ≡ true = point.0 (p - 1) d (omega arith) (omega arith) in
      let start : (get_or bs (p - 1) d).start ≡ 0 + length (items_of (take (p - 1) bs)) = starts_at 0 bs (p - 1) d h (omega arith) in
      grind (arith, nat_tests)

  pub found_below : (bs : List (PartValue X)) (i p : ℕ) (d : PartValue X) → AreParts 0 bs → i < length (items_of bs) → p ≤ length bs → IsPartitionPoint (λ (b : PartValue X). nat_le b.start i ≡ true) (λ b. nat_le b.start i ≡ false) bs p → i < length (items_of (take p bs))
  found_below bs i p d h l le point = by (cases_lt p (length bs))
    where
      by : (p < length bs) ⊎ (length bs ≤ p) → i < length (items_of (take p bs))
      by (inl less) =
          let late : nat_le (get_or bs p d).start i ≡ false = point.1 p d (omega arith) less in
          let start : (get_or bs p d).start ≡ 0 + length (items_of (take p bs)) = starts_at 0 bs p d h less in
          grind (arith, nat_tests)
      by (inr more) = subst (λ ys. i < length (items_of ys)) (sym (take_all p bs more)) l

  -- ---- one part more at the end

  pub parts_last : (n : ℕ) (ps : List (PartValue X)) (p : PartValue X) → AreParts n ps → p.start ≡ n + length (items_of ps) → AreParts n (ps ++ p ∷ [])
  parts_last n [] p h start = (let e : p.start ≡ n + 0 = start in omega arith, tt)
  parts_last n (q ∷ qs) p h start =
      let sum : length (q.items ++ items_of qs) ≡ length q.items + length (items_of qs) = length-append q.items (items_of qs) in
      (h.0, parts_last (n + length q.items) qs p h.1 (omega arith))

  pub items_last : (ps : List (PartValue X)) (n : ℕ) (xs : List X) → items_of (ps ++ record { start = n; items = xs } ∷ []) ≡ items_of ps ++ xs
  items_last ps n xs = items_of-last ps (record { start = n; items = xs })
