-- Laws of runs: items of a list from a place on.
use Rattle.std.proofs.Common.{◌≡◌, ℕ, zero, suc, ◌+◌, ◌-◌, ◌<◌, ◌≤◌, List, [], ◌∷◌, ◌++◌, length, take, drop, refl, sym, ap, ◌∙◌, subst, arith}
use Rattle.std.proofs.lemmas.List.{drop-take, length-drop, length-take, take_rest, length-append}
use Rattle.std.proofs.Math.Seq.{drop-append-add, take-add, drop-nil}
use Rattle.block_list.specs.Blocks.{IsRun}

module _ {X : Type 0} where
  pub drop-drop : (m n : ℕ) (xs : List X) → drop n (drop m xs) ≡ drop (m + n) xs
  drop-drop zero n xs = ap (λ k. drop k xs) (let e : n ≡ 0 + n = omega arith in e)
  drop-drop (suc m) n [] = drop-nil n ∙ sym (drop-nil (suc m + n))
  drop-drop (suc m) n (x ∷ xs) = drop-drop m n xs ∙ ap (λ k. drop k (x ∷ xs)) (let e : suc (m + n) ≡ suc m + n = omega arith in e)

  pub take-take : (n m : ℕ) (xs : List X) → n ≤ m → take n (take m xs) ≡ take n xs
  take-take zero m xs l = refl
  take-take (suc n) zero xs l = absurd (omega arith)
  take-take (suc n) (suc m) [] l = refl
  take-take (suc n) (suc m) (x ∷ xs) l = ap (λ ys. x ∷ ys) (take-take n m xs (omega arith))

  -- what is left of a list from a place on
  pub run_rest : (xs : List X) (i : ℕ) → i < length xs → IsRun xs i (length xs) (drop i xs)
  run_rest xs i l =
      let len : length (drop i xs) ≡ length xs - i = length-drop i xs in
      record {
        some = omega arith;
        within = omega arith;
        items = ap (λ n. take n (drop i xs)) len ∙ take_rest xs i;
      }

  -- a run of the back of a list
  pub run_right : (xs ys : List X) (at end : ℕ) (run : List X) → IsRun ys at end run → IsRun (xs ++ ys) (length xs + at) (length xs + end) run
  run_right xs ys at end run r =
      let within : at + length run ≤ end = r.within in
      record {
        some = r.some;
        within = omega arith;
        items = ap (take (length run)) (drop-append-add xs ys at) ∙ r.items;
      }

  -- a run of a part is a run of the list
  pub run_in_part : (all part run : List X) (start i end end' : ℕ) → IsRun all start (length all) part → start ≤ i → IsRun part (i - start) end run → i + length run ≤ end' → IsRun all i end' run
  run_in_part all part run start i end end' p from r within =
      let back : start + (i - start) ≡ i = omega arith in
      let len : length (drop (i - start) part) ≡ length part - (i - start) = length-drop (i - start) part in
      let some : 0 < length run = r.some in
      let le : length run ≤ length (drop (i - start) part) = run_le run (drop (i - start) part) r.items in
      record {
        some = r.some;
        within = within;
        items =
            ap (λ n. take (length run) (drop n all)) (sym back)
            ∙ ap (take (length run)) (sym (drop-drop start (i - start) all))
            ∙ sym (take-take (length run) (length part - (i - start)) (drop (i - start) (drop start all)) (omega arith))
            ∙ ap (take (length run)) (sym (drop-take (i - start) (length part - (i - start)) (drop start all)))
            ∙ ap (λ n. take (length run) (drop (i - start) (take n (drop start all)))) (let e : i - start + (length part - (i - start)) ≡ length part = omega arith in e)
            ∙ ap (λ xs. take (length run) (drop (i - start) xs)) p.items
            ∙ r.items;
      }
    where
      run_le : (xs ys : List X) → take (length xs) ys ≡ xs → length xs ≤ length ys
      run_le xs ys e = let len : length (take (length xs) ys) ≡ length xs = ap length e in let min : length (take (length xs) ys) ≤ length ys = simp length-take (omega arith) in omega arith

  -- a run of the second of two lists, by its place in both
  pub run_second : (xs ys : List X) (i len : ℕ) (run : List X) → len ≡ length xs → len ≤ i → IsRun ys (i - len) (length ys) run → IsRun (xs ++ ys) i (length (xs ++ ys)) run
  run_second xs ys i len run e le r =
      let place : length xs + (i - len) ≡ i = omega arith in
      let end : length xs + length ys ≡ length (xs ++ ys) = sym (length-append xs ys) in
      subst (λ n. IsRun (xs ++ ys) n (length (xs ++ ys)) run) place
      (subst (λ n. IsRun (xs ++ ys) (length xs + (i - len)) n run) end
      (run_right xs ys (i - len) (length ys) run r))

  -- what is left of the second of two lists
  pub run_second_rest : (xs ys : List X) (i len : ℕ) → len ≡ length xs → len ≤ i → i < length (xs ++ ys) → IsRun (xs ++ ys) i (length (xs ++ ys)) (take (length ys - (i - len)) (drop (i - len) ys))
  run_second_rest xs ys i len e le l =
      let sum : length (xs ++ ys) ≡ length xs + length ys = length-append xs ys in
      run_second xs ys i len (take (length ys - (i - len)) (drop (i - len) ys)) e le (subst (IsRun ys (i - len) (length ys)) (sym (take_rest ys (i - len))) (run_rest ys (i - len) (omega arith)))

  -- a run more of what is taken
  pub taken_run : (all : List X) (from at end : ℕ) → from ≤ at → at ≤ end → take (at - from) (drop from all) ++ take (end - at) (drop at all) ≡ take (end - from) (drop from all)
  taken_run all from at end le le' =
      let sum : end - from ≡ (at - from) + (end - at) = omega arith in
      let back : from + (at - from) ≡ at = omega arith in
      sym (ap (λ n. take n (drop from all)) sum
      ∙ take-add (at - from) (end - at) (drop from all)
      ∙ ap (λ ys. take (at - from) (drop from all) ++ take (end - at) ys) (drop-drop from (at - from) all ∙ ap (λ n. drop n all) back))

  -- the items from a place on and below another are a run and what is left after it
  pub run_first : (all : List X) (at end : ℕ) (run : List X) → IsRun all at end run → take (end - at) (drop at all) ≡ run ++ take (end - (at + length run)) (drop (at + length run) all)
  run_first all at end run r =
      let within : at + length run ≤ end = r.within in
      let count : at + length run - at ≡ length run = omega arith in
      sym (taken_run all at (at + length run) end (omega arith) within)
      ∙ ap (λ xs. xs ++ take (end - (at + length run)) (drop (at + length run) all)) (ap (λ n. take n (drop at all)) count ∙ r.items)
