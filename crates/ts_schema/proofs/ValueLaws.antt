-- Values whose marks of NULL are separate from the numbers: their number, one more value, and one value at a
-- place. Also two lists compared item by item.
use Rattle.std.proofs.Common.{◌≡◌, refl, sym, ap, ap₂, ◌∙◌, ℕ, zero, suc, ◌+◌, ◌-◌, ◌≤◌, ◌<◌, ℤ, Bool, true, false, List, [], ◌∷◌, ◌++◌, Some, None, Result, Ok, Err, length, take, drop, get_or, replicate, min, arith, length-append}
use Rattle.std.proofs.lemmas.List.{get_or-take, get_or-drop, length-take, length-replicate, take_all}
use Rattle.std.specs.Prelude.{OnErr}
use Rattle.std.specs.Ordering.{nat_cmp}
use Rattle.std.specs.Cmp.Lexicographic.{slice_cmp}
use Rattle.std.specs.declared.cmp.Ordering.{Ordering}
use Rattle.std.specs.declared.cmp.Ordering.TheVariants.{Less, Greater}
use Rattle.ts_schema.specs.Values.{marked_values, unless_marked}

pub length_marked : (marks : List Bool) (numbers : List ℤ) → length (marked_values marks numbers) ≡ length numbers
length_marked [] [] = refl
length_marked (m ∷ marks) [] = refl
length_marked [] (n ∷ numbers) = ap suc (length_marked [] numbers)
length_marked (m ∷ marks) (n ∷ numbers) = ap suc (length_marked marks numbers)

-- a number at the end, after all marks
pub number_pushed : (marks : List Bool) (numbers : List ℤ) (n : ℤ) → length marks ≤ length numbers → marked_values marks (numbers ++ n ∷ []) ≡ marked_values marks numbers ++ Some n ∷ []
number_pushed [] [] n few = refl
number_pushed (m ∷ marks) [] n few = absurd (omega (arith, few))
number_pushed [] (k ∷ numbers) n few = ap (λ vs. Some k ∷ vs) (number_pushed [] numbers n (omega arith))
number_pushed (m ∷ marks) (k ∷ numbers) n few = ap (λ vs. unless_marked m k ∷ vs) (number_pushed marks numbers n (omega (arith, few)))

-- NULL at the end, if each number has a mark
pub null_pushed : (marks : List Bool) (numbers : List ℤ) (n : ℤ) → length marks ≡ length numbers → marked_values (marks ++ true ∷ []) (numbers ++ n ∷ []) ≡ marked_values marks numbers ++ None ∷ []
null_pushed [] [] n same = refl
null_pushed (m ∷ marks) [] n same = absurd (omega (arith, same))
null_pushed [] (k ∷ numbers) n same = absurd (omega (arith, same))
null_pushed (m ∷ marks) (k ∷ numbers) n same = ap (λ vs. unless_marked m k ∷ vs) (null_pushed marks numbers n (omega (arith, same)))

-- marks that mark nothing change nothing
more_marks : (k : ℕ) (marks : List Bool) (numbers : List ℤ) → marked_values (marks ++ replicate k false) numbers ≡ marked_values marks numbers
more_marks k [] [] = refl
more_marks k (m ∷ marks) [] = refl
more_marks zero [] (n ∷ numbers) = refl
more_marks (suc k) [] (n ∷ numbers) = ap (λ vs. Some n ∷ vs) (more_marks k [] numbers)
more_marks k (m ∷ marks) (n ∷ numbers) = ap (λ vs. unless_marked m n ∷ vs) (more_marks k marks numbers)

marks_filled : (marks : List Bool) (numbers : List ℤ) → length marks ≤ length numbers → marked_values (take (length numbers) marks ++ replicate (length numbers - length marks) false) numbers ≡ marked_values marks numbers
marks_filled marks numbers few =
    ap (λ ms. marked_values (ms ++ replicate (length numbers - length marks) false) numbers) (take_all (length numbers) marks few)
    ∙ more_marks (length numbers - length marks) marks numbers

-- the value at a place
pub marked_at : (marks : List Bool) (numbers : List ℤ) (i : ℕ) (n : ℤ) → i < length numbers → get_or (marked_values marks numbers) i None ≡ unless_marked (get_or marks i false) (get_or numbers i n)
marked_at [] [] i n within = absurd (omega (arith, within))
marked_at (m ∷ marks) [] i n within = absurd (omega (arith, within))
marked_at [] (k ∷ numbers) zero n within = refl
marked_at [] (k ∷ numbers) (suc i) n within = marked_at [] numbers i n (omega (arith, within))
marked_at (m ∷ marks) (k ∷ numbers) zero n within = refl
marked_at (m ∷ marks) (k ∷ numbers) (suc i) n within = marked_at marks numbers i n (omega (arith, within))

-- the item at a place of a part
pub part_at : {X : Type 0} (f n i : ℕ) (xs : List X) (d : X) → i < n → get_or (take n (drop f xs)) i d ≡ get_or xs (f + i) d
part_at f n i xs d within = get_or-take n (drop f xs) i d within ∙ get_or-drop f xs i d

-- ---- what a call that appends NULL does

module _ (marks filled : List Bool) (numbers : List ℤ) (n k : ℕ) (count : n ≡ length numbers) (had : k ≡ length marks) (is : filled ≡ take n marks ++ replicate (n - k) false) where
  as_filled : filled ≡ take (length numbers) marks ++ replicate (length numbers - length marks) false
  as_filled = rw (sym count, sym had) is

  pub still_marked : length marks ≤ length numbers → marked_values filled numbers ≡ marked_values marks numbers
  still_marked few = ap (λ ms. marked_values ms numbers) as_filled ∙ marks_filled marks numbers few

  length_filled : length marks ≤ length numbers → length filled ≡ length numbers
  length_filled few =
      let whole = ap length as_filled ∙ length-append (take (length numbers) marks) (replicate (length numbers - length marks) false) in
      let front = length-take (length numbers) marks in
      let back = length-replicate (length numbers - length marks) false in
      omega (arith, whole, front, back, few)

  pub null_put : (room more : List Bool) (longer : List ℤ) (z : ℤ) → length marks ≤ length numbers → room ≡ filled → more ≡ room ++ true ∷ [] → longer ≡ numbers ++ z ∷ [] → marked_values more longer ≡ marked_values marks numbers ++ None ∷ []
  null_put room more longer z few same put long =
      ap₂ marked_values (put ∙ ap (λ ms. ms ++ true ∷ []) same) long
      ∙ null_pushed filled numbers z (length_filled few)
      ∙ ap (λ vs. vs ++ None ∷ []) (still_marked few)

-- what holds anyway holds after an error
pub after_error : {T E P : Type 0} (r : Result T E) → P → OnErr r P
after_error (Ok x) p = tt
after_error (Err e) p = p

-- ---- if one of two lists has ended, the longer one is greater

cmp_less : (x y : ℕ) → x < y → Less ≡ nat_cmp x y
cmp_less x y below = grind arith

cmp_greater : (x y : ℕ) → y < x → Greater ≡ nat_cmp x y
cmp_greater x y above = grind arith

cmp_more : (x y : ℕ) → nat_cmp x y ≡ nat_cmp (suc x) (suc y)
cmp_more x y = grind arith

pub ended_first : {X : Type 0} (order : X → X → Ordering) (i : ℕ) (xs ys : List X) → i ≡ min (length xs) (length ys) → slice_cmp order (drop i xs) (drop i ys) ≡ nat_cmp (length xs) (length ys)
ended_first order zero [] [] end = refl
ended_first order zero [] (y ∷ ys) end = cmp_less 0 (suc (length ys)) (omega arith)
ended_first order zero (x ∷ xs) [] end = cmp_greater (suc (length xs)) 0 (omega arith)
ended_first order zero (x ∷ xs) (y ∷ ys) end = absurd (omega (arith, end))
ended_first order (suc i) [] ys end = absurd (omega (arith, end))
ended_first order (suc i) (x ∷ xs) [] end = absurd (omega (arith, end))
ended_first order (suc i) (x ∷ xs) (y ∷ ys) end = ended_first order i xs ys (omega (arith, end)) ∙ cmp_more (length xs) (length ys)
