-- Rows of times and values, with one more row; and values and rows that are read piece by piece.
use Rattle.std.proofs.Common.{◌≡◌, ℕ, zero, suc, ◌+◌, ◌-◌, ◌≤◌, List, [], ◌∷◌, ◌++◌, length, length-append, length-drop, get_or, take, drop, ℤ, ◌≤ℤ◌, Option, Some, None, Result, Ok, Err, refl, sym, ap, ap₂, ◌∙◌, subst, append_assoc, arith}
use Rattle.std.proofs.lemmas.List.{drop-append-le, drop-drop, drop_all, append-nil}
use Rattle.cell_rows.specs.Parts.{parts, AreParts}
use Rattle.cell_rows.proofs.PartLaws.{length_parts, row_ended}
use Rattle.ts_bucket.specs.WholeSpans.{least, greatest}
use Rattle.ts_schema.specs.declared.rows.Row.{Row}
use Rattle.event_codec.specs.declared.errors.ReadError.{ReadError}
use Rattle.event_codec.specs.declared.errors.ReadError.TheVariants as errors
use Rattle.event_codec.specs.Spelling.{signed_bytes}
use Rattle.event_codec.specs.Reading.{Reads, Gives, go_on, put_before, items, value_at}
use Rattle.event_codec.specs.Blocks.{timed_rows}
use Rattle.event_codec.proofs.Formats.{done}
use Rattle.event_codec.proofs.Loops.{with_front}
use Rattle.event_codec.proofs.Parts.{value_format}

pub timed_more : (ts : List ℤ) (others : List (List (Option ℤ))) (t : ℤ) (vals : List (Option ℤ)) → length ts ≡ length others → timed_rows (ts ++ t ∷ []) (others ++ vals ∷ []) ≡ timed_rows ts others ++ record { at = t; vals = vals } ∷ []
timed_more [] [] t vals e = refl
timed_more [] (o ∷ others) t vals e = absurd (omega (arith, e))
timed_more (s ∷ ts) [] t vals e = absurd (omega (arith, e))
timed_more (s ∷ ts) (o ∷ others) t vals e = ap (λ (rows : List Row). record { at = s; vals = o } ∷ rows) (timed_more ts others t vals (omega (arith, e)))

-- if no time or no values are left, no row is
pub no_time : (ts : List ℤ) (others : List (List (Option ℤ))) → length ts ≡ 0 → timed_rows ts others ≡ []
no_time [] others e = refl
no_time (t ∷ ts) others e = absurd (omega (arith, e))

pub no_values : (ts : List ℤ) (others : List (List (Option ℤ))) → length others ≡ 0 → timed_rows ts others ≡ []
no_values [] others e = refl
no_values (t ∷ ts) [] e = refl
no_values (t ∷ ts) (o ∷ others) e = absurd (omega (arith, e))

-- ---- values

head_and_rest : (bytes rest : List ℕ) → 1 ≤ length bytes → rest ≡ drop 1 bytes → bytes ≡ get_or bytes 0 0 ∷ rest
head_and_rest [] rest some is = absurd (omega (arith, some))
head_and_rest (b ∷ bytes) rest some is = ap (λ (l : List ℕ). b ∷ l) (sym is)

pub null_is_read : (bytes rest : List ℕ) → 1 ≤ length bytes → rest ≡ drop 1 bytes → get_or bytes 0 0 ≡ 0 → value_at bytes ≡ Ok (None, rest)
null_is_read bytes rest some is told = ap value_at (head_and_rest bytes rest some is ∙ ap (λ (c : ℕ). c ∷ rest) told) ∙ value_format.again None rest tt

pub number_is_read : (bytes body rest : List ℕ) (z : ℤ) → 1 ≤ length bytes → body ≡ drop 1 bytes → get_or bytes 0 0 ≡ 1 → least ≤ℤ z → z ≤ℤ greatest → body ≡ signed_bytes z ++ rest → value_at bytes ≡ Ok (Some z, rest)
number_is_read bytes body rest z some is told low high spelled =
    ap value_at (head_and_rest bytes body some is ∙ ap (λ (c : ℕ). c ∷ body) told ∙ ap (λ (l : List ℕ). 1 ∷ l) spelled) ∙ value_format.again (Some z) rest (low, high)

-- ---- a row appended after others

pub row_put : (times longer : List ℤ) (ends more_ends : List ℕ) (cells more_cells vals : List (Option ℤ)) (t : ℤ) (last : ℕ) → length times ≡ length ends → AreParts 0 ends cells → longer ≡ times ++ t ∷ [] → more_cells ≡ cells ++ vals → last ≡ length more_cells → more_ends ≡ ends ++ last ∷ [] → (length longer ≡ length more_ends) × AreParts 0 more_ends more_cells × (timed_rows longer (parts 0 more_ends more_cells) ≡ timed_rows times (parts 0 ends cells) ++ record { at = t; vals = vals } ∷ [])
row_put times longer ends more_ends cells more_cells vals t last same fit time put at told =
    let both = row_ended ends more_ends cells more_cells vals last fit put at told in
    let times_are : length longer ≡ length times + 1 = ap length time ∙ length-append times (t ∷ []) in
    let ends_are : length more_ends ≡ length ends + 1 = ap length told ∙ length-append ends (last ∷ []) in (
      omega arith,
      both.0,
      ap (timed_rows longer) both.1
          ∙ ap (λ (ts : List ℤ). timed_rows ts (parts 0 ends cells ++ vals ∷ [])) time
          ∙ timed_more times (parts 0 ends cells) t vals (same ∙ sym (length_parts 0 ends cells)),
    )

-- ---- a list that grows after others

module _ {A : Type 0} where
  pub behind_nothing : (before : List A) → before ≡ before ++ drop (length before) before
  behind_nothing before = sym (append-nil before) ∙ ap (λ (l : List A). before ++ l) (sym (drop_all (length before) before (omega arith)))

  -- the part after others grows with the whole
  pub behind_more : (before list new : List A) (a : A) → list ≡ before ++ drop (length before) list → new ≡ list ++ a ∷ [] → drop (length before) new ≡ drop (length before) list ++ a ∷ []
  behind_more before list new a is more =
      let whole : length list ≡ length (before ++ drop (length before) list) = ap length is in
      let parts : length (before ++ drop (length before) list) ≡ length before + length (drop (length before) list) = length-append before (drop (length before) list) in
      ap (drop (length before)) more ∙ drop-append-le (length before) list (a ∷ []) (omega arith)

  pub still_behind : (before list new : List A) (a : A) → list ≡ before ++ drop (length before) list → new ≡ list ++ a ∷ [] → new ≡ before ++ drop (length before) new
  still_behind before list new a is more =
      more ∙ ap (λ (l : List A). l ++ a ∷ []) is ∙ append_assoc before (drop (length before) list) (a ∷ [])
      ∙ ap (λ (l : List A). before ++ l) (sym (behind_more before list new a is more))

-- ---- a number of items, and a number of further items

module _ {A : Type 0} (p : Reads A) where
  abbrev Many : Type 0
  Many = Result (List A × List ℕ) (List ℕ)

  -- the items read from a piece, and then from the rest
  abbrev pub then_more : ℕ → Many → Many
  then_more n r = go_on r (λ front left. with_front p front (items n p left))

  abbrev with_first : A → Many → Many
  with_first a r = go_on r (λ others end. Ok (a ∷ others, end))

  regroup : (a : A) (front : List A) (r : Many) → with_first a (with_front p front r) ≡ with_front p (a ∷ front) r
  regroup a front (Ok x) = refl
  regroup a front (Err left) = refl

  no_front : (r : Many) → r ≡ with_front p [] r
  no_front (Ok x) = refl
  no_front (Err left) = refl

  abbrev from_first : ℕ → Result (A × List ℕ) (List ℕ) → Many
  from_first n r = go_on (go_on r (λ b left. go_on (items n p left) (λ c end. Ok ((b, c), end)))) (λ x end. Ok (put_before x, end))

  -- an item before a piece
  first_then : (n : ℕ) (a : A) (r : Many) → with_first a (then_more n r) ≡ then_more n (with_first a r)
  first_then n a (Ok x) = regroup a x.0 (items n p x.1)
  first_then n a (Err left) = refl

  first_of : (a : A) (r : Many) → go_on (go_on r (λ c end. Ok ((a, c), end))) (λ x end. Ok (put_before x, end)) ≡ with_first a r
  first_of a (Ok x) = refl
  first_of a (Err left) = refl

  parted_items : (m n k : ℕ) (bytes : List ℕ) → k ≡ m + n → items k p bytes ≡ then_more n (items m p bytes)
  unfolding items
  parted_items zero n k bytes e =
      let same : k ≡ n = omega (arith, e) in
      ap (λ (j : ℕ). items j p bytes) same ∙ no_front (items n p bytes)
  parted_items (suc m) n zero bytes e = absurd (omega (arith, e))
  parted_items (suc m) n (suc k) bytes e = by_first (p bytes) (λ rest. parted_items m n k rest (omega (arith, e)))
    where
      by_first : (r : Result (A × List ℕ) (List ℕ)) → ((rest : List ℕ) → items k p rest ≡ then_more n (items m p rest)) → from_first k r ≡ then_more n (from_first m r)
      by_first (Ok x) again =
          first_of x.0 (items k p x.1) ∙ ap (with_first x.0) (again x.1)
          ∙ first_then n x.0 (items m p x.1) ∙ ap (then_more n) (sym (first_of x.0 (items m p x.1)))
      by_first (Err left) again = refl

  fronts : (front : List A) (n : ℕ) (r : Many) → with_front p front (then_more n r) ≡ go_on (with_front p front r) (λ all left. with_front p all (items n p left))
  fronts front n (Ok x) = by_rest (items n p x.1)
    where
      by_rest : (s : Many) → with_front p front (with_front p x.0 s) ≡ with_front p (front ++ x.0) s
      by_rest (Ok y) = ap (λ (l : List A). done l y.1) (sym (append_assoc front x.0 y.0))
      by_rest (Err left) = refl
  fronts front n (Err left) = refl

  -- the whole, given the reading of a piece after others
  whole_of : (front : List A) (left m n : ℕ) (bytes : List ℕ) (total r : Many) → left ≡ m + n → with_front p front (items m p bytes) ≡ r → with_front p front (items left p bytes) ≡ total → go_on r (λ all rest. with_front p all (items n p rest)) ≡ total
  whole_of front left m n bytes total r sum piece so_far =
      ap (λ (s : Many). go_on s (λ all rest. with_front p all (items n p rest))) (sym piece)
      ∙ sym (fronts front n (items m p bytes))
      ∙ ap (with_front p front) (sym (parted_items m n left bytes sum))
      ∙ so_far

  pub piece_read : (front new : List A) (left m n : ℕ) (bytes after : List ℕ) (total : Many) → left ≡ m + n → with_front p front (items m p bytes) ≡ Ok (new, after) → with_front p front (items left p bytes) ≡ total → with_front p new (items n p after) ≡ total
  piece_read front new left m n bytes after total sum piece so_far = whole_of front left m n bytes total (Ok (new, after)) sum piece so_far

  pub piece_fails : (e : ReadError) (front : List A) (left m n : ℕ) (bytes after : List ℕ) (total : Many) → left ≡ m + n → Gives (Err e) (with_front p front (items m p bytes)) after → with_front p front (items left p bytes) ≡ total → Gives (Err e) total after
  piece_fails errors.Memory front left m n bytes after total sum piece so_far = tt
  piece_fails errors.Bad front left m n bytes after total sum piece so_far = sym (whole_of front left m n bytes total (Err after) sum piece so_far)

  pub all_read : (front : List A) (left : ℕ) (bytes : List ℕ) (total : Many) → left ≡ 0 → with_front p front (items left p bytes) ≡ total → total ≡ Ok (front, bytes)
  unfolding items
  all_read front left bytes total none so_far =
      sym so_far ∙ ap (λ (k : ℕ). with_front p front (items k p bytes)) none ∙ ap (λ (l : List A). done l bytes) (append-nil front)

pub mapped_fails : {A B : Type 0} (e : ReadError) (f : A → B) (r : Result (A × List ℕ) (List ℕ)) (left : List ℕ) → Gives (Err e) r left → Gives (Err e) (go_on r (λ a end. done (f a) end)) left
mapped_fails errors.Memory f r left h = tt
mapped_fails errors.Bad f r left h = ap (λ s. go_on s (λ a end. done (f a) end)) h

-- ---- rows built from their times and from the places at which their values end

-- one row is built, and the rest comes after it
pub row_made : (times later : List ℤ) (ends more_ends : List ℕ) (all vals : List (Option ℤ)) (made more total : List Row) (t : ℤ) (from end : ℕ) → times ≡ t ∷ later → ends ≡ end ∷ more_ends → from ≤ length all → AreParts from ends (drop from all) → made ++ timed_rows times (parts from ends (drop from all)) ≡ total → vals ≡ take (end - from) (drop from all) → more ≡ made ++ record { at = t; vals = vals } ∷ [] → (end ≤ length all) × AreParts end more_ends (drop end all) × (more ++ timed_rows later (parts end more_ends (drop end all)) ≡ total)
row_made times later ends more_ends all vals made more total t from end time place within fit so_far part put =
    let parted : AreParts from (end ∷ more_ends) (drop from all) = subst (λ es. AreParts from es (drop from all)) place fit in
    let left : length (drop from all) ≡ length all - from = length-drop from all in
    let moved : drop (end - from) (drop from all) ≡ drop end all = drop-drop (end - from) from all ∙ ap (λ k. drop k all) (omega (arith, parted.0)) in
    let row : Row = record { at = t; vals = vals } in
    let whole : made ++ (row ∷ timed_rows later (parts end more_ends (drop end all))) ≡ total =
    ap₂ (λ v rest. made ++ (record { at = t; vals = v } ∷ timed_rows later (parts end more_ends rest))) part (sym moved)
    ∙ ap₂ (λ ts es. made ++ timed_rows ts (parts from es (drop from all))) (sym time) (sym place) ∙ so_far in (
      omega (arith, within, parted.0, parted.1, left),
      subst (AreParts end more_ends) moved parted.2,
      ap (λ l. l ++ timed_rows later (parts end more_ends (drop end all))) put ∙ append_assoc made (row ∷ []) (timed_rows later (parts end more_ends (drop end all))) ∙ whole,
    )
