-- The beginning of a file and of its frames.
use Rattle.std.proofs.Common.{◌≡◌, inl, inr, ⊎_elim, ℕ, ◌+◌, ◌-◌, ◌<◌, ◌≤◌, min, List, ◌++◌, length, take, drop, get_or, Option, Some, sym, ◌∙◌, ap, subst, arith, length-drop}
use Rattle.std.proofs.lemmas.Bool.{cases_lt}
use Rattle.std.proofs.lemmas.List.{take_all, take-take, take-append-le, drop-append-le, drop-drop, drop-take, get_or-take, get_or-drop, get_or_append_left}
use Rattle.std.specs.Int.{w32, from_le_bytes}
use Rattle.ts_disk.specs.Disk.{HasLength, IsRange}
use Rattle.txn_journal.specs.Contents.{version_of}
use Rattle.txn_journal.specs.Reading.{EndsWithin, StartsAs, IsHead, IsStart, JudgesHead}
use Rattle.txn_journal.specs.declared.heads.Head.{Head}
use Rattle.txn_journal.specs.declared.heads.Head.TheVariants.{Closed, Frame, Short}
use Rattle.txn_journal.specs.declared.heads.Start.{Start}
use Rattle.txn_journal.specs.declared.heads.Start.TheVariants.{Bare, Journal, Foreign}

pub short_start : (file : List ℕ) (size : ℕ) → size ≡ length file → size < 9 → StartsAs Bare file
short_start file size is less = (omega arith, λ same. absurd (omega (arith, ap length same)))

-- the first nine bytes decide how a file begins
pub starts_from : (start : Start) (head file : List ℕ) (size : ℕ) → size ≡ length file → 9 ≤ size → head ≡ take 9 file → IsStart start head size → StartsAs start file
starts_from Bare head file size is long same begins =
    let short : length file ≤ 9 = omega (arith, begins.0) in
    (short, λ is_header. begins.1 (same ∙ take_all 9 file short ∙ is_header))
starts_from (Journal version) head file size is long same begins = (
  sym (take-take 7 9 file (omega arith)) ∙ ap (take 7) (sym same) ∙ begins.0,
  begins.1 ∙ ap version_of (ap (λ (l : List ℕ). get_or l 7 0) same ∙ get_or-take 9 file 7 0 (omega arith)),
  elim (cases_lt 9 (length file)) [
    | inl more ↦ inl more
    | inr short ↦ ⊎_elim (λ more. absurd (omega arith)) (λ is_header. inr (sym (take_all 9 file short) ∙ sym same ∙ is_header)) begins.2
  ],
)
starts_from Foreign head file size is long same begins =
    (omega (arith, begins.0), λ is_magic. begins.1 (ap (take 7) same ∙ take-take 7 9 file (omega arith) ∙ is_magic))

-- a commit byte and the five bytes after it decide what the file has there
pub head_from : (result : Head) (got rest file : List ℕ) (at left : ℕ) → at < length file → left ≡ length file - at → length got ≡ min left 6 → got ≡ take (length got) (drop at file)
    → JudgesHead result (got ++ rest) left → IsHead result file at
head_from result got rest file at left within is size same judged = go result judged
  where
    gate : get_or (got ++ rest) 0 0 ≡ get_or file at 0
    gate = get_or_append_left got rest 0 0 (omega arith) ∙ ap (λ (l : List ℕ). get_or l 0 0) same ∙ get_or-take (length got) (drop at file) 0 0 (omega arith) ∙ get_or-drop at file 0 0 ∙ ap (λ (n : ℕ). get_or file n 0) (omega arith)

    whole : 5 ≤ left → take 4 (drop 1 (got ++ rest)) ≡ take 4 (drop (at + 1) file)
    whole long =
        let behind = length got - 1 in
        let five : length got ≡ 1 + behind = omega arith in
        let front : got ≡ take (1 + behind) (drop at file) = same ∙ ap (λ (n : ℕ). take n (drop at file)) five in
        ap (take 4) (drop-append-le 1 got rest (omega arith))
        ∙ take-append-le 4 (drop 1 got) rest (omega (arith, length-drop 1 got))
        ∙ ap (λ (l : List ℕ). take 4 (drop 1 l)) front
        ∙ ap (take 4) (drop-take 1 behind (drop at file))
        ∙ take-take 4 behind (drop 1 (drop at file)) (omega arith)
        ∙ ap (take 4) (drop-drop 1 at file)

    behind_length : 5 < left → get_or (got ++ rest) 5 0 ≡ get_or file (at + 5) 0
    behind_length long = get_or_append_left got rest 0 5 (omega arith) ∙ ap (λ (l : List ℕ). get_or l 5 0) same ∙ get_or-take (length got) (drop at file) 5 0 (omega arith) ∙ get_or-drop at file 5 0

    left_over : length (drop (at + 1) file) ≡ left - 1
    left_over = omega (arith, length-drop (at + 1) file)

    go : (r : Head) → JudgesHead r (got ++ rest) left → IsHead r file at
    go Closed told = λ is_open. told (gate ∙ is_open)
    go (Frame n first) told = (sym gate ∙ told.0, omega (arith, told.1, left_over), told.2, told.3 ∙ whole (omega (arith, told.1)), told.4 ∙ behind_length (omega (arith, told.1)))
    go Short told = (
      sym gate ∙ told.0,
      elim (cases_lt left 5) [
        | inl few ↦ inl (omega (arith, left_over))
        | inr some ↦ ⊎_elim (λ few. absurd (omega arith))
            (λ less. inr (subst (λ (n : ℕ). length (drop (at + 1) file) < 5 + n) (ap (from_le_bytes w32) (whole some)) (omega (arith, left_over, less)))) told.1
      ],
    )

-- a statement about bytes, if they are known
pub told_length : (told : Option (List ℕ)) (file : List ℕ) (n : ℕ) → told ≡ Some file → HasLength told n → n ≡ length file
told_length told file n is has = subst (λ (t : Option (List ℕ)). HasLength t n) is has

pub told_range : (told : Option (List ℕ)) (file : List ℕ) (at : ℕ) (bytes : List ℕ) → told ≡ Some file → IsRange told at bytes → bytes ≡ take (length bytes) (drop at file)
told_range told file at bytes is has = subst (λ (t : Option (List ℕ)). IsRange t at bytes) is has

-- a frame that was seen ends before the end of the file
pub room_in : (seen : Head) (n first at size : ℕ) → seen ≡ Frame n first → EndsWithin seen at size → at + 5 + n < size
room_in seen n first at size is within = subst (λ (head : Head). EndsWithin head at size) is within
