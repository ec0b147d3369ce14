-- The rows of a state, table by table, compared with the image that holds them.
use Rattle.std.proofs.Common.{◌≡◌, ℕ, zero, suc, ◌+◌, ◌-◌, ◌*◌, ◌^◌, ◌<◌, ◌≤◌, ◌==◌, add-one, Bool, true, false, not, cond, List, [], ◌∷◌, ◌++◌, take, length, length-append, get_or, min, refl, sym, ap, ◌∙◌, append_assoc, subst, arith}
use Rattle.std.specs.Prelude.{sum_by}
use Rattle.std.specs.List.{AllByRecursion, count_by, flat_map}
use Rattle.std.proofs.lemmas.Bool.Decides.{nat_tests}
use Rattle.std.proofs.lemmas.List.{append-nil}
use Rattle.ts_bucket.specs.Spans.{in_span}
use Rattle.ts_bucket.specs.declared.spans.Span.{Span}
use Rattle.ts_schema.specs.declared.rows.Row.{Row}
use Rattle.ts_model.specs.Bytes.{event_bytes, row_bytes}
use Rattle.ts_model.specs.declared.events.Event.{Event}
use Rattle.ts_model.specs.declared.events.Event.TheVariants.{Commit}
use Rattle.ts_model.specs.declared.events.Op.TheVariants.{Insert}
use Rattle.ts_model.specs.declared.images.Image.{Image}
use Rattle.ts_model.specs.History.{History}
use Rattle.ts_model.specs.Rows.{rows}
use Rattle.ts_model.proofs.FieldLaws.{sum_cons}
use Rattle.event_codec.specs.Formed.{IsRow}
use Rattle.event_codec.specs.Spelling.{event, four, many, op, row as row_spelling}
use Rattle.event_codec.proofs.BytesCounted.{bytes_counted as event_counted}
use Rattle.image_laws.specs.Images.{held_events, row_events}
use Rattle.base_image.specs.Counting.{framed_bytes, image_bytes}
use Rattle.base_image.specs.Formed.{IsFramed, IsWritable}
use Rattle.base_image.specs.Outlines.{rows_in, tally_of, tallies, commits, commit_bytes, commit_head, with_rows, whole, IsOutline}
use Rattle.base_image.specs.Spelling.{bytes_of_frame, image}
use Rattle.base_image.specs.declared.outlines.Outline.{Outline}
use Rattle.base_image.specs.declared.tallies.Tally.{Tally}
use Rattle.base_image.proofs.Counts.{bytes_counted}
use Rattle.base_image.proofs.TakingLaws.{one_more_held}

-- ---- spans

-- the results with one more item
pub more_made : {X Y : Type 0} (f : X → List Y) (xs : List X) (i : ℕ) (x : X) → i < length xs → x ≡ get_or xs i x → flat_map f (take i xs) ++ f x ≡ flat_map f (take (i + 1) xs)
more_made f xs i x l is = step xs i l is ∙ ap (λ n. flat_map f (take n xs)) (sym (add-one i))
  where
    step : (xs : List _) (i : ℕ) → i < length xs → x ≡ get_or xs i x → flat_map f (take i xs) ++ f x ≡ flat_map f (take (suc i) xs)
    step [] i l is = absurd (omega arith)
    step (y ∷ ys) zero l is = ap f is ∙ sym (append-nil (f y))
    step (y ∷ ys) (suc i) l is = append_assoc (f y) (flat_map f (take i ys)) (f x) ∙ ap (λ zs. f y ++ zs) (step ys i (omega arith) is)

-- what is true of all rows is true of those of a span
pub all_in : (P : Row → Type 0) (s : Span) (rows : List Row) → AllByRecursion P rows → AllByRecursion P (rows_in s rows)
all_in P s [] all = tt
all_in P s (row ∷ rows) all =
    elim (in_span s row.at) as (λ t. AllByRecursion P (cond t (row ∷ rows_in s rows) (rows_in s rows))) [ true ↦ (all.0, all_in P s rows all.1) | false ↦ all_in P s rows all.1 ]

-- ---- tallies

sum-append : {X : Type 0} (f : X → ℕ) (xs ys : List X) → sum_by f (xs ++ ys) ≡ sum_by f xs + sum_by f ys
sum-append f [] ys = omega arith
sum-append f (x ∷ xs) ys = omega (arith, sum_cons f x (xs ++ ys), sum-append f xs ys, sum_cons f x xs)

pub tally_more : (so_far more : List Row) (tally : Tally) (n b : ℕ) → tally ≡ tally_of so_far → n ≡ min (tally.rows + length more) (2 ^ 64 - 1) → b ≡ min (tally.bytes + min (sum_by row_bytes more) (2 ^ 64 - 1)) (2 ^ 64 - 1)
    → record { rows = n; bytes = b } ≡ tally_of (so_far ++ more)
tally_more so_far more tally n b is rows bytes =
    let count : n ≡ min (length (so_far ++ more)) (2 ^ 64 - 1) = omega (arith, rows, ap (λ (t : Tally). t.rows) is, length-append so_far more) in
    let size : b ≡ min (sum_by row_bytes (so_far ++ more)) (2 ^ 64 - 1) = omega (arith, bytes, ap (λ (t : Tally). t.bytes) is, sum-append row_bytes so_far more) in
    λ i. record { rows = count i; bytes = size i }

module _ (held : ℕ → List Row) where
  tallies_more : (t n : ℕ) → tallies held t (suc n) ≡ tallies held t n ++ (tally_of (held (t + n)) ∷ [])
  tallies_more t zero = let here : t ≡ t + 0 = omega arith in ap (λ k. tally_of (held k) ∷ []) here
  tallies_more t (suc n) =
      let next : suc t + n ≡ t + suc n = omega arith in
      ap (λ ts. tally_of (held t) ∷ ts) (tallies_more (suc t) n ∙ ap (λ k. tallies held (suc t) n ++ (tally_of (held k) ∷ [])) next)

  commits_more : (t n : ℕ) → commits held t (suc n) ≡ commits held t n ++ held_events (t + n) (held (t + n))
  commits_more t zero = let here : t ≡ t + 0 = omega arith in append-nil (held_events t (held t)) ∙ ap (λ k. held_events k (held k)) here
  commits_more t (suc n) =
      let next : suc t + n ≡ t + suc n = omega arith in
      ap (λ es. held_events t (held t) ++ es) (commits_more (suc t) n ∙ ap (λ k. commits held (suc t) n ++ held_events k (held k)) next)
      ∙ sym (append_assoc (held_events t (held t)) (commits held (suc t) n) (held_events (t + suc n) (held (t + suc n))))

  pub one_more_tally : (k : ℕ) (all : List Tally) (tally : Tally) → all ≡ tallies held 0 k → tally ≡ tally_of (held k) → all ++ (tally ∷ []) ≡ tallies held 0 (k + 1)
  one_more_tally k all tally so_far is =
      let place : k ≡ 0 + k = omega arith in
      ap (λ ts. ts ++ (tally ∷ [])) so_far ∙ ap (λ x. tallies held 0 k ++ (x ∷ [])) is
      ∙ ap (λ m. tallies held 0 k ++ (tally_of (held m) ∷ [])) place ∙ sym (tallies_more 0 k) ∙ ap (tallies held 0) (sym (add-one k))

  pub one_more_commit : (h : History) (k : ℕ) → commits held 0 k ≡ row_events h 0 k → held k ≡ rows k h → commits held 0 (k + 1) ≡ row_events h 0 (k + 1)
  one_more_commit h k so_far is =
      let place : 0 + k ≡ k = omega arith in
      ap (commits held 0) (add-one k) ∙ commits_more 0 k ∙ ap (λ m. commits held 0 k ++ held_events m (held m)) place
      ∙ one_more_held h k (commits held 0 k) (held k) so_far is

  pub tallies_length : (t n : ℕ) → length (tallies held t n) ≡ n
  tallies_length t zero = refl
  tallies_length t (suc n) = ap suc (tallies_length (suc t) n)

-- ---- the commit of a table

abbrev has_rows : Tally → Bool
has_rows tally = not (tally.rows == 0)

none_some : (n : ℕ) → (min (suc n) (2 ^ 64 - 1) == 0) ≡ false
none_some n = grind (arith, nat_tests)

pub no_rows : (t : ℕ) (held : List Row) → min (length held) (2 ^ 64 - 1) ≡ 0 → held_events t held ≡ []
no_rows t [] none = refl
no_rows t (row ∷ held) none = absurd (omega (arith, none))

commit_length : (t : ℕ) (held : List Row) → length (event (Commit (Insert t held ∷ []))) ≡ 14 + sum_by row_bytes held
commit_length t held = omega (arith, event_counted (Commit (Insert t held ∷ [])))

pub record Fits (held : List Row) : Type 0 where
  pub bytes : 14 + (tally_of held).bytes < 2 ^ 32
  pub rows : (tally_of held).rows < 2 ^ 32
  pub formed : AllByRecursion IsRow held

pub fits : (t : ℕ) (held : List Row) → AllByRecursion IsFramed (held_events t held) → Fits held
fits t [] bytes_of_frame = record { bytes = omega arith; rows = omega arith; formed = tt }
fits t (row ∷ held) bytes_of_frame = record {
  bytes = omega (arith, bytes_of_frame.0.1, commit_length t (row ∷ held));
  rows = omega (arith, bytes_of_frame.0.0.1.0.1.0);
  formed = bytes_of_frame.0.0.1.0.1.1;
}

-- the bytes of the commit, in two parts
pub commit_is : (t : ℕ) (held : List Row) → AllByRecursion IsFramed (held_events t held) → 0 < length held → flat_map bytes_of_frame (held_events t held) ≡ commit_head t (tally_of held) ++ flat_map row_spelling held
commit_is t [] bytes_of_frame some = absurd (omega (arith, some))
commit_is t (row ∷ held) fit some =
    let rows : List Row = row ∷ held in
    let f = fits t rows fit in
    let bytes : length (event (Commit (Insert t (row ∷ held) ∷ []))) ≡ 14 + (tally_of (row ∷ held)).bytes = omega (arith, f.bytes, commit_length t (row ∷ held)) in
    let count : length (row ∷ held) ≡ (tally_of (row ∷ held)).rows = omega (arith, f.rows) in
    let body : List ℕ = flat_map row_spelling rows in
    append-nil (bytes_of_frame (Commit (Insert t rows ∷ [])))
    ∙ ap (λ n. four n ++ event (Commit (Insert t rows ∷ []))) bytes
    ∙ ap (λ xs. four (14 + (tally_of rows).bytes) ++ (5 ∷ (four 1 ++ xs))) (append-nil (op (Insert t rows)))
    ∙ ap (λ n. four (14 + (tally_of rows).bytes) ++ (5 ∷ (four 1 ++ (1 ∷ (four t ++ (four n ++ body)))))) count
    ∙ ap (λ xs. four (14 + (tally_of rows).bytes) ++ (5 ∷ (four 1 ++ (1 ∷ xs)))) (sym (append_assoc (four t) (four (tally_of rows).rows) body))
    ∙ ap (λ xs. four (14 + (tally_of rows).bytes) ++ (5 ∷ xs)) (sym (append_assoc (four 1) (1 ∷ (four t ++ four (tally_of rows).rows)) body))
    ∙ sym (append_assoc (four (14 + (tally_of rows).bytes)) (5 ∷ (four 1 ++ (1 ∷ (four t ++ four (tally_of rows).rows)))) body)

-- ---- all commits

one_counted : (t : ℕ) (held : List Row) → cond (has_rows (tally_of held)) 1 0 ≡ length (held_events t held)
one_counted t [] = refl
one_counted t (row ∷ held) = ap (λ b. cond (not b) 1 0) (none_some (length held))

pub commits_counted : (held : ℕ → List Row) (t n : ℕ) → count_by (λ (tally : Tally). not (tally.rows == 0)) (tallies held t n) ≡ length (commits held t n)
commits_counted held t zero = refl
commits_counted held t (suc n) = omega (
  arith,
  sum_cons (λ (tally : Tally). cond (not (tally.rows == 0)) 1 0) (tally_of (held t)) (tallies held (suc t) n),
  one_counted t (held t),
  commits_counted held (suc t) n,
  length-append (held_events t (held t)) (commits held (suc t) n),
)

one_sized : (t : ℕ) (held : List Row) → min (commit_bytes (tally_of held)) (2 ^ 64 - 1) ≡ min (sum_by framed_bytes (held_events t held)) (2 ^ 64 - 1)
one_sized t [] = refl
one_sized t (row ∷ held) =
    let some : commit_bytes (tally_of (row ∷ held)) ≡ 18 + min (sum_by row_bytes (row ∷ held)) (2 ^ 64 - 1) = ap (λ b. cond b 0 (18 + min (sum_by row_bytes (row ∷ held)) (2 ^ 64 - 1))) (none_some (length held)) in
    let all : sum_by framed_bytes (held_events t (row ∷ held)) ≡ 18 + sum_by row_bytes (row ∷ held) = omega arith in
    omega (arith, some, all)

pub commits_sized : (held : ℕ → List Row) (t n : ℕ) → min (sum_by commit_bytes (tallies held t n)) (2 ^ 64 - 1) ≡ min (sum_by framed_bytes (commits held t n)) (2 ^ 64 - 1)
commits_sized held t zero = refl
commits_sized held t (suc n) = omega (
  arith,
  sum_cons commit_bytes (tally_of (held t)) (tallies held (suc t) n),
  one_sized t (held t),
  commits_sized held (suc t) n,
  sum-append framed_bytes (held_events t (held t)) (commits held (suc t) n),
)

-- ---- the image

pub outline_sized : (held : ℕ → List Row) (o : Outline) (rest bytes n : ℕ) → IsOutline held o → rest ≡ min (length (image o.rest)) (2 ^ 64 - 1) → bytes ≡ min (sum_by commit_bytes o.tallies) (2 ^ 64 - 1) → n ≡ min (rest + bytes) (2 ^ 64 - 1)
    → n ≡ min (length (image (whole held o))) (2 ^ 64 - 1)
outline_sized held o rest bytes n is first second both =
    let without : sum_by framed_bytes o.rest.rows ≡ 0 = ap (sum_by framed_bytes) is.no_rows in
    let told : min (sum_by commit_bytes o.tallies) (2 ^ 64 - 1) ≡ min (sum_by framed_bytes (commits held 0 (length o.tallies))) (2 ^ 64 - 1) = ap (λ (ts : List Tally). min (sum_by commit_bytes ts) (2 ^ 64 - 1)) is.tallied ∙ commits_sized held 0 (length o.tallies) in
    omega (arith, first, second, both, without, told, bytes_counted o.rest, bytes_counted (whole held o))

pub rest_writable : (held : ℕ → List Row) (o : Outline) → o.rest.rows ≡ [] → IsWritable (whole held o) → IsWritable o.rest
rest_writable held o none w = record {
  roster = w.roster;
  rows = (omega (arith, ap (λ (es : List Event). length es) none), subst (AllByRecursion IsFramed) (sym none) tt);
  views = w.views;
  waiting = w.waiting;
  done = w.done;
}

-- the bytes in three parts
pub joined : (out first second third e r m b : List ℕ) → first ≡ out ++ (8 ∷ (e ++ r)) → second ≡ first ++ m → third ≡ second ++ b → third ≡ out ++ (8 ∷ (e ++ (r ++ (m ++ b))))
joined out first second third e r m b p q s =
    s ∙ ap (λ xs. xs ++ b) (q ∙ ap (λ xs. xs ++ m) p)
    ∙ append_assoc (out ++ (8 ∷ (e ++ r))) m b
    ∙ append_assoc out (8 ∷ (e ++ r)) (m ++ b)
    ∙ ap (λ xs. out ++ (8 ∷ xs)) (append_assoc e r (m ++ b))
