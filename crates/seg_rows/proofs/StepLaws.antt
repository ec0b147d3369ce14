-- One step of a loop over the rows of a segment, at a row and a life that were read.
use Rattle.std.proofs.Common.{◌≡◌, ℕ, ◌<◌, ◌≤◌, ◌+◌, false, cond, Some, None, List, [], ◌∷◌, ◌++◌, length, get_or, take, take_all, map, sym, ◌∙◌, ap, arith}
use Rattle.std.proofs.Math.Bool.{and-false}
use Rattle.std.proofs.lemmas.List.{append-nil, get_or_default, map_more, length-take-le}
use Rattle.ts_bucket.specs.Spans.{SpanValue, in_span}
use Rattle.ts_schema.specs.declared.rows.Row.{Row}
use Rattle.ts_schema.specs.declared.conditions.Test.{Test}
use Rattle.seg_rows.specs.declared.lives.Life.{Life}
use Rattle.seg_rows.specs.declared.lives.Lives.{Lives}
use Rattle.seg_rows.specs.Hulls.{joined_hull, hull_at, hull_of}
use Rattle.seg_rows.specs.Lives.{Covers, lives_of, is_alive_at, life_from, with_life, with_lives, versions_of}
use Rattle.seg_rows.specs.Versions.{Version, shown_at, rows_at, is_taken, taken_at, after_kill, later_time, latest_at}
use Rattle.seg_rows.proofs.LifeLaws.{length-versions_of, version_read, with_lives-more}
use Rattle.seg_rows.proofs.VersionLaws.{rows_at-more, taken_at-more_length, taken_at-more_hull, taken_at-length, latest_at-more}

-- past the last row all versions are done
pub versions_done : (rows : List Row) (lives : Lives) (i : ℕ) → Covers (length rows) lives → length rows ≤ i → take i (versions_of rows lives) ≡ versions_of rows lives
versions_done rows lives i covers h = take_all i (versions_of rows lives) (omega (arith, length-versions_of rows lives covers))

module _ (rows : List Row) (lives : Lives) (i : ℕ) (r : Row) (l : Life) (covers : Covers (length rows) lives) (h : i < length rows) (row_is : r ≡ get_or rows i r) (life_is : l ≡ get_or (lives_of (length rows) lives) i l) where
  within : i < length (versions_of rows lives)
  within = omega (arith, length-versions_of rows lives covers, h)

  read : (d : Version) → get_or (versions_of rows lives) i d ≡ with_life r l
  read d = version_read rows lives i r l d covers h row_is life_is

  pub shown_step : (p : ℕ) (s : SpanValue) → rows_at p s (take (i + 1) (versions_of rows lives)) ≡ rows_at p s (take i (versions_of rows lives)) ++ cond (shown_at p s (with_life r l)) (r ∷ []) []
  shown_step p s = rows_at-more p s (versions_of rows lives) i (with_life r l) (with_life r l) within (read (with_life r l))

  pub latest_step : (p : ℕ) → latest_at p (take (i + 1) (versions_of rows lives)) ≡ later_time (latest_at p (take i (versions_of rows lives))) (cond (is_alive_at p l) (Some r.at) None)
  latest_step p = latest_at-more p (versions_of rows lives) i (with_life r l) (with_life r l) within (read (with_life r l))

  pub taken_step_length : (p : ℕ) (tests : List Test) → length (taken_at p tests (take (i + 1) (versions_of rows lives))) ≡ length (taken_at p tests (take i (versions_of rows lives))) + cond (is_taken p tests (with_life r l)) 1 0
  taken_step_length p tests = taken_at-more_length p tests (versions_of rows lives) i (with_life r l) (with_life r l) within (read (with_life r l))

  pub taken_step_hull : (p : ℕ) (tests : List Test) → hull_of (taken_at p tests (take (i + 1) (versions_of rows lives))) ≡ joined_hull (hull_of (taken_at p tests (take i (versions_of rows lives)))) (cond (is_taken p tests (with_life r l)) (hull_at r.at) None)
  taken_step_hull p tests = taken_at-more_hull p tests (versions_of rows lives) i (with_life r l) (with_life r l) within (read (with_life r l))

  pub kill_step : (p : ℕ) (tests : List Test) → map (after_kill p tests) (take (i + 1) (versions_of rows lives)) ≡ map (after_kill p tests) (take i (versions_of rows lives)) ++ after_kill p tests (with_life r l) ∷ []
  kill_step p tests =
      map_more (after_kill p tests) (versions_of rows lives) i (with_life r l) within
      ∙ ap (λ v. map (after_kill p tests) (take i (versions_of rows lives)) ++ after_kill p tests v ∷ []) (read (with_life r l))

  pub life_step : (done : List Life) (m : Life) → length done ≡ i → with_lives (take (i + 1) rows) (done ++ m ∷ []) ≡ with_lives (take i rows) done ++ with_life r m ∷ []
  life_step done m e = with_lives-more rows done i r m h e ∙ ap (λ x. with_lives (take i rows) done ++ with_life x m ∷ []) (sym row_is)

-- a row outside the span adds nothing to the rows shown, for any life
pub hidden_step : (rows : List Row) (lives : Lives) (i : ℕ) (r : Row) → Covers (length rows) lives → i < length rows → r ≡ get_or rows i r → (p : ℕ) (s : SpanValue) → in_span s r.at ≡ false → rows_at p s (take (i + 1) (versions_of rows lives)) ≡ rows_at p s (take i (versions_of rows lives))
hidden_step rows lives i r covers h row_is p s outside =
    let l = get_or (lives_of (length rows) lives) i (life_from 0) in
    let inside : i < length (lives_of (length rows) lives) = omega (arith, covers, h) in
    let life_is : l ≡ get_or (lives_of (length rows) lives) i l = get_or_default (lives_of (length rows) lives) i (life_from 0) l inside in
    let hidden : shown_at p s (with_life r l) ≡ false = rw outside (and-false (is_alive_at p l)) in
    shown_step rows lives i r l covers h row_is life_is p s
    ∙ (ap (λ b. rows_at p s (take i (versions_of rows lives)) ++ cond b (r ∷ []) []) hidden ∙ append-nil (rows_at p s (take i (versions_of rows lives))))

-- a delete takes at most all of the first versions
pub taken_within : (p : ℕ) (tests : List Test) (vs : List Version) (i : ℕ) → i ≤ length vs → length (taken_at p tests (take i vs)) ≤ i
taken_within p tests vs i h = omega (arith, taken_at-length p tests (take i vs), length-take-le i vs h)
