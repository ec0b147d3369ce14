-- Lines of the demonstration are ASCII, have few bytes, and have no comment.
use lib.Signed.{mag}
use Rattle.std.proofs.Common.{◌≡◌, refl, ℕ, zero, suc, ◌+◌, ◌*◌, ◌%◌, ◌<◌, ◌≤◌, ◌^◌, ℤ, pos, ◌-ℤ◌, List, [], ◌∷◌, ◌++◌, length, codes, arith}
use Rattle.std.specs.List.{flat_map, range_with_len}
use Rattle.stmt_tokens.specs.Lines.{line_kind, session_name}
use Rattle.stmt_tokens.specs.declared.lines.LineKind.TheVariants.{Stmt}
use Rattle.demo_script.specs.Demo.{aggregate_line, answer_line, hypertable_line, insert_line, late_line, number_of, range_text, refresh_line, row_text, rows_text, table_line, time_of, value_of, values_text}
use Rattle.demo_laws.specs.ActLaws.{demo_session}
use Rattle.demo_laws.proofs.Rows.{IsSmall}
use Rattle.policy_jobs.proofs.CleanTexts.{IsClean, IsSession, both, closing, comma, decimal_clean, kind_of_clean, less, nothing, opening, signed_clean}

-- ---- rows

values_clean : (time : ℤ) (device amount : ℕ) → mag time < 2 ^ 62 → device < 2 ^ 63 → amount < 2 ^ 63 → IsClean 67 (values_text time device amount)
values_clean time device amount t v w =
    both 66 1 _ _ (both 46 20 _ _ (both 44 2 _ _ (both 24 20 _ _ (both 22 2 _ _ (both 1 21 _ _ opening (signed_clean time (omega (arith, t)))) comma) (decimal_clean device v)) comma) (decimal_clean amount w)) closing

row_clean : (demo round place : ℕ) → IsSmall demo round place → IsClean 67 (row_text demo round place)
unfolding row_text
row_clean demo round place small = values_clean (time_of (number_of round place) place) (number_of round place % 8) (value_of demo (number_of round place)) small.time small.device small.value

module _ (demo round : ℕ) where
  others_clean : (n first : ℕ) → ((place : ℕ) → first ≤ place → place < first + n → IsSmall demo round place)
      → IsClean (69 * n) (flat_map (λ k. codes ", " ++ row_text demo round k) (range_with_len first n))
  others_clean zero first small = nothing
  others_clean (suc n) first small =
      less (69 + 69 * n) (69 * suc n) _ (omega arith) (both 69 (69 * n) _ _
      (both 2 67 _ _ comma (row_clean demo round first (small first (omega arith) (omega arith))))
      (others_clean n (first + 1) (λ place low high. small place (omega arith) (omega arith))))

  pub rows_clean : (n first : ℕ) → ((place : ℕ) → first ≤ place → place < first + suc n → IsSmall demo round place) → IsClean (67 + 69 * n) (rows_text demo round first (suc n))
  unfolding rows_text
  rows_clean n first small =
      both 67 (69 * n) _ _ (row_clean demo round first (small first (omega arith) (omega arith)))
      (others_clean n (first + 1) (λ place low high. small place (omega arith) (omega arith)))

-- ---- lines

-- the session of the demonstration
demonstration : IsSession demo_session
demonstration = record { head = 100; tail = []; is = refl; letter = refl; rest = refl; short = omega arith }

insert_clean : IsClean 24 (codes "d: INSERT INTO m VALUES ")
insert_clean = record { comment = λ rest. omega arith; ascii = refl; bytes = omega arith }

call_clean : IsClean 45 (codes "d: CALL refresh_continuous_aggregate('m100', ")
call_clean = record { comment = λ rest. omega arith; ascii = refl; bytes = omega arith }

-- a whole line belongs to the session of the demonstration
pub record IsSaid (line : List ℕ) : Type 0 where
  pub kind : line_kind line ≡ Stmt 1 2 (length line)
  pub session : session_name line 1 2 ≡ codes "d"
  pub bytes : length line ≤ 65536

said_by : (most : ℕ) (rest : List ℕ) → most ≤ 65536 → IsClean most (codes "d: " ++ rest) → IsSaid (codes "d: " ++ rest)
said_by most rest few clean = record { kind = kind_of_clean most demo_session (32 ∷ rest) demonstration clean; session = refl; bytes = omega (arith, clean.bytes) }

pub insert_said : (demo round part : ℕ) → ((place : ℕ) → place < 100 * part + 100 → IsSmall demo round place) → IsSaid (insert_line demo round part)
unfolding insert_line
insert_said demo round part small =
    let rows : List ℕ = rows_text demo round (100 * part) 100 in
    said_by (24 + (67 + 69 * 99)) (codes "INSERT INTO m VALUES " ++ rows) (omega arith)
    (both 24 (67 + 69 * 99) (codes "d: INSERT INTO m VALUES ") rows insert_clean (rows_clean demo round 99 (100 * part) (λ place low high. small place (omega arith))))

pub refresh_said : (round : ℕ) → mag (pos (5000 * round) -ℤ pos 5000) < 2 ^ 62 → 5000 * round < 2 ^ 63 → IsSaid (refresh_line round)
unfolding refresh_line
refresh_said round s t =
    let start : ℤ = pos (5000 * round) -ℤ pos 5000 in
    said_by (45 + 44) (codes "CALL refresh_continuous_aggregate('m100', " ++ range_text start (5000 * round)) (omega arith)
    (both 45 44 (codes "d: CALL refresh_continuous_aggregate('m100', ") (range_text start (5000 * round)) call_clean
    (both 43 1 _ _ (both 23 20 _ _ (both 21 2 _ _ (signed_clean start (omega (arith, s))) comma) (decimal_clean (5000 * round) t)) closing))

pub late_said : (demo : ℕ) → IsSaid (late_line demo)
unfolding late_line
late_said demo =
    said_by (24 + 67) (codes "INSERT INTO m VALUES " ++ values_text (pos 1000) 0 (demo % 1000)) (omega arith)
    (both 24 67 (codes "d: INSERT INTO m VALUES ") (values_text (pos 1000) 0 (demo % 1000)) insert_clean (values_clean (pos 1000) 0 (demo % 1000) (omega arith) (omega arith) (omega arith)))

pub table_said : IsSaid table_line
unfolding table_line
table_said = record { kind = refl; session = refl; bytes = omega arith }

pub hypertable_said : IsSaid hypertable_line
unfolding hypertable_line
hypertable_said = record { kind = refl; session = refl; bytes = omega arith }

pub aggregate_said : IsSaid aggregate_line
unfolding aggregate_line
aggregate_said = record { kind = refl; session = refl; bytes = omega arith }

pub answer_said : IsSaid answer_line
unfolding answer_line
answer_said = record { kind = refl; session = refl; bytes = omega arith }
