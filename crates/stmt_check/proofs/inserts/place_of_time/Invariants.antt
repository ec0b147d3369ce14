use Rattle.std.proofs.Common.{◌≡◌, drop}
use Rattle.stmt_check.specs.Rows.{time_place}
use Rattle.stmt_check.proofs.inserts.place_of_time.Given as goal

-- what is left decides
abbrev pub invariant-loop-place : goal.invariant-loop-place
invariant-loop-place l = time_place l.fn.at l.fn.names 0 l.fn.columns ≡ time_place l.fn.at l.fn.names l.place (drop l.place l.fn.columns)
