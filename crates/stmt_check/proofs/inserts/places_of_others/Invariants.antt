use Rattle.std.proofs.Common.{◌≡◌, ◌++◌, drop}
use Rattle.stmt_check.specs.Rows.{other_places}
use Rattle.stmt_check.proofs.inserts.places_of_others.Given as goal

-- the places so far, and those of what is left
abbrev pub invariant-loop-place : goal.invariant-loop-place
invariant-loop-place l = other_places l.fn.at l.fn.names 0 l.fn.columns ≡ l.places ++ other_places l.fn.at l.fn.names l.place (drop l.place l.fn.columns)
