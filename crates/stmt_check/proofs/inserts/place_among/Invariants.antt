use Rattle.std.proofs.Common.{◌≡◌, drop}
use Rattle.ts_catalog.specs.Columns.{place_from}
use Rattle.stmt_check.proofs.inserts.place_among.Given as goal

-- what is left decides
abbrev pub invariant-loop-place : goal.invariant-loop-place
invariant-loop-place l = place_from l.fn.name 0 l.fn.names ≡ place_from l.fn.name l.place (drop l.place l.fn.names)
