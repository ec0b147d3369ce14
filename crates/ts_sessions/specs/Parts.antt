-- Finishes of refreshes whose snapshots a session holds, as procedures with a separate read.
use Rattle.std.specs.Prelude.{ℤ, Option}
use Rattle.ts_sessions.specs.Places.{Places, Turn}
use Rattle.ts_sessions.specs.Procedures.{Procedure, looks}
use Rattle.ts_sessions.specs.Step.{finishes, refresh_meant}

-- finishes the refresh that the statement names, with the snapshot that the session holds for it
abbrev pub finishes_meant : Places → Option ℤ → Procedure (Turn Places)
finishes_meant p number = looks (λ h. finishes p h (refresh_meant p number))
