use Rattle.std.proofs.Common.{refl}
use Rattle.ts_sessions.proofs.SessionLaws.{on_err}
use Rattle.ts_sessions.proofs.sessions.Session.hold.Goals as goal

pub returns-in_err-insert-clause-kept : goal.returns-in_err-insert-clause-kept
returns-in_err-insert-clause-kept g c = on_err _ c.from_residual.result (record { block = refl; cut = refl; held = c.in_err-insert.ensures.err })
