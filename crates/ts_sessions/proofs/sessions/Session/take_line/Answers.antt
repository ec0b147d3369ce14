use Rattle.std.proofs.Common.{length, subst, sym, arith}
use Rattle.std.specs.Prelude.{OnErr}
use Rattle.stmt_reader.specs.Reading.{statement}
use Rattle.stmt_tokens.specs.Streams.{stream}
use Rattle.ts_sessions.specs.Sessions.{Spares}
use Rattle.ts_sessions.proofs.SessionLaws.{read_meant}
use Rattle.ts_sessions.specs.Held.{places_in}
use Rattle.ts_sessions.specs.Step.{step}
use Rattle.ts_sessions.proofs.EndLaws.{broken}
use Rattle.ts_sessions.proofs.SoundLaws.{asks_soundly}
use Rattle.ts_sessions.proofs.WalkLaws.{not_begun}
use Rattle.ts_sessions.proofs.sessions.Session.take_line.Goals as goal

-- what the statement asks for is sound
pub perform-requires-clause-sound : goal.perform-requires-clause-sound
perform-requires-clause-sound g c = λ _ _. asks_soundly (length c.args.text.now) c.in-Stmt.stmt c.requires.short c.in-Stmt.ensures.written

-- nothing was begun
pub returns-clause-ends : goal.returns-clause-ends
returns-clause-ends g c =
    let alone = g.B.Backend.alone in
    let old = g.B.Backend.state c.args.backend.now in
    let p = places_in c.args.self.now in
    let procedure = step p c.args.text.now c.args.skip in
    broken alone old procedure p _ old _ _ (omega arith) (not_begun alone old procedure)

-- only the snapshot that the statement names may be lost
pub returns-in-Stmt-clause-spared : goal.returns-in-Stmt-clause-spared
returns-in-Stmt-clause-spared g c =
    let p = places_in c.args.self.now in
    subst (λ m. OnErr c.perform.result (Spares m p (places_in c.perform.new.self))) (sym (read_meant p c.in-Stmt.stmt (statement (stream c.args.text.now c.args.skip)) c.in-Stmt.ensures.exact)) c.perform.ensures.spared
