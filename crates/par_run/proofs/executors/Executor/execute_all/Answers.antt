use Rattle.std.proofs.Common.{◌∙◌, get_or, sum_by, refl, arith}
use Rattle.std.proofs.lemmas.List.Sums.{sum_by-drop_more}
use Rattle.ts_sessions.specs.Held.{most_queued}
use Rattle.par_lines.specs.declared.sessions.LinePlace.{LinePlace}
use Rattle.par_run.specs.Workers.{said_by}
use Rattle.par_run.proofs.ReplyLaws.{begun_fresh, broke_next, executed_last, executed_next, idle_room, length_at, on_error}
use Rattle.par_run.proofs.executors.Executor.execute_all.Goals as goal

pub loop-line-init : goal.loop-line-init
loop-line-init g c =
    let actors = g.A.Actor in
    let actor = c.args.self.now.actor in
    record {
      executed = begun_fresh actors.within actors.semantics.does (actors.semantics.opening 0) g.B.Backend.alone (actors.named actor) (g.B.Backend.state c.args.backend.now) (said_by actors.named c.args.self.now) (actors.places actor) c.requires.unanswered c.requires.fresh;
      name = refl;
      number = refl;
      holds = c.requires.holds;
      room = idle_room (actors.waiting actor) (sum_by (λ l. l.len) c.args.lines.now) most_queued c.requires.idle c.requires.room;
      kin = refl;
    }

pub execute-requires-clause-room : goal.execute-requires-clause-room
execute-requires-clause-room g c κs within =
    let d : LinePlace = record { from = 0; len = 0; skip = 0 } in
    let line = get_or c.args.lines.now c.loop-line.line-index d in
    let len = length_at c.args.input.now c.text.result.now line c.text.ensures.text (c.requires.lines c.loop-line.line-index d c.loop-line-test.true).inside in
    let rest = sum_by-drop_more (λ l. l.len) c.args.lines.now c.loop-line.line-index d c.loop-line-test.true in
    omega (arith, c.loop-line.invariant.room)

pub loop-line-preserved : goal.loop-line-preserved
loop-line-preserved g c =
    let actors = g.A.Actor in
    let d : LinePlace = record { from = 0; len = 0; skip = 0 } in
    let at = c.loop-line.line-index in
    let line = get_or c.args.lines.now at d in
    let len = length_at c.args.input.now c.text.result.now line c.text.ensures.text (c.requires.lines at d c.loop-line-test.true).inside in
    let rest = sum_by-drop_more (λ l. l.len) c.args.lines.now at d c.loop-line-test.true in
    record {
      executed = executed_next actors.within actors.semantics.does (actors.semantics.opening 0) g.B.Backend.alone (actors.named c.args.self.now.actor) (actors.named c.loop-line.self.actor) c.args.input.now c.text.result.now c.args.lines.now at d
          (g.B.Backend.state c.args.backend.now) (g.B.Backend.state c.loop-line.backend) (actors.places c.loop-line.self.actor) (said_by actors.named c.loop-line.self)
          (g.B.Backend.state c.execute.new.backend) (actors.places c.execute.new.self.actor) (said_by actors.named c.execute.new.self)
          c.loop-line-test.true c.loop-line.invariant.name c.text.ensures.text c.loop-line.invariant.executed c.in_ok-execute.ensures.executed;
      name = c.execute.ensures.name ∙ c.loop-line.invariant.name;
      number = c.execute.ensures.number ∙ c.loop-line.invariant.number;
      holds = c.in_ok-execute.ensures.holds;
      room = omega (arith, c.loop-line.invariant.room, c.execute.ensures.waiting);
      kin = c.execute.ensures.kin ∙ c.loop-line.invariant.kin;
    }

pub returns-clause-executed : goal.returns-clause-executed
returns-clause-executed g c =
    let actors = g.A.Actor in
    executed_last actors.within actors.semantics.does (actors.semantics.opening 0) g.B.Backend.alone (actors.named c.args.self.now.actor) c.args.input.now c.args.lines.now c.loop-line.line-index (g.B.Backend.state c.args.backend.now)
    (said_by actors.named c.loop-line.self) (g.B.Backend.state c.loop-line.backend) (actors.places c.loop-line.self.actor) c.loop-line-test.false c.loop-line.invariant.executed

pub returns-in_err-execute-clause-broke : goal.returns-in_err-execute-clause-broke
returns-in_err-execute-clause-broke g c =
    let actors = g.A.Actor in
    let d : LinePlace = record { from = 0; len = 0; skip = 0 } in
    on_error _ c.from_residual.result
    (broke_next actors.within actors.semantics.does (actors.semantics.opening 0) g.B.Backend.alone (actors.named c.args.self.now.actor) c.args.input.now c.text.result.now c.args.lines.now c.loop-line.line-index d
    (g.B.Backend.state c.args.backend.now) (g.B.Backend.state c.loop-line.backend) (actors.places c.loop-line.self.actor) (said_by actors.named c.loop-line.self)
    (g.B.Backend.state c.execute.new.backend) (said_by actors.named c.execute.new.self).reads
    c.loop-line-test.true c.text.ensures.text c.loop-line.invariant.executed c.in_err-execute.ensures.broke c.execute.ensures.counted)
