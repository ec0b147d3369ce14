-- Each line adds to what is done, and each ending says what was done.
use Rattle.std.proofs.Common.{◌≡◌, ◌<◌, ◌^◌, ℕ, List, [], length, sym, ap, ◌∙◌, subst, arith, refl}
use Rattle.std.specs.Io.KnownBytes.{prepend_known}
use Rattle.script_run.specs.Sessions.{sessions_of, script_state_of, waiting_in, AreSessions}
use Rattle.script_run.specs.Runs.{Left, Ran, executed_lines}
use Rattle.script_run.specs.declared.ends.RunEnd.{RunEnd}
use Rattle.script_run.specs.declared.ends.RunEnd.TheVariants as ends
use Rattle.script_run.proofs.WalkedAlone.{went_same, went_trans}
use Rattle.script_run.proofs.Progress.{Come, starts, goes_on, stops_at, stops_before, never_began, end_ran, refused_written, refused_cut, all_done, all_faults}
use Rattle.script_run.proofs.RunLaws.{input_first, input_line, input_long_line, ends_first, ends_anywhere, ends_at_line, ends_at_long_line, ends_last, ends_beyond}
use Rattle.script_run.proofs.runs.run.Goals as goal

pub returns-in-Err-clause-ran : goal.returns-in-Err-clause-ran
returns-in-Err-clause-ran g c =
    let state = g.B.Backend.state c.args.backend.now in
    ends_first (g.S.Source.left c.args.source.now) _ (λ input. never_began g.A.Actor.semantics state.history (executed_lines input) state (g.K.Sink.written c.args.sink.now) c.args.steps.now refl (omega (arith, c.count-so_far.ensures.count)))

pub loop-script-init : goal.loop-script-init
loop-script-init g c =
    let state = g.B.Backend.state c.args.backend.now in
    let written = g.K.Sink.written c.args.sink.now in
    let steps = c.args.steps.now in
    let script = c.new-script.result in
    let nobody = c.new-script.ensures.nobody in
    let sessions = sessions_of g.A.Actor.places script.sessions.entries in
    let small : steps < 2 ^ 64 = omega (arith, c.count-so_far.ensures.count) in
    record {
      progress = input_first (g.S.Source.left c.args.source.now) c.in-Ok.lines.held c.in-Ok.lines.allowed (Come g.A.Actor.semantics state.history written steps state written steps sessions script.line script.refused)
          c.in-Ok.ensures.fresh.0 c.in-Ok.ensures.fresh.1 (λ all. starts g.A.Actor.semantics state.history all state written steps sessions script.line script.refused refl small
          (ap (sessions_of g.A.Actor.places) nobody) c.new-script.ensures.first c.new-script.ensures.quiet);
      sessions = subst (AreSessions g.A.Actor state) (sym nobody) tt;
      waiting = let none : waiting_in g.A.Actor.waiting script.sessions.entries ≡ 0 = ap (waiting_in g.A.Actor.waiting) nobody in omega (arith, c.in-Ok.ensures.fresh.1);
      counts = small;
      store = went_same state state c.requires.going refl;
      kin = refl;
      is_open = c.in-Ok.ensures.fresh.2;
      follows = c.in-Ok.ensures.follows _ _ c.requires.untold;
      room = omega (arith, c.in-Ok.ensures.fresh.1, c.new-script.ensures.first);
      reads = refl;
      writes = refl;
    }

pub loop-script-preserved-in-Ok-execute : goal.loop-script-preserved-in-Ok-execute
loop-script-preserved-in-Ok-execute g c =
    let first = g.B.Backend.state c.args.backend.now in
    let before = g.K.Sink.written c.args.sink.now in
    let old = g.B.Backend.state c.loop-script.backend in
    let new = g.B.Backend.state c.execute.new.backend in
    let script = c.loop-script.script in
    let next = c.execute.new.self in
    let sessions = sessions_of g.A.Actor.places script.sessions.entries in
    let later = sessions_of g.A.Actor.places next.sessions.entries in
    let w = g.K.Sink.written c.loop-script.sink in
    let v = g.K.Sink.written c.execute.new.sink in
    record {
      progress = input_line (Come g.A.Actor.semantics first.history before c.args.steps.now old w c.loop-script.steps sessions script.line script.refused) c.loop-script.lines.allowed c.next.new.self.allowed
          (Come g.A.Actor.semantics first.history before c.args.steps.now new v c.execute.new.steps later next.line next.refused)
          (g.S.Source.left c.args.source.now) (prepend_known c.loop-script.lines.held (g.S.Source.left c.loop-script.source)) (prepend_known c.next.new.self.held (g.S.Source.left c.next.new.source))
          c.next.new.self.line c.line.result.now c.line.ensures.line c.in-Line.ensures.line c.in-Line.ensures.alike
          (λ all rest p. goes_on g.A.Actor.semantics first.history all rest c.line.result.now before c.args.steps.now old new w v c.loop-script.steps c.execute.new.steps sessions later script.line next.line script.refused next.refused p
          c.in-Ok-execute.ensures.numbered c.in-Ok-execute.ensures.written) c.loop-script.invariant.progress;
      sessions = c.in-Ok-execute.ensures.sessions;
      waiting = omega (arith, c.in-Ok-execute.ensures.waiting, c.in-Line.ensures.spends, ap length c.line.ensures.line, c.loop-script.invariant.waiting);
      counts = omega (arith, c.in-Ok-execute.ensures.written.counted);
      store = went_trans _ first old new c.loop-script.invariant.store c.in-Ok-execute.ensures.store;
      kin = c.in-Ok-execute.ensures.kin ∙ c.loop-script.invariant.kin;
      is_open = c.in-Line.ensures.is_open;
      follows = c.in-Line.ensures.follows;
      room = omega (arith, c.in-Ok-execute.ensures.numbered, c.in-Line.ensures.spends, c.loop-script.invariant.room);
      reads = c.in-Line.ensures.counted ∙ c.loop-script.invariant.reads;
      writes = c.in-Ok-execute.ensures.writes ∙ c.loop-script.invariant.writes;
    }

pub returns-in-Err-execute-clause-ran : goal.returns-in-Err-execute-clause-ran
returns-in-Err-execute-clause-ran g c =
    let first = g.B.Backend.state c.args.backend.now in
    let before = g.K.Sink.written c.args.sink.now in
    let old = g.B.Backend.state c.loop-script.backend in
    let script = c.loop-script.script in
    let sessions = sessions_of g.A.Actor.places script.sessions.entries in
    let w = g.K.Sink.written c.loop-script.sink in
    let left = prepend_known c.loop-script.lines.held (g.S.Source.left c.loop-script.source) in
    let come = Come g.A.Actor.semantics first.history before c.args.steps.now old w c.loop-script.steps sessions script.line script.refused in
    let new = g.B.Backend.state c.execute.new.backend in
    let next = c.execute.new.self in
    let later = sessions_of g.A.Actor.places next.sessions.entries in
    let v = g.K.Sink.written c.execute.new.sink in
    let rest_left = g.S.Source.left c.next.new.source in
    let ran = λ (end : RunEnd) (input : List ℕ). Ran end g.A.Actor.semantics first.history input rest_left
    (record { store = new; written_before = before; written = v; read_before = c.args.steps.now; read = c.execute.new.steps }) in
    ends_at_line come c.loop-script.lines.allowed c.next.new.self.allowed (ran c.run_end_of_stop.result) (g.S.Source.left c.args.source.now) left (prepend_known c.next.new.self.held rest_left)
    c.next.new.self.line c.line.result.now c.line.ensures.line c.in-Line.ensures.line
    (λ input rest p. subst (λ end. ran end input) (sym c.run_end_of_stop.ensures)
    (stops_at g.A.Actor.semantics first.history (executed_lines input) rest c.line.result.now before c.args.steps.now old new w v c.loop-script.steps c.execute.new.steps sessions later script.line next.line script.refused next.refused p
    c.in-Err-execute.stop input rest_left refl c.in-Err-execute.ensures.cut)) c.loop-script.invariant.progress

pub loop-script-preserved : goal.loop-script-preserved
loop-script-preserved g c =
    let first = g.B.Backend.state c.args.backend.now in
    let before = g.K.Sink.written c.args.sink.now in
    let old = g.B.Backend.state c.loop-script.backend in
    let script = c.loop-script.script in
    let sessions = sessions_of g.A.Actor.places script.sessions.entries in
    let w = g.K.Sink.written c.loop-script.sink in
    let left = prepend_known c.loop-script.lines.held (g.S.Source.left c.loop-script.source) in
    let come = Come g.A.Actor.semantics first.history before c.args.steps.now old w c.loop-script.steps sessions script.line script.refused in
    let next = c.refuse_long.new.self in
    let later = sessions_of g.A.Actor.places next.sessions.entries in
    let v = g.K.Sink.written c.refuse_long.new.sink in
    let kept = c.in-Ok-refuse_long.ensures.sessions in
    let same_script_state = ap (λ x. script_state_of g.A.Actor.places old.history x.entries) kept in
    let same_waiting : waiting_in g.A.Actor.waiting next.sessions.entries ≡ waiting_in g.A.Actor.waiting script.sessions.entries = ap (λ x. waiting_in g.A.Actor.waiting x.entries) kept in
    record {
      progress = input_long_line come c.loop-script.lines.allowed c.next.new.self.allowed
          (Come g.A.Actor.semantics first.history before c.args.steps.now old v c.loop-script.steps later next.line next.refused)
          (g.S.Source.left c.args.source.now) left (prepend_known c.next.new.self.held (g.S.Source.left c.next.new.source)) c.next.new.self.line c.in-LineLong.ensures.line c.in-LineLong.ensures.alike
          (λ all rest line long p. goes_on g.A.Actor.semantics first.history all rest line before c.args.steps.now old old w v c.loop-script.steps c.loop-script.steps sessions later script.line next.line script.refused next.refused p
          c.in-Ok-refuse_long.ensures.numbered
          (refused_written g.A.Actor.semantics (script_state_of g.A.Actor.places old.history script.sessions.entries) script.line line long (script_state_of g.A.Actor.places old.history next.sessions.entries) w v script.refused next.refused
          c.loop-script.steps c.loop-script.invariant.counts same_script_state c.in-Ok-refuse_long.ensures.wrote c.in-Ok-refuse_long.ensures.refused)) c.loop-script.invariant.progress;
      sessions = subst (λ x. AreSessions g.A.Actor old x.entries) (sym kept) c.loop-script.invariant.sessions;
      waiting = omega (arith, c.in-LineLong.ensures.spends, c.loop-script.invariant.waiting);
      counts = c.loop-script.invariant.counts;
      store = c.loop-script.invariant.store;
      kin = c.loop-script.invariant.kin;
      is_open = c.in-LineLong.ensures.is_open;
      follows = c.in-LineLong.ensures.follows;
      room = omega (arith, c.in-Ok-refuse_long.ensures.numbered, c.in-LineLong.ensures.spends, c.loop-script.invariant.room);
      reads = c.in-LineLong.ensures.counted ∙ c.loop-script.invariant.reads;
      writes = c.in-Ok-refuse_long.ensures.writes ∙ c.loop-script.invariant.writes;
    }

pub returns-in-Err-refuse_long-clause-ran : goal.returns-in-Err-refuse_long-clause-ran
returns-in-Err-refuse_long-clause-ran g c =
    let first = g.B.Backend.state c.args.backend.now in
    let before = g.K.Sink.written c.args.sink.now in
    let old = g.B.Backend.state c.loop-script.backend in
    let script = c.loop-script.script in
    let sessions = sessions_of g.A.Actor.places script.sessions.entries in
    let w = g.K.Sink.written c.loop-script.sink in
    let left = prepend_known c.loop-script.lines.held (g.S.Source.left c.loop-script.source) in
    let come = Come g.A.Actor.semantics first.history before c.args.steps.now old w c.loop-script.steps sessions script.line script.refused in
    let next = c.refuse_long.new.self in
    let later = sessions_of g.A.Actor.places next.sessions.entries in
    let v = g.K.Sink.written c.refuse_long.new.sink in
    let same_script_state = ap (λ x. script_state_of g.A.Actor.places old.history x.entries) c.in-Err-refuse_long.ensures.sessions in
    let rest_left = g.S.Source.left c.next.new.source in
    let ran = λ (end : RunEnd) (input : List ℕ). Ran end g.A.Actor.semantics first.history input rest_left
    (record { store = old; written_before = before; written = v; read_before = c.args.steps.now; read = c.loop-script.steps }) in
    ends_at_long_line come c.loop-script.lines.allowed c.next.new.self.allowed (ran c.run_end_of_stop-in-Err-refuse_long.result) (g.S.Source.left c.args.source.now) left
    (prepend_known c.next.new.self.held rest_left) c.next.new.self.line c.in-LineLong.ensures.line
    (λ input rest line long p. subst (λ end. ran end input) (sym c.run_end_of_stop-in-Err-refuse_long.ensures)
    (stops_at g.A.Actor.semantics first.history (executed_lines input) rest line before c.args.steps.now old old w v c.loop-script.steps c.loop-script.steps sessions later script.line next.line script.refused next.refused p
    c.in-Err-refuse_long.stop input rest_left refl
    (refused_cut g.A.Actor.semantics (script_state_of g.A.Actor.places old.history script.sessions.entries) script.line line long c.in-Err-refuse_long.stop old (script_state_of g.A.Actor.places old.history next.sessions.entries) w v
    c.loop-script.steps c.loop-script.invariant.counts refl same_script_state c.in-Err-refuse_long.ensures.cut))) c.loop-script.invariant.progress

pub returns-in-End-clause-ran : goal.returns-in-End-clause-ran
returns-in-End-clause-ran g c =
    let first = g.B.Backend.state c.args.backend.now in
    let before = g.K.Sink.written c.args.sink.now in
    let old = g.B.Backend.state c.loop-script.backend in
    let script = c.loop-script.script in
    let sessions = sessions_of g.A.Actor.places script.sessions.entries in
    let w = g.K.Sink.written c.loop-script.sink in
    let left = prepend_known c.loop-script.lines.held (g.S.Source.left c.loop-script.source) in
    let come = Come g.A.Actor.semantics first.history before c.args.steps.now old w c.loop-script.steps sessions script.line script.refused in
    let rest_left = g.S.Source.left c.next.new.source in
    let here : Left = record { store = old; written_before = before; written = w; read_before = c.args.steps.now; read = c.loop-script.steps } in
    let ran = λ (end : RunEnd) (input : List ℕ). Ran end g.A.Actor.semantics first.history input rest_left here in
    ends_last come c.loop-script.lines.allowed c.next.new.self.allowed (ran c.run_end_of_input.result) (g.S.Source.left c.args.source.now) left rest_left c.next.new.self.held c.next.new.self.line c.in-End.ensures.line
    (λ input whole p. subst (λ end. ran end input) (sym c.run_end_of_input.ensures)
    (end_ran script.refused g.A.Actor.semantics first.history input rest_left here whole
    (all_done g.A.Actor.semantics first.history (executed_lines input) [] here sessions script.line script.refused p refl)
    (all_faults g.A.Actor.semantics first.history (executed_lines input) [] here sessions script.line script.refused p refl))) c.loop-script.invariant.progress

pub returns-in-InputLong-clause-ran : goal.returns-in-InputLong-clause-ran
returns-in-InputLong-clause-ran g c =
    let first = g.B.Backend.state c.args.backend.now in
    let before = g.K.Sink.written c.args.sink.now in
    let old = g.B.Backend.state c.loop-script.backend in
    let script = c.loop-script.script in
    let sessions = sessions_of g.A.Actor.places script.sessions.entries in
    let w = g.K.Sink.written c.loop-script.sink in
    let left = prepend_known c.loop-script.lines.held (g.S.Source.left c.loop-script.source) in
    let come = Come g.A.Actor.semantics first.history before c.args.steps.now old w c.loop-script.steps sessions script.line script.refused in
    let rest_left = g.S.Source.left c.next.new.source in
    let here : Left = record { store = old; written_before = before; written = w; read_before = c.args.steps.now; read = c.loop-script.steps } in
    ends_beyond come c.loop-script.lines.allowed c.next.new.self.allowed (λ input. Ran ends.InputLong g.A.Actor.semantics first.history input rest_left here) (g.S.Source.left c.args.source.now) left
    (prepend_known c.next.new.self.held rest_left) c.next.new.self.line c.in-InputLong.ensures.line
    (λ input long p. (long, all_done g.A.Actor.semantics first.history (executed_lines input) [] here sessions script.line script.refused p refl)) c.loop-script.invariant.progress

pub returns-in-ReadFault-clause-ran : goal.returns-in-ReadFault-clause-ran
returns-in-ReadFault-clause-ran g c =
    let first = g.B.Backend.state c.args.backend.now in
    let before = g.K.Sink.written c.args.sink.now in
    let old = g.B.Backend.state c.loop-script.backend in
    let script = c.loop-script.script in
    let sessions = sessions_of g.A.Actor.places script.sessions.entries in
    let w = g.K.Sink.written c.loop-script.sink in
    let left = prepend_known c.loop-script.lines.held (g.S.Source.left c.loop-script.source) in
    let come = Come g.A.Actor.semantics first.history before c.args.steps.now old w c.loop-script.steps sessions script.line script.refused in
    let rest_left = g.S.Source.left c.next.new.source in
    let here : Left = record { store = old; written_before = before; written = w; read_before = c.args.steps.now; read = c.loop-script.steps } in
    ends_anywhere come c.loop-script.lines.allowed c.next.new.self.allowed (λ input. Ran ends.ReadFault g.A.Actor.semantics first.history input rest_left here) (g.S.Source.left c.args.source.now) left
    (λ input rest p. stops_before g.A.Actor.semantics first.history (executed_lines input) rest here sessions script.line script.refused p) c.loop-script.invariant.progress
