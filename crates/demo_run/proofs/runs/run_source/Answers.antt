-- The count starts at 0, and an input within the limit doesn't end beyond it.
use Rattle.std.proofs.Common.{sym, subst, IfSome}
use Rattle.ts_store.specs.Stores.{history_seen, state_of}
use Rattle.script_run.specs.Runs.{Left, executed_lines}
use Rattle.demo_run.specs.Runs.{RanLines}
use Rattle.demo_run.proofs.RunLaws.{not_long, ran_lines}
use Rattle.demo_run.proofs.runs.run_source.Goals as goal

pub to_end-requires : goal.to_end-requires
to_end-requires g c =
    let S = g.S.Source in
    let K = g.K.Sink in
    let D = g.D.Disk in
    let run = c.run-end in
    let left : Left = record { store = state_of D.faults D.moment run.new.backend; written_before = K.written c.args.sink.now; written = K.written run.new.sink; read_before = c.new-steps.result; read = run.new.steps } in
    not_long run.result (history_seen c.args.store.now) (S.left c.args.source.now) (S.left run.new.source) left c.requires.within run.ensures.ran

pub returns : goal.returns
returns g c =
    let S = g.S.Source in
    let K = g.K.Sink in
    let D = g.D.Disk in
    let run = c.run-end in
    let old = history_seen c.args.store.now in
    let new = history_seen run.new.backend in
    let left : Left = record { store = state_of D.faults D.moment run.new.backend; written_before = K.written c.args.sink.now; written = K.written run.new.sink; read_before = c.new-steps.result; read = run.new.steps } in
    subst (λ n. IfSome (S.left c.args.source.now) (λ text. RanLines old (executed_lines text) n new)) (sym c.count.ensures.count)
    (ran_lines run.result old (S.left c.args.source.now) (S.left run.new.source) left c.new-steps.ensures.zero c.in_ok-to_end.ensures run.ensures.ran)
