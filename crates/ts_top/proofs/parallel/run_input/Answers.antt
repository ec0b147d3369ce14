-- If its disk may cross threads, a store may too; the closed store shows what its run left.
use Rattle.std.proofs.Common.{◌≡◌, ℕ, List, sym, ap, ◌∙◌, subst}
use denote.Exit.{no}
use denote.Param.Send.{arg_send, param_send}
use Rattle.ts_schema.specs.Faults.{Rose}
use Rattle.ts_model.specs.States.{State}
use Rattle.par_run.specs.Ends.{is_disk_fault}
use Rattle.par_run.specs.Outputs.{output_of}
use Rattle.par_run.proofs.AsciiLaws.{runs_ascii}
use Rattle.par_run.specs.declared.ends.ParStop.TheVariants as stops
use Rattle.ts_schema.proofs.Cases.{none_there}
use Rattle.ts_store.specs.Images.{IsBetween, IsDurable}
use Rattle.ts_store.specs.Stores.{opening_history, history_seen, state_of}
use Rattle.ts_top.specs.contracts.parallel.run_input.{D-row}
use Rattle.ts_store.proofs.Crossing.{shot_send, store_send}
use Rattle.ts_top.specs.Parallel.{CountedAfterWorkers, Prints}
use Rattle.ts_top.specs.Scripts.{first_places, program_replies}
use Rattle.ts_top.proofs.OutcomeLaws.{Closed}
use Rattle.ts_top.proofs.ParallelLaws.{counted_by, input_to, went_by}
use Rattle.std.specs.Prelude.{IsSome}
use Rattle.ts_top.specs.Outcomes.{LeftAfter}
use Rattle.ts_top.proofs.parallel.run_input.Goals as goal

pub run_sessions-backend-requires-send-B : goal.run_sessions-backend-requires-send-B
run_sessions-backend-requires-send-B g c κs within = param_send 0 _ (arg_send _ no _ (store_send (D-row g.row.R g.row.K g.row.D g.row.G) g.D.Disk c.type_bounds.send-D))

pub run_sessions-backend-requires-send-B-Shot : goal.run_sessions-backend-requires-send-B-Shot
run_sessions-backend-requires-send-B-Shot g c κs within = search (shot_send, arg_send, param_send) depth 10

pub print_run-status-requires : goal.print_run-status-requires
print_run-status-requires g c =
    let end = c.run_sessions-backend.result in
    record {
      ascii = λ some. runs_ascii program_replies first_places _ c.args.input.now _ (output_of end) end.reads end.start (c.run_sessions-backend.ensures.ran some);
    }

pub returns-clause-ran : goal.returns-clause-ran
returns-clause-ran g c =
    let D = g.D.Disk in
    let old = c.args.store in
    let end = c.run_sessions-backend.result in
    let new = end.backend in
    let state : State = state_of D.faults D.moment new in
    let begun : new.begun ≡ old.begun = ap (λ k. k.disk) c.run_sessions-backend.ensures.kin in
    let from : opening_history new ≡ history_seen old = ap (λ o. o.opening) c.run_sessions-backend.ensures.goes_on.origin ∙ c.requires.whole in
    let told : Type 0 = IsSome (D.bytes old.begun) in
    let left : List ℕ → Type 0 = LeftAfter D.bytes D.may_leave D.moment D.left_since old.begun c.close.result in
    let still_told : told → IsSome (D.bytes new.begun) = λ some. subst (λ disk. IsSome (D.bytes disk)) (sym begun) some in
    let closed : Closed told left (history_seen old) state (D.bytes c.close.result) = record {
      shown = λ some. c.close.ensures.shown (still_told some);
      images = λ x image. subst (λ h. IsBetween h (history_seen new) new.failed x) from (c.close.ensures.images (subst (λ disk. IsDurable D.bytes D.may_leave disk) (sym begun) image.0) x (subst (λ disk. D.left_since c.close.result (D.moment disk) x) (sym begun) image.1));
    } in
    let failed : Type 0 = Rose (g.K.Sink.faults c.args.sink.now) (g.K.Sink.faults c.print_run-status.new.sink) in
    let prints = subst (λ start. Prints c.args.replies end.stop start (output_of end) c.print_run-status.result failed (g.K.Sink.written c.args.sink.now) (g.K.Sink.written c.print_run-status.new.sink)) c.run_sessions-backend.ensures.start c.print_run-status.ensures.prints in
    input_to told left failed (history_seen old) c.args.input.now end.reads (g.K.Sink.written c.args.sink.now) (g.K.Sink.written c.print_run-status.new.sink) (D.bytes c.close.result) state (output_of end) closed
    c.args.replies end.stop c.print_run-status.result prints c.run_sessions-backend.ensures.ran c.run_sessions-backend.ensures.stop c.run_sessions-backend.ensures.as_far

pub returns-clause-disk : goal.returns-clause-disk
returns-clause-disk g c =
    let D = g.D.Disk in
    let end = c.run_sessions-backend.result in
    let new = end.backend in
    let old = c.args.store in
    let state : State = state_of D.faults D.moment new in
    let failed : Type 0 = Rose (g.K.Sink.faults c.args.sink.now) (g.K.Sink.faults c.print_run-status.new.sink) in
    subst (λ disk. CountedAfterWorkers c.print_run-status.result (D.faults old.journal.disk) (D.faults disk)) (sym c.close.ensures.disk)
    (counted_by c.args.replies end.stop end.start (output_of end) c.print_run-status.result failed _ _ (state_of D.faults D.moment old) state c.print_run-status.ensures.prints c.run_sessions-backend.ensures.stop c.run_sessions-backend.ensures.goes_on)

pub returns-clause-lasting : goal.returns-clause-lasting
returns-clause-lasting g c =
    let D = g.D.Disk in
    let old = c.args.store in
    let end = c.run_sessions-backend.result in
    let new = end.backend in
    let begun : new.begun ≡ old.begun = ap (λ k. k.disk) c.run_sessions-backend.ensures.kin in
    let failed : Type 0 = Rose (g.K.Sink.faults c.args.sink.now) (g.K.Sink.faults c.print_run-status.new.sink) in
    let Lasts : Type 0 = IsDurable D.bytes D.may_leave old.begun → IsDurable D.bytes D.may_leave c.close.result in
    went_by Lasts c.args.replies end.stop end.start (output_of end) c.print_run-status.result failed _ _ c.print_run-status.ensures.prints
    (λ done durable.
    let going = c.run_sessions-backend.ensures.stop (λ none. let e : stops.Done ≡ stops.NoMemory = sym done ∙ none in cc e) ∙ ap is_disk_fault done in
    c.close.ensures.rests (none_there new.failed going) (subst (λ disk. IsDurable D.bytes D.may_leave disk) (sym begun) durable))
