-- What a script did on a store whose journal has its header, by how it ended and what the closed store reports about
-- its disk.
use Rattle.std.proofs.Common.{◌≡◌, ℕ, List, true, IfSome, sym, ap, ◌∙◌, subst}
use Rattle.std.specs.Prelude.{IsSomeAnd, IsSome}
use Rattle.ts_io.specs.Faults.{Counted}
use Rattle.ts_top.specs.Scripts.{program_semantics}
use Rattle.ts_store.specs.Images.{HasHeader, IsBetween, IsDurable}
use Rattle.ts_store.specs.Stores.{known_of, opening_history, history_seen, state_of}
use Rattle.script_run.specs.Runs.{Ran as RanScript}
use Rattle.ts_top.specs.Endings.{is_disk_fault, is_read_fault, is_write_fault}
use Rattle.ts_top.specs.Outcomes.{IfWentOn, Outside, RanTo, LeftAfter}
use Rattle.ts_top.proofs.OutcomeLaws.{Closed, headed, same_disk_fault, same_read_fault, same_write_fault, told_run}
use Rattle.ts_top.proofs.scripts.run_lines.Goals as goal
use Rattle.ts_schema.proofs.Cases.{none_there}

pub returns-clause-outcome : goal.returns-clause-outcome
returns-clause-outcome g c before stood =
    let D = g.D.Disk in
    let K = g.K.Sink in
    let S = g.S.Source in
    let old = c.args.store in
    let new = c.run-end.new.backend in
    let state = state_of D.faults D.moment new in
    let known : known_of new ≡ known_of old = c.run-end.ensures.kin in
    let begun : new.begun ≡ old.begun = ap (λ k. k.disk) known in
    let from : opening_history new ≡ history_seen old = ap (λ o. o.opening) c.run-end.ensures.origin ∙ c.requires.whole in
    let told : Type 0 = IsSome (D.bytes old.begun) in
    let left : List ℕ → Type 0 = LeftAfter D.bytes D.may_leave D.moment D.left_since old.begun c.close.result in
    let still_told : told → IsSome (D.bytes new.begun) = λ some. subst (λ disk. IsSome (D.bytes disk)) (sym begun) some in
    let closed : Closed told left (history_seen old) state (D.bytes c.close.result) = record {
      shown = λ some. c.close.ensures.shown (still_told some);
      images = λ x image. subst (λ h. IsBetween h (history_seen new) new.failed x) from (c.close.ensures.images (subst (λ disk. IsDurable D.bytes D.may_leave disk) (sym begun) image.0) x (subst (λ disk. D.left_since c.close.result (D.moment disk) x) (sym begun) image.1));
    } in
    let o : Outside = record { input = S.left c.args.source.now; rest = S.left c.run-end.new.source; written_before = K.written c.args.sink.now; written = K.written c.run-end.new.sink; file_before = before; file = D.bytes c.close.result; reads = c.count.result } in
    let RanFrom : ℕ → ℕ → Type 0 = λ r s. IfSome o.input (λ input. RanScript c.run-end.result program_semantics (history_seen old) input o.rest (record { store = state; written_before = o.written_before; written = o.written; read_before = r; read = s })) in
    let ran : RanFrom 0 c.count.result = subst (λ s. RanFrom 0 s) (sym c.count.ensures.count) (subst (λ r. RanFrom r c.run-end.new.steps) c.new-steps.ensures.zero c.run-end.ensures.ran) in
    subst (λ status. RanTo status told left ⊥ ⊥ ⊥ o) (sym c.status_of.ensures) (told_run told left ⊥ ⊥ ⊥ o (history_seen old) state closed c.run-end.result c.run-end.ensures.still stood ran)

pub returns-clause-header : goal.returns-clause-header
returns-clause-header g c =
    let D = g.D.Disk in
    let old = c.args.store in
    let new = c.run-end.new.backend in
    let known : known_of new ≡ known_of old = c.run-end.ensures.kin in
    let begun : new.begun ≡ old.begun = ap (λ k. k.disk) known in
    let armed : new.armed ≡ true = ap (λ k. k.armed) known ∙ c.requires.armed in
    let Header : Type 0 = IsSome (D.bytes old.begun) → IsSomeAnd (D.bytes c.close.result) HasHeader in
    subst (λ status. IfWentOn status Header) (sym c.status_of.ensures)
    (headed c.run-end.result Header (λ going some. c.close.ensures.header armed (none_there new.failed (c.run-end.ensures.still ∙ going)) (subst (λ disk. IsSome (D.bytes disk)) (sym begun) some)))

pub returns-clause-reads : goal.returns-clause-reads
returns-clause-reads g c = subst (λ fault. Counted (g.S.Source.faults c.args.source.now) (g.S.Source.faults c.run-end.new.source) fault) (same_read_fault c.run-end.result ∙ ap is_read_fault (sym c.status_of.ensures)) c.run-end.ensures.reads

pub returns-clause-writes : goal.returns-clause-writes
returns-clause-writes g c = subst (λ fault. Counted (g.K.Sink.faults c.args.sink.now) (g.K.Sink.faults c.run-end.new.sink) fault) (same_write_fault c.run-end.result ∙ ap is_write_fault (sym c.status_of.ensures)) c.run-end.ensures.writes

pub returns-clause-disk : goal.returns-clause-disk
returns-clause-disk g c =
    let D = g.D.Disk in
    subst (λ disk. Counted (D.faults c.args.store.journal.disk) (D.faults disk) (is_disk_fault c.status_of.result)) (sym c.close.ensures.disk)
    (subst (λ fault. Counted (D.faults c.args.store.journal.disk) (D.faults c.run-end.new.backend.journal.disk) fault) (same_disk_fault c.run-end.result ∙ ap is_disk_fault (sym c.status_of.ensures)) c.run-end.ensures.disk)

pub returns-clause-lasting : goal.returns-clause-lasting
returns-clause-lasting g c =
    let D = g.D.Disk in
    let old = c.args.store in
    let new = c.run-end.new.backend in
    let known : known_of new ≡ known_of old = c.run-end.ensures.kin in
    let begun : new.begun ≡ old.begun = ap (λ k. k.disk) known in
    let Lasts : Type 0 = IsDurable D.bytes D.may_leave old.begun → IsDurable D.bytes D.may_leave c.close.result in
    subst (λ status. IfWentOn status Lasts) (sym c.status_of.ensures)
    (headed c.run-end.result Lasts (λ going durable. c.close.ensures.rests (none_there new.failed (c.run-end.ensures.still ∙ going)) (subst (λ disk. IsDurable D.bytes D.may_leave disk) (sym begun) durable)))
