-- The result of reading the input decides whether it is run.
use Rattle.std.proofs.Common.{◌≡◌, inl, inr, ℕ, List, IfSome, refl, sym, subst}
use Rattle.script_run.specs.Runs.{ReadWhole}
use Rattle.ts_schema.specs.Faults.{Rose}
use Rattle.ts_store.specs.Stores.{history_seen}
use Rattle.ts_store.specs.Images.{IsDurable}
use Rattle.ts_top.specs.Outcomes.{IfWentOn, Outside, LeftAfter}
use Rattle.ts_top.specs.Parallel.{ParTo}
use Rattle.ts_top.proofs.ParallelLaws.{input_par, ran_nothing, read_whole, too_long}
use Rattle.std.specs.Prelude.{IsSome}
use Rattle.ts_top.proofs.parallel.run_all.Goals as goal

pub returns-in-End-clause-outcome : goal.returns-in-End-clause-outcome
returns-in-End-clause-outcome g c before stood =
    let D = g.D.Disk in
    let K = g.K.Sink in
    let S = g.S.Source in
    let end = c.run_input.result in
    let input = c.deref.result.now in
    let o : Outside = record { input = S.left c.args.source.now; rest = S.left c.read_all.new.source; written_before = K.written c.args.sink.now; written = K.written c.run_input.new.sink; file_before = before; file = D.bytes end.disk; reads = end.reads } in
    input_par c.args.replies (IsSome (D.bytes c.args.store.begun)) (LeftAfter D.bytes D.may_leave D.moment D.left_since c.args.store.begun end.disk) (Rose (K.faults c.args.sink.now) (K.faults c.run_input.new.sink)) o (history_seen c.args.store) stood input
    (subst (λ out. IfSome o.input (λ i. ReadWhole i o.rest × (i ≡ out))) (sym c.deref.ensures.value) (read_whole o.input o.rest c.read_all.new.out.items c.in-End.ensures.read.0 c.in-End.ensures.read.1 c.read_all.ensures.within)) end.status c.run_input.ensures.ran

pub returns-in-InputLong-clause-outcome : goal.returns-in-InputLong-clause-outcome
returns-in-InputLong-clause-outcome g c before stood =
    let D = g.D.Disk in
    let K = g.K.Sink in
    let S = g.S.Source in
    let end = c.close_store.result in
    let o : Outside = record { input = S.left c.args.source.now; rest = S.left c.read_all.new.source; written_before = K.written c.args.sink.now; written = K.written c.args.sink.now; file_before = before; file = D.bytes end.disk; reads = end.reads } in
    let told : Type 0 = IsSome (D.bytes c.args.store.begun) in
    let left : List ℕ → Type 0 = LeftAfter D.bytes D.may_leave D.moment D.left_since c.args.store.begun end.disk in
    subst (λ status. ParTo c.args.replies status told left (Rose (K.faults c.args.sink.now) (K.faults c.args.sink.now)) ⊥ ⊥ ⊥ o) (sym c.close_store.ensures.status)
    (ran_nothing c.args.replies told left (Rose (K.faults c.args.sink.now) (K.faults c.args.sink.now)) o (history_seen c.args.store) stood refl c.close_store.ensures.holds c.close_store.ensures.images c.close_store.ensures.uncounted, too_long o.input o.rest c.read_all.new.out.items c.in-InputLong.ensures.read)

pub returns-in-ReadFault-clause-outcome : goal.returns-in-ReadFault-clause-outcome
returns-in-ReadFault-clause-outcome g c before stood =
    let D = g.D.Disk in
    let K = g.K.Sink in
    let S = g.S.Source in
    let end = c.close_store-in-ReadFault.result in
    let o : Outside = record { input = S.left c.args.source.now; rest = S.left c.read_all.new.source; written_before = K.written c.args.sink.now; written = K.written c.args.sink.now; file_before = before; file = D.bytes end.disk; reads = end.reads } in
    let told : Type 0 = IsSome (D.bytes c.args.store.begun) in
    let left : List ℕ → Type 0 = LeftAfter D.bytes D.may_leave D.moment D.left_since c.args.store.begun end.disk in
    subst (λ status. ParTo c.args.replies status told left (Rose (K.faults c.args.sink.now) (K.faults c.args.sink.now)) ⊥ ⊥ ⊥ o) (sym c.close_store-in-ReadFault.ensures.status)
    (ran_nothing c.args.replies told left (Rose (K.faults c.args.sink.now) (K.faults c.args.sink.now)) o (history_seen c.args.store) stood refl c.close_store-in-ReadFault.ensures.holds c.close_store-in-ReadFault.ensures.images c.close_store-in-ReadFault.ensures.uncounted)

pub returns-clause-outcome : goal.returns-clause-outcome
returns-clause-outcome g c before stood =
    let D = g.D.Disk in
    let K = g.K.Sink in
    let S = g.S.Source in
    let end = c.close_store-in-NoMemory.result in
    let o : Outside = record { input = S.left c.args.source.now; rest = S.left c.read_all.new.source; written_before = K.written c.args.sink.now; written = K.written c.args.sink.now; file_before = before; file = D.bytes end.disk; reads = end.reads } in
    let told : Type 0 = IsSome (D.bytes c.args.store.begun) in
    let left : List ℕ → Type 0 = LeftAfter D.bytes D.may_leave D.moment D.left_since c.args.store.begun end.disk in
    subst (λ status. ParTo c.args.replies status told left (Rose (K.faults c.args.sink.now) (K.faults c.args.sink.now)) ⊥ ⊥ ⊥ o) (sym c.close_store-in-NoMemory.ensures.status)
    (inr (inl (ran_nothing c.args.replies told left (Rose (K.faults c.args.sink.now) (K.faults c.args.sink.now)) o (history_seen c.args.store) stood refl c.close_store-in-NoMemory.ensures.holds c.close_store-in-NoMemory.ensures.images c.close_store-in-NoMemory.ensures.uncounted)))

pub returns-in-InputLong-clause-lasting : goal.returns-in-InputLong-clause-lasting
returns-in-InputLong-clause-lasting g c =
    let D = g.D.Disk in
    let Lasts : Type 0 = IsDurable D.bytes D.may_leave c.args.store.begun → IsDurable D.bytes D.may_leave c.close_store.result.disk in
    subst (λ status. IfWentOn status Lasts) (sym c.close_store.ensures.status) c.close_store.ensures.lasting

pub returns-in-ReadFault-clause-lasting : goal.returns-in-ReadFault-clause-lasting
returns-in-ReadFault-clause-lasting g c =
    let D = g.D.Disk in
    let Lasts : Type 0 = IsDurable D.bytes D.may_leave c.args.store.begun → IsDurable D.bytes D.may_leave c.close_store-in-ReadFault.result.disk in
    subst (λ status. IfWentOn status Lasts) (sym c.close_store-in-ReadFault.ensures.status) c.close_store-in-ReadFault.ensures.lasting

pub returns-clause-lasting : goal.returns-clause-lasting
returns-clause-lasting g c =
    let D = g.D.Disk in
    let Lasts : Type 0 = IsDurable D.bytes D.may_leave c.args.store.begun → IsDurable D.bytes D.may_leave c.close_store-in-NoMemory.result.disk in
    subst (λ status. IfWentOn status Lasts) (sym c.close_store-in-NoMemory.ensures.status) tt
