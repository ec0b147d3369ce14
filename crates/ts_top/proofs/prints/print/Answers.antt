-- The text is that of the history that the journal represented.
use Rattle.std.proofs.Common.{◌≡◌, IfSome, sym, subst}
use Rattle.ts_model.specs.History.{History}
use Rattle.engine_core.specs.Histories.{history_of}
use Rattle.ts_store.specs.Stands.{Stands}
use Rattle.ts_top.specs.Logs.{text_of}
use Rattle.ts_top.specs.Outcomes.{Outside, PrintedTo}
use Rattle.ts_top.proofs.PrintLaws.{printed_to}
use Rattle.ts_top.proofs.OutcomeLaws.{if_known}
use Rattle.ts_top.proofs.prints.print.Goals as goal

pub returns-in-Ready-clause-outcome : goal.returns-in-Ready-clause-outcome
returns-in-Ready-clause-outcome g c input rest =
    let D = g.D.Disk in
    let K = g.K.Sink in
    let old = K.written c.args.sink.now in
    let new = K.written c.print_text-printed.new.sink in
    let h : History = history_of c.in-Ready.ledger.past in
    let text = text_of c.args.text in
    let printed = c.print_text-printed.result in
    let o : Outside = record { input = input; rest = rest; written_before = old; written = new; file_before = D.bytes c.args.disk; file = D.bytes c.in-Ready.disk; reads = 0 } in
    let stood : IfSome (D.bytes c.args.disk) (λ file. Stands file h) = if_known (D.bytes c.args.disk) (λ file. Stands file h) c.in-Ready.ensures.reads in
    subst (λ status. PrintedTo text status (c.print_text-printed.new.sink ≡ c.args.sink.now) o) (sym c.status_of_print.ensures)
    (printed_to printed text (c.print_text-printed.new.sink ≡ c.args.sink.now) o h stood
    c.print_text-printed.ensures.done c.print_text-printed.ensures.part)
