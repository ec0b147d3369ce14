-- The call prints the line of the end.
use Rattle.std.proofs.Common.{◌≡◌, sym, subst}
use Rattle.ts_top.specs.Checkpoints.{Prints, TellsEnd}
use Rattle.ts_top.specs.declared.endings.Status.TheVariants.{Done, Refused}
use Rattle.ts_top.proofs.checkpoints.tell_end.Goals as goal

pub returns-in-Done-clause-tells : goal.returns-in-Done-clause-tells
returns-in-Done-clause-tells g c =
    let K = g.K.Sink in
    let print = c.print_line in
    subst (λ end. TellsEnd end print.result (print.new.sink ≡ c.args.sink.now) (K.written c.args.sink.now) (K.written print.new.sink)) (sym c.in-Done.is)
    (subst (λ line. Prints Done line print.result (K.written c.args.sink.now) (K.written print.new.sink)) c.saved_line.ensures.line print.ensures.prints)

pub returns-in-Nothing-clause-tells : goal.returns-in-Nothing-clause-tells
returns-in-Nothing-clause-tells g c =
    let K = g.K.Sink in
    let print = c.print_line-in-Nothing in
    subst (λ end. TellsEnd end print.result (print.new.sink ≡ c.args.sink.now) (K.written c.args.sink.now) (K.written print.new.sink)) (sym c.in-Nothing.is)
    (subst (λ line. Prints Done line print.result (K.written c.args.sink.now) (K.written print.new.sink)) c.nothing_line.ensures.line print.ensures.prints)

pub returns-in-TooLong-clause-tells : goal.returns-in-TooLong-clause-tells
returns-in-TooLong-clause-tells g c =
    let K = g.K.Sink in
    let print = c.print_line-in-TooLong in
    subst (λ end. TellsEnd end print.result (print.new.sink ≡ c.args.sink.now) (K.written c.args.sink.now) (K.written print.new.sink)) (sym c.in-TooLong.is)
    (subst (λ line. Prints Refused line print.result (K.written c.args.sink.now) (K.written print.new.sink)) c.too_long_line.ensures.line print.ensures.prints)
