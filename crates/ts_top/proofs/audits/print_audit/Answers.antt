-- The call prints the line of the answer.
use Rattle.std.proofs.Common.{◌≡◌, sym, subst}
use Rattle.ts_top.specs.Audits.{PrintsAudit}
use Rattle.ts_top.specs.Checkpoints.{Prints}
use Rattle.ts_top.specs.declared.endings.Status.TheVariants.{Done, Refused}
use Rattle.ts_top.proofs.audits.print_audit.Goals as goal

pub returns-in-Yes-clause-prints : goal.returns-in-Yes-clause-prints
returns-in-Yes-clause-prints g c =
    let K = g.K.Sink in
    let print = c.print_line in
    subst (λ audit. PrintsAudit audit c.args.end print.result (print.new.sink ≡ c.args.sink.now) (K.written c.args.sink.now) (K.written print.new.sink)) (sym c.in-Yes.is)
    (subst (λ line. Prints Done line print.result (K.written c.args.sink.now) (K.written print.new.sink)) c.yes_line.ensures.line print.ensures.prints)

pub returns-in-No-clause-prints : goal.returns-in-No-clause-prints
returns-in-No-clause-prints g c =
    let K = g.K.Sink in
    let print = c.print_line-in-No in
    subst (λ audit. PrintsAudit audit c.args.end print.result (print.new.sink ≡ c.args.sink.now) (K.written c.args.sink.now) (K.written print.new.sink)) (sym c.in-No.is)
    (subst (λ line. Prints Refused line print.result (K.written c.args.sink.now) (K.written print.new.sink)) c.no_line.ensures.line print.ensures.prints)

pub returns-in-Lost-clause-prints : goal.returns-in-Lost-clause-prints
returns-in-Lost-clause-prints g c =
    let K = g.K.Sink in
    let print = c.print_line-in-Lost in
    subst (λ audit. PrintsAudit audit c.args.end print.result (print.new.sink ≡ c.args.sink.now) (K.written c.args.sink.now) (K.written print.new.sink)) (sym c.in-Lost.is)
    (subst (λ line. Prints Refused line print.result (K.written c.args.sink.now) (K.written print.new.sink)) c.lost_line.ensures.line print.ensures.prints)

pub returns-in-Policy-clause-prints : goal.returns-in-Policy-clause-prints
returns-in-Policy-clause-prints g c =
    let K = g.K.Sink in
    let print = c.print_line-in-Policy in
    subst (λ audit. PrintsAudit audit c.args.end print.result (print.new.sink ≡ c.args.sink.now) (K.written c.args.sink.now) (K.written print.new.sink)) (sym c.in-Policy.is)
    (subst (λ line. Prints Refused line print.result (K.written c.args.sink.now) (K.written print.new.sink)) c.policy_line.ensures.line print.ensures.prints)

pub returns-in-Early-clause-prints : goal.returns-in-Early-clause-prints
returns-in-Early-clause-prints g c =
    let K = g.K.Sink in
    let print = c.print_line-in-Early in
    subst (λ audit. PrintsAudit audit c.args.end print.result (print.new.sink ≡ c.args.sink.now) (K.written c.args.sink.now) (K.written print.new.sink)) (sym c.in-Early.is)
    (subst (λ line. Prints Refused line print.result (K.written c.args.sink.now) (K.written print.new.sink)) c.early_line.ensures.line print.ensures.prints)

pub returns-in-BadText-clause-prints : goal.returns-in-BadText-clause-prints
returns-in-BadText-clause-prints g c =
    let K = g.K.Sink in
    let print = c.print_line-in-BadText in
    subst (λ audit. PrintsAudit audit c.args.end print.result (print.new.sink ≡ c.args.sink.now) (K.written c.args.sink.now) (K.written print.new.sink)) (sym c.in-BadText.is)
    (subst (λ line. Prints Refused line print.result (K.written c.args.sink.now) (K.written print.new.sink)) c.bad_line.ensures.line print.ensures.prints)
