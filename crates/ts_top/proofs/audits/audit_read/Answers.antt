-- The text is audited over the history of the ledger.
use Rattle.std.proofs.Common.{◌≡◌, sym, subst}
use Rattle.std.specs.Prelude.{IsTrue}
use Rattle.ts_model.specs.Allowed.{all_allowed}
use Rattle.engine_core.specs.Histories.{history_of}
use Rattle.audit.specs.Answers.{Answers}
use Rattle.ts_top.specs.Audits.{AuditTold, PrintsAudit}
use Rattle.ts_top.proofs.audits.audit_read.Goals as goal

pub audit-found-requires-clause-allowed : goal.audit-found-requires-clause-allowed
audit-found-requires-clause-allowed g c κs within =
    let past = c.args.ledger.now.past in
    subst (λ events. IsTrue (all_allowed (history_of (record { base = c.base.result.now; events = events })))) (sym c.events.ensures.events)
    (subst (λ base. IsTrue (all_allowed (history_of (record { base = base; events = past.events })))) (sym c.base.ensures.base) c.length-end.ensures.allowed)

pub returns-clause-told : goal.returns-clause-told
returns-clause-told g c =
    let K = g.K.Sink in
    let past = c.args.ledger.now.past in
    let print = c.print_audit in
    let found = c.audit-found.result in
    record {
      audit = found;
      answers = subst (λ base. Answers (history_of (record { base = base; events = past.events })) c.args.text.now found) c.base.ensures.base
          (subst (λ events. Answers (history_of (record { base = c.base.result.now; events = events })) c.args.text.now found) c.events.ensures.events c.audit-found.ensures.answers);
      prints = subst (λ end. PrintsAudit found end print.result (print.new.sink ≡ c.args.sink.now) (K.written c.args.sink.now) (K.written print.new.sink)) c.length-end.ensures.position print.ensures.prints;
    }
