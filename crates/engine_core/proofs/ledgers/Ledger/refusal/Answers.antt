-- The values read are those of the history.
use Rattle.std.proofs.Common.{◌≡◌, ap, ◌∙◌, subst}
use Rattle.ts_model.specs.History.{position}
use Rattle.engine_core.specs.Histories.{begun_by, history_of}
use Rattle.engine_core.specs.Ledgers.{IsLedgerOf, LedgerValue}
use Rattle.engine_core.specs.Values.{Past}
use Rattle.engine_core.proofs.EventLaws.{base_of}
use Rattle.engine_core.proofs.ledgers.Ledger.refusal.Goals as goal

pub returns : goal.returns
returns c =
    let past : Past = c.args.self.now.past in
    let same : record { base = c.self.inside.base; events = c.self.inside.events.items } ≡ c.args.self.now.past = ap (λ (v : LedgerValue). v.past) c.self.view_is in
    let own : IsLedgerOf (history_of c.args.self.now.past) c.self.inside.roster c.self.inside.refreshes = subst (λ (p : Past). IsLedgerOf (history_of p) c.self.inside.roster c.self.inside.refreshes) same c.self.invariant in
    c.refusal_of.ensures.refused (history_of past) (record {
      roster_is = own.relations_are;
      pending_is = c.pending_of-pending.ensures (history_of past) own.stand;
      position_is = c.length-end.ensures.position;
      base_is = c.begun_at.ensures ∙ ap (λ (p : Past). position (begun_by p.base)) same ∙ base_of past;
    })
