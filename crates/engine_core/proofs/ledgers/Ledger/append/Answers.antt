-- Each part follows the event.
use Rattle.std.proofs.Common.{◌≡◌, suc, ◌+◌, true, ◌∷◌, ◌++◌, [], sym, ap, ◌∙◌, subst, add-one}
use Rattle.ts_model.specs.Allowed.{allowed}
use Rattle.ts_model.specs.History.{position}
use Rattle.engine_core.specs.Histories.{history_of, with_event}
use Rattle.engine_core.specs.Ledgers.{IsLedgerOf, LedgerValue, refreshes_after}
use Rattle.engine_core.specs.Values.{Past}
use Rattle.engine_core.proofs.LedgerLaws.{ledger_next}
use Rattle.engine_core.proofs.ledgers.Ledger.append.Goals as goal

pub invariant_of-self-2 : goal.invariant_of-self-2
invariant_of-self-2 c =
    let event = c.args.event in
    let before = c.self.inside.refreshes in
    let past : Past = record { base = c.self.inside.base; events = c.self.inside.events.items } in
    let same : record { base = c.self.inside.base; events = c.self.inside.events.items } ≡ c.args.self.now.past = ap (λ (v : LedgerValue). v.past) c.self.view_is in
    let fits : allowed (history_of past) c.args.event ≡ true = subst (λ (p : Past). allowed (history_of p) c.args.event ≡ true) (sym same) c.requires.allowed in
    let end : c.length-number.result ≡ position (history_of past) = c.length-number.ensures.position ∙ ap (λ (p : Past). position (history_of p)) (sym same) in
    let number : c.length-number.result + 1 ≡ suc (position (history_of past)) = add-one c.length-number.result ∙ ap suc end in
    let moved : c.in_ok-refreshes.refreshes ≡ refreshes_after c.self.inside.refreshes (suc (position (history_of past))) c.args.event = c.in_ok-refreshes.ensures.after ∙ ap (λ n. refreshes_after before n event) number in
    let pushed : c.push_reserved.new.self.items ≡ c.self.inside.events.items ++ (c.args.event ∷ []) = c.push_reserved.ensures.items ∙ ap (λ es. es ++ (event ∷ [])) c.in_ok-reserve.ensures.items in
    let past_is : record { base = c.self.inside.base; events = c.push_reserved.new.self.items } ≡ with_event past c.args.event = ap (λ es. record { base = c.self.inside.base; events = es }) pushed in
    subst (λ (p : Past). IsLedgerOf (history_of p) c.change.new.roster c.in_ok-refreshes.refreshes) (sym past_is)
    (ledger_next past event c.self.inside.roster c.change.new.roster before c.in_ok-refreshes.refreshes c.self.invariant fits c.in_ok-change.ensures.changed moved)
