-- Roster and refreshes are those of the image.
use Rattle.std.proofs.Common.{◌≡◌, ◌∙◌, List, Some, ap, sym, subst}
use Rattle.ts_model.specs.declared.events.Event.{Event}
use Rattle.ts_model.specs.declared.images.Finished.{Finished as FinishedRefresh}
use Rattle.ts_model.specs.declared.refreshes.Waiting.{Waiting as WaitingRefresh}
use Rattle.ts_model.specs.Roster.{no_relations, roster_over}
use Rattle.refresh_list.specs.Refreshes.{CutsRise, together}
use Rattle.refresh_list.proofs.ImageLaws.{images_stand}
use Rattle.engine_core.specs.Histories.{history_of}
use Rattle.engine_core.specs.Ledgers.{IsLedgerOf}
use Rattle.engine_core.proofs.LedgerLaws.{ledger_resumed}
use Rattle.engine_core.proofs.ledgers.Ledger.from_image.Goals as goal

pub of-requires : goal.of-requires
of-requires c =
    let waits = subst (λ (ws : List WaitingRefresh). CutsRise 0 (together ws c.args.image.done)) (sym c.items-2.ensures.items) (images_stand.rise c.args.image c.requires.valid) in
    record { rise = subst (λ (ds : List FinishedRefresh). CutsRise 0 (together c.items-2.result.now ds)) (sym c.items-3.ensures.items) waits }

pub invariant_of-result : goal.invariant_of-result
invariant_of-result c =
    let made : c.in_ok-roster.roster ≡ roster_over no_relations c.args.image.roster = c.in_ok-roster.ensures ∙ ap (roster_over no_relations) c.items.ensures.items in
    let waits = ap (λ (ws : List WaitingRefresh). together ws c.items-3.result.now) c.items-2.ensures.items in
    let refreshes = c.in_ok-refreshes.ensures.together ∙ waits ∙ ap (together c.args.image.waiting) c.items-3.ensures.items in
    subst (λ (es : List Event). IsLedgerOf (history_of (record { base = Some c.args.image; events = es })) c.in_ok-roster.roster c.in_ok-refreshes.refreshes) (sym c.new.ensures.items)
    (ledger_resumed c.args.image c.in_ok-roster.roster c.in_ok-refreshes.refreshes c.requires.valid made refreshes)
