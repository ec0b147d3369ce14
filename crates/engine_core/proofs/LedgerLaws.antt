-- The parts of a ledger represent its history, event by event.
use Rattle.std.proofs.Common.{◌≡◌, suc, true, List, ap, sym, ◌∙◌, refl, subst}
use Rattle.std.proofs.lemmas.Bool.{and_from}
use Rattle.ts_model.specs.declared.events.Event.{Event}
use Rattle.ts_model.specs.declared.events.Event.TheVariants.{Table, Hyper, View, Mode, Commit, Cut, Built}
use Rattle.ts_model.specs.declared.images.Image.{Image}
use Rattle.ts_model.specs.declared.rosters.Roster.{Roster}
use Rattle.ts_model.specs.Allowed.{allowed}
use Rattle.ts_model.specs.History.{History, resumed, ◌▸◌, position}
use Rattle.ts_model.specs.Roster.{no_relations, roster_after, roster_over}
use Rattle.ts_model.specs.Valid.{valid}
use Rattle.refresh_list.specs.declared.refreshes.Refresh.{Refresh}
use Rattle.refresh_list.specs.Refreshes.{RefreshesStand, together}
use Rattle.refresh_list.proofs.ImageLaws.{images_stand}
use Rattle.refresh_list.proofs.StepLaws.{cuts_stand, finishes_stand, others_stand}
use Rattle.engine_core.specs.Histories.{history_of, with_event}
use Rattle.engine_core.specs.Ledgers.{IsLedgerOf, refreshes_after}
use Rattle.engine_core.specs.Values.{Past}
use Rattle.engine_core.proofs.StoreLaws.{history_push}

refreshes_next : (h : History) (e : Event) (rs : List Refresh) → RefreshesStand h rs → RefreshesStand (h ▸ e) (refreshes_after rs (suc (position h)) e)
refreshes_next h (Table def) rs s = others_stand h (Table def) rs refl s
refreshes_next h (Hyper t hyper) rs s = others_stand h (Hyper t hyper) rs refl s
refreshes_next h (View def) rs s = others_stand h (View def) rs refl s
refreshes_next h (Mode v only) rs s = others_stand h (Mode v only) rs refl s
refreshes_next h (Commit ops) rs s = others_stand h (Commit ops) rs refl s
refreshes_next h (Cut v span) rs s = cuts_stand h v span rs s
refreshes_next h (Built cut snap) rs s = finishes_stand h cut snap rs s

-- one more event, which is allowed next
pub ledger_next : (past : Past) (e : Event) (old new : Roster) (before after : List Refresh) → IsLedgerOf (history_of past) old before → allowed (history_of past) e ≡ true → new ≡ roster_after old e
    → after ≡ refreshes_after before (suc (position (history_of past))) e → IsLedgerOf (history_of (with_event past e)) new after
ledger_next past e old new before after is fits changed moved =
    subst (λ h. IsLedgerOf h new after) (sym (history_push past e))
    (record {
      allowed = and_from _ _ is.allowed fits;
      relations_are = changed ∙ ap (λ r. roster_after r e) is.relations_are;
      stand = subst (RefreshesStand (history_of past ▸ e)) (sym moved) (refreshes_next (history_of past) e before is.stand);
    })

-- a ledger built from an image
pub ledger_resumed : (i : Image) (relations : Roster) (refreshes : List Refresh) → valid i ≡ true → relations ≡ roster_over no_relations i.roster → refreshes ≡ together i.waiting i.done
    → IsLedgerOf (resumed i) relations refreshes
ledger_resumed i relations refreshes ok made are = record { allowed = ok; relations_are = made; stand = subst (RefreshesStand (resumed i)) (sym are) (images_stand.stand i ok) }
