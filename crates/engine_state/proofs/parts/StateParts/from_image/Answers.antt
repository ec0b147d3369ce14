-- Each part is built from the image.
use Rattle.std.proofs.Common.{◌≡◌, ◌≤◌, ◌∙◌, List, length, ap, refl, sym, subst}
use Rattle.std.specs.Arc.{arc_value}
use Rattle.ts_model.specs.declared.images.Finished.{Finished as FinishedRefresh}
use Rattle.ts_model.specs.declared.refreshes.Waiting.{Waiting as WaitingRefresh}
use Rattle.ts_model.specs.declared.rosters.Roster.{Roster}
use Rattle.ts_model.specs.History.{resumed}
use Rattle.ts_model.specs.Roster.{no_relations, roster_over}
use Rattle.ts_model.specs.Valid.{image_roster}
use Rattle.ts_model.proofs.SoundLaws.{rosters_are_sound}
use Rattle.refresh_list.specs.Refreshes.{CutsRise, together}
use Rattle.refresh_list.proofs.ImageLaws.{images_stand}
use Rattle.engine_state.specs.Lists.{Each}
use Rattle.engine_state.specs.Resumed.{ResumedAt}
use Rattle.engine_state.specs.Stands.{ViewAt}
use Rattle.engine_state.proofs.ResumedStates.{state_resumed}
use Rattle.engine_state.proofs.parts.StateParts.from_image.Goals as goal

pub tables_from_image-requires-clause-few : goal.tables_from_image-requires-clause-few
tables_from_image-requires-clause-few g c =
    let is = c.in_ok-roster.ensures ∙ ap (roster_over no_relations) c.items.ensures.items in
    subst (λ (r : Roster). length r.tables ≤ 64) (sym is) (rosters_are_sound (resumed c.args.image.now) c.requires.valid).few_tables

pub of-requires : goal.of-requires
of-requires g c =
    let waits = subst (λ (ws : List WaitingRefresh). CutsRise 0 (together ws c.args.image.now.done)) (sym c.items-2.ensures.items) (images_stand.rise c.args.image.now c.requires.valid) in
    record { rise = subst (λ (ds : List FinishedRefresh). CutsRise 0 (together c.items-2.result.now ds)) (sym c.items-3.ensures.items) waits }

pub returns-clause-stands : goal.returns-clause-stands
returns-clause-stands g c =
    let i = c.args.image.now in
    let made : c.in_ok-roster.roster ≡ image_roster c.args.image.now = c.in_ok-roster.ensures ∙ ap (roster_over no_relations) c.items.ensures.items in
    let roster : arc_value c.in_ok-new.field-0 ≡ image_roster c.args.image.now = c.in_ok-new.ensures.ok ∙ made in
    let held = subst (λ (r : Roster). Each (ResumedAt i) r.tables c.in_ok-tables.tables) made c.in_ok-tables.ensures.tables in
    let tables = subst (Each (ResumedAt i) (image_roster i).tables) (sym c.tables.view_is) held in
    let views = subst (λ (r : Roster). Each (ViewAt (resumed i) c.tables.inside.items.items) r.views c.in_ok-parts-inside.field-0) roster c.in_ok-parts-inside.ensures.views in
    let waits = ap (λ (ws : List WaitingRefresh). together ws c.items-3.result.now) c.items-2.ensures.items in
    let refreshes = c.in_ok-of.ensures.together ∙ waits ∙ ap (together c.args.image.now.waiting) c.items-3.ensures.items in
    state_resumed i _ c.requires.valid refl roster tables views refreshes
