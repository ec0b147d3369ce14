-- One more aggregate has its state.
use Rattle.std.proofs.Common.{◌≡◌, ◌<◌, ◌+◌, ◌∙◌, Option, length, take, get_or, ap, refl, sym, subst, arith}
use Rattle.std.specs.Prelude.{is_some}
use Rattle.ts_model.specs.declared.rosters.Roster.{Roster}
use Rattle.ts_model.specs.History.{resumed}
use Rattle.ts_model.specs.Valid.{image_roster}
use Rattle.engine_state.specs.Lists.{Each}
use Rattle.engine_state.specs.GroupRebuilds.{AreRefolded}
use Rattle.engine_state.proofs.EachLaws.{each_length}
use Rattle.engine_state.proofs.RefoldLaws.{refolded_at}
use Rattle.engine_state.specs.Resumed.{ResumedAt}
use Rattle.engine_state.specs.Stands.{StateValue, ViewAt, ViewIs}
use Rattle.engine_state.specs.Tables.{TableValue}
use Rattle.engine_state.proofs.CutFacts.{got}
use Rattle.engine_state.proofs.ResumedViews.{as_many_kept, has_state, saved_of, view_table}
use Rattle.engine_state.proofs.TakenLaws.{each_taken}
use Rattle.engine_state.proofs.image_views.views_from_image.Goals as goal

pub get-saved-requires : goal.get-saved-requires
get-saved-requires c =
    let views = c.deref.ensures ∙ ap (λ (s : StateValue). s.roster) c.parts.view_is ∙ c.requires.roster in
    omega (arith, c.loop-view-test.true, c.len-view-end.ensures.len, ap (λ (r : Roster). length r.views) views, as_many_kept c.args.image.now c.requires.valid)

pub table-table-requires : goal.table-table-requires
table-table-requires c =
    let i = c.args.image.now in
    let def = c.get-def.result.now in
    let views = c.deref-in-loop-view.ensures ∙ ap (λ (s : StateValue). s.roster) c.parts.view_is ∙ c.requires.roster in
    let few = c.deref.ensures ∙ ap (λ (s : StateValue). s.roster) c.parts.view_is ∙ c.requires.roster in
    let place : c.loop-view.view < length (image_roster c.args.image.now).views = omega (arith, c.loop-view-test.true, c.len-view-end.ensures.len, ap (λ (r : Roster). length r.views) few) in
    let there = got (image_roster c.args.image.now).views c.loop-view.view c.get-def.result.now place (c.get-def.ensures.item ∙ ap (λ (r : Roster). get_or r.views c.loop-view.view c.get-def.result.now) views) in
    let tables = subst (λ (r : Roster). Each (ResumedAt i) r.tables c.args.parts.now.tables) c.requires.roster c.requires.tables in
    let found = has_state i def.table c.args.parts.now.tables tables (view_table i c.loop-view.view def c.requires.valid there) in
    record { there = ap is_some found.1.at }

pub get-anew-requires : goal.get-anew-requires
get-anew-requires c =
    let many = each_length (AreRefolded c.args.image.now) 0 c.args.parts.now.roster.views c.args.anew.now c.requires.anew in
    omega (arith, c.loop-view-test.true, c.len-view-end.ensures.len, ap (λ (r : Roster). length r.views) (c.deref.ensures ∙ ap (λ (s : StateValue). s.roster) c.parts.view_is), many)

pub view_from_image-requires : goal.view_from_image-requires
view_from_image-requires c =
    let i = c.args.image.now in
    let def = c.get-def.result.now in
    let views = c.deref-in-loop-view.ensures ∙ ap (λ (s : StateValue). s.roster) c.parts.view_is ∙ c.requires.roster in
    let few = c.deref.ensures ∙ ap (λ (s : StateValue). s.roster) c.parts.view_is ∙ c.requires.roster in
    let place : c.loop-view.view < length (image_roster c.args.image.now).views = omega (arith, c.loop-view-test.true, c.len-view-end.ensures.len, ap (λ (r : Roster). length r.views) few) in
    let many : c.loop-view.view < length c.args.image.now.views = omega (arith, place, as_many_kept c.args.image.now c.requires.valid) in
    let there = got (image_roster c.args.image.now).views c.loop-view.view c.get-def.result.now place (c.get-def.ensures.item ∙ ap (λ (r : Roster). get_or r.views c.loop-view.view c.get-def.result.now) views) in
    let tables = subst (λ (r : Roster). Each (ResumedAt i) r.tables c.args.parts.now.tables) c.requires.roster c.requires.tables in
    let are = refolded_at i c.loop-view.view (image_roster i).views c.args.anew.now def c.get-anew.result.now (subst (λ (r : Roster). Each (AreRefolded i) r.views c.args.anew.now) c.requires.roster c.requires.anew) there c.get-anew.ensures.item in
    let saved = saved_of i c.loop-view.view def c.get-saved.result.now c.args.parts.now.tables c.table-table.result.now c.get-anew.result.now c.requires.valid tables there (got i.views c.loop-view.view c.get-saved.result.now many c.get-saved.ensures.item) c.table-table.ensures.table are in
    record { saved = (i, c.loop-view.view, refl, saved) }

pub loop-view-preserved : goal.loop-view-preserved
loop-view-preserved c =
    let i = c.args.image.now in
    let def = c.get-def.result.now in
    let now = ap (λ (s : StateValue). s.roster) c.parts.view_is in
    let views = c.deref-in-loop-view.ensures ∙ now ∙ c.requires.roster in
    let few = c.deref.ensures ∙ now ∙ c.requires.roster in
    let place : c.loop-view.view < length (image_roster c.args.image.now).views = omega (arith, c.loop-view-test.true, c.len-view-end.ensures.len, ap (λ (r : Roster). length r.views) few) in
    let many : c.loop-view.view < length c.args.image.now.views = omega (arith, place, as_many_kept c.args.image.now c.requires.valid) in
    let there = got (image_roster c.args.image.now).views c.loop-view.view c.get-def.result.now place (c.get-def.ensures.item ∙ ap (λ (r : Roster). get_or r.views c.loop-view.view c.get-def.result.now) views) in
    let tables = subst (λ (r : Roster). Each (ResumedAt i) r.tables c.args.parts.now.tables) c.requires.roster c.requires.tables in
    let are = refolded_at i c.loop-view.view (image_roster i).views c.args.anew.now def c.get-anew.result.now (subst (λ (r : Roster). Each (AreRefolded i) r.views c.args.anew.now) c.requires.roster c.requires.anew) there c.get-anew.ensures.item in
    let of = saved_of i c.loop-view.view def c.get-saved.result.now c.args.parts.now.tables c.table-table.result.now c.get-anew.result.now c.requires.valid tables there (got i.views c.loop-view.view c.get-saved.result.now many c.get-saved.ensures.item) c.table-table.ensures.table are in
    let stands = c.in_ok-view_from_image.ensures.stands i c.loop-view.view refl of in
    let own : ViewAt (resumed i) c.args.parts.now.tables c.loop-view.view def c.in_ok-view_from_image.field-0 = subst (λ (o : Option TableValue). ViewIs (resumed i) c.loop-view.view def o c.in_ok-view_from_image.field-0) (sym c.table-table.ensures.table) stands in
    let item : c.get-def.result.now ≡ get_or c.args.parts.now.roster.views c.loop-view.view c.get-def.result.now = c.get-def.ensures.item ∙ ap (λ (r : Roster). get_or r.views c.loop-view.view c.get-def.result.now) (c.deref-in-loop-view.ensures ∙ now) in
    let within : c.loop-view.view < length c.args.parts.now.roster.views = omega (arith, c.loop-view-test.true, c.len-view-end.ensures.len, ap (λ (r : Roster). length r.views) (c.deref.ensures ∙ now)) in
    subst (Each (ViewAt (resumed i) c.args.parts.now.tables) (take (c.loop-view.view + 1) c.args.parts.now.roster.views)) (sym c.in_ok-push.ensures.pushed)
    (each_taken (ViewAt (resumed i) c.args.parts.now.tables) c.args.parts.now.roster.views c.loop-view.views c.loop-view.view def c.in_ok-view_from_image.field-0 within item c.loop-view.invariant own)
