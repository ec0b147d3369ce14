-- All rows of the image are added.
use Rattle.std.proofs.Common.{◌≡◌, ℕ, ◌<◌, ◌^◌, ◌++◌, [], List, Option, length, take, drop, sym, ap, ◌∙◌, subst, arith}
use Rattle.std.specs.List.{AllByRecursion, AllZip, list_all, list_any}
use Rattle.std.proofs.lemmas.List.Elements.{length_all_zip}
use Rattle.std.proofs.lemmas.Result.{IfOk-weaker, err_from_is_err_and}
use Rattle.base_image.specs.Held.{is_timed}
use Rattle.ts_schema.specs.Counts.{RaisedUpTo, raised_by}
use Rattle.ts_model.specs.declared.rosters.Roster.{Roster}
use Rattle.ts_model.specs.Saved.{appended_over}
use Rattle.engine_state.specs.declared.group_rebuilds.GroupRebuild.{GroupRebuild}
use Rattle.engine_state.specs.Lists.{Each, EachFrom}
use Rattle.engine_state.specs.GroupRebuilds.{AreRefolded, AreRefolds, CanTake, Makes, TakesBy, events_read, feeds, is_over, rows_refolded}
use Rattle.engine_state.proofs.RefoldLaws.{all_can_after, all_made, fed, refolds_after, refolds_can, same_reads, ticks_of, whole_slice}
use Rattle.engine_state.proofs.ResumedTables.{image_timed}
use Rattle.engine_state.proofs.ResumedViews.{as_many_kept}
use Rattle.engine_state.proofs.group_rebuilds.refold_all.Goals as goal

pub take_events-requires-clause-timed : goal.take_events-requires-clause-timed
take_events-requires-clause-timed g c = ap (list_all is_timed) c.items.ensures.items ∙ image_timed c.args.image.now c.requires.valid

pub take_events-requires-clause-before : goal.take_events-requires-clause-before
take_events-requires-clause-before g c =
    subst (AllByRecursion CanTake) (sym c.as_mut_slice.ensures.value) (refolds_can c.args.image.now (λ t. []) 0 c.args.roster.now.views c.in_ok-refolds.refolds.items c.in_ok-refolds.ensures)

pub returns-in_err-take_events-clause-read : goal.returns-in_err-take_events-clause-read
returns-in_err-take_events-clause-read g c =
    let i = c.args.image.now in
    let many : length c.args.image.now.views ≡ length c.args.roster.now.views = as_many_kept i c.requires.valid ∙ sym (ap (λ (r : Roster). length r.views) c.requires.roster) in
    let p = λ (u : ℕ). list_any (is_over u) c.as_mut_slice.result.now in
    let q = λ (u : ℕ). feeds u c.args.roster.now.views i.views in
    let reads : events_read p c.items.result.now ≡ rows_refolded i =
    ap (events_read p) c.items.ensures.items ∙ same_reads p q i.rows (λ u. ap (list_any (is_over u)) c.as_mut_slice.ensures.value ∙ fed i (λ t. []) u c.args.roster.now.views c.in_ok-refolds.refolds.items many c.in_ok-refolds.ensures)
    ∙ ap (λ (r : Roster). events_read (λ u. feeds u r.views i.views) i.rows) c.requires.roster in
    let residual = err_from_is_err_and c.from_residual-in_err-take_events.result c.from_residual-in_err-take_events.ensures.1 in
    rw residual.1 (subst (λ n. RaisedUpTo n c.args.steps.now c.take_events.new.steps) reads c.in_err-take_events.ensures.read)

pub finish_all-requires : goal.finish_all-requires
finish_all-requires g c =
    let slice = c.as_mut_slice.result.now in
    let before = subst (AllByRecursion CanTake) (sym c.as_mut_slice.ensures.value) (refolds_can c.args.image.now (λ t. []) 0 c.args.roster.now.views c.in_ok-refolds.refolds.items c.in_ok-refolds.ensures) in
    let long = ap length (sym c.as_mut_slice.ensures.value) ∙ length_all_zip (TakesBy (λ t. appended_over t c.items.result.now)) slice c.take_events.new.refolds c.in_ok-take_events.ensures.taken in
    let all = whole_slice c.in_ok-refolds.refolds.len c.in_ok-refolds.refolds.items c.take_events.new.refolds c.in_ok-refolds.refolds.ok.0 long in
    record { before = subst (AllByRecursion CanTake) (sym all) (all_can_after (λ t. appended_over t c.items.result.now) slice c.take_events.new.refolds before c.in_ok-take_events.ensures.taken) }

pub returns-clause-groups : goal.returns-clause-groups
returns-clause-groups g c =
    let i = c.args.image.now in
    let views = c.args.roster.now.views in
    let slice = c.as_mut_slice.result.now in
    let new = c.take_events.new.refolds in
    let long = ap length (sym c.as_mut_slice.ensures.value) ∙ length_all_zip (TakesBy (λ t. appended_over t c.items.result.now)) slice new c.in_ok-take_events.ensures.taken in
    let all = whole_slice c.in_ok-refolds.refolds.len c.in_ok-refolds.refolds.items new c.in_ok-refolds.refolds.ok.0 long in
    let each = subst (EachFrom (AreRefolds i (λ t. [])) 0 views) (sym c.as_mut_slice.ensures.value) c.in_ok-refolds.ensures in
    let after = refolds_after i (λ t. []) (λ t. appended_over t c.items.result.now) (λ t. appended_over t i.rows) 0 views slice new (λ t. ap (appended_over t) (sym c.items.ensures.items)) each c.in_ok-take_events.ensures.taken in
    IfOk-weaker c.finish_all.result (AllZip Makes (take c.in_ok-refolds.refolds.len (new ++ drop (length new) c.in_ok-refolds.refolds.items))) (Each (AreRefolded i) views)
    (λ made makes. all_made i 0 views new made after (subst (λ (rs : List (Option GroupRebuild)). AllZip Makes rs made) all makes)) c.finish_all.ensures

pub returns-clause-read : goal.returns-clause-read
returns-clause-read g c =
    let i = c.args.image.now in
    let many : length c.args.image.now.views ≡ length c.args.roster.now.views = as_many_kept i c.requires.valid ∙ sym (ap (λ (r : Roster). length r.views) c.requires.roster) in
    let p = λ (u : ℕ). list_any (is_over u) c.as_mut_slice.result.now in
    let q = λ (u : ℕ). feeds u c.args.roster.now.views i.views in
    let reads : events_read p c.items.result.now ≡ rows_refolded i =
    ap (events_read p) c.items.ensures.items ∙ same_reads p q i.rows (λ u. ap (list_any (is_over u)) c.as_mut_slice.ensures.value ∙ fed i (λ t. []) u c.args.roster.now.views c.in_ok-refolds.refolds.items many c.in_ok-refolds.ensures)
    ∙ ap (λ (r : Roster). events_read (λ u. feeds u r.views i.views) i.rows) c.requires.roster in
    let small : c.args.steps.now < 2 ^ 64 = omega (arith, c.count-so_far.type_inv, c.count-so_far.ensures.count) in
    ticks_of c.finish_all.result (rows_refolded i) c.args.steps.now c.take_events.new.steps small (c.in_ok-take_events.ensures.read ∙ ap (λ n. raised_by n c.args.steps.now) reads)
