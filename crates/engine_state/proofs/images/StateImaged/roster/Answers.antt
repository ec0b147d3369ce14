use Rattle.std.proofs.Common.{◌≤◌, ◌∙◌, ap, sym, subst, length}
use Rattle.ts_model.specs.declared.rosters.Roster.{Roster}
use Rattle.ts_model.proofs.SoundLaws.{rosters_are_sound}
use Rattle.engine_state.specs.declared.states.State.TheInside.{Inside}
use Rattle.engine_state.proofs.images.StateImaged.roster.Goals as goal

pub returns-clause-few_tables : goal.returns-clause-few_tables
returns-clause-few_tables c =
    let own = c.self.invariant in
    let is = c.deref.ensures ∙ ap (λ (i : Inside). i.parts.roster) c.self-inside.view_is ∙ own.stands.roster in
    subst (λ (r : Roster). length r.tables ≤ 64) (sym is) (rosters_are_sound own.history own.stands.consistent).few_tables

pub returns-clause-few_views : goal.returns-clause-few_views
returns-clause-few_views c =
    let own = c.self.invariant in
    let is = c.deref.ensures ∙ ap (λ (i : Inside). i.parts.roster) c.self-inside.view_is ∙ own.stands.roster in
    subst (λ (r : Roster). length r.views ≤ 64) (sym is) (rosters_are_sound own.history own.stands.consistent).few_views
