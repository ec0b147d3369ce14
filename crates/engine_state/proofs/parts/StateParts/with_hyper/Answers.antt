-- The table has a state that begins.
use Rattle.std.proofs.Common.{◌≡◌, ◌∙◌, ◌<◌, ◌≤ℤ◌, pos, List, Option, Some, length, set, ap, sym, subst, arith}
use Rattle.std.specs.Prelude.{FitsSigned}
use Rattle.std.specs.Int.{w64}
use Rattle.std.proofs.lemmas.Int.{ints, to_z-of_z}
use Rattle.ts_bucket.specs.Chunks.{max_interval}
use Rattle.std.proofs.lemmas.Bool.{and_from}
use Rattle.ts_model.specs.Roster.{roster_after}
use Rattle.engine_state.specs.Stands.{StateValue}
use Rattle.engine_state.specs.Tables.{TableValue}
use Rattle.engine_state.proofs.CutFacts.{hyper_interval, hyper_place}
use Rattle.engine_state.proofs.StateSteps.{state_of_hyper}
use Rattle.engine_state.proofs.parts.StateParts.with_hyper.Goals as goal

pub set-requires : goal.set-requires
set-requires c =
    let n = c.requires.next in
    subst (λ (s : StateValue). c.args.table < length s.tables) (sym c.new-2.view_is)
    (subst (λ (tables : List (Option TableValue)). c.args.table < length tables) (sym c.in_ok-new.ensures.tables) (hyper_place n.history c.args.table c.args.hyper c.args.self.now n.stands n.fits))

pub returns : goal.returns
returns c = record {
  stands = λ h st ok.
      let s = c.args.self.now in
      let bounds = hyper_interval h c.args.table c.args.hyper ok in
      let low : pos 1 ≤ℤ c.args.hyper.interval = bounds.0 in
      let high : c.args.hyper.interval ≤ℤ max_interval = bounds.1 in
      let fits : FitsSigned w64 c.args.hyper.interval = record { sfits = omega (arith, ints) } in
      let interval : c.in_ok-state.state.rows.interval ≡ c.args.hyper.interval = c.in_ok-state.ensures.interval ∙ to_z-of_z w64 c.args.hyper.interval fits in
      state_of_hyper h c.args.table c.args.hyper s _ c.in_ok-state.state (and_from _ _ st.consistent ok) st interval c.in_ok-state.ensures.versions c.in_ok-state.ensures.entries
      (ap (λ (s : StateValue). s.position) c.new-2.view_is ∙ c.in_ok-new.ensures.position)
      (ap (λ (s : StateValue). s.roster) c.new-2.view_is ∙ c.in_ok-new.ensures.roster ∙ ap (roster_after s.roster) c.requires.event)
      (c.set.ensures.set ∙ ap (λ (tables : List (Option TableValue)). set tables c.args.table (Some c.in_ok-state.state)) (ap (λ (s : StateValue). s.tables) c.new-2.view_is ∙ c.in_ok-new.ensures.tables))
      (ap (λ (s : StateValue). s.views) c.new-2.view_is ∙ c.in_ok-new.ensures.views)
      (ap (λ (s : StateValue). s.refreshes) c.new-2.view_is ∙ c.in_ok-new.ensures.refreshes);
}
