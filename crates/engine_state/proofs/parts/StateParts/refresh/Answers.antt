-- The waiting refresh of the state is one of the history.
use Rattle.std.proofs.Common.{◌≡◌, ◌∙◌, Some, ap, refl, sym}
use Rattle.refresh_list.specs.Refreshes.{waits_in}
use Rattle.engine_state.specs.Stands.{StateValue}
use Rattle.engine_state.proofs.StartFacts.{refresh_is, waits_there}
use Rattle.engine_state.proofs.parts.StateParts.refresh.Goals as goal

pub unreachable-requires : goal.unreachable-requires
unreachable-requires c =
    waits_there c.args.self.now.refreshes c.args.cut c.requires.waits
    (ap (λ (s : StateValue). waits_in s.refreshes c.args.cut) (sym c.self.view_is) ∙ (sym c.find_waiting.ensures.found ∙ c.in-None.is))

pub returns-clause-refresh : goal.returns-clause-refresh
returns-clause-refresh c h st =
    let found : waits_in c.args.self.now.refreshes c.args.cut ≡ Some c.in-Some.found =
    ap (λ (s : StateValue). waits_in s.refreshes c.args.cut) (sym c.self.view_is) ∙ (sym c.find_waiting.ensures.found ∙ c.in-Some.is) in
    refresh_is h c.args.self.now c.args.cut c.in-Some.found _ st found refl refl refl
