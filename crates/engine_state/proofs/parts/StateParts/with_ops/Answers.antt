-- The operations of a commit update each table.
use Rattle.std.proofs.Common.{◌≡◌, ◌∙◌, ◌≤◌, ◌^◌, suc, List, Option, length, ap, sym, subst}
use Rattle.std.proofs.lemmas.Bool.{and_from}
use Rattle.engine_state.specs.Lists.{Each}
use Rattle.engine_state.specs.Stands.{StateValue}
use Rattle.engine_state.specs.Steps.{AllFrom, AsksIf, GoesIf, appended_to, sum_from, taken_from}
use Rattle.engine_state.specs.Tables.{TableValue}
use Rattle.engine_state.proofs.CommitFacts.{commit_appends, commit_asks, commit_takes, tables_are_few}
use Rattle.engine_state.proofs.StateSteps.{state_of_commit}
use Rattle.engine_state.proofs.parts.StateParts.with_ops.Goals as goal

pub all_after-requires-clause-few : goal.all_after-requires-clause-few
all_after-requires-clause-few c =
    let same : c.items.result.now ≡ c.args.self.now.tables = c.items.ensures.items ∙ ap (λ (s : StateValue). s.tables) c.self.view_is in
    subst (λ (xs : List (Option TableValue)). length xs ≤ 2 ^ 32) (sym same) (tables_are_few c.requires.next.history c.args.self.now c.requires.next.stands)

pub all_after-requires-clause-asks : goal.all_after-requires-clause-asks
all_after-requires-clause-asks c =
    let same : c.items.result.now ≡ c.args.self.now.tables = c.items.ensures.items ∙ ap (λ (s : StateValue). s.tables) c.self.view_is in
    subst (AllFrom (AsksIf c.args.ops.now c.in_ok-position.position) 0) (sym same) (commit_asks c.requires.next.history c.args.ops.now c.args.self.now c.in_ok-position.position c.requires.next.stands c.requires.next.fits c.in_ok-position.ensures.next)

pub returns-clause-stands : goal.returns-clause-stands
returns-clause-stands c = λ h st ok.
    let s = c.args.self.now in
    let same : c.items.result.now ≡ s.tables = c.items.ensures.items ∙ ap (λ (s : StateValue). s.tables) c.self.view_is in
    let goes : Each (GoesIf c.args.ops.now (suc s.position)) s.tables c.in_ok-moves.moves.made =
    subst (λ pos. Each (GoesIf c.args.ops.now pos) s.tables c.in_ok-moves.moves.made) c.in_ok-position.ensures.next
    (subst (λ (xs : List (Option TableValue)). Each (GoesIf c.args.ops.now c.in_ok-position.position) xs c.in_ok-moves.moves.made) same c.in_ok-moves.ensures.goes) in
    state_of_commit h c.args.ops.now s _ (and_from _ _ st.consistent ok) st c.in_ok-position.ensures.next c.in_ok-same_roster.ensures.same goes
    (c.in_ok-copy.ensures.same ∙ ap (λ (s : StateValue). s.views) c.self.view_is)
    (c.in_ok-copy-2.ensures.same ∙ ap (λ (s : StateValue). s.refreshes) c.self.view_is)

pub returns-clause-counts : goal.returns-clause-counts
returns-clause-counts c = λ h st ok.
    let s = c.args.self.now in
    let same : c.items.result.now ≡ s.tables = c.items.ensures.items ∙ ap (λ (s : StateValue). s.tables) c.self.view_is in (
      c.in_ok-moves.ensures.inserted ∙ ap (sum_from (appended_to c.args.ops.now) 0) same ∙ commit_appends h c.args.ops.now s st ok,
      c.in_ok-moves.ensures.removed ∙ ap (sum_from (taken_from c.args.ops.now c.in_ok-position.position) 0) same ∙ commit_takes h c.args.ops.now s c.in_ok-position.position st ok c.in_ok-position.ensures.next,
    )
