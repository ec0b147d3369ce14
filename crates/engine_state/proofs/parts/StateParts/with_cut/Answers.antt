-- The log of the table is fed to the aggregates over it.
use Rattle.std.proofs.Common.{◌≡◌, ◌∙◌, ◌<◌, ◌++◌, ◌∷◌, [], ◌==◌, List, Option, Some, length, get_or, set, ap, sym, subst, arith, rules}
use Rattle.std.specs.Prelude.{FitsSigned, IsSome}
use Rattle.std.specs.Int.{w64}
use Rattle.std.specs.List.{AllByRecursion}
use Rattle.std.proofs.lemmas.Bool.{and_from}
use Rattle.std.proofs.lemmas.Int.{to_z-of_z}
use Rattle.std.proofs.lemmas.Option.{slice_get_within}
use mir.Val.{to_z, of_z}
use Rattle.ts_bucket.specs.declared.spans.Span.{Span}
use Rattle.refresh_list.specs.Refreshes.{CutsBelow, newly_cut}
use Rattle.engine_state.specs.Lists.{Each}
use Rattle.engine_state.specs.Stands.{StateValue}
use Rattle.engine_state.specs.Steps.{FedAt, TableCut, TakesIf}
use Rattle.engine_state.specs.Tables.{TableValue, table_at}
use Rattle.engine_state.specs.Views.{ViewValue}
use Rattle.engine_state.proofs.CutFacts.{cut_takes, cut_view, cuts_below, got, some_table, view_place, view_there}
use Rattle.engine_state.proofs.RefreshSteps.{state_of_cut}
use Rattle.engine_state.proofs.StateSteps.{state_there}
use Rattle.engine_state.proofs.parts.StateParts.with_cut.Goals as goal

pub get-requires : goal.get-requires
get-requires c =
    let n = c.requires.next in
    let own = cut_view n.history c.args.view c.args.span n.fits in
    subst (λ (s : StateValue). c.args.view < length s.views) (sym c.self.view_is) (view_place n.history c.args.view c.args.self.now own.0 n.stands own.1)

pub table-table-requires : goal.table-table-requires
table-table-requires c =
    let n = c.requires.next in
    let s = c.args.self.now in
    let view = c.get.result.now in
    let own = cut_view n.history c.args.view c.args.span n.fits in
    let item : view ≡ get_or s.views c.args.view view = c.get.ensures.item ∙ ap (λ (s : StateValue). get_or s.views c.args.view view) c.self.view_is in
    let at = got s.views c.args.view view (view_place n.history c.args.view s own.0 n.stands own.1) item in
    record { there = subst (λ t. IsSome (table_at s.tables t)) (sym c.table-number.ensures.table) (some_table n.history c.args.view s own.0 view (view_there n.history c.args.view s own.0 view n.stands own.1 at)) }

pub feed_all-requires : goal.feed_all-requires
feed_all-requires c =
    let n = c.requires.next in
    let table = c.table-table.result.now in
    let same : c.items.result.now ≡ c.args.self.now.views = c.items.ensures.items ∙ ap (λ (s : StateValue). s.views) c.self.view_is in
    subst (λ (views : List ViewValue). AllByRecursion (λ view. TakesIf (view.table == c.table-number.result) table view) views) (sym same) (cut_takes n.history c.args.self.now c.table-number.result table n.stands c.table-table.ensures.table)

pub set-requires : goal.set-requires
set-requires c =
    let s = c.args.self.now in
    let same : c.in_ok-tables.tables ≡ s.tables = c.in_ok-tables.ensures.same ∙ ap (λ (s : StateValue). s.tables) c.self.view_is in
    subst (λ (tables : List (Option TableValue)). c.table-number.result < length tables) (sym same) (slice_get_within s.tables c.table-number.result (Some c.table-table.result.now) (state_there s.tables c.table-number.result c.table-table.result.now c.table-table.ensures.table))

pub with_cut-requires : goal.with_cut-requires
with_cut-requires c =
    let n = c.requires.next in
    let below = cuts_below n.history c.args.self.now c.in_ok-position.position n.stands c.in_ok-position.ensures.next in
    record {
      some = omega (arith, c.in_ok-position.ensures.next);
      after = subst (λ (s : StateValue). CutsBelow c.in_ok-position.position s.refreshes) (sym c.self.view_is) below;
    }

pub returns : goal.returns
returns c = record {
  stands = λ h st ok.
      let s = c.args.self.now in
      let view = c.get.result.now in
      let table = c.table-table.result.now in
      let new = c.in_ok-after_cut.field-0 in
      let number = c.table-number.result in
      let own = cut_view h c.args.view c.args.span ok in
      let item : view ≡ get_or s.views c.args.view view = c.get.ensures.item ∙ ap (λ (s : StateValue). get_or s.views c.args.view view) c.self.view_is in
      let at = got s.views c.args.view view (view_place h c.args.view s own.0 st own.1) item in
      let there = view_there h c.args.view s own.0 view st own.1 at in
      let named : number ≡ own.0.table = c.table-number.ensures.table ∙ there.named in
      let table_is : table_at s.tables own.0.table ≡ Some table = subst (λ t. table_at s.tables t ≡ Some table) named c.table-table.ensures.table in
      let fits : FitsSigned w64 c.span.inside.hi = search rules in
      let hi : to_z w64 (of_z w64 c.span.inside.hi) ≡ c.args.span.hi = to_z-of_z w64 c.span.inside.hi fits ∙ ap (λ (span : Span). span.hi) c.span.view_is in
      let cut : TableCut c.args.span.hi table new = subst (λ hi. TableCut hi table new) hi c.in_ok-after_cut.ensures.cut in
      let same : c.items.result.now ≡ s.views = c.items.ensures.items ∙ ap (λ (s : StateValue). s.views) c.self.view_is in
      let fed : Each (FedAt own.0.table table) s.views c.in_ok-views.views =
      subst (λ t. Each (FedAt t table) s.views c.in_ok-views.views) named (subst (λ (views : List ViewValue). Each (FedAt number table) views c.in_ok-views.views) same c.in_ok-views.ensures.fed) in
      state_of_cut h c.args.view c.args.span s own.0 table new (and_from _ _ st.consistent ok) st own.1 table_is cut _
      c.in_ok-position.ensures.next c.in_ok-same_roster.ensures.same
      (c.tables-2.view_is ∙ c.set.ensures.set ∙ ap (λ (tables : List (Option TableValue)). set tables number (Some new)) (c.in_ok-tables.ensures.same ∙ ap (λ (s : StateValue). s.tables) c.self.view_is) ∙ ap (λ t. set s.tables t (Some new)) named)
      (subst (λ (views : List ViewValue). Each (FedAt own.0.table table) s.views views) (sym c.views-2.view_is) fed)
      (c.in_ok-with_cut.ensures.cut ∙ ap (λ (s : StateValue). s.refreshes ++ (newly_cut c.in_ok-position.position c.args.view c.args.span ∷ [])) c.self.view_is ∙ ap (λ p. s.refreshes ++ (newly_cut p c.args.view c.args.span ∷ [])) c.in_ok-position.ensures.next);
}
