-- The state of the aggregate and of its table are those of the history.
use Rattle.std.proofs.Common.{◌≡◌, ◌∙◌, ◌<◌, length, get_or, ap, sym, subst}
use Rattle.std.specs.Prelude.{IsSome}
use Rattle.ts_model.specs.declared.rosters.Roster.{Roster}
use Rattle.ts_model.specs.Roster.{hyper_of}
use Rattle.engine_state.specs.Stands.{StateValue}
use Rattle.engine_state.proofs.AnswerFacts.{some_hyper, table_tells}
use Rattle.engine_state.proofs.CutFacts.{got, view_place, view_there}
use Rattle.engine_state.proofs.ShownFacts.{seen_view}
use Rattle.engine_state.proofs.WindowFacts.{def_is, def_there}
use Rattle.engine_state.proofs.parts.StateParts.view_seen.Goals as goal

pub get-requires : goal.get-requires
get-requires c =
    let s = c.args.self.now in
    let n = c.args.number in
    let def = c.get-def.result.now in
    let relations = c.deref.ensures ∙ ap (λ (s : StateValue). s.roster) c.self.view_is in
    let def_at = def_is s.roster n def c.requires.there (c.get-def.ensures.item ∙ ap (λ (r : Roster). get_or r.views n def) relations) in
    let h = c.requires.stands.history in
    let st = c.requires.stands.stands in
    subst (λ (s : StateValue). n < length s.views) (sym c.self.view_is) (view_place h n s def st (def_there h s n def st def_at))

pub table_seen-requires-clause-there : goal.table_seen-requires-clause-there
table_seen-requires-clause-there c =
    let s = c.args.self.now in
    let n = c.args.number in
    let def = c.get-def.result.now in
    let relations = c.deref.ensures ∙ ap (λ (s : StateValue). s.roster) c.self.view_is in
    let def_at = def_is s.roster n def c.requires.there (c.get-def.ensures.item ∙ ap (λ (r : Roster). get_or r.views n def) relations) in
    let h = c.requires.stands.history in
    let st = c.requires.stands.stands in
    let there = def_there h s n def st def_at in
    let view = c.get.result.now in
    let item : view ≡ get_or s.views n view = c.get.ensures.item ∙ ap (λ (s : StateValue). get_or s.views n view) c.self.view_is in
    let own = view_there h n s def view st there (got s.views n view (view_place h n s def st there) item) in
    let told = table_tells h def.table s own.table st own.at in
    subst (λ r. IsSome (hyper_of r def.table)) (sym st.roster) (some_hyper h def.table s.position own.table told)

pub returns : goal.returns
returns c = record {
  view = λ h st.
      let s = c.args.self.now in
      let n = c.args.number in
      let def = c.get-def.result.now in
      let relations = c.deref.ensures ∙ ap (λ (s : StateValue). s.roster) c.self.view_is in
      let def_at = def_is s.roster n def c.requires.there (c.get-def.ensures.item ∙ ap (λ (r : Roster). get_or r.views n def) relations) in
      let there = def_there h s n def st def_at in
      let view = c.get.result.now in
      let item : view ≡ get_or s.views n view = c.get.ensures.item ∙ ap (λ (s : StateValue). get_or s.views n view) c.self.view_is in
      let own = view_there h n s def view st there (got s.views n view (view_place h n s def st there) item) in
      seen_view h n s def view own.table c.table_seen.result.table.now c.table_seen.result.position there own.at own.stands c.table_seen.ensures.at (c.table_seen.ensures.table h st);
}
