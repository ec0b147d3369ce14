-- The state of the aggregate and of its table are those of the history.
use Rattle.std.proofs.Common.{◌≡◌, ◌∙◌, ◌<◌, Some, length, get_or, ap, refl, sym, subst}
use Rattle.std.specs.Prelude.{IfSome, IsSome, IsTrue}
use Rattle.std.specs.Option.{ForSome}
use Rattle.ts_bucket.specs.Bucket.{is_time}
use Rattle.ts_bucket.specs.WholeSpans.{IsMark}
use Rattle.seg_rows.specs.Versions.{latest_at}
use Rattle.ts_model.specs.declared.rosters.Roster.{Roster}
use Rattle.ts_model.specs.declared.views.ViewDef.{ViewDef}
use Rattle.ts_model.specs.Windows.{window}
use Rattle.event_check.specs.Windows.{end_of}
use Rattle.engine_state.specs.Stands.{StateValue}
use Rattle.engine_state.specs.Tables.{table_at}
use Rattle.engine_state.proofs.CutFacts.{got, some_table, view_place, view_there}
use Rattle.engine_state.proofs.WindowFacts.{def_is, def_there, window_has}
use Rattle.engine_state.proofs.parts.StateParts.window.Goals as goal

pub get-state-requires : goal.get-state-requires
get-state-requires c =
    let s = c.args.self.now in
    let n = c.args.view in
    let def = c.get-def.result.now in
    let relations = c.deref.ensures ∙ ap (λ (s : StateValue). s.roster) c.self.view_is in
    let def_at = def_is s.roster n def c.requires.view (c.get-def.ensures.item ∙ ap (λ (r : Roster). get_or r.views n def) relations) in
    let h = c.requires.stands.history in
    let st = c.requires.stands.stands in
    let there = def_there h s n def st def_at in
    subst (λ (s : StateValue). n < length s.views) (sym c.self.view_is) (view_place h n s def st there)

pub table-table-requires : goal.table-table-requires
table-table-requires c =
    let s = c.args.self.now in
    let n = c.args.view in
    let def = c.get-def.result.now in
    let relations = c.deref.ensures ∙ ap (λ (s : StateValue). s.roster) c.self.view_is in
    let def_at = def_is s.roster n def c.requires.view (c.get-def.ensures.item ∙ ap (λ (r : Roster). get_or r.views n def) relations) in
    let h = c.requires.stands.history in
    let st = c.requires.stands.stands in
    let there = def_there h s n def st def_at in
    let view = c.get-state.result.now in
    let item : view ≡ get_or s.views n view = c.get-state.ensures.item ∙ ap (λ (s : StateValue). get_or s.views n view) c.self.view_is in
    let own = view_there h n s def view st there (got s.views n view (view_place h n s def st there) item) in
    record { there = subst (λ t. IsSome (table_at s.tables t)) (sym c.table.ensures.table) (some_table h n s def view own) }

pub window-requires-clause-mark : goal.window-requires-clause-mark
window-requires-clause-mark c =
    let s = c.args.self.now in
    let n = c.args.view in
    let def = c.get-def.result.now in
    let relations = c.deref.ensures ∙ ap (λ (s : StateValue). s.roster) c.self.view_is in
    let def_at = def_is s.roster n def c.requires.view (c.get-def.ensures.item ∙ ap (λ (r : Roster). get_or r.views n def) relations) in
    let h = c.requires.stands.history in
    let st = c.requires.stands.stands in
    let there = def_there h s n def st def_at in
    let view = c.get-state.result.now in
    let item : view ≡ get_or s.views n view = c.get-state.ensures.item ∙ ap (λ (s : StateValue). get_or s.views n view) c.self.view_is in
    let own = view_there h n s def view st there (got s.views n view (view_place h n s def st there) item) in
    let table = c.table-table.result.now in
    let at = subst (λ t. table_at s.tables t ≡ Some table) c.table.ensures.table c.table-table.ensures.table in
    let has = window_has h n s def view table st there own at in
    subst (λ m. ForSome m (IsMark def.fold.width)) (sym c.mark.ensures.mark) has.mark_ends

pub window-requires-clause-latest : goal.window-requires-clause-latest
window-requires-clause-latest c =
    let s = c.args.self.now in
    let n = c.args.view in
    let def = c.get-def.result.now in
    let relations = c.deref.ensures ∙ ap (λ (s : StateValue). s.roster) c.self.view_is in
    let def_at = def_is s.roster n def c.requires.view (c.get-def.ensures.item ∙ ap (λ (r : Roster). get_or r.views n def) relations) in
    let h = c.requires.stands.history in
    let st = c.requires.stands.stands in
    let there = def_there h s n def st def_at in
    let view = c.get-state.result.now in
    let item : view ≡ get_or s.views n view = c.get-state.ensures.item ∙ ap (λ (s : StateValue). get_or s.views n view) c.self.view_is in
    let own = view_there h n s def view st there (got s.views n view (view_place h n s def st there) item) in
    let table = c.table-table.result.now in
    let at = subst (λ t. table_at s.tables t ≡ Some table) c.table.ensures.table c.table-table.ensures.table in
    let has = window_has h n s def view table st there own at in
    let latest : c.last-latest.result ≡ latest_at s.position table.rows.versions = c.last-latest.ensures.last ∙ ap (λ r. latest_at c.self.inside.position r.versions) c.rows.ensures.rows ∙ ap (λ (s : StateValue). latest_at s.position table.rows.versions) c.self.view_is in
    subst (λ m. ForSome m (λ t. IsTrue (is_time t))) (sym latest) has.latest_time

pub returns : goal.returns
returns c = record {
  window = λ h st.
      let s = c.args.self.now in
      let n = c.args.view in
      let def = c.get-def.result.now in
      let relations = c.deref.ensures ∙ ap (λ (s : StateValue). s.roster) c.self.view_is in
      let def_at = def_is s.roster n def c.requires.view (c.get-def.ensures.item ∙ ap (λ (r : Roster). get_or r.views n def) relations) in
      let there = def_there h s n def st def_at in
      let view = c.get-state.result.now in
      let item : view ≡ get_or s.views n view = c.get-state.ensures.item ∙ ap (λ (s : StateValue). get_or s.views n view) c.self.view_is in
      let own = view_there h n s def view st there (got s.views n view (view_place h n s def st there) item) in
      let table = c.table-table.result.now in
      let at = subst (λ t. table_at s.tables t ≡ Some table) c.table.ensures.table c.table-table.ensures.table in
      let has = window_has h n s def view table st there own at in
      let latest : c.last-latest.result ≡ latest_at s.position table.rows.versions = c.last-latest.ensures.last ∙ ap (λ r. latest_at c.self.inside.position r.versions) c.rows.ensures.rows ∙ ap (λ (s : StateValue). latest_at s.position table.rows.versions) c.self.view_is in
      subst (λ o. IfSome o (λ (d : ViewDef). c.window.result ≡ window n d h c.args.lo c.args.hi)) (sym def_at)
      (c.window.ensures.window n def h refl (c.mark.ensures.mark ∙ has.mark_is) (ap (end_of def.fold.width) latest ∙ has.end_is));
}
