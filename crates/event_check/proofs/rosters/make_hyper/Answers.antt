use Rattle.std.proofs.Common.{◌≡◌, ◌≤◌, length, Some, sym, ap, ◌∙◌, arith}
use Rattle.ts_model.specs.Roster.{made_hyper}
use Rattle.ts_model.specs.declared.tables.TableInfo.{TableInfo}
use Rattle.event_check.proofs.RosterSteps.{changed_at, changed_past}
use Rattle.event_check.proofs.rosters.make_hyper.Goals as goal

pub returns-in_ok-info : goal.returns-in_ok-info
returns-in_ok-info c =
    let made : record c.in_ok-info.info { hyper = Some c.unwrap_or.result } ≡ made_hyper c.args.hyper c.get.result.now =
    ap (λ u. let info : TableInfo = record c.in_ok-info.info { hyper = Some u } in info) c.unwrap_or.ensures ∙ ap (made_hyper c.args.hyper) c.in_ok-info.ensures.same in
    c.set.ensures.set ∙ sym (changed_at c.args.tables.now c.args.table (made_hyper c.args.hyper) c.get.result.now _ (omega arith) c.get.ensures.item made)

pub returns-else-table-len : goal.returns-else-table-len
returns-else-table-len c = sym (changed_past c.args.tables.now c.args.table (made_hyper c.args.hyper) (let past : length c.args.tables.now ≤ c.args.table = omega arith in past))
