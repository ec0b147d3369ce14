-- None of the operations is on the table.
use Rattle.std.proofs.Common.{◌≡◌, ◌∙◌, false, length, ap, sym}
use Rattle.std.specs.List.{list_any}
use Rattle.row_versions.specs.Tables.{is_on}
use Rattle.engine_state.specs.Steps.{rows_before}
use Rattle.engine_state.proofs.UnnamedFacts.{goes_unnamed, takes_none}
use Rattle.engine_state.proofs.commits.table_after.Goals as goal
use Rattle.row_versions.proofs.HistoryLaws.{unnamed_appended}

pub returns-clause-goes : goal.returns-clause-goes
returns-clause-goes c =
    let none : list_any (is_on c.args.number) c.args.ops.now ≡ false = ap (list_any (is_on c.args.number)) (sym c.items.ensures.items) ∙ sym c.are_on.ensures ∙ c.if-are_on.false in
    goes_unnamed c.args.ops.now c.args.pos c.args.number c.args.table.now c.in_ok-copy.field-0 none c.requires c.in_ok-copy.ensures.same

pub returns-clause-inserted : goal.returns-clause-inserted
returns-clause-inserted c =
    let none : list_any (is_on c.args.number) c.args.ops.now ≡ false = ap (list_any (is_on c.args.number)) (sym c.items.ensures.items) ∙ sym c.are_on.ensures ∙ c.if-are_on.false in
    ap length (sym (unnamed_appended c.args.number c.args.ops.now none))

pub returns-clause-removed : goal.returns-clause-removed
returns-clause-removed c =
    let none : list_any (is_on c.args.number) c.args.ops.now ≡ false = ap (list_any (is_on c.args.number)) (sym c.items.ensures.items) ∙ sym c.are_on.ensures ∙ c.if-are_on.false in
    ap length (sym (takes_none c.args.number c.args.ops.now (rows_before c.args.pos c.args.table.now) none))
